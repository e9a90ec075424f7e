-- Laws of the texts that class and native class of a row are written as. Assumes nothing.
use Rattle.std.specs.Prelude.{◌≡◌, refl, true, false, List, ◌++◌, ℕ, zero, suc, ◌+◌, ◌-◌, ◌*◌, ◌%◌, ◌≤◌, ◌<◌, length, take, drop, set, Option as Maybe, Some, None}
use Rattle.std.proofs.Common.{sym, ◌∙◌, ap, append-nil, arith, length-append, length-drop, take-append-drop, drop_of_length-le}
use Rattle.std.proofs.Math.Option.{Option, none, some}
use Rattle.std.proofs.Math.Decide.{ℕ_discrete}
use Rattle.base.specs.House.{length_first}
use Rattle.base.specs.Literal.{quoted}
use Rattle.text.specs.Name.{text_bytes}
use Rattle.text.specs.NameLaws.{text_bytes-length}
use Rattle.base.specs.Never.{never}
use Rattle.base.specs.Number.{be_bytes}
use Rattle.base.specs.NumberLaws.{be_bytes_mod, length-be_bytes}
use Rattle.base.specs.Output.{over, Wrote}
use Rattle.base.specs.OutputLaws.{wrote_as, wrote_count, wrote-byte, wrote-front, front_fits}
use Rattle.text.specs.Utf8.{utf8}
use Rattle.text.specs.Utf8Laws.{utf8-ascii}
use Rattle.scriptblock.specs.Script.{Objects}
use Rattle.meaning.specs.Path.{Path}
use Rattle.meaning.specs.Reference.{Ref}
use Rattle.meaning.specs.Report.{or_unknown}
use Rattle.meaning.specs.Resolve.{path_text}
use Rattle.meaning.specs.Scan.{Class}
use Rattle.objects.specs.Numbers.{path_no}
use Rattle.objects.specs.PathLaws.{path_end, path-lost, outer_no}
use Rattle.objects.specs.Told.{told, path_bytes, Written, Roomy}
use Rattle.objects.specs.Work.{object_no, Stands}
use Rattle.objects.specs.declared.object.Object.{Object}
use Rattle.objects.specs.declared.path.Path.{Path as Told}
use Rattle.table.specs.Words.{mid}
use Rattle.table.specs.WordLaws.{mid-length}
use Rattle.pool.specs.Pool.{class_front, TextsOf, TextAt}
use Rattle.resolve.specs.Classes.{class_no}
use Rattle.resolve.specs.Lent.{lent-part, lent_length}
use Rattle.resolve.specs.Rows.{object_number, columns_of, path_by, limits_of}
use Rattle.resolve.specs.RowsLaws.{class-inside, class-lost, class-found, object-inside, native-by}
use Rattle.sections.specs.Written.{is_some, Put, Target, class_of, native_text, both_texts, BothPut}
use Rattle.resolve.specs.declared.rows.Led.{Led}
use Rattle.sections.specs.declared.texts.Told.{Told as Text}

-- ---- a text behind its length

-- a number in four bytes: its low bytes
pub length-bytes : (n : ℕ) → be_bytes 4 (n % 4294967296) ≡ be_bytes 4 n
length-bytes n = be_bytes_mod 4 n

-- a length is four bytes
pub wrote-four : {s o : List ℕ} {k : ℕ} (n : ℕ) → Wrote s (be_bytes 4 n) o k → k ≡ 4
wrote-four n w = w.size ∙ length-be_bytes 4 n

-- what is lent behind the first k bytes of a buffer, and the buffer once that has come back
abbrev pub behind : ℕ → List ℕ → List ℕ
behind k s = take (length s - k) (drop k s)

abbrev pub again : ℕ → List ℕ → List ℕ → List ℕ
again k s p = take k s ++ (p ++ drop (length s - k) (drop k s))

pub behind-length : (k : ℕ) (s : List ℕ) → k ≤ length s → length (behind k s) + k ≡ length s
behind-length k s h = rw (lent-part k s) (simp length-drop (omega arith))

pub again-length : (k : ℕ) (s p : List ℕ) → k ≤ length s → length p ≡ length (behind k s) → length (again k s p) ≡ length s
again-length k s p h e = lent_length k s p h (rw (lent-part k s) at e)

-- nothing was written there
again-same : (k : ℕ) (s p : List ℕ) → p ≡ behind k s → again k s p ≡ s
again-same k s p e =
    rw (e, lent-part k s, drop_of_length-le (drop k s) {i = length s - k} (simp length-drop (omega arith)), append-nil (drop k s)) (take-append-drop k s)

-- an unknown text: "?"
pub unknown-put : {s o : List ℕ} {k : ℕ} → Wrote s (be_bytes 4 1) o k → 5 ≤ length s → Put none s (set o 4 63) (record { size = 5; known = false })
unfolding text_bytes
unknown-put w h = record {
  wrote = wrote_as (wrote-byte (wrote_count w (wrote-four 1 w)) (omega arith) 63) (rw (utf8-ascii (quoted "?") refl));
  known = refl;
}

-- bytes stand behind the first four of the buffer, and their number in these
pub first-size : (x : List ℕ) {n : ℕ} → length (length_first x) ≤ n → 4 + length x ≤ n
first-size x h = omega (arith, length-append (be_bytes 4 (length x)) x, length-be_bytes 4 (length x))

pub first-wrote : {s p o x : List ℕ} {k m : ℕ} → 4 ≤ length s → Wrote (behind 4 s) x p k → Wrote (again 4 s p) (be_bytes 4 k) o m → Wrote s (length_first x) o (m + k)
first-wrote {k = k} h v w =
    let four = wrote-four k w in
    wrote_as (wrote_count (wrote-front v h (wrote_count w four)) (omega arith)) (rw v.size)

-- they are those of the text t
known-put : {s p o t : List ℕ} {k m : ℕ} → 4 ≤ length s → Wrote (behind 4 s) (utf8 t) p k → Wrote (again 4 s p) (be_bytes 4 k) o m
    → Put (some t) s o (record { size = 4 + k; known = true })
unfolding text_bytes
known-put {k = k} h v w = record { wrote = wrote_count (first-wrote h v w) (ap (λ (n : ℕ). n + k) (wrote-four k w)); known = refl }

-- a text, even an unknown one, has its length; an unknown one is five bytes
pub text-least : (x : Option (List ℕ)) → 4 ≤ length (text_bytes (or_unknown x))
text-least x = rw (text_bytes-length (or_unknown x)) (omega arith)

pub unknown-room : {x : Option (List ℕ)} {n : ℕ} → x ≡ none → length (text_bytes (or_unknown x)) ≤ n → 5 ≤ n
unknown-room e h = omega (arith, rw (e, text_bytes-length (quoted "?"), utf8-ascii (quoted "?") refl) at h)

-- ---- the native class

-- a path's text takes four bytes more than the path, or one byte more than that
path-size : (x : Option Path) → 4 + length (path_bytes x) ≤ length (text_bytes (or_unknown (path_text x)))
path-size none = rw (text_bytes-length (quoted "?")) (omega arith)
path-size (some p) = rw (text_bytes-length p.text) (omega arith)

-- the buffer s has room for the text of a path x, and the path, where it is known, was written behind its first four bytes
module _ (s : List ℕ) (x : Option Path) (room : length (text_bytes (or_unknown (path_text x))) ≤ length s) where
  text-four : 4 ≤ length s
  text-four = omega (arith, path-size x)

  text_path : length (path_bytes x) ≤ length (behind 4 s)
  text_path = omega (arith, path-size x, behind-length 4 s text-four)

  module _ {p : List ℕ} {r : Maybe Told} (v : Written x (behind 4 s) p r) where
    lost : r ≡ None → x ≡ none
    lost u = go x (sym v.answer ∙ u)
      where
        go : (y : Option Path) → told y ≡ None → y ≡ none
        go none e = refl
        go (some q) e = never (cc)

    same : r ≡ None → again 4 s p ≡ s
    unfolding over
    same u = again-same 4 s p (v.buffer ∙ rw (lost u))

    lost-room : r ≡ None → 5 ≤ length (again 4 s p)
    lost-room u = rw (same u) (unknown-room {x = path_text x} (ap path_text (lost u)) room)

    lost-put : {o : List ℕ} {t : Text} → r ≡ None → Put none (again 4 s p) o t → Put (path_text x) s o t
    lost-put {o} {t} u w = rw (lost u) (rw (same u) at w)

    module _ {a : Told} (e : r ≡ Some a) where
      known : (q : Path) × (x ≡ some q) × Wrote (behind 4 s) (utf8 q.text) p a.len
      known = go x (sym v.answer ∙ e) v.buffer text_path
        where
          go : (y : Option Path) → told y ≡ Some a → p ≡ over (behind 4 s) (path_bytes y) → length (path_bytes y) ≤ length (behind 4 s)
              → (q : Path) × (y ≡ some q) × Wrote (behind 4 s) (utf8 q.text) p a.len
          go none z b h = never (cc)
          go (some q) z b h =
              let m : ◌≡◌ {A = Told} (record { len = length (utf8 q.text); objects = q.depth }) a = cc in
              let n : length (utf8 q.text) ≡ a.len = ap (λ (t : Told). t.len) m in
              (q, refl, record { size = sym n; fits = omega arith; is = b })

      found-room : 4 + a.len ≤ length s
      found-room = omega (arith, known.2.fits, behind-length 4 s text-four)

      found-put : {o : List ℕ} {m : ℕ} → Wrote (again 4 s p) (be_bytes 4 a.len) o m → Put (path_text x) s o (record { size = 4 + a.len; known = true })
      found-put w = let (q, z, y) = known in rw z (known-put text-four y w)

lost-path : (limit : ℕ) (b : List ℕ) (o : Objects) (i : ℕ) → (object_no b o i).outer ≡ 0 → path_no limit o i ≡ none
lost-path limit b o i e = go (ℕ_discrete limit 0)
  where
    go : Dec (limit ≡ 0) → path_no limit o i ≡ none
    go (yes z) = path_end limit o i (omega arith)
    go (no z) = path-lost limit o i (omega arith) (outer_no b o i) e

module _ {c b : List ℕ} {o : Objects} {n : ℕ} {xs : List Class} {lookups objects : ℕ} {w : List ℕ} {r : Ref} {l : Led} (t : Target c b o n xs lookups objects w r l) where
  native-path : native_text (limits_of lookups objects) xs o r ≡ path_text (path_by objects o (object_number lookups xs o r))
  native-path = ap path_text (native-by t.tables (limits_of lookups objects) r)

  -- it leads to no object, or to one whose outer leads nowhere
  pub native-none : l.object.outer ≡ 0 → native_text (limits_of lookups objects) xs o r ≡ none
  native-none z = native-path ∙ go (object_number lookups xs o r) (ap (λ (u : Object). u.outer) (sym t.object) ∙ z)
    where
      go : (k : ℕ) → (columns_of b o k).outer ≡ 0 → path_text (path_by objects o k) ≡ none
      go zero e = refl
      go (suc i) e = ap path_text (lost-path objects b o i e)

  -- it leads to object i
  native-some : (l.object.outer ≡ 0 → ⊥) → (i : ℕ) × (native_text (limits_of lookups objects) xs o r ≡ path_text (path_no objects o i)) × Stands b o (take (56 * n) w) i l.object
  native-some z = go (object_number lookups xs o r) native-path t.object (object-inside t.tables lookups r)
    where
      go : (k : ℕ) → native_text (limits_of lookups objects) xs o r ≡ path_text (path_by objects o k) → l.object ≡ columns_of b o k → k ≤ n
          → (i : ℕ) × (native_text (limits_of lookups objects) xs o r ≡ path_text (path_no objects o i)) × Stands b o (take (56 * n) w) i l.object
      go zero p e h = absurd (z (ap (λ (u : Object). u.outer) e))
      go (suc i) p e h = (i, p, record { holds = t.tables.objects; inside = omega (arith, t.tables.count); is = e })

  module _ (z : l.object.outer ≡ 0 → ⊥) (s : List ℕ) (room : length (text_bytes (or_unknown (native_text (limits_of lookups objects) xs o r))) ≤ length s) where
    abbrev path_of_lem : Option Path
    path_of_lem = path_no objects o (native-some z).0

    path_room : length (text_bytes (or_unknown (path_text path_of_lem))) ≤ length s
    path_room = rw (native-some z).1 at room

    pub native_roomy : Roomy b (take (56 * n) w) l.object objects (behind 4 s)
    native_roomy = record { objects = o; number = (native-some z).0; stands = (native-some z).2; room = text_path s path_of_lem path_room }

    -- its path, where it is known, was written behind the first four bytes
    module _ {p : List ℕ} {a : Maybe Told}
        (put : (q : Objects) (j : ℕ) → Stands b q (take (56 * n) w) j l.object → length (path_bytes (path_no objects q j)) ≤ length (behind 4 s)
        → Written (path_no objects q j) (behind 4 s) p a) where
      written : Written path_of_lem (behind 4 s) p a
      written = put o (native-some z).0 (native-some z).2 (text_path s path_of_lem path_room)

      pub native-lost-room : a ≡ None → 5 ≤ length (again 4 s p)
      native-lost-room u = lost-room s path_of_lem path_room written u

      pub native-lost : {q : List ℕ} {x : Text} → a ≡ None → Put none (again 4 s p) q x → Put (native_text (limits_of lookups objects) xs o r) s q x
      native-lost u v = rw (native-some z).1 (lost-put s path_of_lem path_room written u v)

      pub native-found-room : {y : Told} → a ≡ Some y → 4 + y.len ≤ length s
      native-found-room e = found-room s path_of_lem path_room written e

      pub native-found : {q : List ℕ} {y : Told} {m : ℕ} → a ≡ Some y → Wrote (again 4 s p) (be_bytes 4 y.len) q m
          → Put (native_text (limits_of lookups objects) xs o r) s q (record { size = 4 + y.len; known = true })
      native-found e v = rw (native-some z).1 (found-put s path_of_lem path_room written e v)

-- ---- the class

module _ {c b : List ℕ} {o : Objects} {n : ℕ} {xs : List Class} {lookups objects : ℕ} {w : List ℕ} {r : Ref} {l : Led} (t : Target c b o n xs lookups objects w r l) where
  -- where there is no class of the table it is the native class
  pub class_same : l.class ≡ 0 → class_of (limits_of lookups objects) xs o r ≡ native_text (limits_of lookups objects) xs o r
  class_same z = class-lost (limits_of lookups objects) xs o r (sym t.class ∙ z)

  -- else that of the number before
  module _ {i : ℕ} (z : l.class ≡ suc i) where
    pub class_in : i < length xs
    class_in = omega (arith, class-inside xs r, t.class)

    pub class-some : class_of (limits_of lookups objects) xs o r ≡ some (class_no xs i).path
    class-some = class-found (limits_of lookups objects) xs o r i (omega (arith, t.class))

-- ---- the texts, kept in the work buffer

module _ {c b : List ℕ} {o : Objects} {n : ℕ} {xs : List Class} {lookups objects : ℕ} {w : List ℕ} {r : Ref} {l : Led} (t : Target c b o n xs lookups objects w r l)
    (z : l.size ≡ 0 → ⊥) where
  text_at_lem : TextAt c b n (length xs) objects 0 (length w) w l.class l.object l.text l.size
  text_at_lem = t.text.kept z

  pub kept-inside : l.text + l.size ≤ length w
  kept-inside = text_at_lem.before

  kept-length : length (mid l.text l.size w) ≡ l.size
  kept-length = mid-length l.text l.size w kept-inside

  -- with an object: the class's text, if there is a class of the table, and the native class's
  module _ (y : l.object.outer ≡ 0 → ⊥) where
    texts_of_lem : TextsOf xs l.class (path_no objects o (native-some t y).0) (mid l.text l.size w)
    texts_of_lem =
        text_at_lem.is.both y o (native-some t y).0 xs (record { stands = (native-some t y).2; holds = t.tables.classes; count = refl })

    native-is : native_text (limits_of lookups objects) xs o r ≡ some texts_of_lem.path.text
    native-is = (native-some t y).1 ∙ ap path_text texts_of_lem.known

    texts-are : mid l.text l.size w ≡ class_front xs l.class ++ text_bytes (or_unknown (native_text (limits_of lookups objects) xs o r))
    texts-are = texts_of_lem.is ∙ ap (λ (x : Option (List ℕ)). class_front xs l.class ++ text_bytes (or_unknown x)) (sym native-is)

  -- without one: the class's alone
  class-alone : l.object.outer ≡ 0 → mid l.text l.size w ≡ class_front xs l.class
  class-alone e = text_at_lem.is.alone e xs t.tables.classes refl

  -- without a class of the table there is an object
  module _ (q : l.class ≡ 0) where
    there : l.object.outer ≡ 0 → ⊥
    there e = z (sym kept-length ∙ ap length (class-alone e ∙ ap (class_front xs) q))

    pub kept-is : mid l.text l.size w ≡ text_bytes (or_unknown (native_text (limits_of lookups objects) xs o r))
    kept-is = texts-are there ∙ ap (λ (k : ℕ). class_front xs k ++ text_bytes (or_unknown (native_text (limits_of lookups objects) xs o r))) q

    pub kept-size : l.size ≡ length (text_bytes (or_unknown (native_text (limits_of lookups objects) xs o r)))
    kept-size = sym kept-length ∙ ap length kept-is

    pub kept_put : {s p x : List ℕ} {k : ℕ} → x ≡ mid l.text l.size w → Wrote s x p k
        → Put (native_text (limits_of lookups objects) xs o r) s p (record { size = k; known = true })
    kept_put e v = record { wrote = wrote_as v (e ∙ kept-is); known = ap is_some (sym (native-is there)) }

  -- with class i both texts, or its own
  module _ {i : ℕ} (q : l.class ≡ suc i) where
    both-are : (l.object.outer ≡ 0 → ⊥) → mid l.text l.size w ≡ both_texts (limits_of lookups objects) xs o r
    both-are y =
        texts-are y
        ∙ ap (λ (k : ℕ). class_front xs k ++ text_bytes (or_unknown (native_text (limits_of lookups objects) xs o r))) q
        ∙ ap (λ (x : Option (List ℕ)). text_bytes (or_unknown x) ++ text_bytes (or_unknown (native_text (limits_of lookups objects) xs o r)))
        (sym (class-some t q))

    own-is : l.object.outer ≡ 0 → mid l.text l.size w ≡ text_bytes (class_no xs i).path
    own-is e = class-alone e ∙ ap (class_front xs) q

    -- there is room for them where there is for all that is due
    pub kept-fits : (m : ℕ) → length (both_texts (limits_of lookups objects) xs o r) ≤ m → l.size ≤ m
    kept-fits m h = rw kept-length at (go (ℕ_discrete l.object.outer 0))
      where
        go : Dec (l.object.outer ≡ 0) → length (mid l.text l.size w) ≤ m
        go (yes e) =
            let x = text_bytes (or_unknown (native_text (limits_of lookups objects) xs o r)) in
            rw (own-is e) (front_fits (text_bytes (class_no xs i).path) x m (rw (class-some t q) at h))
        go (no y) = rw (both-are y) h

    pub kept_both : (l.object.outer ≡ 0 → ⊥) → {s p x : List ℕ} {k : ℕ} → x ≡ mid l.text l.size w → Wrote s x p k
        → BothPut (limits_of lookups objects) xs o r s p (record { size = k; class = true; native = true })
    kept_both y e v = record { wrote = wrote_as v (e ∙ both-are y); class = ap is_some (sym (class-some t q)); native = ap is_some (sym (native-is y)) }

    pub kept_own : l.object.outer ≡ 0 → {s p x : List ℕ} {k : ℕ} → x ≡ mid l.text l.size w → Wrote s x p k → Wrote s (text_bytes (class_no xs i).path) p k
    kept_own e d v = wrote_as v (d ∙ own-is e)
