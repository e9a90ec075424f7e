-- Laws of an object's text, measured and composed from its columns. Assumes nothing.
use Rattle.std.specs.Prelude.{◌≡◌, refl, List, ◌++◌, ℕ, ◌+◌, ◌-◌, ◌*◌, ◌≤◌, ◌<◌, suc, length, take, drop, Option, Some, None}
use Rattle.std.proofs.Common.{sym, ◌∙◌, arith, length-take, length-drop}
use Rattle.std.proofs.Math.Path.{ap}
use Rattle.std.proofs.Math.Option.{Option as Maybe, none, some}
use Rattle.base.specs.Never.{never}
use Rattle.base.specs.Number.{be_bytes}
use Rattle.base.specs.NumberLaws.{Bytes, length-be_bytes}
use Rattle.base.specs.Output.{Wrote}
use Rattle.base.specs.OutputLaws.{wrote_as, wrote_count, wrote-front, wrote-rest, wrote-taken}
use Rattle.text.specs.Name.{text_bytes}
use Rattle.text.specs.NameLaws.{text_bytes-length}
use Rattle.text.specs.Utf8.{utf8}
use Rattle.batch.specs.Places.{place_at}
use Rattle.batch.specs.Holds.{name_at}
use Rattle.batch.specs.declared.places.Place.{Place}
use Rattle.scriptblock.specs.Script.{Objects, object_name}
use Rattle.meaning.specs.Path.{Path}
use Rattle.meaning.specs.Scan.{Class}
use Rattle.objects.specs.Numbers.{entry_no, path_no}
use Rattle.objects.specs.PathLaws.{path-up, place_no_lem, number_no_lem, outer_no}
use Rattle.objects.specs.PathLength.{path-short}
use Rattle.objects.specs.PutLaws.{stands-top, outer-inside}
use Rattle.objects.specs.Told.{known, told, path_bytes, Written, Roomy}
use Rattle.objects.specs.ToldLaws.{known-parts, behind, behind-none, told-up, path-deep}
use Rattle.objects.specs.Work.{place_of, object_no, Stands}
use Rattle.objects.specs.WorkLaws.{name_no}
use Rattle.objects.specs.declared.object.Object.{Object}
use Rattle.objects.specs.declared.path.Path.{Path as Told}
use Rattle.resolve.specs.Classes.{class_no, ClassesIn, PathRoom}
use Rattle.pool.specs.Pool.{TextWrote, NoShort, TextsOf, Leading, ClassTable, class_front}

-- a path of which so much is told
pub known-path : (x : Maybe Path) {k d : ℕ} → known k d ≡ told x → (p : Path) × (x ≡ some p) × (k ≡ length (utf8 p.text)) × (d ≡ p.depth)
known-path none e = never (cc)
known-path (some p) e = let f = known-parts e in (p, refl, f.0, f.1)

-- a text that takes more than 252 bytes, and a path of which so much is told
text-over : (t : List ℕ) {k : ℕ} → k ≡ length (utf8 t) → 252 < k → 256 < length (text_bytes t)
text-over t e h = rw (text_bytes-length t) (omega arith)

pub no_short_over : (x : Maybe Path) {k d : ℕ} → known k d ≡ told x → 252 < k → NoShort x
no_short_over none e h = never (cc)
no_short_over (some p) e h = let f = known-parts e in text-over p.text f.0 h

-- ---- measured

module _ {b w : List ℕ} {o : Objects} {i : ℕ} {u : Object} (st : Stands b o w i u) (limit : ℕ) where
  -- its name, of n bytes, by the columns
  own-length : {n : ℕ} → n ≡ length (utf8 (name_at b (place_of u) u.number)) → n ≡ length (utf8 (object_name o (entry_no o i)))
  own-length q =
      q
      ∙ ap (λ (v : Object). length (utf8 (name_at b (place_of v) v.number))) st.is
      ∙ ap (λ (p : Place). length (utf8 (name_at b p (object_no b o i).number))) (place_no_lem b o i)
      ∙ ap (λ (k : ℕ). length (utf8 (name_at b (place_at b o.layout.names (entry_no o i).index) k))) (number_no_lem b o i)
      ∙ ap (λ (t : List ℕ). length (utf8 t)) (sym (name_no st.holds.all i st.inside))

  pub above-inside : {j : ℕ} → suc (suc j) ≡ u.outer → 56 * j < length w
  above-inside {j} up = let k : u.outer - 2 ≡ j = omega arith in rw k at (outer-inside st (λ z. omega arith) (λ z. omega arith))

  module _ (ne : limit ≡ 0 → ⊥) {n : ℕ} (q : n ≡ length (utf8 (name_at b (place_of u) u.number))) where
    pub told-alone : u.outer ≡ 1 → known n 1 ≡ told (path_no limit o i)
    told-alone z = rw (stands-top st limit ne z, q)

    -- below its outer, object j
    module _ {j : ℕ} (up : suc (suc j) ≡ u.outer) where
      below : told (path_no limit o i) ≡ behind (0 + n + 1) (0 + 1) (told (path_no (limit - 1) o j))
      below =
          let z : limit - 0 ≡ limit = omega arith in
          let y : limit - 0 - 1 ≡ limit - 1 = omega arith in
          let k : u.outer - 2 ≡ j = omega arith in
          told-up o limit i 0 0 i (rw z (behind-none (told (path_no limit o i)))) j (own-length q)
          (rw (z, ← k) (path-up limit o i (omega arith) (ap (λ (v : Object). v.outer) st.is ∙ outer_no b o i) (omega arith)))

      module _ {r : Option Told} (above : r ≡ told (path_no (limit - 1) o j)) where
        pub told-nowhere : r ≡ None → None ≡ told (path_no limit o i)
        told-nowhere e = sym (below ∙ rw (← above, e))

        pub told_below : {p : Told} → r ≡ Some p → known (n + 1 + p.len) (p.objects + 1) ≡ told (path_no limit o i)
        told_below {p} e =
            let x : 0 + n + 1 + p.len ≡ n + 1 + p.len = omega arith in
            let y : 0 + 1 + p.objects ≡ p.objects + 1 = omega arith in
            sym (below ∙ rw (← above, e, x, y))

        -- it is no longer than names can be
        pub below-short : Bytes b → {p : Told} → r ≡ Some p → (p.len ≤ 131090 * limit) × (p.objects ≤ limit)
        below-short bs {p} e =
            let (a, x, l, m) = known-path (path_no (limit - 1) o j) (sym e ∙ above) in
            let h : j < o.layout.count = omega (arith, above-inside up, st.holds.all.entered.size) in
            let s = path-short st.holds bs (limit - 1) j h in
            let y : p.len ≡ length (path_bytes (path_no (limit - 1) o j)) = rw x l in
            (omega (arith, s), omega (arith, (path-deep o (limit - 1) j a x).1))

-- ---- composed

-- a text was put behind the first four bytes, and its length into these
module _ (out : List ℕ) (long : 256 ≤ length out) where
  rest : 252 ≤ length (take (length out - 4) (drop 4 out))
  rest = simp (length-take, length-drop) (omega arith)

  pub text-wrote : (t : List ℕ) {p new : List ℕ} {k m n : ℕ} → Wrote (take (length out - 4) (drop 4 out)) (utf8 t) p n
      → Wrote (take 4 out ++ (p ++ drop (length out - 4) (drop 4 out))) (be_bytes 4 k) new m → k ≡ length (utf8 t) → Wrote out (text_bytes t) new (m + k)
  unfolding text_bytes
  text-wrote t {p} {new} {k} {m} {n} w v l =
      let four : m ≡ 4 = v.size ∙ length-be_bytes 4 k in
      let f : Wrote out (be_bytes 4 k ++ utf8 t) new (4 + n) = wrote-front w (omega arith) (wrote_count v four) in
      wrote_as (wrote_count f (omega (arith, w.size))) (ap (λ (x : ℕ). be_bytes 4 x ++ utf8 t) l)

  -- an object's
  module _ (limit : ℕ) {b w : List ℕ} {u : Object} {k d : ℕ} {o : Objects} {i : ℕ} (st : Stands b o w i u) (q : known k d ≡ told (path_no limit o i)) (short : k ≤ 252) where
    fits : length (path_bytes (path_no limit o i)) ≤ length (take (length out - 4) (drop 4 out))
    fits = let (p, x, l, m) = known-path (path_no limit o i) q in rw x (omega (arith, rest))

    pub compose_roomy : Roomy b w u limit (take (length out - 4) (drop 4 out))
    compose_roomy = record { objects = o; number = i; stands = st; room = fits }

    pub compose_text : {p new : List ℕ} {r : Option Told} {m : ℕ}
        → ((o : Objects) (i : ℕ) → Stands b o w i u → length (path_bytes (path_no limit o i)) ≤ length (take (length out - 4) (drop 4 out))
        → Written (path_no limit o i) (take (length out - 4) (drop 4 out)) p r)
        → Wrote (take 4 out ++ (p ++ drop (length out - 4) (drop 4 out))) (be_bytes 4 k) new m → TextWrote (path_no limit o i) out new (m + k)
    compose_text {p} {new} {r} {m} put v =
        let (a, x, l, z) = known-path (path_no limit o i) q in
        let w : Wrote (take (length out - 4) (drop 4 out)) (utf8 a.text) p k =
        record { size = l; fits = omega (arith, rest); is = rw x at (put o i st fits).buffer } in
        record { path = a; known = x; wrote = text-wrote a.text w v l }

  -- a class's
  module _ {c : List ℕ} {n k : ℕ} {w : List ℕ} {class len : ℕ} (t : ClassTable c n class w) (up : class ≡ suc k)
      (measured : (xs : List Class) → ClassesIn c n xs w → k < length xs → len ≡ length (utf8 (class_no xs k).path)) (short : len ≤ 252) where
    pub class_roomy : PathRoom c n k w (take (length out - 4) (drop 4 out))
    class_roomy =
        let h : k < length t.table = omega (arith, t.inside) in
        record { classes = t.table; holds = t.holds; inside = h; room = omega (arith, measured t.table t.holds h, rest) }

    pub class_text : {p new : List ℕ} {r m : ℕ}
        → ((xs : List Class) → ClassesIn c n xs w → k < length xs → Wrote (take (length out - 4) (drop 4 out)) (utf8 (class_no xs k).path) p r)
        → Wrote (take 4 out ++ (p ++ drop (length out - 4) (drop 4 out))) (be_bytes 4 len) new m
        → (xs : List Class) → ClassesIn c n xs w → class ≤ length xs → Wrote out (class_front xs class) new (m + len)
    class_text put v xs h l = let g : k < length xs = omega arith in rw up (text-wrote (class_no xs k).path (put xs h g) v (measured xs h g))

-- a class whose path takes more than 252 bytes
pub class_over : (xs : List Class) {class k len : ℕ} → class ≡ suc k → len ≡ length (utf8 (class_no xs k).path) → 252 < len → 256 < length (class_front xs class)
class_over xs {class} {k} up e h = rw up (text-over (class_no xs k).path e h)

-- ---- one behind the other

module _ {c b : List ℕ} {n classes : ℕ} (objects : ℕ) {class : ℕ} {w : List ℕ} {u : Object} {s o₁ p : List ℕ} {k m z : ℕ} (e : z ≡ length o₁)
    (first : (xs : List Class) → ClassesIn c (2 * n) xs (drop (56 * n) w) → class ≤ length xs → Wrote s (class_front xs class) o₁ k)
    (second : (o : Objects) (i : ℕ) → Stands b o (take (56 * n) w) i u → TextWrote (path_no objects o i) (take (z - k) (drop k o₁)) p m) where
  pub both_texts : class ≤ classes → (o : Objects) (i : ℕ) (xs : List Class) → Leading c b n classes w u o i xs
      → TextsOf xs class (path_no objects o i) (take (k + m) (take k o₁ ++ (p ++ drop (z - k) (drop k o₁))))
  both_texts h o i xs l =
      let v = first xs l.holds (omega (arith, l.count)) in
      let t = second o i l.stands in
      rw e (record { path = t.path; known = t.known; is = wrote-taken (wrote-rest v (rw e at t.wrote)) })
