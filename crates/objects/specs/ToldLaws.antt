-- Laws of what is told of a path, and of its bytes: one name more. Assumes nothing.
use Rattle.std.specs.Prelude.{◌≡◌, refl, List, [], ◌∷◌, ◌++◌, length, take, drop, set, Option, Some, None}
use Rattle.std.proofs.Common.{sym, ◌∙◌, ap, append_assoc, length-append}
use Rattle.std.proofs.Math.Option.{Option as Maybe, none, some}
use Prim.Native.Nat.{ℕ, zero, suc, ◌+◌, ◌-◌, ◌*◌, ◌/◌, ◌≤◌, ◌<◌}
use native.Mathlib.Omega.{arith}
use Rattle.base.specs.Never.{never}
use Rattle.base.specs.FindLaws.{none-some}
use Rattle.base.specs.Number.{le_at}
use Rattle.base.specs.Output.{over, Wrote}
use Rattle.base.specs.OutputLaws.{wrote_none, wrote-byte, wrote-rest, wrote-room, wrote_as, next-room}
use Rattle.text.specs.Utf8.{utf8_one, utf8}
use Rattle.text.specs.Utf8Laws.{utf8_append}
use Rattle.scriptblock.specs.Script.{Objects, object_name}
use Rattle.meaning.specs.Path.{Path, separator, added, start}
use Rattle.table.specs.Table.{record_at}
use Rattle.objects.specs.Numbers.{entry_no, link_of, path_by, path_no}
use Rattle.objects.specs.Work.{ObjectsIn}
use Rattle.objects.specs.WorkLaws.{name_no}
use Rattle.objects.specs.PathLaws.{inside-count, columns-at, path_end}
use Rattle.objects.specs.Told.{known, told, path_bytes, Written}
use Rattle.objects.specs.declared.path.Path.{Path as Told}

-- ---- a path has an object, and not more than its limit

module _ (o : Objects) where
  abbrev Deep : ℕ → Maybe Path → Type 0
  Deep n x = (p : Path) → x ≡ some p → (0 < p.depth) × (p.depth ≤ n)

  deep-added : (n : ℕ) (name : List ℕ) (x : Maybe Path) → ((p : Path) → x ≡ some p → p.depth ≤ n) → Deep (suc n) (added name x)
  deep-added n name none f p e = none-some e
  deep-added n name (some q) f p e = let d : q.depth + 1 ≡ p.depth = cc in (omega arith, omega (arith, f q refl))

  pub path-deep : (n i : ℕ) → Deep n (path_no n o i)
  unfolding path_no
  path-deep zero i p e = none-some e
  path-deep (suc n) i p e = deep-added n (object_name o (entry_no o i)) (path_by (path_no n o) (link_of o (entry_no o i).outer)) (by (link_of o (entry_no o i).outer) (path-deep n)) p e
    where
      by : (k : ℕ) → ((j : ℕ) → Deep n (path_no n o j)) → (q : Path) → path_by (path_no n o) k ≡ some q → q.depth ≤ n
      by zero ih q e = none-some e
      by (suc zero) ih q e = let d : 0 ≡ q.depth = cc in omega arith
      by (suc (suc j)) ih q e = (ih j q e).1

-- a separator is one byte
pub separator-one : (d : ℕ) → 0 < d → (utf8 (separator d) ≡ separator d) × (length (separator d) ≡ 1)
unfolding utf8_one
separator-one zero h = absurd (omega arith)
separator-one (suc zero) h = (refl, refl)
separator-one (suc (suc zero)) h = (refl, refl)
separator-one (suc (suc (suc d))) h = (refl, refl)

pub separator-third : (d : ℕ) → d ≡ 2 → 58 ∷ [] ≡ separator d
separator-third d e = rw e

pub separator-other : (d : ℕ) → 0 < d → (d ≡ 2 → ⊥) → 46 ∷ [] ≡ separator d
separator-other zero h n = absurd (omega arith)
separator-other (suc zero) h n = refl
separator-other (suc (suc zero)) h n = absurd (n refl)
separator-other (suc (suc (suc d))) h n = refl

-- ---- measured from the innermost object on

-- what is told tells both numbers
pub known-parts : {n d m k : ℕ} → known n d ≡ known m k → (n ≡ m) × (d ≡ k)
known-parts {n} {d} {m} {k} e =
    let f : record { len = n; objects = d } ≡ record { len = m; objects = k } = cc in
    (ap (λ (t : Told). t.len) f, ap (λ (t : Told). t.objects) f)

-- what is told, behind so many bytes and objects
abbrev pub behind : ℕ → ℕ → Option Told → Option Told
behind t d None = None
behind t d (Some p) = known (t + p.len) (d + p.objects)

pub behind-none : (r : Option Told) → r ≡ behind 0 0 r
behind-none None = refl
behind-none (Some p) = let x : 0 + p.len ≡ p.len = omega arith in let y : 0 + p.objects ≡ p.objects = omega arith in rw (x, y)

behind_more : (t d n k : ℕ) (r : Option Told) → behind t d (behind (n + 1) k r) ≡ behind (t + n + 1) (d + k) r
behind_more t d n k None = refl
behind_more t d n k (Some p) =
    let x : t + (n + 1 + p.len) ≡ t + n + 1 + p.len = omega arith in
    let y : d + (k + p.objects) ≡ d + k + p.objects = omega arith in
    rw (x, y)

-- the first name, and one behind others
told-first : (t d : ℕ) (name : List ℕ) → behind t d (told (added name (some start))) ≡ known (t + length (utf8 name)) (d + 1)
told-first t d name = refl

told-added : (name : List ℕ) (x : Maybe Path) → ((p : Path) → x ≡ some p → 0 < p.depth) → told (added name x) ≡ behind (length (utf8 name) + 1) 1 (told x)
told-added name none deep = refl
told-added name (some p) deep =
    let s = separator-one p.depth (deep p refl) in
    let n : length (utf8 (p.text ++ separator p.depth ++ name)) ≡ length (utf8 name) + 1 + length (utf8 p.text) =
    rw (utf8_append (p.text ++ separator p.depth) name, utf8_append p.text (separator p.depth), s.0) (simp length-append (omega (arith, s.1))) in
    let d : p.depth + 1 ≡ 1 + p.depth = omega arith in
    rw (n, d)

-- the path of object i behind t bytes and d objects, of `limit` at most: unknown, whole, or one more behind
module _ (o : Objects) (limit i t d at : ℕ) (so : told (path_no limit o i) ≡ behind t d (told (path_no (limit - d) o at))) where
  pub told_end : limit ≤ d → None ≡ told (path_no limit o i)
  told_end h = sym (so ∙ rw (path_end (limit - d) o at (omega arith)))

  pub told-lost : path_no (limit - d) o at ≡ none → None ≡ told (path_no limit o i)
  told-lost e = sym (so ∙ rw e)

  pub told-top : {n : ℕ} → n ≡ length (utf8 (object_name o (entry_no o at))) → path_no (limit - d) o at ≡ added (object_name o (entry_no o at)) (some start)
      → known (t + n) (d + 1) ≡ told (path_no limit o i)
  told-top q e = sym (so ∙ rw (e, q) (told-first t d (object_name o (entry_no o at))))

  pub told-up : (k : ℕ) {n : ℕ} → n ≡ length (utf8 (object_name o (entry_no o at))) → path_no (limit - d) o at ≡ added (object_name o (entry_no o at)) (path_no (limit - d - 1) o k)
      → told (path_no limit o i) ≡ behind (t + n + 1) (d + 1) (told (path_no (limit - (d + 1)) o k))
  told-up k q e =
      let x : limit - d - 1 ≡ limit - (d + 1) = omega arith in
      let y = rw x at e in
      so ∙ rw (y, told-added (object_name o (entry_no o at)) (path_no (limit - (d + 1)) o k) (λ p e. (path-deep o (limit - (d + 1)) k p e).0), q)
      (behind_more t d (length (utf8 (object_name o (entry_no o at)))) 1 (told (path_no (limit - (d + 1)) o k)))

-- the length that a record has of its name
module _ {b : List ℕ} {o : Objects} {w : List ℕ} (t : ObjectsIn b o w) (i : ℕ) (h : 56 * i < length w) {at n : ℕ} where
  pub rendered-at : at ≡ record_at (3 * (length w / 56)) 44 i → n ≡ le_at 4 w (at + 40) → n ≡ length (utf8 (object_name o (entry_no o i)))
  rendered-at place q = q ∙ (columns-at t i h place).rendered ∙ rw (name_no t.all i (inside-count t i h))

-- ---- written from the outermost object on

pub written_none : (s : List ℕ) {x : Maybe Path} → x ≡ none → Written x s s None
unfolding over
written_none s e = record { answer = rw e; buffer = rw e }

pub written-first : {s o name : List ℕ} {n : ℕ} {x : Maybe Path} → x ≡ added name (some start) → Wrote s (utf8 name) o n → Written x s o (known n 1)
written-first e w = record { answer = rw e (ap (λ (k : ℕ). known k 1) w.size); buffer = rw e w.is }

-- a path with a name behind it has as many bytes or more
pub bytes-grow : (name : List ℕ) (x : Maybe Path) → length (path_bytes x) ≤ length (path_bytes (added name x))
bytes-grow name none = omega arith
bytes-grow name (some p) = rw (utf8_append (p.text ++ separator p.depth) name, utf8_append p.text (separator p.depth)) (simp length-append (omega arith))

pub written-lost : (name : List ℕ) {s o : List ℕ} {x y : Maybe Path} {r : Option Told} → Written y s o r → r ≡ None → x ≡ added name y → Written x s o None
unfolding over
written-lost name {s} {o} {x} {y} {r} w u e = go y w.buffer (sym w.answer ∙ u) e
  where
    go : (y : Maybe Path) → o ≡ over s (path_bytes y) → told y ≡ None → x ≡ added name y → Written x s o None
    go none q z e = record { answer = rw e; buffer = rw e q }
    go (some p) q z e = never (cc)

-- the path y is there, of `at` bytes and `depth` objects, and the path x, which has a name more, fits
module _ {s o : List ℕ} {y : Maybe Path} {r : Option Told} (at depth : ℕ) (name : List ℕ) (w : Written y s o r) (so : r ≡ known at depth)
    (room : length (path_bytes (added name y)) ≤ length s) where
  told_y : told y ≡ known at depth
  told_y = sym w.answer ∙ so

  pub known_is : (p : Path) × (y ≡ some p) × (length (utf8 p.text) ≡ at) × (p.depth ≡ depth)
  known_is = go y told_y
    where
      go : (y : Maybe Path) → told y ≡ known at depth → (p : Path) × (y ≡ some p) × (length (utf8 p.text) ≡ at) × (p.depth ≡ depth)
      go none e = never (cc)
      go (some p) e = let f = known-parts e in (p, refl, f.0, f.1)

  joined : path_bytes (added name y) ≡ path_bytes y ++ utf8 (separator depth ++ name)
  joined =
      let (p, e, l, d) = known_is in
      rw (e, d, append_assoc p.text (separator depth) name, utf8_append p.text (separator depth ++ name))

  pub written-wrote : Wrote s (path_bytes y) o at
  written-wrote =
      let (p, e, l, d) = known_is in
      let z : at ≡ length (path_bytes y) = rw e (sym l) in
      record { size = z; fits = omega (arith, bytes-grow name y); is = w.buffer }

  pub written-room : length (utf8 (separator depth ++ name)) ≤ length (take (length o - at) (drop at o))
  written-room = next-room s (path_bytes y) (utf8 (separator depth ++ name)) o at written-wrote (rw (← joined) room)

  pub written-more : {p : List ℕ} {m : ℕ} {x : Maybe Path} → x ≡ added name y → Wrote (take (length o - at) (drop at o)) (utf8 (separator depth ++ name)) p m
      → Written x s (take at o ++ (p ++ drop (length o - at) (drop at o))) (known (at + m) (depth + 1))
  written-more {p} {m} {x} e v =
      let t = wrote_as (wrote-rest written-wrote v) (sym joined) in
      record { answer = rw e (more t.size); buffer = rw e t.is }
    where
      more : at + m ≡ length (path_bytes (added name y)) → known (at + m) (depth + 1) ≡ told (added name y)
      more z = let (q, e, l, d) = known_is in let u = rw e at z in rw (e, u, d)

-- a name behind others: its separator, of one byte, and its bytes
module _ {depth v : ℕ} (h : 0 < depth) (is : v ∷ [] ≡ separator depth) (name : List ℕ) where
  pub next-bytes : v ∷ [] ++ utf8 name ≡ utf8 (separator depth ++ name)
  next-bytes = sym (utf8_append (separator depth) name ∙ rw ((separator-one depth h).0, ← is))

  pub next-length : length (utf8 (separator depth ++ name)) ≡ 1 + length (utf8 name)
  next-length = ap length (sym next-bytes) ∙ omega arith

  module _ (s : List ℕ) (room : length (utf8 (separator depth ++ name)) ≤ length s) where
    -- the separator was stored
    pub separator-wrote : Wrote s (v ∷ []) (set s 0 v) 1
    separator-wrote = wrote-byte (wrote_none s) (omega (arith, next-length)) v

    pub next-name : length (utf8 name) ≤ length (take (length (set s 0 v) - 1) (drop 1 (set s 0 v)))
    next-name = wrote-room separator-wrote (length (utf8 name)) (omega (arith, next-length))

    -- and the name behind it
    pub next-wrote : {p : List ℕ} {m : ℕ} → Wrote (take (length (set s 0 v) - 1) (drop 1 (set s 0 v))) (utf8 name) p m
        → Wrote s (utf8 (separator depth ++ name)) (take 1 (set s 0 v) ++ (p ++ drop (length (set s 0 v) - 1) (drop 1 (set s 0 v)))) (1 + m)
    next-wrote w = wrote_as (wrote-rest separator-wrote w) next-bytes
