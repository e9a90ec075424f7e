-- Lemmas for the id of a name: its units one by one, their bytes as they are written, and the turns of the hash over them. Assumes nothing.
use mathlib.Core.Path.{◌≡◌, refl, sym, ◌∙◌, ap}
use mathlib.Core.Bool.{Bool, true, false, not, ◌&&◌, and-eq-true_iff}
use mathlib.Core.List.{List, [], ◌∷◌, ◌++◌, append-nil}
use mathlib.Core.Logic.{◌⊎◌, inl, inr, by_cases}
use Prim.Native.Nat.{ℕ, ◌+◌, ◌*◌, ◌-◌, ◌/◌, ◌%◌, ◌≤◌, ◌<◌}
use native.Mathlib.Numerals.{add-one}
use native.Mathlib.Decide.{dec_lt}
use native.Mathlib.Omega.{arith}
use borrow.Author.Tests.{leb-true, not-true}
use lib.Dec.{lit≤, leb, ltb}
use lib.ListN.{length, set, get_or, take, drop, length-append, length-take, length-drop, drop_of_length-le}
use lib.Seq.{take-suc, take_all, take-add, take-append-le, take-append-add, drop-drop, drop-append-le, drop-append-add, get_or-drop}
use Rattle.base.specs.Number.{le_at}
use Rattle.base.specs.NumberLaws.{Bytes, le_at-part}
use Rattle.base.specs.Output.{over, Wrote}
use Rattle.base.specs.OutputLaws.{wrote_as, wrote-taken, wrote-rest}
use Rattle.text.specs.Utf16.{is_well, encode16, unit_bytes}
use Rattle.text.specs.Utf16Cases.{High, Low}
use Rattle.text.specs.Name.{decoded, base, rendered}
use Rattle.text.specs.NameLaws.{suffix-none}
use Rattle.lower.specs.Lower.{lowered}
use Rattle.ids.specs.LowerLaws.{lowered-units, lowered_unit_lem, narrow-units}
use Rattle.city.specs.City.{turn, turns, start, finish, city_hash64}
use Rattle.city.specs.CityLaws.{turns_at, long-is}
use Rattle.city.specs.declared.city.State.{State}
use Rattle.text.specs.Units.{units_of}
use Rattle.ids.specs.LoweredUnits.{lowered_unit, name_units}
use Rattle.text.specs.UnitsLaws.{base-units, units_of-narrow}
use Rattle.ids.specs.Id.{id_of}
use Rattle.ids.specs.IdLaws.{name_units_lem}
use Rattle.text.specs.UnitBytesLaws.{unit_bytes-length, unit_bytes_append, unit_bytes-take, unit_bytes-drop, wrote-behind}

module _ (wide : Bool) (part : List ℕ) (b : Bytes part) (w : is_well (decoded wide part) ≡ true) where
  -- lowering keeps the number of units
  pub part_length : length (encode16 (lowered (base wide part))) ≡ length (units_of wide part)
  part_length = rw (lowered-units, (base-units wide part b w).0)

  -- a unit of the part, lowered by itself and the unit before it; a trailing surrogate stands behind a leading one
  pub place : (i : ℕ) → i < length (units_of wide part)
      → (get_or (encode16 (lowered (base wide part))) i 0 ≡ lowered_unit (get_or (0 ∷ units_of wide part) i 0) (get_or (units_of wide part) i 0))
      × (Low (get_or (units_of wide part) i 0) → High (get_or (0 ∷ units_of wide part) i 0))
  place i h = let u = base-units wide part b w in rw (← u.0) (lowered_unit_lem 0 (base wide part) u.1 i (rw u.0 h))

  pub name-length : (suffix : List ℕ) → length (name_units (base wide part) suffix) ≡ length (units_of wide part) + length suffix
  unfolding name_units
  name-length suffix = rw (length-append, part_length)

-- one-byte text: its bytes, lowered
pub narrow-is : {wide : Bool} → wide ≡ false → (part : List ℕ) → Bytes part → encode16 (lowered (base wide part)) ≡ lowered part
unfolding decoded
narrow-is {wide} e part b = rw e (narrow-units part b)

pub narrow-name : {wide : Bool} → wide ≡ false → (part : List ℕ) → Bytes part → (suffix : List ℕ)
    → name_units (base wide part) suffix ≡ lowered part ++ suffix
unfolding name_units
narrow-name e part b suffix = ap (λ (s : List ℕ). s ++ suffix) (narrow-is e part b)

pub narrow-count : {wide : Bool} → wide ≡ false → (part : List ℕ) → length (units_of wide part) ≡ length part
narrow-count {wide} e part = rw (e, units_of-narrow part)

-- one letter and no suffix
single : (part : List ℕ) → length part ≡ 1 → lowered part ≡ lowered (get_or part 0 0 ∷ [])
single [] e = absurd (omega arith)
single (b ∷ []) e = refl
single (b ∷ d ∷ part) e = absurd (omega arith)

pub one_name : {wide : Bool} {number : ℕ} → wide ≡ false → number ≡ 0 → (part : List ℕ) → Bytes part → length part ≡ 1
    → id_of (rendered wide part number) ≡ city_hash64 (unit_bytes (lowered (get_or part 0 0 ∷ [])))
unfolding id_of
one_name {wide} {number} w z part b l =
    let e : lowered part ++ [] ≡ lowered (get_or part 0 0 ∷ []) = rw append-nil (single part l) in
    ap (λ (s : List ℕ). city_hash64 (unit_bytes s))
    (name_units_lem (base wide part) number ∙ ap (name_units (base wide part)) (suffix-none z) ∙ narrow-name w part b [] ∙ e)

-- what the test says that text is one-byte, and n up to 64 and more than count
pub middle-is : (wide : Bool) (count n : ℕ) → (not wide && (leb n 64 && ltb count n)) ≡ true → (wide ≡ false) × (n ≤ 64)
middle-is wide count n e =
    let p = (and-eq-true_iff (not wide) (leb n 64 && ltb count n)).0 e in
    (not-true wide p.0, leb-true n 64 ((and-eq-true_iff (leb n 64) (ltb count n)).0 p.1).0)

-- the other of two numbers that it may be
pub other : {r n m : ℕ} → (r ≡ n) ⊎ (r ≡ m) → r < n → r ≡ m
other (inl e) h = absurd (omega arith)
other (inr e) h = e

-- ---- windows

-- units of the first of two lists, which are units of both
window-first : (us vs : List ℕ) (from n : ℕ) → n ≤ length us - from → take n (drop from us) ≡ take n (drop from (us ++ vs))
window-first us vs from n h =
    by_cases (dec_lt (length us) from)
    (λ (l : length us < from). let e : n ≡ 0 = omega arith in rw e)
    (λ (l : ¬ (length us < from)).
    rw (drop-append-le from us vs (omega arith), take-append-le n (drop from us) vs (simp length-drop (omega arith))))

-- all that the first has from a place on, and units of the second
window-both : (us vs : List ℕ) (from n k : ℕ) → k ≡ length us - from → k ≤ n
    → take k (drop from us) ++ take (n - k) (drop (from + k - length us) vs) ≡ take n (drop from (us ++ vs))
window-both us vs from n k e h =
    by_cases (dec_lt (length us) from)
    (λ (l : length us < from).
    let z : k ≡ 0 = omega arith in
    let m : from + 0 - length us ≡ from - length us = omega arith in
    let f : length us + (from - length us) ≡ from = omega arith in
    let d : n - 0 ≡ n = omega arith in
    rw (z, m, d) (ap (take n) (sym (drop-append-add us vs (from - length us)) ∙ ap (λ (j : ℕ). drop j (us ++ vs)) f)))
    (λ (l : ¬ (length us < from)).
    let z : from + k - length us ≡ 0 = omega arith in
    let s : length (drop from us) ≡ k = simp length-drop (omega arith) in
    let m : length (drop from us) + (n - k) ≡ n = omega arith in
    rw (z, take_all k (drop from us) (omega arith), drop-append-le from us vs (omega arith))
    (sym (take-append-add (drop from us) vs (n - k)) ∙ ap (λ (j : ℕ). take j (drop from us ++ vs)) m))

-- the first k of n units, and the rest of them
pub window-two : (us : List ℕ) (from n k : ℕ) → k ≤ n → take k (drop from us) ++ take (n - k) (drop (from + k) us) ≡ take n (drop from us)
window-two us from n k h =
    let e : k + (n - k) ≡ n = omega arith in
    rw (← drop-drop k from us) (sym (take-add k (n - k) (drop from us)) ∙ ap (λ (j : ℕ). take j (drop from us)) e)

-- the same of a name's units
pub name-first : (base suffix : List ℕ) (from n : ℕ) → n ≤ length (encode16 (lowered base)) - from
    → take n (drop from (encode16 (lowered base))) ≡ take n (drop from (name_units base suffix))
unfolding name_units
name-first base suffix from n h = window-first (encode16 (lowered base)) suffix from n h

pub name-both : (base suffix : List ℕ) (from n k count : ℕ) → count ≡ length (encode16 (lowered base)) → k ≡ count - from → k ≤ n
    → take k (drop from (encode16 (lowered base))) ++ take (n - k) (drop (from + k - count) suffix) ≡ take n (drop from (name_units base suffix))
unfolding name_units
name-both base suffix from n k count c e h = rw c (window-both (encode16 (lowered base)) suffix from n k (rw c at e) h)

-- ---- writing

-- one unit more, u, of those from a place on
pub wrote-unit : {s o : List ℕ} {at : ℕ} (us : List ℕ) (from i : ℕ) {u : ℕ} → u ≡ get_or us (from + i) 0 → Wrote s (unit_bytes (take i (drop from us))) o at
    → from + i < length us → at + 2 ≤ length s → Wrote s (unit_bytes (take (i + 1) (drop from us))) (set (set o at (u % 256)) (at + 1) (u / 256)) (at + 2)
wrote-unit {s} {o} {at} us from i {u} e w h l =
    let k : i < length (drop from us) = simp length-drop (omega arith) in
    let is = e ∙ sym (get_or-drop from us i 0) in
    wrote_as (wrote-behind u w l) (rw (add-one, take-suc (drop from us) i 0 k, unit_bytes_append, ← is) refl)

-- the same, where it is a byte
pub wrote-narrow : {s o : List ℕ} {at : ℕ} (us : List ℕ) (from i : ℕ) {u : ℕ} → u ≡ get_or us (from + i) 0 → u < 256
    → Wrote s (unit_bytes (take i (drop from us))) o at → from + i < length us → at + 2 ≤ length s
    → Wrote s (unit_bytes (take (i + 1) (drop from us))) (set (set o at u) (at + 1) 0) (at + 2)
wrote-narrow {s} {o} {at} us from i {u} e k w h l =
    let a : u % 256 ≡ u = omega arith in
    let b : u / 256 ≡ 0 = omega arith in
    rw (a, b) at (wrote-unit us from i e w h l)

-- two pieces, one behind the other
pub wrote-two : {s o p : List ℕ} {r m : ℕ} (us vs ws : List ℕ) → Wrote s (unit_bytes us) o r → Wrote (take (length o - r) (drop r o)) (unit_bytes vs) p m
    → us ++ vs ≡ ws → Wrote s (unit_bytes ws) (take r o ++ (p ++ drop (length o - r) (drop r o))) (r + m)
wrote-two us vs ws w v e = wrote_as (wrote-rest w v) (sym (unit_bytes_append us vs) ∙ ap unit_bytes e)

-- how many bytes n units take
pub units-size : (us : List ℕ) (from n : ℕ) → from + n ≤ length us → length (unit_bytes (take n (drop from us))) ≡ 2 * n
units-size us from n h = rw unit_bytes-length (simp (length-take, length-drop) (omega arith))

-- a buffer that they fill
pub wrote-whole : {s o : List ℕ} {r : ℕ} (us : List ℕ) (from n : ℕ) → Wrote s (unit_bytes (take n (drop from us))) o r → from + n ≤ length us → length s ≡ 2 * n
    → o ≡ unit_bytes (take n (drop from us))
unfolding over
wrote-whole {s} us from n w h e =
    let l : length s ≤ length (unit_bytes (take n (drop from us))) = omega (arith, units-size us from n h) in
    w.is ∙ rw (drop_of_length-le s l, append-nil)

-- all units, written from the first on
pub wrote-all : {s o : List ℕ} {r : ℕ} (us : List ℕ) (n : ℕ) → Wrote s (unit_bytes (take n (drop 0 us))) o r → length us ≤ n → take r o ≡ unit_bytes us
wrote-all us n w h = wrote-taken w ∙ ap unit_bytes (take_all n us h)

-- ---- hashing

-- the first word of a text stands in the bytes of its first four units
pub first-bytes : (us : List ℕ) → le_at 8 (unit_bytes (take 4 us)) 0 ≡ le_at 8 (unit_bytes us) 0
first-bytes us = ap (λ (s : List ℕ). le_at 8 s 0) (unit_bytes-take 4 us) ∙ le_at-part 8 0 8 (unit_bytes us) 0 (lit≤ tt)

-- the 64 bytes of 32 units
pub chunk_bytes : (from : ℕ) (us : List ℕ) → unit_bytes (take 32 (drop from us)) ≡ take 64 (drop (2 * from) (unit_bytes us))
chunk_bytes from us = unit_bytes-take 32 (drop from us) ∙ ap (take 64) (unit_bytes-drop from us)

-- one turn, and those that are left
pub turns_next : (k from : ℕ) (us : List ℕ) (t : State) → 0 < k
    → turns (k - 1) (drop (2 * (from + 32)) (unit_bytes us)) (turn (unit_bytes (take 32 (drop from us))) t) ≡ turns k (drop (2 * from) (unit_bytes us)) t
turns_next k from us t h =
    let d : 2 * (from + 32) ≡ 2 * from + 64 = omega arith in
    rw (chunk_bytes, d) (sym (turns_at k (unit_bytes us) (2 * from) t h))

-- the hash of more than 32 units, as the code computes it
pub long-units : (us : List ℕ) (n : ℕ) → n ≡ length us → 32 < n
    → city_hash64 (unit_bytes us)
    ≡ finish (turns ((2 * n - 1) / 64) (unit_bytes us) (start (2 * n) (unit_bytes (take 32 (drop (n - 32) us))) (le_at 8 (unit_bytes us) 0)))
long-units us n e h =
    let l : length (unit_bytes us) ≡ 2 * n = unit_bytes-length us ∙ ap (λ (k : ℕ). 2 * k) (sym e) in
    let d : 2 * (n - 32) ≡ 2 * n - 64 = omega arith in
    rw (chunk_bytes, d, ← l) (long-is (unit_bytes us) (omega arith))
