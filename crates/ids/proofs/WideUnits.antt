-- Lemmas for wide text lowered by script: that its units are those of the lowered text where they pass the test of the script. Assumes nothing.
use mathlib.Core.Path.{◌≡◌, refl, sym, ◌∙◌, ap}
use mathlib.Core.Bool.{Bool, true, false, cond, ◌&&◌, and-eq-true_iff, and-true, and_assoc}
use mathlib.Core.List.{List, [], ◌∷◌, ◌++◌, map}
use mathlib.Core.Logic.{inr, by_cases}
use Prim.Native.Nat.{ℕ, zero, suc, ◌+◌, ◌*◌, ◌≤◌, ◌<◌}
use native.Mathlib.Decide.{dec_lt}
use native.Mathlib.Numerals.{add-one}
use native.Mathlib.Omega.{arith}
use lib.Bits.{bit_or, or_add_and, and_le_l, and_le_r}
use lib.ListN.{length, get_or, take, drop, length-map, length-take, length-drop, get_or-map}
use lib.Seq.{take-suc, get_or-take, get_or-drop, ext_get_or}
use Rattle.std.specs.Prelude.{Option, None, Some}
use Rattle.lower.specs.Ascii.{lower_ascii}
use Rattle.lower.specs.Lower.{lowered}
use Rattle.lower.proofs.LowerLaws.{lower-single}
use Rattle.rules.specs.Caseless.{caseless}
use Rattle.rules.specs.CaselessLaws.{ascii-caseless}
use Rattle.rules.specs.Scripts.{LowersBy}
use Rattle.rules.specs.ScriptLaws.{caseless-script}
use Rattle.base.specs.Never.{never}
use Rattle.base.specs.NumberLaws.{Bytes}
use Rattle.base.specs.Output.{Wrote}
use Rattle.base.specs.OutputLaws.{wrote-taken}
use Rattle.text.specs.Utf16.{is_well, encode16, unit_bytes}
use Rattle.text.specs.Name.{decoded, base}
use Rattle.text.specs.Units.{units_of}
use Rattle.text.specs.UnitsLaws.{units_of-words}
use Rattle.ids.specs.LoweredUnits.{lowered_unit, all_are, bits_from}
use Rattle.ids.specs.LowerLaws.{below-lowered, single-lowered, high-lowered, low-lowered}
use Rattle.ids.proofs.NameUnits.{part_length, place}
use Rattle.ids.proofs.PutUnits.{wrote-within}

-- a lowered unit is one
pub lowered-word : (b u : ℕ) → u < 65536 → lowered_unit b u < 65536
lowered-word b u h =
    by_cases (dec_lt u 0xD800)
    (λ (l : u < 0xD800). rw (below-lowered b u l) (lower-single u h))
    (λ (l : ¬ (u < 0xD800)). by_cases (dec_lt u 0xDC00)
    (λ (m : u < 0xDC00). rw (high-lowered b u (omega arith, m)) h)
    (λ (m : ¬ (u < 0xDC00)). by_cases (dec_lt u 0xE000)
    (λ (k : u < 0xE000). rw (low-lowered b u (omega arith, k)) (omega arith))
    (λ (k : ¬ (u < 0xE000)). rw (single-lowered b u (inr (omega arith))) (lower-single u h))))

-- so is each of a lowered text
pub lowered-fits : (wide : Bool) (part : List ℕ) (b : Bytes part) (w : is_well (decoded wide part) ≡ true) (i : ℕ) → i < length (units_of wide part)
    → get_or (encode16 (lowered (base wide part))) i 0 < 65536
lowered-fits wide part b w i h =
    let us : List ℕ = units_of wide part in
    rw (place wide part b w i h).0 (lowered-word (get_or (0 ∷ us) i 0) (get_or us i 0) (units_of-words wide part b i))

-- ---- what is known where the table is not to be asked

pub none-asked : (t : Bool) (v : ℕ) → ◌≡◌ {A = Option ℕ} None (cond t None (Some v)) → t ≡ true
none-asked true v e = refl
none-asked false v e = never (cc)

pub some-known : (t : Bool) (v : ℕ) {u : ℕ} → ◌≡◌ {A = Option ℕ} (Some u) (cond t None (Some v)) → u ≡ v
some-known true v e = never (cc)
some-known false v e = cc

-- ---- a test of each unit

-- what it says of each
pub each : (t : ℕ → Bool) (us : List ℕ) (i : ℕ) → i < length us → all_are t us ≡ true → t (get_or us i 0) ≡ true
each t [] i h e = absurd (omega arith)
each t (u ∷ us) zero h e = ((and-eq-true_iff (t u) (all_are t us)).0 e).0
each t (u ∷ us) (suc i) h e = each t us i (omega arith) ((and-eq-true_iff (t u) (all_are t us)).0 e).1

-- of one unit more
last : (t : ℕ → Bool) (us : List ℕ) (u : ℕ) → all_are t (us ++ u ∷ []) ≡ (all_are t us && t u)
last t [] u = and-true (t u)
last t (v ∷ us) u = rw (last t us u) (sym (and_assoc (t v) (all_are t us) (t u)))

-- ---- the bits of units

pub bits-last : (b : ℕ) (us : List ℕ) (u : ℕ) → bits_from b (us ++ u ∷ []) ≡ bit_or (bits_from b us) u
bits-last b [] u = refl
bits-last b (v ∷ us) u = bits-last (bit_or b v) us u

-- ASCII is caseless
pub bits-ascii : (b : ℕ) (us : List ℕ) → bits_from b us < 0x80 → (b < 0x80) × (all_are caseless us ≡ true)
bits-ascii b [] h = (h, refl)
bits-ascii b (u ∷ us) h =
    let i = bits-ascii (bit_or b u) us h in
    let s = or_add_and b u in
    let l = and_le_l b u in
    let r = and_le_r b u in
    let k = ascii-caseless u (omega arith) in
    (omega arith, rw (k, i.1))

-- ---- one unit more
module _ (us : List ℕ) (from i : ℕ) (h : from + i < length us) where
  pub more : take (i + 1) (drop from us) ≡ take i (drop from us) ++ get_or us (from + i) 0 ∷ []
  more =
      let k : i < length (drop from us) = simp length-drop (omega arith) in
      rw (add-one i, take-suc (drop from us) i 0 k, get_or-drop from us i 0)

  pub are-next : (t : ℕ → Bool) (all : Bool) → all ≡ all_are t (take i (drop from us)) → (all && t (get_or us (from + i) 0)) ≡ all_are t (take (i + 1) (drop from us))
  are-next t all e = rw (more, last t (take i (drop from us)) (get_or us (from + i) 0), e)

  pub bits-next : (bits : ℕ) → bits ≡ bits_from 0 (take i (drop from us)) → bit_or bits (get_or us (from + i) 0) ≡ bits_from 0 (take (i + 1) (drop from us))
  bits-next bits e = rw (more, bits-last 0 (take i (drop from us)) (get_or us (from + i) 0), e)

-- ---- a script: a test, and a way to lower that is right where it holds

pub mapped-length : (f : ℕ → ℕ) (us : List ℕ) → length (map f us) ≡ length us
mapped-length f us = length-map us f

module _ {t : ℕ → Bool} {f : ℕ → ℕ} (s : LowersBy t f) where
  pub mapped_at : (us : List ℕ) (i : ℕ) → get_or (map f us) i 0 ≡ f (get_or us i 0)
  mapped_at us i = rw s.none at (get_or-map f us i 0)

  module _ (part : List ℕ) (b : Bytes part) (w : is_well (decoded true part) ≡ true) where
    -- n units that pass the test
    pub window : (from n : ℕ) → all_are t (take n (drop from (units_of true part))) ≡ true
        → take n (drop from (map f (units_of true part))) ≡ take n (drop from (encode16 (lowered (base true part))))
    window from n a =
        let us : List ℕ = units_of true part in
        let vs : List ℕ = encode16 (lowered (base true part)) in
        ext_get_or 0 (take n (drop from (map f us))) (take n (drop from vs))
        (simp (length-take, length-drop, mapped-length, part_length true part b w)) (λ i h.
        let l : i < n = omega (arith, rw length-take at h) in
        let k : i < length (take n (drop from us)) = simp (length-take, length-drop) (omega (arith, simp (length-take, length-drop, mapped-length) at h)) in
        let j : from + i < length us = omega (arith, simp (length-take, length-drop) at k) in
        let p = rw (get_or-take n (drop from us) i 0 l, get_or-drop from us i 0) at (each t (take n (drop from us)) i k a) in
        let q = s.right (get_or us (from + i) 0) p in
        rw (get_or-take n (drop from (map f us)) i 0 l, get_or-take n (drop from vs) i 0 l, get_or-drop from (map f us) i 0, get_or-drop from vs i 0)
        (mapped_at us (from + i) ∙ sym ((place true part b w (from + i) j).0 ∙ below-lowered (get_or (0 ∷ us) (from + i) 0) (get_or us (from + i) 0) q.1 ∙ q.0)))

    -- m of n units tried as units of the script: all are the text's where the test says so
    pub turned : (from m : ℕ) {n : ℕ} {s x q o : List ℕ} → m ≤ n → true ≡ all_are t (take m (drop from (units_of true part)))
        → Wrote s x q (2 * n) → Wrote q (unit_bytes (take m (drop from (map f (units_of true part))))) o (2 * m)
        → (m ≤ n) × (take (2 * m) o ≡ unit_bytes (take m (drop from (encode16 (lowered (base true part)))))) × Wrote s (take (2 * n) o) o (2 * n)
    turned from m h a v u = (h, wrote-taken u ∙ ap unit_bytes (window from m (sym a)), wrote-within v u (omega arith))

    -- the same whatever the test says: else none counts
    pub turned-any : (from m n : ℕ) {all : Bool} {r : ℕ} {s x q o : List ℕ} → m ≤ n → all ≡ all_are t (take m (drop from (units_of true part))) → r ≡ cond all m 0
        → Wrote s x q (2 * n) → Wrote q (unit_bytes (take m (drop from (map f (units_of true part))))) o (2 * m)
        → (r ≤ n) × (take (2 * r) o ≡ unit_bytes (take r (drop from (encode16 (lowered (base true part)))))) × Wrote s (take (2 * n) o) o (2 * n)
    turned-any from m n {all} {r} {s} {x} {q} {o} h a e v u = go all a e
      where
        go : (b : Bool) → b ≡ all_are t (take m (drop from (units_of true part))) → r ≡ cond b m 0
            → (r ≤ n) × (take (2 * r) o ≡ unit_bytes (take r (drop from (encode16 (lowered (base true part)))))) × Wrote s (take (2 * n) o) o (2 * n)
        go true d z = rw z (turned from m h d v u)
        go false d z = (omega arith, rw z, wrote-within v u (omega arith))

-- units whose bits are those of ASCII
pub ascii-taken : (part : List ℕ) (b : Bytes part) (w : is_well (decoded true part) ≡ true) (from n : ℕ) {r : ℕ} {s o : List ℕ} {k : ℕ}
    → r ≡ bits_from 0 (take n (drop from (units_of true part))) → r < 0x80
    → Wrote s (unit_bytes (take n (drop from (map lower_ascii (units_of true part))))) o k
    → take k o ≡ unit_bytes (take n (drop from (encode16 (lowered (base true part)))))
ascii-taken part b w from n e h v =
    wrote-taken v ∙ ap unit_bytes (window caseless-script part b w from n (bits-ascii 0 (take n (drop from (units_of true part))) (omega arith)).1)
