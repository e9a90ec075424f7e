-- Laws of a lowered text: of its scalar values, of its units. Assumes nothing.
use Rattle.std.specs.Prelude.{◌≡◌, refl, List, [], ◌∷◌, ◌++◌, ◌⊎◌, ℕ, zero, suc, ◌+◌, ◌-◌, ◌/◌, ◌%◌, ◌≤◌, ◌<◌, length, get_or}
use Rattle.std.proofs.Common.{sym, ◌∙◌, ap, inl, inr, arith, lt-ltb, le-ltb}
use Rattle.std.proofs.Math.Logic.{by_cases}
use Rattle.std.proofs.Math.Decide.{dec_lt}
use Rattle.lower.specs.Lower.{lower, lowered}
use Rattle.lower.specs.LowerLaws.{Alike}
use Rattle.lower.proofs.LowerLaws.{lower-alike, lower-single, lower_double}
use Rattle.base.specs.NumberLaws.{Bytes}
use Rattle.text.specs.Utf16.{Scalar, Scalars, of_pair, encode_one, encode16}
use Rattle.text.specs.Utf16Cases.{High, Low, Single, high, low, low-high, single-high, single-low}
use Rattle.ids.specs.LoweredUnits.{lowered_unit}

-- ---- scalar values

pub lower-scalar : (c : ℕ) → Scalar c → Scalar (lower c)
lower-scalar c k = go (lower-alike c)
  where
    go : (lower c ≡ c) ⊎ Alike c (lower c) → Scalar (lower c)
    go (inl e) = rw e k
    go (inr (inl w)) = inl w.1
    go (inr (inr (inl w))) = inr (w.2, omega (arith, w.3))
    go (inr (inr (inr w))) = inr (omega (arith, w.1), w.2)

pub lowered-scalars : (t : List ℕ) → Scalars t → Scalars (lowered t)
lowered-scalars [] k = tt
lowered-scalars (c ∷ t) k = (lower-scalar c k.0, lowered-scalars t k.1)

pub lowered_append : (t u : List ℕ) → lowered (t ++ u) ≡ lowered t ++ lowered u
lowered_append [] u = refl
lowered_append (c ∷ t) u = ap (λ (s : List ℕ). lower c ∷ s) (lowered_append t u)

-- ---- units

-- a scalar value of one unit
one_unit : (c : ℕ) (t : List ℕ) → c < 0x10000 → encode16 (c ∷ t) ≡ c ∷ encode16 t
unfolding encode_one encode16
one_unit c t h = rw (lt-ltb c 0x10000 h)

-- one-byte text has one unit for each byte, lowered too
pub narrow-units : (t : List ℕ) → Bytes t → encode16 (lowered t) ≡ lowered t
unfolding encode16
narrow-units [] b = refl
narrow-units (c ∷ t) b =
    one_unit (lower c) (lowered t) (lower-single c (omega (arith, b 0))) ∙ ap (λ (s : List ℕ). lower c ∷ s) (narrow-units t (λ i. b (suc i)))

pub lowered-length : (t : List ℕ) → length (lowered t) ≡ length t
lowered-length [] = refl
lowered-length (c ∷ t) = ap suc (lowered-length t)

pub lowered-at : (t : List ℕ) (i : ℕ) → i < length t → get_or (lowered t) i 0 ≡ lower (get_or t i 0)
lowered-at [] i h = absurd (omega arith)
lowered-at (c ∷ t) zero h = refl
lowered-at (c ∷ t) (suc i) h = lowered-at t i (omega arith)

-- a scalar value of two
leading : ℕ → ℕ
leading c = 0xD800 + (c - 0x10000) / 0x400

trailing : ℕ → ℕ
trailing c = 0xDC00 + (c - 0x10000) % 0x400

two-units : (c : ℕ) (t : List ℕ) → 0x10000 ≤ c → encode16 (c ∷ t) ≡ leading c ∷ trailing c ∷ encode16 t
unfolding encode_one encode16 leading trailing
two-units c t h = rw (le-ltb c 0x10000 h)

-- the units of a lowered text are as many as those of the text
pub lowered-units : (t : List ℕ) → length (encode16 (lowered t)) ≡ length (encode16 t)
lowered-units [] = refl
lowered-units (c ∷ t) =
    by_cases (dec_lt c 0x10000)
    (λ (h : c < 0x10000). rw (one_unit c t h, one_unit (lower c) (lowered t) (lower-single c h), lowered-units t))
    (λ (h : ¬ (c < 0x10000)).
    rw (two-units c t (omega arith), two-units (lower c) (lowered t) (lower_double c (omega arith)).0, lowered-units t))

-- what becomes of each kind of unit
pub single-lowered : (b u : ℕ) → Single u → lowered_unit b u ≡ lower u
unfolding lowered_unit
single-lowered b u k = rw (single-high k, single-low k)

pub high-lowered : (b u : ℕ) → High u → lowered_unit b u ≡ u
unfolding lowered_unit
high-lowered b u k = rw (high k)

pub low-lowered : (b u : ℕ) → Low u → lowered_unit b u ≡ 0xDC00 + (lower (of_pair b u) - 0x10000) % 0x400
unfolding lowered_unit
low-lowered b u k = rw (low-high k, low k)

pair_of : (c : ℕ) → 0x10000 ≤ c → c ≤ 0x10FFFF → of_pair (leading c) (trailing c) ≡ c
unfolding leading trailing
pair_of c a h = omega arith

trailing_of : (c : ℕ) → 0x10000 ≤ c → c ≤ 0x10FFFF → 0xDC00 + (lower (of_pair (leading c) (trailing c)) - 0x10000) % 0x400 ≡ trailing (lower c)
unfolding trailing
trailing_of c a h = ap (λ (x : ℕ). 0xDC00 + (lower x - 0x10000) % 0x400) (pair_of c a h)

leading-high : (c : ℕ) → 0x10000 ≤ c → c ≤ 0x10FFFF → High (leading c)
unfolding leading
leading-high c l h = (omega arith, omega arith)

trailing-low : (c : ℕ) → Low (trailing c)
unfolding trailing
trailing-low c = (omega arith, omega arith)

leading-kept : (c : ℕ) → 0x10000 ≤ c → leading (lower c) ≡ leading c
unfolding leading
leading-kept c l = ap (λ (n : ℕ). 0xD800 + n) (lower_double c l).1

-- at a place in a text's units, when b stands before the text: the unit lowered, and a trailing surrogate behind a leading one
abbrev LoweredAt : ℕ → List ℕ → List ℕ → ℕ → Type 0
LoweredAt b us vs i =
    (get_or vs i 0 ≡ lowered_unit (get_or (b ∷ us) i 0) (get_or us i 0)) × (Low (get_or us i 0) → High (get_or (b ∷ us) i 0))

-- one unit before a text of which this holds
more-one : (b c d : ℕ) (us vs : List ℕ) → d ≡ lowered_unit b c → (Low c → High b) → (i : ℕ) → i < suc (length us)
    → ((j : ℕ) → j < length us → LoweredAt c us vs j) → LoweredAt b (c ∷ us) (d ∷ vs) i
more-one b c d us vs e f zero h k = (e, f)
more-one b c d us vs e f (suc i) h k = k i (omega arith)

-- each unit of a lowered text is the text's unit, lowered by itself and the unit before it, whatever stands before the text
pub lowered_unit_lem : (b : ℕ) (t : List ℕ) → Scalars t → (i : ℕ) → i < length (encode16 t) → LoweredAt b (encode16 t) (encode16 (lowered t)) i
unfolding encode16
lowered_unit_lem b [] k i h = absurd (omega arith)
lowered_unit_lem b (c ∷ t) k i h =
    by_cases (dec_lt c 0x10000) (one (lowered_unit_lem c t k.1)) (λ (g : ¬ (c < 0x10000)). two (lowered_unit_lem (trailing c) t k.1) (omega arith))
  where
    alone : Scalar c → c < 0x10000 → Single c
    alone (inl p) l = inl p
    alone (inr p) l = inr p.0

    single : Single c → Low c → High b
    single (inl p) q = absurd (omega (arith, q.0))
    single (inr p) q = absurd (omega (arith, q.1))

    one : ((j : ℕ) → j < length (encode16 t) → LoweredAt c (encode16 t) (encode16 (lowered t)) j) → c < 0x10000
        → LoweredAt b (encode16 (c ∷ t)) (encode16 (lower c ∷ lowered t)) i
    one ih l =
        let a = alone k.0 l in
        rw (one_unit c t l, one_unit (lower c) (lowered t) (lower-single c l))
        (more-one b c (lower c) (encode16 t) (encode16 (lowered t)) (sym (single-lowered b c a)) (single a) i (rw (one_unit c t l) at h) ih)

    top : Scalar c → 0x10000 ≤ c → c ≤ 0x10FFFF
    top (inl p) l = absurd (omega arith)
    top (inr p) l = p.1

    two : ((j : ℕ) → j < length (encode16 t) → LoweredAt (trailing c) (encode16 t) (encode16 (lowered t)) j) → 0x10000 ≤ c
        → LoweredAt b (encode16 (c ∷ t)) (encode16 (lower c ∷ lowered t)) i
    two ih l =
        let g = leading-high c l (top k.0 l) in
        rw (two-units c t l, two-units (lower c) (lowered t) (lower_double c l).0, leading-kept c l)
        (more-one b (leading c) (leading c) (trailing c ∷ encode16 t) (trailing (lower c) ∷ encode16 (lowered t)) (sym (high-lowered b (leading c) g))
        (λ q. absurd (omega (arith, q.0, g.1))) i (rw (two-units c t l) at h)
        (λ j m. more-one (leading c) (trailing c) (trailing (lower c)) (encode16 t) (encode16 (lowered t))
        (sym (low-lowered (leading c) (trailing c) (trailing-low c) ∙ trailing_of c l (top k.0 l))) (λ q. g) j m ih))

-- lowering keeps each leading surrogate
pub leading_stays : (t : List ℕ) → Scalars t → (i : ℕ) → i < length (encode16 t) → High (get_or (encode16 t) i 0)
    → get_or (encode16 (lowered t)) i 0 ≡ get_or (encode16 t) i 0
leading_stays t k i h g = (lowered_unit_lem 0 t k i h).0 ∙ high-lowered (get_or (0 ∷ encode16 t) i 0) (get_or (encode16 t) i 0) g

-- a unit below the surrogates is lowered by itself
pub below-lowered : (b u : ℕ) → u < 0xD800 → lowered_unit b u ≡ lower u
below-lowered b u h = single-lowered b u (inl h)
