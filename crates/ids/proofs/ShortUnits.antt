-- Lemmas for the id of a short name: units of one-byte text, words of units, and the hash of few units by these. Assumes nothing.
use mathlib.Core.Path.{◌≡◌, refl, sym, ◌∙◌, ap}
use mathlib.Core.List.{List, [], ◌∷◌, ◌++◌, map}
use Prim.Native.Nat.{ℕ, zero, suc, ◌+◌, ◌*◌, ◌-◌, ◌/◌, ◌%◌, ◌^◌, ◌≤◌, ◌<◌}
use native.Mathlib.Nat.{zero-add}
use native.Mathlib.Numerals.{add-one}
use native.Mathlib.Omega.{arith}
use lib.ListN.{length, set, get_or, take, drop, replicate, length-append, length-take, length-drop, take-append-drop, get_or-append}
use lib.Seq.{length-take-le, get_or-append-add, get_or-take, get_or-drop}
use Rattle.base.specs.Number.{le_at}
use Rattle.base.specs.NumberLaws.{Bytes, le_at-part, le_at-add}
use Rattle.base.specs.Output.{over, Wrote}
use Rattle.base.specs.OutputLaws.{wrote_as, wrote_count}
use Rattle.text.specs.Utf16.{unit_bytes}
use Rattle.text.specs.Utf16Cases.{Words}
use Rattle.lower.specs.Lower.{lower, lowered}
use Rattle.lower.proofs.LowerLaws.{lower-single}
use Rattle.city.specs.City.{k2, hash_bytes, hash_halves, hash_two, hash_four, city_hash64}
use Rattle.city.specs.CityLaws.{none_is, bytes-is, halves-is, two_is, four_is}
use Rattle.ids.specs.LowerLaws.{lowered-at, lowered-length}
use Rattle.text.specs.UnitBytesLaws.{twice, unit_bytes-length, unit_bytes-take}
use Rattle.ids.proofs.NameUnits.{wrote-unit}

-- ---- units of one-byte text

module _ (part suffix : List ℕ) where
  -- of the base
  pub unit-first : (i : ℕ) → i < length part → get_or (lowered part ++ suffix) i 0 ≡ lower (get_or part i 0)
  unit-first i h = get_or-append (lowered part) suffix 0 i (omega (arith, lowered-length part)) ∙ lowered-at part i h

  -- of the suffix
  pub unit-rest : (i : ℕ) → length part ≤ i → get_or (lowered part ++ suffix) i 0 ≡ get_or suffix (i - length part) 0
  unit-rest i h =
      let e : length (lowered part) + (i - length part) ≡ i = omega (arith, lowered-length part) in
      ap (λ (j : ℕ). get_or (lowered part ++ suffix) j 0) (sym e) ∙ get_or-append-add (lowered part) suffix (i - length part) 0

  -- one unit for each byte
  pub narrow-length : length (lowered part ++ suffix) ≡ length part + length suffix
  narrow-length = rw (length-append, lowered-length)

-- ---- writing

-- bytes that stand there already
pub wrote-there : {s a : List ℕ} {n : ℕ} → take n s ≡ a → n ≤ length s → Wrote s a s n
unfolding over
wrote-there {s} {a} {n} e h =
    let l : length a ≡ n = ap length (sym e) ∙ length-take-le n s h in
    record { size = sym l; fits = h; is = rw (l, ← e) (sym (take-append-drop n s)) }

-- one unit more, u, of those from the first on
pub wrote-next : {s o : List ℕ} (us : List ℕ) (i : ℕ) {u : ℕ} → u ≡ get_or us i 0 → Wrote s (unit_bytes (take i us)) o (2 * i) → i < length us
    → 2 * i + 2 ≤ length s → Wrote s (unit_bytes (take (i + 1) us)) (set (set o (2 * i) (u % 256)) (2 * i + 1) (u / 256)) (2 * (i + 1))
wrote-next us i e w h l = wrote_count (wrote-unit us 0 i (rw zero-add e) w (rw zero-add h) l) (omega arith)

-- ---- units of 16 bits

pub words_append : (s t : List ℕ) → Words s → Words t → Words (s ++ t)
words_append [] t a b i = b i
words_append (u ∷ s) t a b zero = a zero
words_append (u ∷ s) t a b (suc i) = words_append s t (λ j. a (suc j)) b i

lowered-words : (part : List ℕ) → Bytes part → Words (lowered part)
lowered-words [] b i = omega arith
lowered-words (c ∷ part) b zero = lower-single c (omega (arith, b 0))
lowered-words (c ∷ part) b (suc i) = lowered-words part (λ j. b (suc j)) i

pub name-words : (part suffix : List ℕ) → Bytes part → Bytes suffix → Words (lowered part ++ suffix)
name-words part suffix a b = words_append (lowered part) suffix (lowered-words part a) (λ i. omega (arith, b i))

pub zeros-words : (n : ℕ) → Words (replicate n 0)
zeros-words zero i = omega arith
zeros-words (suc n) zero = omega arith
zeros-words (suc n) (suc i) = zeros-words n i

-- where they were written over others
pub over-words : {s a o : List ℕ} {n : ℕ} → Wrote s a o n → Words s → Words a → Words o
unfolding over
over-words {s} {a} w h k = rw w.is (words_append a (drop (length a) s) k (λ i. rw (get_or-drop (length a) s i 0) (h (length a + i))))

-- ---- words of units

-- the unit at i, and what stands behind it
word-step : (k : ℕ) (us : List ℕ) (i : ℕ) → i < length us
    → le_at (suc (suc k)) (unit_bytes us) (2 * i) ≡ get_or us i 0 + 65536 * le_at k (unit_bytes us) (2 * suc i)
unfolding le_at
word-step k [] i h = absurd (omega arith)
word-step k (u ∷ us) zero h = omega arith
word-step k (u ∷ us) (suc i) h = rw (twice i, twice (suc i)) (word-step k us i (omega arith))

no_word : (s : List ℕ) (i : ℕ) → le_at 0 s i ≡ 0
unfolding le_at
no_word s i = refl

module _ (us : List ℕ) (i : ℕ) where
  pub pair_of : i + 2 ≤ length us → le_at 4 (unit_bytes us) (2 * i) ≡ get_or us i 0 + get_or us (i + 1) 0 * 2 ^ 16
  pair_of h =
      rw (add-one i)
      (omega (arith, word-step 2 us i (omega arith), word-step 0 us (suc i) (omega arith), no_word (unit_bytes us) (2 * suc (suc i))))

  -- a word is two half words
  pub word-halves : i + 4 ≤ length us → le_at 8 (unit_bytes us) (2 * i) ≡ le_at 4 (unit_bytes us) (2 * i) + le_at 4 (unit_bytes us) (2 * (i + 2)) * 2 ^ 32
  word-halves h =
      let d : 2 * (i + 2) ≡ 2 * i + 4 = omega arith in
      rw d (omega (arith, le_at-add 4 4 (unit_bytes us) (2 * i) (omega (arith, unit_bytes-length us))))

module _ (us : List ℕ) (i : ℕ) where
  -- and four units
  pub word_of : i + 4 ≤ length us
      → le_at 8 (unit_bytes us) (2 * i) ≡ get_or us i 0 + get_or us (i + 1) 0 * 2 ^ 16 + get_or us (i + 2) 0 * 2 ^ 32 + get_or us (i + 3) 0 * 2 ^ 48
  word_of h =
      let e : i + 2 + 1 ≡ i + 3 = omega arith in
      omega (arith, word-halves us i h, pair_of us i (omega arith), rw e at (pair_of us (i + 2) (omega arith)))

-- ---- the hash of n units

one-is : (us : List ℕ) → 1 ≡ length us
    → city_hash64 (unit_bytes us) ≡ hash_bytes 2 (get_or us 0 0 % 256) (get_or us 0 0 / 256) (get_or us 0 0 / 256)
one-is [] h = absurd (omega arith)
one-is (u ∷ []) h = bytes-is (u % 256 ∷ u / 256 ∷ []) 2 refl (omega arith) (omega arith)
one-is (u ∷ v ∷ us) h = absurd (omega arith)

module _ (us : List ℕ) (n : ℕ) (h : n ≡ length us) where
  size : length (unit_bytes us) ≡ 2 * n
  size = unit_bytes-length us ∙ ap (λ (k : ℕ). 2 * k) (sym h)

  pub units-none : n ≡ 0 → city_hash64 (unit_bytes us) ≡ k2
  units-none e = none_is (unit_bytes us) (2 * n) size (omega arith)

  pub units-one : n ≡ 1 → city_hash64 (unit_bytes us) ≡ hash_bytes 2 (get_or us 0 0 % 256) (get_or us 0 0 / 256) (get_or us 0 0 / 256)
  units-one e = one-is us (sym e ∙ h)

  pub units-halves : 2 ≤ n → n < 4 → city_hash64 (unit_bytes us) ≡ hash_halves (2 * n) (le_at 4 (unit_bytes us) 0) (le_at 4 (unit_bytes us) (2 * (n - 2)))
  units-halves a b =
      let e : 2 * n - 4 ≡ 2 * (n - 2) = omega arith in
      halves-is (unit_bytes us) (2 * n) size (omega arith) (omega arith) ∙ rw e

  pub units-two : 4 ≤ n → n ≤ 8
      → city_hash64 (unit_bytes us) ≡ hash_two (2 * n) (le_at 8 (unit_bytes us) 0) (le_at 8 (unit_bytes us) (2 * (n - 4)))
  units-two a b =
      let e : 2 * n - 8 ≡ 2 * (n - 4) = omega arith in
      two_is (unit_bytes us) (2 * n) size (omega arith) (omega arith) ∙ rw e

  pub units-four : 8 < n → n ≤ 16
      → city_hash64 (unit_bytes us)
      ≡ hash_four (2 * n) (le_at 8 (unit_bytes us) 0) (le_at 8 (unit_bytes us) 8) (le_at 8 (unit_bytes us) (2 * (n - 4))) (le_at 8 (unit_bytes us) (2 * (n - 8)))
  units-four a b =
      let e : 2 * n - 8 ≡ 2 * (n - 4) = omega arith in
      let f : 2 * n - 16 ≡ 2 * (n - 8) = omega arith in
      four_is (unit_bytes us) (2 * n) size (omega arith) (omega arith) ∙ rw (e, f)

-- ---- the hash of the first n of some units

module _ (us : List ℕ) (n : ℕ) (h : n ≤ length us) where
  size-first : n ≡ length (take n us)
  size-first = sym (length-take-le n us h)

  -- a number that stands in their bytes
  front : (k i : ℕ) → 2 * i + k ≤ 2 * n → le_at k (unit_bytes (take n us)) (2 * i) ≡ le_at k (unit_bytes us) (2 * i)
  front k i l = rw (unit_bytes-take n us) (le_at-part k 0 (2 * n) (unit_bytes us) (2 * i) l ∙ ap (le_at k (unit_bytes us)) (zero-add (2 * i)))

  pub first-none : n ≡ 0 → city_hash64 (unit_bytes (take n us)) ≡ k2
  first-none e = units-none (take n us) n size-first e

  pub first_one : n ≡ 1 → city_hash64 (unit_bytes (take n us)) ≡ hash_bytes 2 (get_or us 0 0 % 256) (get_or us 0 0 / 256) (get_or us 0 0 / 256)
  first_one e = units-one (take n us) n size-first e ∙ rw (get_or-take n us 0 0 (omega arith))

  pub first_halves : 2 ≤ n → n < 4
      → city_hash64 (unit_bytes (take n us)) ≡ hash_halves (2 * n) (le_at 4 (unit_bytes us) 0) (le_at 4 (unit_bytes us) (2 * (n - 2)))
  first_halves a b = units-halves (take n us) n size-first a b ∙ rw (front 4 0 (omega arith), front 4 (n - 2) (omega arith))

  pub first_two : 4 ≤ n → n ≤ 8
      → city_hash64 (unit_bytes (take n us)) ≡ hash_two (2 * n) (le_at 8 (unit_bytes us) 0) (le_at 8 (unit_bytes us) (2 * (n - 4)))
  first_two a b = units-two (take n us) n size-first a b ∙ rw (front 8 0 (omega arith), front 8 (n - 4) (omega arith))

  pub units-four-first : 8 < n → n ≤ 16
      → city_hash64 (unit_bytes (take n us))
      ≡ hash_four (2 * n) (le_at 8 (unit_bytes us) 0) (le_at 8 (unit_bytes us) 8) (le_at 8 (unit_bytes us) (2 * (n - 4))) (le_at 8 (unit_bytes us) (2 * (n - 8)))
  units-four-first a b =
      units-four (take n us) n size-first a b
      ∙ rw (front 8 0 (omega arith), front 8 4 (omega arith), front 8 (n - 4) (omega arith), front 8 (n - 8) (omega arith))

-- ---- bytes lowered one by one

pub lowered-map : (part : List ℕ) → map lower part ≡ lowered part
lowered-map [] = refl
lowered-map (c ∷ part) = ap (λ (s : List ℕ). lower c ∷ s) (lowered-map part)

pub map-same : (s : List ℕ) → map (λ (b : ℕ). b) s ≡ s
map-same [] = refl
map-same (c ∷ s) = ap (λ (t : List ℕ). c ∷ t) (map-same s)

-- those from a place on
lowered-take : (n : ℕ) (s : List ℕ) → lowered (take n s) ≡ take n (lowered s)
lowered-take zero s = refl
lowered-take (suc n) [] = refl
lowered-take (suc n) (c ∷ s) = ap (λ (t : List ℕ). lower c ∷ t) (lowered-take n s)

lowered-drop : (n : ℕ) (s : List ℕ) → lowered (drop n s) ≡ drop n (lowered s)
lowered-drop zero s = refl
lowered-drop (suc n) [] = refl
lowered-drop (suc n) (c ∷ s) = lowered-drop n s

pub lowered-part : (from n : ℕ) (s : List ℕ) → lowered (take n (drop from s)) ≡ take n (drop from (lowered s))
lowered-part from n s = lowered-take n (drop from s) ∙ ap (take n) (lowered-drop from s)

-- what is written of a part of some bytes
pub wrote-part : {s o : List ℕ} (part : List ℕ) (from n k : ℕ) → k ≡ n → from + n ≤ length part
    → Wrote s (unit_bytes (lowered (take k (drop from part)))) o (2 * length (take k (drop from part)))
    → Wrote s (unit_bytes (take n (drop from (lowered part)))) o (2 * n)
wrote-part part from n k e h w =
    wrote_count (wrote_as (rw e at w) (ap unit_bytes (lowered-part from n part)))
    (ap (λ (m : ℕ). 2 * m) (simp (length-take, length-drop) (omega arith)))

-- the same of bytes that stay
pub wrote-plain : {s o : List ℕ} (part : List ℕ) (from n k : ℕ) → k ≡ n → from + n ≤ length part
    → Wrote s (unit_bytes (map (λ (b : ℕ). b) (take k (drop from part)))) o (2 * length (take k (drop from part)))
    → Wrote s (unit_bytes (take n (drop from part))) o (2 * n)
wrote-plain part from n k e h w =
    wrote_count (rw (map-same, e) at w) (ap (λ (m : ℕ). 2 * m) (simp (length-take, length-drop) (omega arith)))
