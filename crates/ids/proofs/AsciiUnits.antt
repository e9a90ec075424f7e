-- Lemmas for the id of a short name of wide text that is ASCII: its units in an array of numbers. Assumes nothing.
use mathlib.Core.Path.{◌≡◌, refl, sym, ◌∙◌, ap}
use mathlib.Core.Bool.{true, ◌&&◌, and-true, and_assoc}
use mathlib.Core.List.{List, [], ◌∷◌, ◌++◌, map}
use mathlib.Core.Logic.{by_cases}
use Prim.Native.Nat.{ℕ, zero, suc, ◌+◌, ◌-◌, ◌≤◌, ◌<◌}
use native.Mathlib.Decide.{dec_lt}
use native.Mathlib.Numerals.{add-one, add-two, add-three}
use native.Mathlib.Omega.{arith}
use lib.Bits.{bit_or, or_zero_l}
use lib.Dec.{ltb}
use lib.ListN.{length, set, get_or, take, drop, get_or-eq_default}
use lib.Seq.{sets-eq, paste, drop-cons, take_all}
use Rattle.std.proofs.Common.{lt-ltb, ltb-true}
use Rattle.lower.specs.Ascii.{lower_ascii}
use Rattle.lower.specs.Lower.{lowered}
use Rattle.rules.specs.Caseless.{caseless}
use Rattle.rules.specs.ScriptLaws.{caseless-script}
use Rattle.base.specs.NumberLaws.{Bytes}
use Rattle.text.specs.Affix.{all_ascii}
use Rattle.text.specs.PlainLaws.{or_ascii, ascii_cover}
use Rattle.text.specs.Utf16.{is_well, encode16}
use Rattle.text.specs.Utf16Cases.{Words}
use Rattle.text.specs.Name.{decoded, base}
use Rattle.text.specs.Units.{units_of}
use Rattle.text.specs.UnitsLaws.{units_of-words}
use Rattle.ids.specs.LoweredUnits.{all_are, bits_from, name_units}
use Rattle.ids.proofs.NameUnits.{part_length, place}
use Rattle.ids.proofs.ShortUnits.{words_append}
use Rattle.ids.proofs.WideUnits.{bits-ascii, mapped-length, mapped_at, window, lowered-word}

-- ---- four units at once

-- the k elements of s from a place on, one by one
abbrev singly : ℕ → List ℕ → ℕ → List ℕ
singly zero s i = []
singly (suc k) s i = get_or s i 0 ∷ singly k s (suc i)

singly-is : (k : ℕ) (s : List ℕ) (i : ℕ) → i + k ≤ length s → singly k s i ≡ take k (drop i s)
singly-is zero s i h = refl
singly-is (suc k) s i h = rw (drop-cons s i 0 (omega arith), singly-is k s (suc i) (omega arith))

module _ (s : List ℕ) (i : ℕ) (h : i + 4 ≤ length s) where
  -- their bits
  pub four-bits : bit_or (bit_or (bit_or (get_or s i 0) (get_or s (i + 1) 0)) (get_or s (i + 2) 0)) (get_or s (i + 3) 0) ≡ bits_from 0 (take 4 (drop i s))
  four-bits = rw (add-one, add-two, add-three) (sym (ap (bits_from 0) (sym (singly-is 4 s i h)) ∙ rw (or_zero_l (get_or s i 0))))

  -- stored one after the other
  pub four-stored : (o : List ℕ) → i + 4 ≤ length o
      → set (set (set (set o i (get_or s i 0)) (i + 1) (get_or s (i + 1) 0)) (i + 2) (get_or s (i + 2) 0)) (i + 3) (get_or s (i + 3) 0) ≡ paste o i (drop i s) 4
  four-stored o l = rw (add-one, add-two, add-three) (sets-eq (singly 4 s i) o i l ∙ rw (singly-is 4 s i h))

-- a unit lowered as the code does it
pub lowered-there : (us : List ℕ) (i : ℕ) {u v : ℕ} → v ≡ lower_ascii u → u ≡ get_or us i 0 → v ≡ get_or (map lower_ascii us) i 0
lowered-there us i e f = e ∙ ap lower_ascii f ∙ sym (mapped_at caseless-script us i)

-- ---- all units are ASCII

-- by their bits and those of b
bits_and : (b : ℕ) (us : List ℕ) → ltb (bits_from b us) 0x80 ≡ (ltb b 0x80 && all_ascii us)
bits_and b [] = sym (and-true (ltb b 0x80))
bits_and b (u ∷ us) = bits_and (bit_or b u) us ∙ rw (or_ascii b u) (and_assoc (ltb b 0x80) (ltb u 0x80) (all_ascii us))

-- by their bits
pub ascii_bits : (us : List ℕ) → ltb (bits_from 0 us) 0x80 ≡ all_ascii us
ascii_bits us = bits_and 0 us

-- by the bits of the first four and the last
pub fours_ascii : (us : List ℕ) (n : ℕ) → n ≡ length us → 4 ≤ n → n ≤ 8
    → ltb (bit_or (bits_from 0 (take 4 us)) (bits_from 0 (take 4 (drop (n - 4) us)))) 0x80 ≡ all_ascii us
fours_ascii us n e a b =
    rw (or_ascii (bits_from 0 (take 4 us)) (bits_from 0 (take 4 (drop (n - 4) us))), ascii_bits (take 4 us), ascii_bits (take 4 (drop (n - 4) us)))
    (ascii_cover 4 us 4 (n - 4) (omega arith) (omega arith))

-- so they are caseless
pub all-caseless : (us : List ℕ) → all_ascii us ≡ true → all_are caseless us ≡ true
all-caseless us a = (bits-ascii 0 us (ltb-true (bits_from 0 us) 0x80 (ascii_bits us ∙ a))).1

pub fours_ascii-caseless : (us : List ℕ) (n : ℕ) → n ≡ length us → 4 ≤ n → n ≤ 8
    → bit_or (bits_from 0 (take 4 us)) (bits_from 0 (take 4 (drop (n - 4) us))) < 0x80 → all_are caseless us ≡ true
fours_ascii-caseless us n e a b h = all-caseless us (sym (fours_ascii us n e a b) ∙ lt-ltb _ 0x80 h)

module _ (part : List ℕ) (b : Bytes part) (w : is_well (decoded true part) ≡ true) where
  -- caseless units are the text's with A to Z lowered
  caseless-units : all_are caseless (units_of true part) ≡ true → map lower_ascii (units_of true part) ≡ encode16 (lowered (base true part))
  caseless-units a =
      let us : List ℕ = units_of true part in
      let vs : List ℕ = encode16 (lowered (base true part)) in
      sym (take_all (length us) (map lower_ascii us) (omega (arith, mapped-length lower_ascii us)))
      ∙ window caseless-script part b w 0 (length us) (rw (take_all (length us) us (omega arith)) a)
      ∙ take_all (length us) vs (omega (arith, part_length true part b w))

  pub ascii-name-caseless : all_are caseless (units_of true part) ≡ true → (suffix : List ℕ) → map lower_ascii (units_of true part) ++ suffix ≡ name_units (base true part) suffix
  unfolding name_units
  ascii-name-caseless a suffix = ap (λ (s : List ℕ). s ++ suffix) (caseless-units a)

  pub ascii-name : all_ascii (units_of true part) ≡ true → (suffix : List ℕ) → map lower_ascii (units_of true part) ++ suffix ≡ name_units (base true part) suffix
  ascii-name a suffix = ascii-name-caseless (all-caseless (units_of true part) a) suffix

  -- each unit of a lowered name has 16 bits
  pub wide-words : (suffix : List ℕ) → Bytes suffix → Words (name_units (base true part) suffix)
  unfolding name_units
  wide-words suffix k =
      let us : List ℕ = units_of true part in
      let vs : List ℕ = encode16 (lowered (base true part)) in
      words_append vs suffix (λ i. by_cases (dec_lt i (length us))
      (λ (h : i < length us). rw (place true part b w i h).0 (lowered-word (get_or (0 ∷ us) i 0) (get_or us i 0) (units_of-words true part b i)))
      (λ (h : ¬ (i < length us)). rw (get_or-eq_default vs 0 {n = i} (omega (arith, part_length true part b w))) (omega arith))) (λ i. omega (arith, k i))
