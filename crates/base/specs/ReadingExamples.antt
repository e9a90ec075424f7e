-- Readings computed: what each kind of read gives, where it stands then, what it refuses, and which bits count. Assumes nothing.
use Rattle.std.specs.Prelude.{◌≡◌, refl, true, false, List, [], ◌∷◌, ◌++◌, map, ℕ, ◌*◌, eqb, take, replicate}
use Rattle.std.proofs.Common.{arith}
use Rattle.base.specs.Choose.{pick, choose}
use Rattle.base.specs.Reading.{refused, gives, bad, got, Reading, give, part, run, walk, ◌>>=◌, ◌>>◌, taken, over-bytes}
use Rattle.base.specs.Reading.{bytes_left, place, number, u30, ask, onto, rows, Block, run_block}
use Rattle.base.specs.ReadingLaws.{chain, out}
use Rattle.base.specs.ReadingRows.{cells, map_got}
use Rattle.base.specs.ReadingMarks.{Mark, whole, low, none, Agree, marks, marks_block}
use Rattle.base.specs.ReadingRewrite.{rewrite}
use Rattle.base.specs.ReadingTrail.{trail, copies}

-- ---- one reading of every kind

-- two bytes as a number, one passed over, a name's index, where it stands and what is left, the next two; then question 9
abbrev sample : Reading (List ℕ)
sample = do
  a ← number 2
  over-bytes 1
  i ← u30
  p ← place
  l ← bytes_left
  t ← taken 2
  ask (eqb a 0x0201) 9
  give (a ∷ i ∷ p ∷ l ∷ t)

-- ten bytes: one is left over
abbrev sampled : List ℕ
sampled = 1 ∷ 2 ∷ 7 ∷ 3 ∷ 4 ∷ 5 ∷ 0xFF ∷ 6 ∷ 8 ∷ 9 ∷ []

-- at place 20
abbrev values : List ℕ
values = 0x0201 ∷ 0x3F050403 ∷ 27 ∷ 3 ∷ 6 ∷ 8 ∷ []

-- nine marks of the bytes read
abbrev sample-marks : List Mark
sample-marks = whole ∷ whole ∷ none ∷ whole ∷ whole ∷ whole ∷ low 6 ∷ whole ∷ whole ∷ []

-- a part of a byte, then as many bytes passed over as stand before here, then one that counts
abbrev by_place : Reading (List ℕ)
by_place = do
  x ← part 4 (λ x. give x)
  p ← place
  over-bytes p
  taken 1

pub record Reads : Type 0 where
  pub front-to-back : run sample 20 sampled ≡ gives values
  pub by_position : walk sample (replicate 20 0 ++ sampled) 20 ≡ got values 29
  -- "are its bytes there? 3": with 9 bytes they are, with 8, 6, 2 and 1 they are not
  pub all_there : run sample 20 (take 9 sampled) ≡ gives (0x0201 ∷ 0x3F050403 ∷ 27 ∷ 2 ∷ 6 ∷ 8 ∷ [])
  pub not_there : map (λ n. run sample 20 (take n sampled)) (8 ∷ 6 ∷ 2 ∷ 1 ∷ []) ≡ replicate 4 (refused 3)
  pub all_there-at : walk sample (replicate 20 0 ++ take 9 sampled) 20 ≡ got (0x0201 ∷ 0x3F050403 ∷ 27 ∷ 2 ∷ 6 ∷ 8 ∷ []) 29
  pub not_there-at : map (λ n. walk sample (replicate 20 0 ++ take n sampled) 20) (8 ∷ 6 ∷ 2 ∷ 1 ∷ []) ≡ replicate 4 (bad 3)
  -- a question that fails
  pub asked : run sample 20 (0 ∷ sampled) ≡ refused 9
  pub asked-at : walk sample (0 ∷ sampled) 0 ≡ bad 9
  -- "low 30 bits index the batch"
  pub thirty-bits : map (run u30 0) ((1 ∷ 2 ∷ 3 ∷ 0xC4 ∷ []) ∷ (0 ∷ 0 ∷ 0 ∷ 0x20 ∷ []) ∷ []) ≡ gives 0x04030201 ∷ gives 0x20000000 ∷ []
  -- which bits count: none behind the end, none behind a refusal or where bytes are missing
  pub counts : marks sample 20 sampled ≡ sample-marks ++ none ∷ []
  pub counts_by-place : marks by_place 1 (1 ∷ 2 ∷ 3 ∷ 4 ∷ 5 ∷ []) ≡ low 4 ∷ none ∷ none ∷ whole ∷ none ∷ []
  pub counts_by_position : trail sample (replicate 20 0 ++ sampled) 20 ≡ sample-marks
  pub counts-refused : marks sample 0 (0 ∷ sampled) ≡ sample-marks ++ none ∷ none ∷ []
  pub counts-missing : map (λ n. marks sample 0 (take n sampled)) (8 ∷ 6 ∷ 2 ∷ 1 ∷ [])
      ≡ (take 7 sample-marks ++ none ∷ []) ∷ take 6 sample-marks ∷ take 2 sample-marks ∷ (none ∷ []) ∷ []

pub reads : Reads
reads = record {
  front-to-back = refl;
  by_position = refl;
  all_there = refl;
  not_there = refl;
  all_there-at = refl;
  not_there-at = refl;
  asked = refl;
  asked-at = refl;
  thirty-bits = refl;
  counts = refl;
  counts_by-place = refl;
  counts_by_position = refl;
  counts-refused = refl;
  counts-missing = refl;
}

-- ---- records and blocks

-- byte 0 is the size of the header; then what is left in it, and its first byte's low 4 bits
abbrev block : Block (List ℕ)
block = record {
  start = number 1;
  rest = λ size. do
    l ← bytes_left
    p ← place
    x ← part 4 (λ x. give x)
    give (size ∷ l ∷ p ∷ x ∷ []);
}

-- the places from here on
abbrev twice : ℕ → ℕ
twice n = n * 2

pub record Blocks : Type 0 where
  pub in_order_lem : run (rows 3 (number 1)) 0 (1 ∷ 2 ∷ 3 ∷ 4 ∷ []) ≡ gives (1 ∷ 2 ∷ 3 ∷ [])
  pub no_row : run (rows 0 (number 1)) 0 [] ≡ gives []
  pub turned-onto : onto {A = ℕ} (2 ∷ 1 ∷ []) (3 ∷ []) ≡ 1 ∷ 2 ∷ 3 ∷ []
  pub placed : cells twice 10 5 3 ≡ 10 ∷ 30 ∷ 50 ∷ []
  pub repeated : copies {A = ℕ} 3 (1 ∷ 2 ∷ []) ≡ 1 ∷ 2 ∷ 1 ∷ 2 ∷ 1 ∷ 2 ∷ []
  -- only the first three bytes count
  pub read : run_block block (3 ∷ 0x28 ∷ 1 ∷ 7 ∷ 7 ∷ []) ≡ gives (3 ∷ 2 ∷ 1 ∷ 8 ∷ [])
  pub short : run_block block (1 ∷ 0x28 ∷ 1 ∷ []) ≡ refused 3
  pub no_start : run_block block [] ≡ refused 3
  pub counts : marks_block block (3 ∷ 0x28 ∷ 1 ∷ 7 ∷ 7 ∷ []) ≡ whole ∷ low 4 ∷ none ∷ none ∷ none ∷ []
  pub counts-short : marks_block block (1 ∷ 0x28 ∷ 1 ∷ []) ≡ whole ∷ none ∷ none ∷ []
  pub counts-none : marks_block (record { start = number 2; rest = block.rest }) (1 ∷ []) ≡ none ∷ []
  pub counts-from_0 : marks_block (record { start = place >>= number >> number 9; rest = block.rest }) (1 ∷ 2 ∷ []) ≡ none ∷ none ∷ []

pub blocks : Blocks
unfolding rows run_block marks_block
blocks = record {
  in_order_lem = refl;
  no_row = refl;
  turned-onto = refl;
  placed = refl;
  repeated = refl;
  read = refl;
  short = refl;
  no_start = refl;
  counts = refl;
  counts-short = refl;
  counts-none = refl;
  counts-from_0 = refl;
}

-- ---- the bits that count, and those that don't

abbrev three : List Mark
three = whole ∷ low 6 ∷ none ∷ []

pub record Bits : Type 0 where
  -- the same wherever a bit counts
  pub agrees : Agree three (1 ∷ 0x41 ∷ 3 ∷ []) (1 ∷ 0x81 ∷ 9 ∷ [])
  pub not-whole : Agree three (1 ∷ 0x41 ∷ 3 ∷ []) (2 ∷ 0x41 ∷ 3 ∷ []) → ⊥
  pub not_low : Agree three (1 ∷ 0x41 ∷ 3 ∷ []) (1 ∷ 0x61 ∷ 3 ∷ []) → ⊥
  pub not-shorter : Agree three (1 ∷ 0x41 ∷ 3 ∷ []) (1 ∷ 0x41 ∷ []) → ⊥
  pub not-longer : Agree three (1 ∷ 0x41 ∷ 3 ∷ []) (1 ∷ 0x41 ∷ 3 ∷ 4 ∷ []) → ⊥
  pub no_byte : Agree three (1 ∷ 0x41 ∷ []) (1 ∷ 0x41 ∷ []) → ⊥
  pub no_mark : Agree [] (1 ∷ []) (1 ∷ []) → ⊥
  -- new values for the bits that don't count
  pub new-values : rewrite three (1 ∷ 0x41 ∷ 3 ∷ []) (0xFF ∷ 0xBF ∷ 0xFF ∷ []) ≡ 1 ∷ 0x81 ∷ 0xFF ∷ []
  pub no_values : rewrite three (1 ∷ 0x41 ∷ 3 ∷ []) (0xFF ∷ []) ≡ 1 ∷ 0x41 ∷ 3 ∷ []
  pub no_bytes : rewrite three (1 ∷ []) (0xFF ∷ 0xFF ∷ []) ≡ 1 ∷ []
  pub no_marks : rewrite [] (1 ∷ []) (0xFF ∷ []) ≡ 1 ∷ []

pub bits : Bits
bits = record {
  agrees = (refl, (refl, (tt, tt)));
  not-whole = λ a. omega (arith, a.0);
  not_low = λ a. omega (arith, a.1.0);
  not-shorter = λ a. a.1.1;
  not-longer = λ a. a.1.1.1;
  no_byte = λ a. a.1.1;
  no_mark = λ a. a;
  new-values = refl;
  no_values = refl;
  no_bytes = refl;
  no_marks = refl;
}

-- ---- small parts

pub record Small : Type 0 where
  pub picked : pick {A = ℕ} true 1 2 ∷ pick false 1 2 ∷ [] ≡ 1 ∷ 2 ∷ []
  pub chosen : choose {A = ℕ} true (λ _. 1) (λ _. 2) ∷ choose false (λ _. 1) (λ _. 2) ∷ [] ≡ 1 ∷ 2 ∷ []
  pub chained : chain {A = ℕ} (got 1 2) (λ a n. got (a ∷ n ∷ []) 3) ≡ got (1 ∷ 2 ∷ []) 3
  pub chained-bad : chain {A = ℕ} (bad 5) (λ a n. got a n) ≡ bad 5
  pub came-out : out {A = ℕ} (bad 5) ∷ out (got 1 2) ∷ [] ≡ refused 5 ∷ gives 1 ∷ []
  pub mapped : map_got twice (bad 5) ∷ map_got twice (got 3 4) ∷ [] ≡ bad 5 ∷ got 6 4 ∷ []

pub small : Small
small = record { picked = refl; chosen = refl; chained = refl; chained-bad = refl; came-out = refl; mapped = refl }
