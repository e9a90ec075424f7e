-- A case of the recorded list (data/README.md has its layout). Assumes nothing.
use Rattle.std.specs.Prelude.{List, [], ℕ, Bool, cond, ◌||◌, ◌+◌, ltb, length, take, drop}
use Rattle.base.specs.Number.{be_at}

-- "4, n: length of the corpus, corpus", and the report likewise
abbrev pub part : List ℕ → List ℕ
part s = take (be_at 4 s 0) (drop 4 s)

-- what stands behind it
abbrev pub behind : List ℕ → List ℕ
behind s = drop (be_at 4 s 0) (drop 4 s)

-- whether the list ends inside it
abbrev pub cut : List ℕ → Bool
cut s = ltb (length s) (4 + be_at 4 s 0)

-- behind the corpus: the three numbers, and behind these the report
abbrev pub numbers : List ℕ → List ℕ
numbers s = behind s

abbrev pub reported : List ℕ → List ℕ
reported s = drop 24 (numbers s)

-- the report: none where the list ends inside it
abbrev pub report_in : List ℕ → List ℕ
report_in s = cond (cut (reported s)) [] (part (reported s))

-- what stands behind the first case: nothing where the list ends inside its report
abbrev pub rest_of : List ℕ → List ℕ
rest_of s = cond (cut (reported s)) [] (behind (reported s))

-- whether the list ends inside its first case, before the report
abbrev pub case_cut : List ℕ → Bool
case_cut s = cut s || ltb (length (numbers s)) 24
