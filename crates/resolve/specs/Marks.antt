-- Marks of rows: where the export of a row stands in the corpus, in steps of 72 bytes, the length of an export, and its kind as a candidate. They stand
-- in the last four bytes of a row (28), so that the report is written without a look at exports that are no candidates. Assumes nothing.
use Rattle.std.specs.Prelude.{◌≡◌, List, [], ◌∷◌, ◌++◌, ℕ, zero, suc, ◌+◌, ◌*◌, ◌/◌, ◌≤◌, ◌<◌, length, drop, get_or}
use Rattle.base.specs.Find.{kept}
use Rattle.base.specs.Number.{le_at}
use Rattle.zen.specs.Zen.{Read}
use Rattle.zen.specs.declared.tables.Export.{Export}
use Rattle.meaning.specs.Scan.{candidate_kind, is_candidate}
use Rattle.packages.specs.Package.{read_in}
use Rattle.packages.specs.Walk.{block_at, place_of}
use Rattle.resolve.specs.Rows.{row_at}

-- the mark of a candidate of a kind that stands in a step
abbrev pub mark_of : ℕ → ℕ → ℕ
mark_of step kind = 4 * step + kind

-- the mark of an export of what was read, if it is a candidate
abbrev pub export_marks : Read → ℕ → Export → List ℕ
export_marks r step e = kept (is_candidate r e) (mark_of step (candidate_kind r e)) []

-- those of exports that stand one behind another, from a step on
unfoldable pub marks_from : Read → ℕ → List Export → List ℕ
marks_from r step [] = []
marks_from r step (e ∷ l) = export_marks r step e ++ marks_from r (suc step) l

-- the step in which the exports of a package at a place of the corpus start, which stand so far behind its block's start
abbrev pub step_at : ℕ → ℕ → ℕ
step_at at exports = (at + 12 + exports) / 72

-- that of the package with the block b, and its marks
abbrev pub step_in : ℕ → List ℕ → ℕ
step_in at b = step_at at (read_in b).layout.summary.exports

abbrev pub marks_of : ℕ → List ℕ → List ℕ
marks_of at b = marks_from (read_in b) (step_in at b) (read_in b).exports

-- of the package at a place, and of the first n packages from a place on
abbrev pub first_step : List ℕ → ℕ → ℕ
first_step s at = step_in at (block_at s at)

abbrev pub marks_at : List ℕ → ℕ → List ℕ
marks_at s at = marks_of at (block_at s at)

unfoldable pub marks_in : List ℕ → ℕ → ℕ → List ℕ
marks_in s at zero = []
marks_in s at (suc n) = marks_in s at n ++ marks_at s (place_of s at n)

-- the rows at the end of a buffer have these marks
pub record MarksIn (marks : List ℕ) (w : List ℕ) : Type 0 where
  pub room : 32 * length marks ≤ length w
  pub is : (r : ℕ) → r < length marks → le_at 4 w (row_at w r + 28) ≡ get_or marks r 0

-- behind n script objects the marks of so many rows are as they were
pub record MarksKept (n rows : ℕ) (w w' : List ℕ) : Type 0 where
  pub size : length w' ≡ length w
  pub same : (r : ℕ) → r < rows → le_at 4 (drop (56 * n) w') (row_at (drop (56 * n) w') r + 28) ≡ le_at 4 (drop (56 * n) w) (row_at (drop (56 * n) w) r + 28)
