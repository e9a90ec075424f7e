-- How long rows, sections and the report are: the sum that question 26 weighs, from the lengths of the texts alone. Assumes nothing.
use Rattle.std.specs.Prelude.{◌≡◌, List, ℕ, ◌+◌}
use Rattle.std.proofs.Common.{◌∙◌, arith, length-append}
use Rattle.std.proofs.Math.Option.{Option}
use Rattle.std.proofs.Math.ListN.{length}
use Rattle.base.specs.Find.{sum}
use Rattle.base.specs.FindLaws.{length-flat, sum_same}
use Rattle.base.specs.HouseLaws.{length_first_lem}
use Rattle.text.specs.NameLaws.{text_bytes-length}
use Rattle.base.specs.NumberLaws.{length-be_bytes}
use Rattle.scriptblock.specs.Script.{Objects}
use Rattle.zen.specs.Zen.{package_name}
use Rattle.meaning.specs.Key.{Key}
use Rattle.meaning.specs.Reference.{Package}
use Rattle.meaning.specs.Scan.{Class, candidates, table}
use Rattle.meaning.specs.Resolve.{Limits, look}
use Rattle.meaning.specs.Report.{Row, row_rest, row_bytes, size, row_size, row_of, section, report_of}

pub row-length : (r : Row) → length (row_bytes r) ≡ row_size r
unfolding row_bytes row_rest row_size
row-length r = rw (length_first_lem) (simp (length-append, text_bytes-length) (omega arith))

module _ (m : Limits) (f : Key → Option Class) (o : Objects) where
  -- id, name with its length field, export count, row count, rows
  unfoldable pub section_size : Package → ℕ
  section_size p = 8 + (4 + size (package_name p.read)) + 4 + 4 + sum (λ e. row_size (row_of m f o p e)) (candidates p.read)

  pub section-length : (p : Package) → length (section m f o p) ≡ section_size p
  unfolding section section_size
  section-length p =
      let rows =
      length-flat (λ e. row_bytes (row_of m f o p e)) (candidates p.read)
      ∙ sum_same (λ e. length (row_bytes (row_of m f o p e))) (λ e. row_size (row_of m f o p e)) (λ e. row-length (row_of m f o p e)) (candidates p.read) in
      simp (length-append, length-be_bytes, text_bytes-length, rows) (omega arith)

-- THE SUM: 9 bytes and the sections
pub report-length : (m : Limits) (o : Objects) (ps : List Package) → length (report_of m o ps) ≡ 9 + sum (section_size m (look (table m.objects o ps)) o) ps
unfolding report_of
report-length m o ps =
    let f = look (table m.objects o ps) in
    let sections = length-flat (section m f o) ps ∙ sum_same (λ p. length (section m f o p)) (section_size m f o) (section-length m f o) ps in
    rw (length_first_lem) (simp (length-append, length-be_bytes, sections) (omega arith))
