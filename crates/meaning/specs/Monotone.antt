-- Two accepted calls on one corpus that differ in limits and buffers (document 02, Q-5: "Where two calls on a corpus differ only in limits, neither
-- limit of the second is smaller, and both accept, a class or native class known in the first is known with the same text in the second"). Both
-- reports are made of the rows of the same exports of the same packages. That the second accepts is what its look-up needs: within more objects
-- there may be more classes, and question 24 says that none of them has the key of another.
use Rattle.std.specs.Prelude.{◌≡◌, ℕ}
use mathlib.Core.List.{List}
use Rattle.std.proofs.Math.Option.{some}
use Rattle.base.specs.Perm.{All}
use Rattle.base.specs.Reading.{gives, run}
use Rattle.scriptblock.specs.Script.{Objects, script}
use Rattle.zen.specs.declared.tables.Export.{Export}
use Rattle.meaning.specs.Frame.{Corpus, framed}
use Rattle.meaning.specs.Path.{Path}
use Rattle.meaning.specs.Reference.{Package}
use Rattle.meaning.specs.Scan.{table}
use Rattle.meaning.specs.Resolve.{Limits, look}
use Rattle.meaning.specs.Report.{Row, row_of, report_of}
use Rattle.meaning.specs.Accepted.{Good as GoodPart, packages_in}

-- the row of an export, within these limits; ps: the packages that there are
abbrev pub row_within : Limits → Objects → List Package → Package → Export → Row
row_within m o ps p e = row_of m (look (table m.objects o ps)) o p e

-- the two rows of an export: a class that is known stays, with its kind, and a native class that is known, with its path
pub record Stays (r₁ r₂ : Row) : Type 0 where
  pub class : (t : List ℕ) → r₁.class ≡ some t → (r₂.class ≡ some t) × (r₂.class_kind ≡ r₁.class_kind)
  pub native : (p : Path) → r₁.native ≡ some p → r₂.native ≡ some p

-- the two reports
pub record Monotone (m₁ m₂ : Limits) (s report₁ report₂ : List ℕ) : Type 0 where
  -- the corpus as both calls read it
  pub corpus : Corpus
  pub framed_is : framed s ≡ gives corpus
  pub objects : Objects
  pub script-is : run script 0 corpus.script ≡ gives objects
  pub good : All GoodPart corpus.parts
  -- what both write
  pub report₁_is : report₁ ≡ report_of m₁ objects (packages_in corpus)
  pub report₂_is : report₂ ≡ report_of m₂ objects (packages_in corpus)
  -- row by row
  pub rows_stay : (p : Package) (e : Export) → Stays (row_within m₁ objects (packages_in corpus) p e) (row_within m₂ objects (packages_in corpus) p e)
