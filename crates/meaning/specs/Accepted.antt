-- What it is that a corpus is accepted (document 01: "a corpus that fails none is accepted, and these corpora are the domain"): every question
-- answered yes, as facts, in their order. `from-answer` is the way in, `to-answer` the way out.
use Rattle.std.specs.Prelude.{◌≡◌, true, false, ◌&&◌, ℕ, length}
use mathlib.Core.List.{List, [], ◌∷◌}
use Rattle.std.proofs.Math.Dec.{leb}
use Rattle.base.specs.Find.{flat}
use Rattle.base.specs.House.{longest_output}
use Rattle.base.specs.Perm.{All}
use Rattle.base.specs.Reading.{Out, refused, gives, run, run_block}
use Rattle.scriptblock.specs.Script.{Objects, script}
use Rattle.zen.specs.Zen.{Read, package_block}
use Rattle.meaning.specs.Frame.{Part, Corpus}
use Rattle.meaning.specs.Reference.{Package}
use Rattle.meaning.specs.Scan.{table}
use Rattle.meaning.specs.Resolve.{Limits}
use Rattle.meaning.specs.Report.{report_of}
use Rattle.meaning.specs.Call.{holding, work_bytes}
use Rattle.meaning.specs.Table.{repeats}

-- ---- the packages of a corpus

-- a package whose block passes every question
abbrev pub Good : Part → Type 0
Good p = (r : Read) × (run_block package_block p.block ≡ gives r)

abbrev pub package_of : ℕ → Out Read → List Package
package_of id (refused q) = []
package_of id (gives r) = record { id = id; read = r } ∷ []

-- a package as it is read, if its block passes every question
unfoldable pub read_of : Part → List Package
read_of p = package_of p.id (run_block package_block p.block)

-- those of a corpus
abbrev pub packages_in : Corpus → List Package
packages_in c = flat read_of c.parts

-- ---- what it is to be opened: questions 3 to 24

pub record Opens (m : Limits) (c : Corpus) : Type 0 where
  pub objects : Objects
  -- 3 to 13
  pub script-is : run script 0 c.script ≡ gives objects
  -- 3 to 7, 10, 14 to 22
  pub good : All Good c.parts
  -- 24
  pub once : repeats [] (table m.objects objects (packages_in c)) ≡ false

-- ---- what it is to be accepted

-- the corpus c is accepted with buffers of these lengths, and this is its report
pub record Accepted (m : Limits) (c : Corpus) (work room : ℕ) (report : List ℕ) : Type 0 where
  pub opens : Opens m c
  -- 25
  pub works : leb (work_bytes (holding m opens.objects (packages_in c))) work ≡ true
  -- 26
  pub fits : leb (length report) longest_output && leb (length report) room ≡ true
  pub is : report ≡ report_of m opens.objects (packages_in c)
