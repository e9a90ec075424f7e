-- Every text of a report is one of the Unicode Standard (demand 2): a list of scalar values, so that its bytes are UTF-8 and say it again.
use mathlib.Core.List.{List, Memᴰ}
use Rattle.base.specs.Perm.{All}
use Rattle.text.specs.Utf16.{Scalars}
use Rattle.scriptblock.specs.Script.{Objects}
use Rattle.zen.specs.Zen.{package_name}
use Rattle.zen.specs.declared.tables.Export.{Export}
use Rattle.meaning.specs.Reference.{Package}
use Rattle.meaning.specs.Scan.{table}
use Rattle.meaning.specs.Resolve.{Limits, look}
use Rattle.meaning.specs.Report.{row_of}
use Rattle.meaning.specs.Fields.{row_texts}

-- what every report's texts are
pub record TextsScalar (m : Limits) (o : Objects) (ps : List Package) : Type 0 where
  pub name : (p : Package) → Memᴰ p ps → Scalars (package_name p.read)
  pub row : (p : Package) → Memᴰ p ps → (e : Export) → All Scalars (row_texts (row_of m (look (table m.objects o ps)) o p e))
