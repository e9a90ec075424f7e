-- Length and count fields are right: those of the report, of each package's name, of each row and of each text in it, as they stand in the
-- bytes of every accepted report (document 01, "Report": "4-byte length of the rest", "Text: 4-byte length, UTF-8").
use Rattle.std.specs.Prelude.{◌≡◌, ℕ, ◌+◌, take, drop}
use mathlib.Core.List.{List, [], ◌∷◌, Memᴰ}
use Rattle.std.proofs.Math.Option.{Option}
use Rattle.std.proofs.Math.ListN.{length}
use Rattle.base.specs.Find.{flat}
use Rattle.text.specs.Name.{text_bytes}
use Rattle.base.specs.Number.{be, be_bytes}
use Rattle.base.specs.Perm.{All}
use Rattle.scriptblock.specs.Script.{Objects}
use Rattle.zen.specs.Zen.{package_name}
use Rattle.zen.specs.declared.tables.Export.{Export}
use Rattle.meaning.specs.Key.{Key}
use Rattle.meaning.specs.Reference.{Package}
use Rattle.meaning.specs.Scan.{Class, candidates, table}
use Rattle.meaning.specs.Resolve.{Limits, look, path_text}
use Rattle.meaning.specs.Report.{Row, or_unknown, row_bytes, row_of, report_of}

-- the first four bytes say how many follow
abbrev pub Sized : List ℕ → Type 0
Sized bytes = be (take 4 bytes) + 4 ≡ length bytes

-- a row's texts, in order
abbrev pub row_texts : Row → List (List ℕ)
row_texts r = r.instance ∷ r.export ∷ r.outer ∷ or_unknown r.class ∷ or_unknown (path_text r.native) ∷ r.reference ∷ []

-- a row: its own length field, and behind ten bytes its six texts with theirs
pub record RowSized (r : Row) : Type 0 where
  pub own : Sized (row_bytes r)
  pub texts-are : drop 10 (row_bytes r) ≡ flat text_bytes (row_texts r)
  pub texts : All (λ t. Sized (text_bytes t)) (row_texts r)

-- a section: its name's length field, its counts, and its rows
pub record SectionSized (m : Limits) (f : Key → Option Class) (o : Objects) (p : Package) : Type 0 where
  pub name : Sized (text_bytes (package_name p.read))
  pub exports : be (be_bytes 4 (length p.read.exports)) ≡ length p.read.exports
  pub rows : be (be_bytes 4 (length (candidates p.read))) ≡ length (candidates p.read)
  pub each : (e : Export) → Memᴰ e (candidates p.read) → RowSized (row_of m f o p e)

-- a report: its own length field, its package count, and its sections
pub record ReportSized (m : Limits) (o : Objects) (ps : List Package) : Type 0 where
  pub own : Sized (report_of m o ps)
  pub packages : be (take 4 (drop 5 (report_of m o ps))) ≡ length ps
  pub each : (p : Package) → Memᴰ p ps → SectionSized m (look (table m.objects o ps)) o p
