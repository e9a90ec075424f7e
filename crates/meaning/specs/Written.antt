-- Corpora and reports as bytes, for the examples: document 01's layouts from the writing side. Assumes nothing.
use Rattle.std.specs.Prelude.{List, [], ◌∷◌, ◌++◌, ℕ, ◌-◌, ◌*◌, length, take, drop}
use Prim.Native.String.{String}
use Rattle.base.specs.Find.{flat}
use Rattle.base.specs.House.{length_first}
use Rattle.base.specs.Literal.{quoted as text}
use Rattle.text.specs.Name.{text_bytes}
use Rattle.base.specs.Number.{be_bytes}
use Rattle.written.specs.BatchBytes.{le4}
use Rattle.meaning.specs.Frame.{Part}
use Rattle.meaning.specs.Report.{report_version}
use Rattle.meaning.specs.Bytes.{corpus_bytes}

-- a corpus of these packages, and of one, whose id is 9
abbrev pub corpus_from : List ℕ → List Part → List ℕ
corpus_from script parts = corpus_bytes (record { script = script; parts = parts })

abbrev pub corpus_of : List ℕ → List ℕ → List ℕ
corpus_of script block = corpus_from script (record { id = 9; block = block } ∷ [])

-- a package block with other instance numbers than 0: of its name, "u32 versioning flag, u32 header size, mapped name", ..
abbrev pub name_numbered : ℕ → List ℕ → List ℕ
name_numbered number block = take 12 block ++ le4 number ++ drop 16 block

-- .. and of its imported names, which end it: "a batch, then a u32 number per name"
abbrev pub imports_numbered : List ℕ → List ℕ → List ℕ
imports_numbered numbers block = take (length block - 4 * length numbers) block ++ flat le4 numbers

-- "8-byte id, text of the package name, 4-byte export count, 4-byte row count, rows in export order"
abbrev pub section_bytes : ℕ → String → ℕ → List (List ℕ) → List ℕ
section_bytes id name exports rows = be_bytes 8 id ++ text_bytes (text name) ++ be_bytes 4 exports ++ be_bytes 4 (length rows) ++ flat (λ r. r) rows

abbrev pub report_bytes : List (List ℕ) → List ℕ
report_bytes sections = length_first (report_version ∷ (be_bytes 4 (length sections) ++ flat (λ s. s) sections))

-- the report on a corpus of one package
abbrev pub reported : String → ℕ → List (List ℕ) → List ℕ
reported name exports rows = report_bytes (section_bytes 9 name exports rows ∷ [])

-- a row's texts
abbrev pub texts : List String → List ℕ
texts ts = flat (λ t. text_bytes (text t)) ts
