-- The house form is one form in bytes for each description: its bytes are read as it, and whatever is read is its bytes.
use Rattle.std.specs.Prelude.{◌≡◌, eqb}
use mathlib.Core.List.{List}
use Prim.Native.Nat.{ℕ, ◌+◌, ◌^◌, ◌<◌}
use Rattle.std.proofs.Math.ListN.{length}
use Rattle.base.specs.House.{be_number}
use Rattle.base.specs.Perm.{All}
use Rattle.base.specs.Reading.{Reading, give, ◌>>=◌, ◌>>◌, bytes_left, ask}
use Rattle.text.specs.Utf16.{Scalars}
use Rattle.text.specs.Utf8.{utf8}
use Rattle.written.specs.HeaderBytes.{ImportedName, Description}
use Rattle.zen.specs.declared.tables.Export.{Export}
use Rattle.description.specs.Form.{text, export, imported, list_of}
use Rattle.description.specs.FormBytes.{content_form}

-- ---- what fits its fields

pub record TextFits (t : List ℕ) : Type 0 where
  pub well : Scalars t
  pub size : length (utf8 t) < 256 ^ 4

pub record ExportFits (e : Export) : Type 0 where
  pub index : e.index < 256 ^ 4
  pub number : e.number < 256 ^ 4
  pub outer : e.outer < 256 ^ 8
  pub class : e.class < 256 ^ 8
  pub parent : e.parent < 256 ^ 8
  pub hash : e.hash < 256 ^ 8

pub record ImportedFits (i : ImportedName) : Type 0 where
  pub text : TextFits i.text
  pub number : i.number < 256 ^ 4

pub record ListFits {A : Type 0} (Ok : A → Type 0) (l : List A) : Type 0 where
  pub count : length l < 256 ^ 4
  pub each : All Ok l

pub record Fits (d : Description) : Type 0 where
  pub name : d.name < 256 ^ 4
  pub number : d.number < 256 ^ 4
  pub texts : ListFits TextFits d.texts
  pub exports : ListFits ExportFits d.exports
  pub hashes : ListFits (λ h. h < 256 ^ 8) d.hashes
  pub imported : ListFits ImportedFits d.imported

-- its house form: the length of the rest fits its four bytes too
pub record Housed (d : Description) : Type 0 where
  pub fits : Fits d
  pub size : 1 + length (content_form d) < 256 ^ 4

-- the form, from its parts
abbrev pub ended : ℕ → ℕ → List (List ℕ) → List Export → List ℕ → List ImportedName → Reading Description
ended i n ts es hs is =
    bytes_left >>= λ rest. ask (eqb rest 0) 27 >> give (record { name = i; number = n; texts = ts; exports = es; hashes = hs; imported = is })

abbrev pub tail : ℕ → ℕ → List (List ℕ) → List Export → List ℕ → Reading Description
tail i n ts es hs = list_of imported >>= ended i n ts es hs

abbrev pub hashed : ℕ → ℕ → List (List ℕ) → List Export → Reading Description
hashed i n ts es = list_of (be_number 8) >>= tail i n ts es

abbrev pub exported : ℕ → ℕ → List (List ℕ) → Reading Description
exported i n ts = list_of export >>= hashed i n ts

abbrev pub named : ℕ → ℕ → Reading Description
named i n = list_of text >>= exported i n

-- what is read is the bytes of a description, which fits
pub record Formed (d : Description) (s : List ℕ) : Type 0 where
  pub fits : Fits d
  pub is : s ≡ content_form d
