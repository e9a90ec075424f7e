-- A description in house form, from the writing side: the one form in bytes that it has (FormLaws.antt). Assumes nothing.
use Rattle.std.specs.Prelude.{List, ◌∷◌, ◌++◌, ℕ, length}
use Rattle.base.specs.Find.{flat}
use Rattle.base.specs.House.{length_first}
use Rattle.text.specs.Name.{text_bytes}
use Rattle.base.specs.Number.{be_bytes}
use Rattle.written.specs.HeaderBytes.{ImportedName, Description}
use Rattle.zen.specs.declared.tables.Export.{Export}
use Rattle.description.specs.Form.{description_version}

unfoldable pub export_form : Export → List ℕ
export_form e = be_bytes 4 e.index ++ be_bytes 4 e.number ++ be_bytes 8 e.outer ++ be_bytes 8 e.class ++ be_bytes 8 e.parent ++ be_bytes 8 e.hash

unfoldable pub imported_form : ImportedName → List ℕ
imported_form i = text_bytes i.text ++ be_bytes 4 i.number

-- a list "after a 4-byte count"
abbrev pub list_form : {A : Type 0} → (A → List ℕ) → List A → List ℕ
list_form f l = be_bytes 4 (length l) ++ flat f l

unfoldable pub content_form : Description → List ℕ
content_form d =
    be_bytes 4 d.name ++ be_bytes 4 d.number ++ list_form text_bytes d.texts ++ list_form export_form d.exports
    ++ list_form (be_bytes 8) d.hashes ++ list_form imported_form d.imported

unfoldable pub description_bytes : Description → List ℕ
description_bytes d = length_first (description_version ∷ content_form d)
