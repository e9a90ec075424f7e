-- What an object index points to, by its kind (document 01: "An index's kind is its top two bits": 0 export, 1 script, 2 package import, 3 null).
-- Assumes nothing.
use Rattle.std.specs.Prelude.{ℕ}
use Rattle.base.specs.declared.index.Kind.{Kind}
use Rattle.base.specs.declared.index.Kind.TheVariants.{Export, Script, Import, Null}

abbrev pub kind_number : Kind → ℕ
kind_number Export = 0
kind_number Script = 1
kind_number Import = 2
kind_number Null = 3
