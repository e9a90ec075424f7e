-- A row that says its kind by a number, as a report does: 1 and 2 are the kinds, any other number is that of none. Assumes nothing.
use Rattle.std.specs.Prelude.{List, ℕ}
use Rattle.std.proofs.Math.Option.{Option}
use Rattle.zen.specs.declared.tables.Export.{Export}
use Rattle.meaning.specs.Scan.{outer_of}
use Rattle.packages.specs.Kinds.{candidate_of}
use Rattle.packages.specs.Package.{read_in}
use Rattle.packages.specs.Row.{export_no, name_in, outer_in}
use Rattle.packages.specs.declared.package.Parts.{Parts}
use Rattle.packages.specs.declared.numbered.NumberedRow.{NumberedRow}
use Rattle.packages.specs.declared.rows.Row.{Row}

-- the row of the kind with that number
abbrev pub kind_row : NumberedRow → Row
kind_row w = record { kind = candidate_of w.kind; own = w.own; outer = w.outer; class = w.class }

-- export e as a row of number k
abbrev pub numbered_with : List ℕ → Parts → ℕ → Export → Option Export → NumberedRow
numbered_with b p k e u = record { kind = k; own = name_in b p e; outer = outer_in b p u; class = e.class }

unfoldable pub numbered_in : List ℕ → Parts → ℕ → ℕ → NumberedRow
numbered_in b p k i = numbered_with b p k (export_no b i) (outer_of (read_in b) (export_no b i))
