-- The class test (document 01: "a class path whose part after the last `.` or `:` ends in `Class`"): as `Class` holds no separator, the
-- part, the path and the innermost object's rendered name pass it together. Code tests the name. Assumes nothing.
use Rattle.std.specs.Prelude.{Bool}
use Rattle.std.proofs.Math.Bool.{true, false}
use Rattle.std.proofs.Math.Option.{Option, none, some}
use Rattle.text.specs.Affix.{ends_with}
use Rattle.base.specs.Find.{option}
use Rattle.meaning.specs.Path.{Path}
use Rattle.meaning.specs.Scan.{class_end, last_part}

abbrev pub is_known : Option Path → Bool
is_known none = false
is_known (some p) = true

-- the test that `is_class` makes of a class path
abbrev pub names_class : Option Path → Bool
names_class x = option false (λ (p : Path). ends_with (last_part p.text) class_end) x
