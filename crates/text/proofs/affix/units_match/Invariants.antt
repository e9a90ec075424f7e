-- `units_match` meets its contract: what the units from `from` on start with is what those behind the units read start with.
use mathlib.Core.Path.{◌≡◌}
use Prim.Native.Nat.{◌+◌}
use lib.ListN.{drop}
use Rattle.text.specs.Affix.{starts_with}
use Rattle.text.specs.Units.{units_in}
use Rattle.text.proofs.affix.units_match.Given as goal

abbrev pub invariant-loop-i : goal.invariant-loop-i
invariant-loop-i l = starts_with (drop l.from (units_in l.part)) l.affix ≡ starts_with (drop (l.from + l.i) (units_in l.part)) (drop l.i l.affix)
