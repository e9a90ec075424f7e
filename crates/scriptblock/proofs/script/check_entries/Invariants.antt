-- The loop's invariant: the first fault from entry i on is the first fault of all.
use mathlib.Core.Path.{◌≡◌}
use Rattle.scriptblock.specs.ScriptAnswers.{fault_at}
use Rattle.scriptblock.specs.ScriptFaults.{fault_from}
use Rattle.scriptblock.proofs.script.check_entries.Given as goal

abbrev pub invariant-loop-i : goal.invariant-loop-i
invariant-loop-i l = fault_at l.b l.l ≡ fault_from l.b l.l l.i
