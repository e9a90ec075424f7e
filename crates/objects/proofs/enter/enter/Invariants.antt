-- `enter::enter` meets its contract. The loop's invariant: the first i objects are entered, and the first fault from object i on is the first of
-- all. Assumes nothing.
use mathlib.Core.Path.{◌≡◌}
use Rattle.scriptblock.specs.ScriptAnswers.{fault_at}
use Rattle.scriptblock.specs.ScriptFaults.{fault_from}
use Rattle.objects.specs.Work.{Entered}
use Rattle.objects.proofs.enter.enter.Given as goal

abbrev pub invariant-loop-i : goal.invariant-loop-i
invariant-loop-i l = (fault_at l.names.block.now l.l ≡ fault_from l.names.block.now l.l l.i) × Entered l.names.block.now l.l l.i l.w
