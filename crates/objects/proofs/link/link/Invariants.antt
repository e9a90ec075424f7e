-- `link::link` meets its contract. The loop's invariant: all objects are entered, and the first i are linked. Assumes nothing.
use Rattle.std.specs.Prelude.{Ok}
use mathlib.Core.Path.{◌≡◌}
use Rattle.base.specs.Reading.{run}
use Rattle.scriptblock.specs.Script.{script}
use Rattle.scriptblock.specs.ScriptAnswers.{script_answer}
use Rattle.objects.specs.Work.{Entered}
use Rattle.objects.specs.LinkLaws.{LinkedTo}
use Rattle.objects.proofs.link.link.Given as goal

abbrev pub invariant-loop-i : goal.invariant-loop-i
invariant-loop-i l =
    Entered l.s.bytes.now l.s.layout l.s.layout.count l.w
    × ((q : script_answer (run script 0 l.s.bytes.now) ≡ Ok l.s.layout) → LinkedTo l.s.bytes.now l.s.layout q l.i l.w)
