-- `wide::put_script`: a turn puts one unit more, and gathers it. Assumes nothing.
use mathlib.Core.Path.{sym, ◌∙◌, ap}
use mathlib.Core.Bool.{true}
use mathlib.Core.List.{List, map}
use Prim.Native.Nat.{ℕ, ◌+◌, ◌<◌}
use native.Mathlib.Omega.{arith}
use lib.ListN.{length, take, drop}
use Rattle.std.proofs.lemmas.List.{get_or-map}
use Rattle.base.specs.OutputLaws.{wrote_none}
use Rattle.text.specs.Units.{units_of}
use Rattle.ids.proofs.PutUnits.{put_next}
use Rattle.ids.proofs.WideUnits.{mapped-length, more}
use Rattle.ids.proofs.wide.put_script.Goals as goal

pub loop-i-init : goal.loop-i-init
loop-i-init g c = (c.none-units.ensures, wrote_none _)

pub loop-i-preserved : goal.loop-i-preserved
loop-i-preserved g c =
    let us : List ℕ = units_of true c.args.text.bytes.now in
    let from : ℕ = c.args.from in
    let l = c.loop-i in
    let u = c.unit-u.ensures.0 in
    let h : from + l.i < length us = omega arith in (
      rw (more us from l.i h, ← u) (c.with-units.ensures (take l.i (drop from us)) l.invariant.0),
      rw c.put_unit.ensures
          (put_next (map g.S.Script.lowered us) from l.i l.invariant.1 (omega (arith, mapped-length g.S.Script.lowered us)) (omega arith)
          (c.lower.ensures ∙ ap g.S.Script.lowered u ∙ sym (get_or-map g.S.Script.lowered us (from + l.i) 0 0 h))),
    )
