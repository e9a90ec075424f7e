-- `hash::turns_over` meets its contract. The loop's invariant: the turns over the chunks left give what all turns give. Assumes nothing.
use mathlib.Core.Path.{◌≡◌}
use Prim.Native.Nat.{◌/◌, ◌≤◌}
use native.Mathlib.Omega.{arith}
use lib.ListN.{length}
use Rattle.city.specs.CityLaws.{turns_end}
use Rattle.hashes.specs.TurnLaws.{turns_chunk}
use Rattle.hashes.proofs.hash.turns_over.Goals as goal

pub loop-chunk-preserved : goal.loop-chunk-preserved
loop-chunk-preserved c =
    let l = c.loop-chunk in
    let step = c.in-Some.ensures.steps in
    let whole : length c.in-Some.chunk.now ≡ 64 = omega arith in
    (omega arith, cc (turns_chunk c.in-Some.chunk.now c.next.new.self.rest.now l.u whole))

pub returns : goal.returns
returns c =
    let l = c.loop-chunk in
    let left = l.chunk-iterator.rest.now in
    let none : length left / 64 ≤ 0 = omega (arith, c.in-None.ensures.steps.1.0) in
    cc (turns_end (length left / 64) left l.u none)
