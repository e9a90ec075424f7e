-- `counts::count` meets its contract. The loop's invariant: the objects passed are counted. Assumes nothing.
use native.Mathlib.Omega.{arith}
use lib.Seq.{length-take-le}
use lib.ListN.{length-drop}
use Rattle.std.proofs.Common.{length-append}
use Rattle.verify.proofs.Counting.{counted-entry, counted-fits, counted-more, counted-all}
use Rattle.verify.proofs.counts.count.Goals as goal

pub entry-e-requires : goal.entry-e-requires
entry-e-requires g c = counted-entry _ _ c.args.s.now.accepted c.loop-i-test.true

pub with_object-t-requires : goal.with_object-t-requires
with_object-t-requires g c = counted-fits _ _ c.args.s.now.accepted c.loop-i.invariant.0 c.loop-i-test.true c.requires.block.0

pub loop-i-preserved : goal.loop-i-preserved
loop-i-preserved g c = (
  counted-more _ _ c.args.s.now.accepted c.loop-i.invariant.0 c.loop-i-test.true c.entry-e.ensures
      (_, _, length-take-le c.args.limit c.loop-i.chain (omega (arith, c.requires.block.1)), c.hash.ensures) c.with_object-t.ensures,
  simp (length-append, length-drop) (omega (arith, c.hash.auto.arg3, length-take-le c.args.limit c.loop-i.chain (omega (arith, c.requires.block.1)), c.requires.block.1)),
)

pub returns : goal.returns
returns g c = λ o q hash.
    counted-all _ _ c.args.s.now.accepted c.loop-i.invariant.0 (omega arith) _ o q (λ i path inside e. let (room, after, size, post) = e in hash i room after path inside size post)
