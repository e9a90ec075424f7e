-- `link::link` meets its contract. The loop's invariant: all objects are entered, and the first i are linked. Assumes nothing.
use mathlib.Core.Path.{◌≡◌}
use native.Mathlib.Omega.{arith}
use Rattle.objects.specs.WorkLaws.{link-kept}
use Rattle.objects.specs.LinkLaws.{all-keyed, entries-there, linked-more, all-linked}
use Rattle.objects.proofs.link.link.Goals as goal

pub overflow_add-s : goal.overflow_add-s
overflow_add-s c = let s = c.args.s.now in omega (arith, entries-there s.bytes.now s.layout s.accepted)

pub overflow_add-s-in-loop-i : goal.overflow_add-s-in-loop-i
overflow_add-s-in-loop-i c = let s = c.args.s.now in omega (arith, entries-there s.bytes.now s.layout s.accepted)

pub le64-requires : goal.le64-requires
le64-requires c = let s = c.args.s.now in omega (arith, entries-there s.bytes.now s.layout s.accepted)

pub link_of-k-requires : goal.link_of-k-requires
link_of-k-requires c = let s = c.args.s.now in all-keyed s.bytes.now s.layout s.accepted c.loop-i.invariant.0

pub loop-i-preserved : goal.loop-i-preserved
loop-i-preserved c =
    let l = c.loop-i in
    let s = c.args.s.now in (
      rw (c.set32.ensures, c.record_at.ensures) (link-kept s.bytes.now s.layout l.invariant.0 l.i c.link_of-k.result (omega arith)),
      λ q. rw (c.set32.ensures, c.record_at.ensures) (linked-more s.bytes.now s.layout q l.invariant.0 (omega arith) c.requires.1
          (λ b o t. rw (← c.le64.ensures) (c.link_of-k.ensures b o t)) (l.invariant.1 q)),
    )

pub returns : goal.returns
returns c =
    let l = c.loop-i in
    let s = c.args.s.now in
    let z : l.i ≡ s.layout.count = omega arith in
    all-linked s.bytes.now s.layout s.accepted l.invariant.0 (rw z at (l.invariant.1 s.accepted))
