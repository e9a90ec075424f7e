-- `chain::end_of` meets its contract. The loop's invariant: what is left of the chain leads where the whole does. Assumes nothing.
use Rattle.std.specs.Prelude.{Option, Some, None, is_some, true, false}
use mathlib.Core.Path.{◌≡◌, ◌∙◌, ap, refl}
use Prim.Native.Nat.{ℕ, ◌<◌, ◌+◌, ◌-◌}
use native.Mathlib.Omega.{arith}
use lib.ListN.{length}
use Rattle.base.specs.OneMore.{one_more}
use Rattle.resolve.specs.Classes.{class_no}
use Rattle.resolve.specs.ChainLaws.{word_behind, super-keeps, onward_stop, onward_next, onward_lost, onward_object, onward_nowhere}
use Rattle.resolve.specs.RowsLaws.{class-inside}
use Rattle.resolve.proofs.chain.end_of.Goals as goal
use Rattle.resolve.proofs.chain.end_of.Goals.{else-loop-test, then-loop-test+in_default, then-is_some-via-then-is_some}
use Rattle.resolve.proofs.chain.end_of.Goals.{then-is_some-via-else-is_some+then-m-ne0, then-is_some-via-else-is_some+else-m-ne0+then-m-eq0}

found : (x : Option ℕ) → true ≡ is_some x → 0 < one_more x
found None e = absurd cc
found (Some k) e = omega arith

missing : (x : Option ℕ) → false ≡ is_some x → one_more x ≡ 0
missing None e = refl
missing (Some k) e = absurd cc

pub loop-preserved : goal.loop-preserved
loop-preserved c =
    let l = c.loop in
    let k = c.in-Some.k in
    let found = ap one_more c.in-Some.is in
    let p = l.invariant.0 in
    let z : c.args.lookups - l.counter - 1 ≡ c.args.lookups - (l.counter + 1) = omega arith in
    let g : k < length p.some.classes = omega (arith, p.inside, found) in
    let m = super-keeps p.some.holds k g (rw c.record_at.ensures) c.words_at-m.ensures.0 (c.words_at-m.ensures.1 ∙ word_behind _ _) in
    let next = (class_no p.some.classes k).super in (
      record {
        some = p.some;
        inside = omega (arith, c.class_of-next.ensures p.some.corpus p.some.block p.some.objects p.some.classes next p.some.holds m, class-inside p.some.classes next);
      },
      λ s b o xs r t m q.
          let u = l.invariant.1 s b o xs r t m q in
          let h : k < length xs = omega (arith, u.class, class-inside xs u.ref, found) in
          let v = super-keeps t k h (rw c.record_at.ensures) c.words_at-m.ensures.0 (c.words_at-m.ensures.1 ∙ word_behind _ _) in
          rw z at (onward_next u found (omega arith) v (c.class_of-next.ensures s b o xs (class_no xs k).super t v)),
    )

pub returns-then-is_some : goal.returns-then-is_some
returns-then-is_some c = λ s b o xs r t m q.
    let x = c.loop.next in
    let u = c.loop.invariant.1 s b o xs r t m q in elim c.then-is_some.branch [
      | then-is_some-via-then-is_some w ↦
          let h = found x w.if-is_some.ensures in
          let z : c.args.lookups - c.loop.counter ≡ 0 = elim c.loop-test.branch [
            | else-loop-test v ↦ omega (arith, v.loop-test.false)
            | then-loop-test+in_default v ↦ absurd (omega (arith, h, ap one_more v.in_default.is))
          ] in onward_stop u {i = one_more x - 1} (omega (arith, h)) z
      | then-is_some-via-else-is_some+then-m-ne0 w ↦ onward_lost u (missing x w.if-is_some.ensures) t (omega (arith, w.if-m-ne0.true))
      | then-is_some-via-else-is_some+else-m-ne0+then-m-eq0 w ↦
          onward_nowhere u (missing x w.if-is_some.ensures) t (omega (arith, w.if-m-ne0.false)) w.if-m-eq0.true
    ]

pub returns : goal.returns
returns c = λ s b o xs r t m q.
    c.find.ensures b o t.objects.all ∙ onward_object (c.loop.invariant.1 s b o xs r t m q) (missing c.loop.next c.if-is_some.ensures) t (omega arith) (omega arith)
