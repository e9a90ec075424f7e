use mathlib.Core.Path.{◌≡◌, refl, sym, ◌∙◌}
use Prim.Native.Nat.{◌+◌, ◌-◌}
use native.Mathlib.Nat.{sub-zero}
use native.Mathlib.Omega.{arith}
use Rattle.base.specs.Index.{kind}
use Rattle.base.specs.declared.index.Kind.TheVariants.{Null}
use Rattle.base.proofs.Numbers.{kind-same}
use Rattle.scan.specs.ObjectLaws.{known_end, known-none, known-top, known_up}
use Rattle.scan.proofs.Found.{found_inside, found_none, found_some}
use Rattle.scan.proofs.script.Script.known.Goals as goal

pub loop-init : goal.loop-init
loop-init c = (omega arith, λ o q. rw sub-zero refl)

pub returns-in_default : goal.returns-in_default
returns-in_default c = λ o q.
    let l = c.loop in
    sym (l.invariant.1 o q ∙ known-none o l.at (c.args.self.now.limit - l.counter) (found_none _ _ c.in_default.ensures o q))

pub entry-e-requires : goal.entry-e-requires
entry-e-requires c = found_inside _ _ _ c.in-Some.ensures

pub returns-in-Null : goal.returns-in-Null
returns-in-Null c = λ o q.
    let l = c.loop in
    let u = c.entry-e in
    let e = found_some _ _ _ c.in-Some.ensures o q u.ensures in
    sym (l.invariant.1 o q ∙ known-top o l.at (c.args.self.now.limit - l.counter) (omega (arith, c.loop-test.true)) u.result e (sym c.in-Null.ensures))

pub loop-preserved : goal.loop-preserved
loop-preserved c =
    let l = c.loop in
    let u = c.entry-e in (
      omega (arith, c.loop-test.true),
      λ o q.
          let e = found_some _ _ _ c.in-Some.ensures o q u.ensures in
          let z : c.args.self.now.limit - (l.counter + 1) ≡ c.args.self.now.limit - l.counter - 1 = omega arith in
          let n = λ (w : kind u.result.outer ≡ 3). c.in_default-index_kind.not-Null (kind-same _ Null (c.index_kind.ensures ∙ w)) in
          rw z (l.invariant.1 o q ∙ known_up o l.at (c.args.self.now.limit - l.counter) (omega (arith, c.loop-test.true)) u.result e n),
    )

pub returns : goal.returns
returns c = λ o q. let l = c.loop in sym (l.invariant.1 o q ∙ known_end o l.at (c.args.self.now.limit - l.counter) (omega (arith, c.loop-test.false)))
