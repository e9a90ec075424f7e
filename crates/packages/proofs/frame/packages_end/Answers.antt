-- `packages::frame::packages_end` meets its contract. Assumes nothing.
use mathlib.Core.Path.{◌≡◌, refl, sym, ◌∙◌, ap}
use mathlib.Core.List.{List}
use Prim.Native.Nat.{ℕ, ◌+◌, ◌-◌, ◌<◌}
use native.Mathlib.Omega.{arith}
use native.Mathlib.Nat.{sub-zero}
use Rattle.base.specs.OneMore.{nonzero}
use Rattle.packages.specs.Framing.{package_end, packages_end}
use Rattle.packages.specs.FramingLaws.{end_zero, end_more, end_broken, end_in}
use Rattle.base.proofs.Nonzero.{some-is, some-was, none-was}
use Rattle.packages.proofs.frame.packages_end.Invariants.{Left}
use Rattle.packages.proofs.frame.packages_end.Goals as goal

module _ (s : List ℕ) (from count at left : ℕ) (h : Left s from count at left) where
  broken : 0 < left → package_end s at ≡ 0 → packages_end s from count ≡ 0
  broken l z = sym h.same ∙ end_broken s at left l z

  more : (r : ℕ) → 0 < left → package_end s at ≡ r → 0 < r → Left s from count r (left - 1)
  more r l e p = record {
    begun = p;
    in_it = omega (arith, end_in s at);
    same = ap (λ x. packages_end s x (left - 1)) (sym e) ∙ (sym (end_more s at left l (omega arith)) ∙ h.same);
  }

  done : left ≡ 0 → at ≡ packages_end s from count
  done z = sym (ap (packages_end s at) z ∙ end_zero s at) ∙ h.same

pub loop-init : goal.loop-init
loop-init c = rw sub-zero (record { begun = c.requires.0; in_it = c.requires.1; same = refl })

pub package_end-requires : goal.package_end-requires
package_end-requires c = c.loop.invariant.in_it

pub loop-preserved : goal.loop-preserved
loop-preserved c =
    let (e, p) = some-was (package_end c.args.c.now c.loop.at) c.in_ok-at.at (sym c.package_end.ensures ∙ c.in_ok-at.was) in
    let k : c.args.count - (c.loop.counter + 1) ≡ c.args.count - c.loop.counter - 1 = omega arith in
    rw k (more _ _ _ _ _ c.loop.invariant _ (omega arith) e p)

pub returns-in_err-at : goal.returns-in_err-at
returns-in_err-at c =
    let z = none-was _ (sym c.package_end.ensures ∙ c.in_err-at.was) in
    c.from_residual.ensures ∙ ap nonzero (sym (broken _ _ _ _ _ c.loop.invariant (omega arith) z))

pub returns : goal.returns
returns c =
    some-is _ c.loop.invariant.begun ∙ ap nonzero (done _ _ _ _ _ c.loop.invariant (omega arith))
