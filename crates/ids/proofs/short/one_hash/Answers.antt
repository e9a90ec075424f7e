-- `short::one_hash`: the two bytes of one unit. Assumes nothing.
use mathlib.Core.Path.{◌≡◌, refl, sym, ◌∙◌}
use mathlib.Core.List.{[], ◌∷◌}
use Prim.Native.Nat.{◌/◌, ◌%◌}
use native.Mathlib.Omega.{arith}
use Rattle.lower.specs.Lower.{lower, lowered}
use Rattle.ids.proofs.ShortUnits.{units-one}
use Rattle.ids.proofs.short.one_hash.Goals as goal

pub returns : goal.returns
returns c =
    let b = c.args.b in
    let x = c.lower_byte.result in
    let e = c.lower_byte.ensures in
    let m : lower b % 256 ≡ x = omega (arith, e) in
    let d : lower b / 256 ≡ 0 = omega (arith, e) in
    c.hash_bytes.ensures ∙ sym (units-one (lowered (b ∷ [])) 1 refl refl ∙ rw (m, d))
