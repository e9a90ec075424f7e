-- `units::PathUnits::of` meets its contract: the path has an object, so one unit or more with the `/` before its first name. Assumes nothing.
use native.Mathlib.Omega.{arith}
use Rattle.base.specs.NumberLaws.{Bytes}
use Rattle.hashes.specs.PieceLaws.{pieces-full}
use Rattle.hashes.proofs.units.PathUnits.of.Goals as goal

pub count_units-requires : goal.count_units-requires
count_units-requires c = let d = c.requires.0 in (d.few, λ k h. omega (arith, (d.holds k h).small))

pub overflow_sub-result : goal.overflow_sub-result
overflow_sub-result c =
    let n = c.count_units.ensures.0 c.args.names.now (λ i. (c.type_inv.names i).fits) c.requires.0 in
    omega (arith, n, pieces-full c.args.names.now c.args.chain.now _ c.requires.1)

pub invariant_of-result : goal.invariant_of-result
invariant_of-result c =
    let y : Bytes c.args.names.now = λ i. (c.type_inv.names i).fits in
    let n = c.count_units.ensures.0 c.args.names.now y c.requires.0 in
    let full = pieces-full c.args.names.now c.args.chain.now _ c.requires.1 in
    record {
      sized = record { named = c.requires.0; count = omega (arith, n, full); fits = omega (arith, c.count_units.ensures.1, c.requires.0.few) };
      fits = y;
    }
