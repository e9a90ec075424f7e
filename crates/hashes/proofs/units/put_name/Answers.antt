-- `units::put_name`: the number's digits, and the units of the name with them. Assumes nothing.
use mathlib.Core.Bool.{and-eq-true_iff, true}
use mathlib.Core.Path.{◌≡◌}
use mathlib.Core.List.{List, [], ◌∷◌}
use Prim.Native.Nat.{ℕ, zero, suc}
use native.Mathlib.Omega.{arith}
use borrow.Author.Tests.{ltb-true}
use lib.Dec.{ltb}
use Rattle.text.specs.Affix.{all_ascii}
use Rattle.text.specs.Name.{suffix}
use Rattle.text.specs.NameLaws.{suffix-short, suffix-ascii}
use Rattle.base.specs.NumberLaws.{Bytes}
use Rattle.base.specs.OutputLaws.{wrote-taken, taken-length}
use Rattle.hashes.proofs.units.put_name.Goals as goal

suffix-bytes : (s : List ℕ) → all_ascii s ≡ true → Bytes s
suffix-bytes [] e i = omega arith
suffix-bytes (c ∷ s) e zero = omega (arith, ltb-true c 128 ((and-eq-true_iff (ltb c 128) (all_ascii s)).0 e).0)
suffix-bytes (c ∷ s) e (suc i) = suffix-bytes s ((and-eq-true_iff (ltb c 128) (all_ascii s)).0 e).1 i

pub put_suffix-k-requires : goal.put_suffix-k-requires
put_suffix-k-requires c = omega (arith, suffix-short c.args.u.number)

pub slice_bounds-name-end : goal.slice_bounds-name-end
slice_bounds-name-end c = taken-length c.put_suffix-k.ensures

pub invariant_of-name : goal.invariant_of-name
invariant_of-name c = record { fits = rw (wrote-taken c.put_suffix-k.ensures) (suffix-bytes (suffix c.args.u.number) (suffix-ascii c.args.u.number)) }

pub put_units-requires : goal.put_units-requires
put_units-requires c =
    let t = c.text_of-text.ensures in
    rw (t.0, t.1, wrote-taken c.put_suffix-k.ensures) (c.requires.1, c.requires.2)

pub returns : goal.returns
returns c = let t = c.text_of-text.ensures in rw (t.0, t.1, wrote-taken c.put_suffix-k.ensures) at c.put_units.ensures
