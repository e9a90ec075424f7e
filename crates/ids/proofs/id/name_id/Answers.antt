-- `id::name_id`: one letter, or the units of the name, and so its id. Assumes nothing.
use mathlib.Core.Path.{◌≡◌, sym, ◌∙◌}
use mathlib.Core.Bool.{true, and-eq-true_iff}
use mathlib.Core.List.{List, [], ◌∷◌}
use Prim.Native.Nat.{ℕ, zero, suc}
use native.Mathlib.Omega.{arith}
use borrow.Author.Tests.{ltb-true}
use lib.Dec.{ltb}
use Rattle.base.specs.NumberLaws.{Bytes}
use Rattle.base.specs.OutputLaws.{wrote-taken}
use Rattle.text.specs.Parts.{base_in}
use Rattle.text.specs.NameLaws.{suffix-short, suffix-ascii}
use Rattle.text.specs.Name.{suffix}
use Rattle.text.specs.Affix.{all_ascii}
use Rattle.ids.specs.Id.{id_of}
use Rattle.ids.specs.IdLaws.{name_units_lem}
use Rattle.ids.proofs.NameUnits.{one_name}
use Rattle.ids.proofs.id.name_id.Goals as goal

suffix-bytes : (s : List ℕ) → all_ascii s ≡ true → Bytes s
suffix-bytes [] e i = omega arith
suffix-bytes (c ∷ s) e zero = omega (arith, ltb-true c 128 ((and-eq-true_iff (ltb c 128) (all_ascii s)).0 e).0)
suffix-bytes (c ∷ s) e (suc i) = suffix-bytes s ((and-eq-true_iff (ltb c 128) (all_ascii s)).0 e).1 i

pub returns : goal.returns
returns c =
    let p = c.args.text.part in
    c.one_hash.ensures ∙ sym (one_name c.if-not-text.true c.if-number-eq0.true p.bytes.now p.fits (omega arith))

pub put_suffix-n-requires : goal.put_suffix-n-requires
put_suffix-n-requires c = omega (arith, suffix-short c.args.number)

pub invariant_of-units_hash : goal.invariant_of-units_hash
invariant_of-units_hash c = record { fits = rw (wrote-taken c.put_suffix-n.ensures) (suffix-bytes (suffix c.args.number) (suffix-ascii c.args.number)) }

pub returns-2 : goal.returns-2
unfolding id_of
returns-2 c =
    let p = c.args.text.part in
    rw (name_units_lem (base_in p) c.args.number, ← wrote-taken c.put_suffix-n.ensures) c.units_hash.ensures
