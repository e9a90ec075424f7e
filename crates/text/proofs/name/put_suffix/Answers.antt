-- `text::name::put_suffix` meets its contract: `_` and then the digits, by the two cases of `suffix`. Assumes nothing.
use mathlib.Core.Path.{ap, sym}
use mathlib.Core.List.{[], ◌∷◌}
use native.Mathlib.Omega.{arith}
use lib.ListN.{length, set}
use Rattle.base.specs.Output.{Wrote}
use Rattle.base.specs.OutputLaws.{wrote_none, wrote_as, wrote-sets, wrote-rest}
use Rattle.text.specs.NameLaws.{suffix-none, suffix-more}
use Rattle.text.proofs.name.put_suffix.Goals.{Else-number-eq0}
use Rattle.text.proofs.name.put_suffix.Goals as goal

-- the mark is written
mark : (c : Else-number-eq0) → Wrote c.args.out.now (95 ∷ []) (set c.args.out.now 0 95) 1
mark c = wrote-sets _ (95 ∷ []) (omega (arith, ap length (suffix-more c.args.number c.if-number-eq0.false)))

pub returns-then-number-eq0 : goal.returns-then-number-eq0
returns-then-number-eq0 c = wrote_as (wrote_none _) (sym (suffix-none c.if-number-eq0.true))

pub returns : goal.returns
returns c =
    wrote_as (wrote-rest (mark (goal.at.returns c).Else-number-eq0) c.put_decimal.ensures)
    (rw c.from.ensures (sym (suffix-more _ c.if-number-eq0.false)))
