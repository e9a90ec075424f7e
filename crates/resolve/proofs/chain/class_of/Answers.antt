-- `chain::class_of` meets its contract. Assumes nothing.
use mathlib.Core.Path.{sym, ◌∙◌}
use native.Mathlib.Omega.{arith}
use Rattle.resolve.specs.ChainLaws.{keeps-look, keeps-link, keeps-none}
use Rattle.resolve.proofs.chain.class_of.Goals as goal

pub returns-then-m-ne0 : goal.returns-then-m-ne0
returns-then-m-ne0 c = λ s b o xs r t m. c.class_at.ensures s b o xs t ∙ sym (keeps-look m t.classes (omega arith))

pub returns-then-m-lt-LINKED : goal.returns-then-m-lt-LINKED
returns-then-m-lt-LINKED c = λ s b o xs r t m. sym (keeps-none m t.classes (omega arith) c.if-m-lt-LINKED.true)

pub returns : goal.returns
returns c = λ s b o xs r t m. omega (arith, keeps-link m t.classes (omega arith) (omega (arith, c.if-m-lt-LINKED.false)))
