-- `chain::class_at` meets its contract. Assumes nothing.
use mathlib.Core.Path.{◌∙◌}
use Rattle.resolve.specs.ClassesLaws.{look-number}
use Rattle.resolve.specs.Lent.{lent-part}
use Rattle.resolve.proofs.chain.class_at.Goals as goal

pub returns : goal.returns
returns c = λ s b o xs t.
    c.look_up.ensures _ _ _ (rw (lent-part) t.classes.keys) ∙ look-number t.classes c.args.key.lo c.args.key.hi c.requires.1
