-- `plain::put_base` meets its contract: what is ASCII is copied, and over what is not the base is written. Assumes nothing.
use native.Mathlib.Omega.{arith}
use Rattle.text.specs.PlainLaws.{copied_base, copied_then}
use Rattle.text.proofs.plain.put_base.Goals as goal

pub returns-then-put_copy : goal.returns-then-put_copy
returns-then-put_copy c = copied_base _ c.put_copy.ensures c.if-put_copy.true

pub returns : goal.returns
returns c = copied_then _ c.put_copy.ensures c.put_base.ensures (omega arith)
