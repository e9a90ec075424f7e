-- `capi::class_report` meets its contract: 29 first, then the call within its limits.
use mathlib.Core.Path.{refl}
use Rattle.capi.proofs.Range.{called_in, called_out}
use Rattle.capi.proofs.class_report.Goals as goal

pub returns-in_default : goal.returns-in_default
returns-in_default c = called_out c.in_default.ensures (rw (c.at.ensures.0, c.at.ensures.1) at c.number.ensures) refl

pub returns : goal.returns
returns c =
    let (passed, lookups, objects) = c.in-Some.ensures in
    called_in passed (rw (lookups, objects) at c.class_report.ensures.number) (rw (lookups, objects) at c.class_report.ensures.report)
