-- `zenapi::package::zen_package_count` meets its contract.
use mathlib.Core.Path.{sym}
use native.Mathlib.Omega.{arith}
use Rattle.zenapi.specs.Answers.{package_in, counts}
use Rattle.zenapi.proofs.Cells.{past}
use Rattle.zenapi.proofs.PackageFound.{no_count, counts-are}
use Rattle.zenapi.proofs.package.zen_package_count.Goals as goal

pub returns-in_default : goal.returns-in_default
returns-in_default c = no_count _ _ (sym c.in_default.ensures) _

pub returns-in-0 : goal.returns-in-0
returns-in-0 c = rw (counts-are _ _ (sym c.in-Ok.ensures), c.in-0.is)

pub returns-in-1 : goal.returns-in-1
returns-in-1 c = rw (counts-are _ _ (sym c.in-Ok.ensures), c.in-1.is) c.export_count.ensures

pub returns-in-2 : goal.returns-in-2
returns-in-2 c = rw (counts-are _ _ (sym c.in-Ok.ensures), c.in-2.is) c.hash_count.ensures

pub returns-in-3 : goal.returns-in-3
returns-in-3 c = rw (counts-are _ _ (sym c.in-Ok.ensures), c.in-3.is)

pub returns-in_default-what : goal.returns-in_default-what
returns-in_default-what c =
    let a = c.args in
    let e = counts-are a.b.now _ (sym c.in-Ok.ensures) in
    past (counts (package_in a.b.now)) a.what (rw e (omega arith))
