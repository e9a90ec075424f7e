-- `zenapi::names::zen_imported_id` meets its contract.
use Rattle.std.specs.Prelude.{◌≡◌, Ok}
use Rattle.zen.specs.Answers.{answer}
use Rattle.zenapi.specs.Answers.{package_in}
use Rattle.zenapi.proofs.PackageFound.{no_id, id-past, id-there}
use Rattle.zenapi.proofs.names.zen_imported_id.Goals.{In-Ok}
use Rattle.zenapi.proofs.names.zen_imported_id.Goals as goal

-- the block that was opened is the one that was passed
accepted : (c : In-Ok) → answer (package_in c.args.b.now) ≡ Ok c.in-Ok.p.layout
accepted c = let p = c.in-Ok.p in rw c.in-Ok.ensures at p.accepted

pub returns-in_default : goal.returns-in_default
returns-in_default c = no_id _ _ c.in_default.ensures _

pub returns-then-p-i : goal.returns-then-p-i
returns-then-p-i c = id-past _ _ (accepted (goal.at.returns-then-p-i c).In-Ok) _ c.if-p-i.true

pub returns : goal.returns
returns c = id-there _ _ (accepted (goal.at.returns c).In-Ok) _ _ c.if-p-i.false (rw (c.names.ensures.0, c.in-Ok.ensures) at c.imported_id.ensures)
