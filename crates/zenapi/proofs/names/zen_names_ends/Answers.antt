-- `zenapi::names::zen_names_ends` meets its contract.
use Rattle.std.specs.Prelude.{◌≡◌, Ok}
use Rattle.zen.specs.Answers.{answer}
use Rattle.zenapi.specs.Answers.{package_in}
use Rattle.zenapi.proofs.PackageFound.{no_ends, ends_there}
use Rattle.zenapi.proofs.names.zen_names_ends.Goals.{In-Ok}
use Rattle.zenapi.proofs.names.zen_names_ends.Goals as goal

-- the block that was opened is the one that was passed
accepted : (c : In-Ok) → answer (package_in c.args.b.now) ≡ Ok c.in-Ok.p.layout
accepted c = let p = c.in-Ok.p in rw c.in-Ok.ensures at p.accepted

pub returns-in_default : goal.returns-in_default
returns-in_default c = no_ends _ _ c.in_default.ensures

pub returns : goal.returns
returns c = ends_there _ _ (accepted (goal.at.returns c).In-Ok) _ (rw c.in-Ok.ensures at c.names_ends.ensures)
