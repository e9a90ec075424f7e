-- `zenapi::package::zen_export` meets its contract.
use Rattle.std.specs.Prelude.{◌≡◌, Ok}
use Rattle.zen.specs.Answers.{answer}
use Rattle.zenapi.specs.Answers.{package_in}
use Rattle.zenapi.proofs.PackageFound.{no_export_lem, export-here, export-past, export-there}
use Rattle.zenapi.proofs.package.zen_export.Goals.{In-Ok}
use Rattle.zenapi.proofs.package.zen_export.Goals as goal

-- the block that was opened is the one that was passed
accepted : (c : In-Ok) → answer (package_in c.args.b.now) ≡ Ok c.in-Ok.p.layout
accepted c = let p = c.in-Ok.p in rw c.in-Ok.ensures at p.accepted

pub returns-in_default : goal.returns-in_default
returns-in_default c = no_export_lem _ _ c.in_default.ensures _ _

pub returns-then-export_count-i : goal.returns-then-export_count-i
returns-then-export_count-i c =
    export-past _ _ (accepted (goal.at.returns-then-export_count-i c).In-Ok) _ _ _ c.export_count.ensures c.if-export_count-i.true

pub export_at-requires : goal.export_at-requires
export_at-requires c = let p = c.in-Ok.p in export-here _ _ p.accepted _ _ c.export_count.ensures c.if-export_count-i.false

pub returns : goal.returns
returns c =
    export-there _ _ (accepted (goal.at.returns c).In-Ok) _ _ _ _ _ c.export_count.ensures c.if-export_count-i.false
    (rw c.in-Ok.ensures at c.export_at.ensures) c.export_field.ensures
