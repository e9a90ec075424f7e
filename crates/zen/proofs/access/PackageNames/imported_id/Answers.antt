-- `imported_id` meets its contract.
use mathlib.Core.List.{[]}
use mathlib.Core.Path.{ap, ◌∙◌}
use lib.ListN.{get_or}
use Rattle.ids.specs.Id.{id_of}
use Rattle.base.specs.Reading.{run_block}
use Rattle.batch.specs.Holds.{Holds, holds-own}
use Rattle.zen.specs.Answers.{imported_of}
use Rattle.zen.specs.Zen.{package_block}
use Rattle.zen.proofs.PackageLaws.{imported-text, imported-rendered}
use Rattle.zen.proofs.access.PackageNames.imported_id.Goals.{After-place}
use Rattle.zen.proofs.access.PackageNames.imported_id.Goals as goal

-- what the place holds
held : (c : After-place)
    → Holds c.args.self.now.owner.block.now c.place.result (get_or (imported_of (run_block package_block c.args.self.now.owner.block.now)) c.args.i [])
held c = let p = c.args.self.now.owner in imported-text _ _ p.accepted p.bytes c.args.i _ c.requires.1 (rw c.requires.0 at c.place.ensures)

pub place-requires : goal.place-requires
place-requires c = rw c.requires.0 c.requires.1

pub place_id-requires : goal.place_id-requires
place_id-requires c = holds-own (held (goal.at.place_id-requires c).After-place)

pub returns : goal.returns
returns c =
    let p = c.args.self.now.owner in
    rw c.imported_number.ensures at c.place_id.ensures ∙ ap id_of (imported-rendered _ _ p.accepted p.bytes _ c.args.i c.requires.1 (rw c.requires.0 at c.place.ensures))
