-- The imported names of an accepted package are held.
use Rattle.zen.proofs.Accepted.{parts}
use Rattle.zen.proofs.access.Package.note_imported_names.Goals as goal

pub note-requires : goal.note-requires
note-requires c = let p = c.args.self in rw c.header.ensures ((parts _ _ p.accepted).imported-held p.bytes)
