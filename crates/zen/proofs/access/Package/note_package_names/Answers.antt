-- The names of an accepted package are held.
use Rattle.zen.proofs.Accepted.{parts}
use Rattle.zen.proofs.access.Package.note_package_names.Goals as goal

pub note-requires : goal.note-requires
note-requires c = let p = c.args.self in rw c.header.ensures ((parts _ _ p.accepted).names-held p.bytes)
