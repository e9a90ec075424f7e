-- `names` meets its contract, list by list.
use Rattle.zen.proofs.Accepted.{parts, list-held}
use Rattle.zen.proofs.access.Package.names.Goals as goal

pub of-names-requires : goal.of-names-requires
of-names-requires c =
    let p = c.args.self in
    rw (c.header.ensures, c.names_in.ensures) (list-held (parts _ _ p.accepted) p.bytes c.args.list)
