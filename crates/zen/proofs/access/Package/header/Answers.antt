-- `header` meets its contract: the header is within the block.
use mathlib.Core.Path.{sym}
use lib.Seq.{length-take-le}
use Rattle.zen.proofs.Accepted.{parts}
use Rattle.zen.proofs.access.Package.header.Goals as goal

pub slice_bounds-result-end : goal.slice_bounds-result-end
slice_bounds-result-end c = let p = c.args.self in sym (length-take-le _ _ (parts _ _ p.accepted).size)
