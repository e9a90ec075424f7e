-- `packages::block::Block::place_from` meets its contract: the start that is known, and what the name's header says. Assumes nothing.
use borrow.Author.Rules.{rules}
use Rattle.batch.specs.Places.{place_at}
use Rattle.packages.specs.PackageLaws.{names-held}
use Rattle.packages.proofs.block.Block.place_from.Goals as goal

pub overflow_mul-i : goal.overflow_mul-i
overflow_mul-i c = let s = c.args.self.now in let h = (names-held s.accepted s.fits).heads in search rules

pub overflow_add-self : goal.overflow_add-self
overflow_add-self c = let s = c.args.self.now in let h = (names-held s.accepted s.fits).heads in search rules

pub read_head-requires : goal.read_head-requires
read_head-requires c = let s = c.args.self.now in let h = (names-held s.accepted s.fits).heads in search rules

pub returns : goal.returns
unfolding place_at
returns c = rw (c.at.ensures, c.requires.1, c.read_head.ensures.0)
