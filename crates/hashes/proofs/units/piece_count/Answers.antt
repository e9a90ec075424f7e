-- `units::piece_count` meets its contract: by whether the text is wide. Assumes nothing.
use native.Mathlib.Omega.{arith}
use Rattle.hashes.specs.Chain.{piece_count}
use Rattle.hashes.proofs.units.piece_count.Goals as goal

pub returns-then-u : goal.returns-then-u
unfolding piece_count
returns-then-u c = (rw (c.if-u.true, c.suffix_len-more.ensures.0), omega arith)

pub returns : goal.returns
unfolding piece_count
returns c = (rw (c.if-u.false, c.suffix_len-more.ensures.0), omega arith)
