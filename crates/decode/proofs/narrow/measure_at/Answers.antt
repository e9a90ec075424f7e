-- `decode::narrow::measure_at` meets its contract. Assumes nothing.
use Rattle.decode.proofs.NarrowLaws.{part-plain}
use Rattle.decode.proofs.narrow.measure_at.Goals as goal

pub returns-then-is_ascii : goal.returns-then-is_ascii
returns-then-is_ascii c = part-plain _ _ _ c.requires.1 _ c.is_ascii.ensures c.if-is_ascii.true
