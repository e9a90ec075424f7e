-- `id::put_narrow`: each byte, lowered. Assumes nothing.
use borrow.Author.Rules.{rules}
use Rattle.lower.specs.Lower.{lower}
use Rattle.ids.proofs.ShortUnits.{lowered-map}
use Rattle.ids.proofs.id.put_narrow.Goals as goal

pub returns : goal.returns
returns c = rw lowered-map at (c.put_bytes.ensures lower (λ b r h e. search rules))
