-- `plain::put_copy` meets its contract. Assumes nothing.
use Rattle.text.specs.PlainLaws.{plain_fits}
use Rattle.text.proofs.plain.put_copy.Goals as goal

pub put_plain-requires : goal.put_plain-requires
put_plain-requires c = search plain_fits
