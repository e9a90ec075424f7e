-- `plain::is_plain` meets its contract: above 32 bytes it is the library's test. Assumes nothing.
use Rattle.text.specs.PlainLaws.{ascii_told}
use Rattle.text.proofs.plain.is_plain.Goals as goal

pub returns : goal.returns
returns c = ascii_told c.args.part.now c.is_ascii.result c.is_ascii.ensures.cases
