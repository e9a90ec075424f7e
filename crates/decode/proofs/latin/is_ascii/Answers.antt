-- `latin::is_ascii` meets its contract: bytes whose first one isn't ASCII are not. Assumes nothing.
use Rattle.std.proofs.Common.{false, sym, ◌∙◌}
use Rattle.text.specs.PlainLaws.{ascii_told}
use Rattle.decode.proofs.LatinLaws.{starts-is}
use Rattle.decode.proofs.latin.is_ascii.Goals as goal

pub returns-then-starts_from : goal.returns-then-starts_from
returns-then-starts_from c =
    let s = c.args.s.now in
    ascii_told s false (0, (starts-is 0x80 s (sym c.starts_from.ensures ∙ c.if-starts_from.true)).1)
