-- `plain::is_tiny` meets its contract: the bits of all bytes together are below 128 where each byte is. Assumes nothing.
use mathlib.Core.Path.{◌≡◌}
use borrow.Author.Rules.{rules}
use Rattle.std.specs.Int.Bits.{bit_or}
use Rattle.std.specs.List.{fold}
use Rattle.text.specs.PlainLaws.{fold-ascii}
use Rattle.text.proofs.plain.is_tiny.Goals as goal

pub returns : goal.returns
returns c =
    let e : c.fold.result ≡ fold bit_or 0 c.args.part.now = search rules in
    rw e (fold-ascii c.args.part.now 0)
