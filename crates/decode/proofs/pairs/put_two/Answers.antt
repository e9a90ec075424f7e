-- `pairs::put_two` meets its contract: the bytes of a number of two bytes are those that it was read from. Assumes nothing.
use Rattle.std.proofs.Common.{◌≡◌, ◌∙◌, ◌+◌, ◌*◌, ◌/◌, ◌%◌, get_or, arith}
use Rattle.base.specs.NumberLaws.{le_at_2}
use Rattle.decode.proofs.pairs.put_two.Goals as goal

pub returns : goal.returns
returns c =
    let s = c.args.src.now in
    let a = get_or s c.args.from 0 in
    let b = get_or s (c.args.from + 1) 0 in
    let e : c.le16.result ≡ a + 256 * b = c.le16.ensures ∙ le_at_2 s c.args.from c.requires.0 in
    let low : c.le16.result % 256 ≡ a = omega (arith, e, (c.type_inv.src c.args.from).fits) in
    let high : c.le16.result / 256 % 256 ≡ b = omega (arith, e, (c.type_inv.src c.args.from).fits, (c.type_inv.src (c.args.from + 1)).fits) in
    rw (c.to_le_bytes.ensures, low, high)
