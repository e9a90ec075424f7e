-- `lower_ascii`: 32 times the outcome of the range test. Assumes nothing.
use Rattle.std.proofs.Common.{◌≡◌, Bool, true, false, cond, ◌&&◌, ℕ, ◌+◌, ◌*◌, ◌∙◌, leb, arith}
use Rattle.std.specs.Int.{from_bool}
use Rattle.lower.specs.Ascii.{lower_ascii}
use Rattle.lower.proofs.Within.{cmp-le}
use Rattle.lower.proofs.ascii.lower_ascii.Goals as goal

added : (b : Bool) (c : ℕ) → c + 32 * from_bool b ≡ cond b (c + 32) c
added true c = omega arith
added false c = omega arith

pub returns : goal.returns
unfolding lower_ascii
returns c =
    let within : c.contains-is_capital.result ≡ (leb 65 c.args.c && leb c.args.c 90) = c.contains-is_capital.ensures.value ∙ rw (c.new.ensures.start, c.new.ensures.end, c.new.ensures.exhausted, cmp-le 65 c.args.c, cmp-le c.args.c 90) in
    rw (c.from.ensures, within) (added (leb 65 c.args.c && leb c.args.c 90) c.args.c)
