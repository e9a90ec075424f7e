-- `lower_byte`: 32 times the outcome of the range tests, by a computed test over all bytes. Assumes nothing.
use mathlib.Core.Path.{◌≡◌, refl, sym, ◌∙◌, ap}
use mathlib.Core.Bool.{true, ◌&&◌}
use Prim.Native.Nat.{ℕ, ◌+◌, ◌*◌}
use native.Mathlib.Omega.{arith}
use lib.Dec.{leb}
use Rattle.std.specs.Int.{from_bool}
use Rattle.lower.proofs.Within.{cmp-le}
use Rattle.lower.specs.Lower.{lower}
use Rattle.rules.specs.QuickLaws.{agree, agree_at}
use Rattle.rules.proofs.latin.lower_byte.Goals as goal

abbrev inside : ℕ → ℕ → ℕ → ℕ
inside a b c = from_bool (leb a c && leb c b)

abbrev rule : ℕ → ℕ
rule c = c + 32 * (inside 65 90 c + inside 0xC0 0xD6 c + inside 0xD8 0xDE c)

-- over all bytes the rule is lowering
lowers : agree lower rule 0 256 ≡ true
unfolding agree lower
lowers = refl

pub returns : goal.returns
returns c =
    let b = c.args.b in
    let ascii : c.from-ascii.result ≡ inside 65 90 b =
    c.from-ascii.ensures
    ∙ ap from_bool (c.contains.ensures.value ∙ rw (c.new.ensures.start, c.new.ensures.end, c.new.ensures.exhausted, cmp-le 65 b, cmp-le b 90)) in
    let first : c.from-first.result ≡ inside 0xC0 0xD6 b =
    c.from-first.ensures
    ∙ ap from_bool (c.contains-2.ensures.value ∙ rw (c.new-2.ensures.start, c.new-2.ensures.end, c.new-2.ensures.exhausted, cmp-le 0xC0 b, cmp-le b 0xD6)) in
    let second : c.from-second.result ≡ inside 0xD8 0xDE b =
    c.from-second.ensures
    ∙ ap from_bool (c.contains-3.ensures.value ∙ rw (c.new-3.ensures.start, c.new-3.ensures.end, c.new-3.ensures.exhausted, cmp-le 0xD8 b, cmp-le b 0xDE)) in
    rw (ascii, first, second) (sym (agree_at lower rule 0 256 lowers b (omega arith) c.ranges.b.fits))
