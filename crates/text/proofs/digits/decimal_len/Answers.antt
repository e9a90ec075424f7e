-- `text::digits::decimal_len` meets its contract: a power of ten that is at most the number, ten times which is more, says how many digits it has.
-- Assumes nothing.
use Rattle.std.specs.Prelude.{◌≡◌, ℕ, ◌+◌, ◌*◌, ◌^◌, ◌≤◌, ◌<◌, length, Option, Some, None, MatchOption, IfNone, IfSome}
use Rattle.std.proofs.Common.{rules, arith}
use Rattle.text.specs.Digits.{decimal}
use Rattle.text.specs.DigitsLaws.{decimal-last, decimal-size, decimal-short}
use Rattle.text.proofs.digits.decimal_len.Goals as goal

sized : (o : Option ℕ) (n r : ℕ) → n < 2 ^ 64 → IfNone o (n ≡ 0) → IfSome o (λ k. 10 ^ k ≤ n) → IfSome o (λ k. n < 10 * 10 ^ k)
    → MatchOption o (r ≡ 1) (λ k. r ≡ 1 + k) → r ≡ length (decimal n)
sized None n r l z lo hi e = let o : n < 10 = omega arith in rw (decimal-last o) e
sized (Some k) n r l z lo hi e = let s : length (decimal n) ≡ k + 1 = decimal-size k n l lo hi in omega arith

pub returns : goal.returns
returns c =
    let p = c.checked_ilog10.ensures in
    let m : MatchOption c.checked_ilog10.result (c.map_or.result ≡ 1) (λ k. c.map_or.result ≡ 1 + k) = search rules in
    let e : c.map_or.result ≡ length (decimal c.args.n) = sized _ _ _ c.ranges.n.fits p.none p.power_le p.next_power_gt m in
    (e, omega (arith, decimal-short c.args.n))
