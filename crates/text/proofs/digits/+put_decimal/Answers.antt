-- `text::digits::put_decimal` meets its contract: the last two digits are stored behind those of the hundredth. The measure is n. Assumes nothing.
use Rattle.std.proofs.Common.{ap, arith, length, rules}
use Rattle.std.proofs.Math.ListN.{length-set}
use Rattle.base.specs.OutputLaws.{wrote_stores, wrote_as, wrote-byte, wrote_count}
use Rattle.text.specs.DigitsLaws.{decimal-last, decimal-two, decimal-pair, decimal-length-pair}
use Rattle.text.proofs.digits.+put_decimal.Goals as goal

pub bounds-out-0 : goal.bounds-out-0
bounds-out-0 t c = omega (arith, ap length (decimal-last c.if-n-lt10.true))

pub returns-then-n-lt10 : goal.returns-then-n-lt10
returns-then-n-lt10 t c = wrote_stores (decimal-last c.if-n-lt10.true) c.requires

pub bounds-out-0-then-n-lt100 : goal.bounds-out-0-then-n-lt100
bounds-out-0-then-n-lt100 t c = omega (arith, ap length (decimal-two _ c.if-n-lt10.false c.if-n-lt100.true))

pub bounds-out-1 : goal.bounds-out-1
bounds-out-1 t c = simp length-set (omega (arith, ap length (decimal-two _ c.if-n-lt10.false c.if-n-lt100.true)))

pub returns-then-n-lt100 : goal.returns-then-n-lt100
returns-then-n-lt100 t c = wrote_stores (decimal-two _ c.if-n-lt10.false c.if-n-lt100.true) c.requires

pub put_decimal-at-requires : goal.put_decimal-at-requires
put_decimal-at-requires t c =
    (search rules, omega (arith, decimal-length-pair _ c.if-n-lt100.false c.ranges.n.fits))

pub bounds-out-at : goal.bounds-out-at
bounds-out-at t c = omega (arith, decimal-length-pair _ c.if-n-lt100.false c.ranges.n.fits)

pub bounds-out-at-2 : goal.bounds-out-at-2
bounds-out-at-2 t c = simp length-set (omega (arith, decimal-length-pair _ c.if-n-lt100.false c.ranges.n.fits))

pub returns : goal.returns
returns t c =
    let l = decimal-length-pair _ c.if-n-lt100.false c.ranges.n.fits in
    wrote_count (wrote_as (wrote-byte (wrote-byte c.put_decimal-at.ensures (omega arith) _) (omega arith) _)
    (decimal-pair _ c.if-n-lt100.false (omega arith))) (omega arith)
