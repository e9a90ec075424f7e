-- `city::hash_len0to16` computes `len0to16`, by the length. Assumes nothing.
use Rattle.std.proofs.Common.{le-ltb, lt-ltb, le-leb}
use borrow.Author.Tests.{lt-leb}
use Rattle.city.specs.City.{len0to16}
use Rattle.city.proofs.city.hash_len0to16.Goals as goal

pub returns-then-n-ge8 : goal.returns-then-n-ge8
unfolding len0to16
returns-then-n-ge8 c = rw (le-leb _ _ c.if-n-ge8.true) c.hash_len8to16.ensures

pub returns-then-n-ge4 : goal.returns-then-n-ge4
unfolding len0to16
returns-then-n-ge4 c = rw (lt-leb _ _ c.if-n-ge8.false, le-leb _ _ c.if-n-ge4.true) c.hash_len4to7.ensures

pub returns-then-n-gt0 : goal.returns-then-n-gt0
unfolding len0to16
returns-then-n-gt0 c =
    rw (lt-leb _ _ c.if-n-ge8.false, lt-leb _ _ c.if-n-ge4.false, lt-ltb _ _ c.if-n-gt0.true)
    c.hash_len1to3.ensures

pub returns : goal.returns
unfolding len0to16
returns c =
    rw (lt-leb _ _ c.if-n-ge8.false, lt-leb _ _ c.if-n-ge4.false, le-ltb _ _ c.if-n-gt0.false)
    c.hash_len0.ensures
