-- `city::hash_len33up` computes `city_hash64`, by the length. Assumes nothing.
use Rattle.std.proofs.Common.{◌≡◌, false, leb, length, arith, le-leb}
use borrow.Author.Tests.{lt-leb}
use Rattle.city.specs.City.{city_hash64}
use Rattle.city.proofs.city.hash_len33up.Goals.{Start}
use Rattle.city.proofs.city.hash_len33up.Goals as goal

-- it is above 16 too
up : (c : Start) → leb (length c.args.s.now) 16 ≡ false
up c = lt-leb (length c.args.s.now) 16 (omega arith)

pub returns-then-s-le64 : goal.returns-then-s-le64
unfolding city_hash64
returns-then-s-le64 c =
    rw (up (goal.at.returns-then-s-le64 c).Start, lt-leb _ _ c.requires, le-leb _ _ c.if-s-le64.true) c.hash_len33to64.ensures

pub returns : goal.returns
unfolding city_hash64
returns c =
    rw (up (goal.at.returns c).Start, lt-leb _ _ c.requires, lt-leb _ _ c.if-s-le64.false) c.hash_longer.ensures
