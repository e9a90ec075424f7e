-- `city::hash_len0to32` computes `city_hash64`, by the length. Assumes nothing.
use Rattle.std.proofs.Common.{le-leb}
use borrow.Author.Tests.{lt-leb}
use Rattle.city.specs.City.{city_hash64}
use Rattle.city.proofs.city.hash_len0to32.Goals as goal

pub returns-then-s-le16 : goal.returns-then-s-le16
unfolding city_hash64
returns-then-s-le16 c = rw (le-leb _ _ c.if-s-le16.true) c.hash_len0to16.ensures

pub returns : goal.returns
unfolding city_hash64
returns c = rw (lt-leb _ _ c.if-s-le16.false, le-leb _ _ c.requires) c.hash_len17to32.ensures
