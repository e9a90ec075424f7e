-- `decode::chars::known_first` meets its contract: the first byte decides. Assumes nothing.
use Rattle.std.proofs.Common.{refl}
use Rattle.decode.proofs.KnownLaws.{first_1, first_2, first_3, first_4, there_1, there_2, there_3, range_2, range_3, range_4}
use Rattle.decode.proofs.chars.known_first.Goals as goal

pub returns-then-a-le127 : goal.returns-then-a-le127
returns-then-a-le127 c = rw c.from.ensures (first_1 c.args.s.now c.requires.0 c.requires.1 _ refl c.if-a-le127.true)

pub bounds-s-1 : goal.bounds-s-1
bounds-s-1 c = there_1 c.args.s.now c.requires.0 c.requires.1 _ refl c.if-a-le127.false

pub two-requires : goal.two-requires
two-requires c = range_2 c.args.s.now c.requires.0 c.requires.1 _ refl _ refl c.if-a-le127.false c.if-a-le223.true

pub returns-then-a-le223 : goal.returns-then-a-le223
returns-then-a-le223 c = first_2 c.args.s.now c.requires.0 c.requires.1 _ refl _ refl c.if-a-le127.false c.if-a-le223.true _ c.two.ensures

pub bounds-s-2 : goal.bounds-s-2
bounds-s-2 c = there_2 c.args.s.now c.requires.0 c.requires.1 _ refl c.if-a-le223.false

pub three-requires : goal.three-requires
three-requires c = range_3 c.args.s.now c.requires.0 c.requires.1 _ refl _ refl _ refl c.if-a-le223.false c.if-a-le239.true

pub returns-then-a-le239 : goal.returns-then-a-le239
returns-then-a-le239 c = first_3 c.args.s.now c.requires.0 c.requires.1 _ refl _ refl _ refl c.if-a-le223.false c.if-a-le239.true _ c.three.ensures

pub bounds-s-3 : goal.bounds-s-3
bounds-s-3 c = there_3 c.args.s.now c.requires.0 c.requires.1 _ refl c.if-a-le239.false

pub four-requires : goal.four-requires
four-requires c = range_4 c.args.s.now c.requires.0 c.requires.1 _ refl _ refl _ refl _ refl c.if-a-le239.false

pub returns : goal.returns
returns c = first_4 c.args.s.now c.requires.0 c.requires.1 _ refl _ refl _ refl _ refl c.if-a-le239.false _ c.four.ensures
