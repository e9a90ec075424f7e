-- `decode::chars::quick_char` meets its contract. Assumes nothing.
use Rattle.std.proofs.Common.{refl}
use Rattle.decode.proofs.TableLaws.{quick-one, quick-range, quick-three}
use Rattle.decode.proofs.chars.quick_char.Goals as goal

pub returns-then-a-le127 : goal.returns-then-a-le127
returns-then-a-le127 c = rw c.from.ensures (quick-one c.args.s.now c.args.at c.requires _ refl c.if-a-le127.true)

pub three-requires : goal.three-requires
three-requires c = quick-range c.args.s.now c.args.at c.requires _ refl _ c.is_common.ensures c.if-is_common.true _ refl _ refl

pub returns-then-is_common : goal.returns-then-is_common
returns-then-is_common c =
    quick-three c.args.s.now c.args.at c.requires _ refl _ c.is_common.ensures c.if-is_common.true _ refl _ refl _ c.three.ensures
