-- `decode::write::put_pair` meets its contract: the bytes are there and in their ranges, since the text is UTF-8. Assumes nothing.
use native.Mathlib.Omega.{arith}
use Rattle.base.specs.OutputLaws.{wrote_none, wrote_as}
use Rattle.text.specs.UnitBytesLaws.{wrote-one}
use Rattle.decode.proofs.RunLaws.{four-turn, four-pair}
use Rattle.decode.proofs.write.put_pair.Goals as goal

pub bounds-s-at-2 : goal.bounds-s-at-2
bounds-s-at-2 c = let t = four-turn c.args.s.now c.args.at c.requires.0 c.requires.1 c.requires.2 in omega (arith, t.within)

pub bounds-s-at-3 : goal.bounds-s-at-3
bounds-s-at-3 c = let t = four-turn c.args.s.now c.args.at c.requires.0 c.requires.1 c.requires.2 in omega (arith, t.within)

pub bounds-s-at-4 : goal.bounds-s-at-4
bounds-s-at-4 c = let t = four-turn c.args.s.now c.args.at c.requires.0 c.requires.1 c.requires.2 in omega (arith, t.within)

pub returns : goal.returns
returns c =
    let a = c.args in
    let high = wrote-one 0 _ (wrote_none a.out.now) (omega arith) c.put_unit.ensures in
    let both = wrote-one 1 _ high (omega arith) c.put_unit-2.ensures in
    let e = four-pair a.s.now a.at c.requires.0 c.requires.1 c.requires.2 _ _
    (omega (arith, c.from-a.ensures, c.from-b.ensures, c.from-c.ensures))
    (omega (arith, c.from-c.ensures, c.from-d.ensures)) in
    (four-turn a.s.now a.at c.requires.0 c.requires.1 c.requires.2, wrote_as both e)
