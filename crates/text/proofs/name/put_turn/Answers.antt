-- `text::name::put_turn` meets its contract: the low bytes of eight units, and what is beyond ASCII over those that are not. Assumes nothing.
use native.Mathlib.Omega.{arith}
use Rattle.text.specs.UnitsLaws.{units_of-words, units_of_bound}
use Rattle.text.proofs.NameLoop.{many, front_fits, front-within, front-well, beyond-room, turn-eight, turn-fewer}
use Rattle.text.proofs.name.put_turn.Goals as goal

pub put_low-requires : goal.put_low-requires
put_low-requires c =
    let a = c.args in
    let w = units_of-words a.part.wide a.part.bytes.now a.part.fits in
    (c.requires.0, omega (arith, c.requires.2, many _ a.i w c.requires.1 c.requires.0))

pub overflow_add-result : goal.overflow_add-result
overflow_add-result c = omega (arith, units_of_bound c.args.part.wide c.args.part.bytes.now)

pub returns-then-k-eq8 : goal.returns-then-k-eq8
returns-then-k-eq8 c =
    let a = c.args in
    let w = units_of-words a.part.wide a.part.bytes.now a.part.fits in
    turn-eight _ a.i _ w c.requires.1 c.requires.0 c.front-k.ensures c.put_low.ensures c.if-k-eq8.true

pub slice_bounds-put_beyond-count : goal.slice_bounds-put_beyond-count
slice_bounds-put_beyond-count c =
    let a = c.args in
    let w = units_of-words a.part.wide a.part.bytes.now a.part.fits in
    front_fits _ a.i _ w c.requires.1 c.requires.0 c.front-k.ensures c.put_low.ensures

pub slice_bounds-put_beyond-start : goal.slice_bounds-put_beyond-start
slice_bounds-put_beyond-start c =
    let a = c.args in
    let w = units_of-words a.part.wide a.part.bytes.now a.part.fits in
    omega (arith, front_fits _ a.i _ w c.requires.1 c.requires.0 c.front-k.ensures c.put_low.ensures)

pub overflow_add-i : goal.overflow_add-i
overflow_add-i c =
    let a = c.args in
    let w = units_of-words a.part.wide a.part.bytes.now a.part.fits in
    omega (arith, units_of_bound a.part.wide a.part.bytes.now, front-within _ a.i _ w c.requires.1 c.requires.0 c.front-k.ensures)

pub put_beyond-r-requires : goal.put_beyond-r-requires
put_beyond-r-requires c =
    let a = c.args in
    let w = units_of-words a.part.wide a.part.bytes.now a.part.fits in
    let e = c.front-k.ensures in (
      front-within _ a.i _ w c.requires.1 c.requires.0 e,
      front-well _ a.i _ w c.requires.1 c.requires.0 e,
      beyond-room _ a.i _ w c.requires.1 c.requires.0 e c.put_low.ensures c.requires.2,
    )

pub returns : goal.returns
returns c =
    let a = c.args in
    let w = units_of-words a.part.wide a.part.bytes.now a.part.fits in
    turn-fewer _ a.i _ w c.requires.1 c.requires.0 c.front-k.ensures c.put_low.ensures c.requires.2 c.if-k-eq8.false c.put_beyond-r.ensures
