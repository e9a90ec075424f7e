-- `tables::put_numbers` meets its contract. The loop's invariant: what is not written yet is the numbers from here on. Assumes nothing.
use mathlib.Core.Bool.{true}
use mathlib.Core.List.{List, ◌++◌}
use mathlib.Core.Path.{◌≡◌, ◌∙◌, ap}
use Prim.Native.Nat.{ℕ, ◌+◌, ◌-◌}
use native.Mathlib.Omega.{arith}
use Rattle.base.specs.Find.{flat}
use Rattle.base.specs.OutputLaws.{wrote_as}
use Rattle.decode.proofs.WriteLaws.{partly_none, partly_all, partly_room, partly_next}
use Rattle.base.specs.Number.{be_at, le_bytes}
use Rattle.base.specs.NumberLaws.{length-le_bytes}
use Rattle.header.specs.Places.{text_end, next_text, imported_from}
use Rattle.header.specs.Parts.{texts_fit}
use Rattle.header.specs.PartsLaws.{Fitting, fit-first}
use Rattle.header.specs.RegionLaws.{number_bytes}
use Rattle.header.specs.WritingLaws.{number-turn, number-last}
use Rattle.header.proofs.tables.put_numbers.Goals.{In-loop, After-next_text-end}
use Rattle.header.proofs.tables.put_numbers.Goals as goal

-- the text at hand, and those behind it
first : (c : In-loop) → Fitting 4 c.args.names.s.now c.loop.at × (texts_fit 4 c.args.names.s.now (next_text 4 c.args.names.s.now c.loop.at) (c.args.names.count - c.loop.counter - 1) ≡ true)
first c = fit-first 4 c.args.names.s.now c.loop.at (c.args.names.count - c.loop.counter) (omega arith) c.loop.invariant.0

-- its number, and those behind it
abbrev this : In-loop → List ℕ
this c = le_bytes 4 (be_at 4 c.args.names.s.now (text_end c.args.names.s.now c.loop.at))

abbrev rest : In-loop → List ℕ
rest c = flat number_bytes (imported_from c.args.names.s.now (next_text 4 c.args.names.s.now c.loop.at) (c.args.names.count - c.loop.counter - 1))

turn : (c : In-loop) → flat number_bytes (imported_from c.args.names.s.now c.loop.at (c.args.names.count - c.loop.counter)) ≡ this c ++ rest c
turn c = number-turn c.args.names.s.now c.loop.at (c.args.names.count - c.loop.counter) (omega arith)

text_end-is : (c : After-next_text-end) → c.next_text-end.result ≡ text_end c.args.names.s.now c.loop.at
text_end-is c = omega (arith, c.next_text-end.ensures)

pub loop-init : goal.loop-init
loop-init c = let all : c.args.names.count - 0 ≡ c.args.names.count = omega arith in let fit = rw c.requires.0 at c.args.names.fit in rw all (fit, partly_none _ _)

pub next_text-end-requires : goal.next_text-end-requires
next_text-end-requires c =
    let (f, g) = first (goal.at.next_text-end-requires c).In-loop in
    record { there = f.there; next = omega (arith, f.next) }

pub slice_bounds-put_le32-count : goal.slice_bounds-put_le32-count
slice_bounds-put_le32-count c = omega (arith, c.loop.invariant.1.wrote.fits)

pub be32-requires : goal.be32-requires
be32-requires c =
    let (f, g) = first (goal.at.be32-requires c).In-loop in
    omega (arith, text_end-is (goal.at.be32-requires c).After-next_text-end, f.next)

pub put_le32-n-requires : goal.put_le32-n-requires
put_le32-n-requires c =
    let k = (goal.at.put_le32-n-requires c).In-loop in
    omega (
      arith,
      length-le_bytes 4 (be_at 4 c.args.names.s.now (text_end c.args.names.s.now c.loop.at)),
      partly_room c.loop.invariant.1 (this k) (rest k) (turn k) c.requires.1,
    )

pub overflow_add-n : goal.overflow_add-n
overflow_add-n c =
    let e = text_end-is (goal.at.overflow_add-n c).After-next_text-end in
    let p = partly_next c.loop.invariant.1 _ _ (turn (goal.at.overflow_add-n c).In-loop)
    (wrote_as c.put_le32-n.ensures (ap (le_bytes 4) (c.be32.ensures ∙ ap (be_at 4 c.args.names.s.now) e))) in
    omega (arith, p.wrote.fits)

pub overflow_add-at : goal.overflow_add-at
overflow_add-at c =
    let (f, g) = first (goal.at.overflow_add-at c).In-loop in
    omega (arith, text_end-is (goal.at.overflow_add-at c).After-next_text-end, f.next)

pub loop-preserved : goal.loop-preserved
loop-preserved c =
    let l = c.loop in
    let (f, g) = first (goal.at.loop-preserved c).In-loop in
    let e = text_end-is (goal.at.loop-preserved c).After-next_text-end in
    let left : c.args.names.count - (l.counter + 1) ≡ c.args.names.count - l.counter - 1 = omega arith in
    let p = partly_next l.invariant.1 _ _ (turn (goal.at.loop-preserved c).In-loop)
    (wrote_as c.put_le32-n.ensures (ap (le_bytes 4) (c.be32.ensures ∙ ap (be_at 4 c.args.names.s.now) e))) in
    rw (e, left) (g, p)

pub returns : goal.returns
returns c = partly_all c.loop.invariant.1 (number-last c.args.names.s.now c.loop.at (c.args.names.count - c.loop.counter) (omega arith))
