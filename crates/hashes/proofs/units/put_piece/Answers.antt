-- `units::put_piece`: nothing, a part of the name, or the `/` and a part of the name. Assumes nothing.
use mathlib.Core.List.{[], ◌∷◌, ◌++◌}
use Prim.Native.Nat.{◌+◌, ◌-◌}
use native.Mathlib.Omega.{arith}
use lib.ListN.{length, set, take, drop, length-set, length-take, length-drop}
use Rattle.base.specs.Output.{Wrote}
use Rattle.base.specs.OutputLaws.{wrote_none, wrote_as, wrote-rest, wrote-sets, wrote-length}
use Rattle.text.specs.Name.{suffix}
use Rattle.ids.specs.LoweredUnits.{name_units}
use Rattle.text.specs.Utf16.{unit_bytes}
use Rattle.batch.specs.Holds.{text_at}
use Rattle.hashes.specs.PieceLaws.{piece-size, piece-behind, piece-front}
use Rattle.hashes.proofs.units.put_piece.Goals.{After-slice_known-2-1}
use Rattle.hashes.proofs.units.put_piece.Goals as goal

-- the `/` was stored, and the name behind it
both : (c : After-slice_known-2-1)
    → let a = c.args in
    let o = set (set a.out.now 0 47) 1 0 in
    Wrote a.out.now (47 ∷ 0 ∷ [] ++ unit_bytes (take (a.n - 1) (drop 0 (name_units (text_at a.s.now a.u.place) (suffix a.u.number)))))
    (take 2 o ++ (c.put_name-2.new.out ++ drop (length o - 2) (drop 2 o))) (2 + c.put_name-2.result)
both c =
    let a = c.args in
    wrote-rest (wrote-sets a.out.now (47 ∷ 0 ∷ []) (omega arith)) c.put_name-2.ensures

pub returns-then-n-eq0 : goal.returns-then-n-eq0
returns-then-n-eq0 c = rw c.if-n-eq0.true (wrote_none _)

pub put_name-requires : goal.put_name-requires
put_name-requires c = (c.requires.0, omega (arith, piece-size c.args.s.now c.args.u.place c.args.u.number), c.requires.2)

pub returns-then-from-gt0 : goal.returns-then-from-gt0
returns-then-from-gt0 c = let a = c.args in
    wrote_as c.put_name.ensures
    (piece-behind a.s.now a.u.place a.u.number a.from a.n c.if-from-gt0.true)

pub bounds-out-1 : goal.bounds-out-1
bounds-out-1 c = simp length-set (omega arith)

pub slice_bounds-put_name-count : goal.slice_bounds-put_name-count
slice_bounds-put_name-count c = simp length-set (omega arith)

pub slice_bounds-put_name-start : goal.slice_bounds-put_name-start
slice_bounds-put_name-start c = simp length-set (omega arith)

pub put_name-requires-2 : goal.put_name-requires-2
put_name-requires-2 c = (c.requires.0, omega (arith, piece-size c.args.s.now c.args.u.place c.args.u.number), simp (length-take, length-drop, length-set) (omega arith))

pub overflow_add-result : goal.overflow_add-result
overflow_add-result c = omega (arith, (both (goal.at.overflow_add-result c).After-slice_known-2-1).fits)

pub shape_of-out : goal.shape_of-out
shape_of-out c = omega (arith, wrote-length (both (goal.at.shape_of-out c).After-slice_known-2-1))

pub returns : goal.returns
returns c = let a = c.args in
    wrote_as (both (goal.at.returns c).After-slice_known-2-1) (piece-front a.s.now a.u.place a.u.number a.from a.n (omega arith) (omega arith))
