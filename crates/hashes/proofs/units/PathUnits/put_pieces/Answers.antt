-- `units::PathUnits::put_pieces` meets its contract. The loop's invariant: what is written, and the window of what the objects left bring, are the
-- window of all. Assumes nothing.
use mathlib.Core.Path.{◌≡◌, refl, sym, ◌∙◌, ap}
use mathlib.Core.List.{List, [], ◌∷◌}
use Prim.Native.Nat.{ℕ, ◌+◌, ◌-◌, ◌*◌, ◌≤◌}
use native.Mathlib.Omega.{arith}
use lib.ListN.{length, get_or, take, drop, length-take, length-drop}
use lib.Seq.{take_all, take_at, take-take, get_or-take, get_or_at}
use Rattle.std.proofs.Common.{length-append}
use Rattle.std.specs.List.{push}
use Rattle.text.specs.UnitBytesLaws.{unit_bytes-length}
use Rattle.base.specs.OutputLaws.{wrote-length}
use Rattle.text.specs.Utf16.{unit_bytes}
use Rattle.hashes.specs.Chain.{no_name, pieces}
use Rattle.hashes.specs.PieceLaws.{pieces_none, Part, own-holds, own-fits, own-after, own-size, filled_none, filled-all, part_room, part_filled}
use Rattle.batch.specs.declared.places.Name.{Name}
use Rattle.hashes.proofs.units.PathUnits.put_pieces.Goals.{In-Some, After-min-here, After-put_piece, in-None, in-Some+then-left-eq0}
use Rattle.hashes.proofs.units.PathUnits.put_pieces.Goals as goal

-- the last of the first objects of a chain, and those before it
module _ (c xs rest : List Name) (x : Name) (h : length xs ≤ length c) (is : xs ≡ take (length xs) c) (step : xs ≡ push rest x) where
  last-length : length xs ≡ length rest + 1
  last-length = ap length step ∙ length-append rest (x ∷ [])

  last-is : x ≡ get_or c (length rest) no_name
  last-is =
      let e : get_or xs (length rest) no_name ≡ x = ap (λ (l : List Name). get_or l (length rest) no_name) step ∙ get_or_at rest x [] no_name (length rest) refl in
      sym e ∙ (ap (λ (l : List Name). get_or l (length rest) no_name) is ∙ get_or-take (length xs) c (length rest) no_name (omega (arith, last-length)))

  last-rest : rest ≡ take (length rest) c
  last-rest =
      let e : take (length rest) xs ≡ rest = ap (take (length rest)) step ∙ take_at rest (x ∷ []) (length rest) refl in
      sym e ∙ (ap (take (length rest)) is ∙ take-take (length rest) (length xs) c (omega (arith, last-length)))

-- the object at hand is the last of those left, and its part of the window
count : (c : In-Some) → length c.loop-u.u-iterator.iter.rest.now ≡ length c.next.new.self.iter.rest.now + 1
count c =
    let i = c.loop-u.invariant in
    last-length c.args.self.now.chain.now c.loop-u.u-iterator.iter.rest.now c.next.new.self.iter.rest.now c.in-Some.u.now i.0 i.1 c.in-Some.ensures.steps

object : (c : In-Some) → c.in-Some.u.now ≡ get_or c.args.self.now.chain.now (length c.next.new.self.iter.rest.now) no_name
object c =
    let i = c.loop-u.invariant in
    last-is c.args.self.now.chain.now c.loop-u.u-iterator.iter.rest.now c.next.new.self.iter.rest.now c.in-Some.u.now i.0 i.1 c.in-Some.ensures.steps

part : (c : After-min-here)
    → let l = c.loop-u in
    length l.u-iterator.iter.rest.now ≡ length c.next.new.self.iter.rest.now + 1
    → c.in-Some.u.now ≡ get_or c.args.self.now.chain.now (length c.next.new.self.iter.rest.now) no_name
    → Part c.args.self.now.names.now c.args.self.now.chain.now c.in-Some.u.now (length c.next.new.self.iter.rest.now) l.skip l.left
    c.piece_count-count.result c.min-past.result c.min-here.result
part c n o =
    let i = rw n at c.loop-u.invariant in
    record {
      bytes = c.args.self.now.fits;
      named = c.args.self.now.sized.named;
      most = omega (arith, i.0);
      object = o;
      room = i.3;
      counts = c.piece_count-count.ensures.0;
      passed = c.min-past.ensures;
      taken = c.min-here.ensures;
    }

-- the buffer has room for the window
room : (c : After-min-here)
    → let s = c.args.self.now in
    length (unit_bytes (take c.args.n (drop c.args.from (pieces s.names.now s.chain.now (length s.chain.now))))) ≤ length c.args.out.now
room c = rw unit_bytes-length (simp (length-take, length-drop) (omega arith))

pub loop-u-init : goal.loop-u-init
loop-u-init c =
    let all = c.args.self.now.chain.now in
    let e : c.into_iter-u-iterator.result.iter.rest.now ≡ all = cc in
    let z : 2 * (c.args.n - c.args.n) ≡ 0 = omega arith in
    rw (e, z) (omega arith, sym (take_all (length all) all (omega arith)), omega arith, c.requires.0, filled_none _ _, refl)

pub piece_count-count-requires : goal.piece_count-count-requires
piece_count-count-requires c =
    let d = (goal.at.piece_count-count-requires c).In-Some in
    let k = length c.next.new.self.iter.rest.now in
    let small = (c.args.self.now.sized.named.holds k (omega (arith, count d, c.loop-u.invariant.0))).small in
    rw (object d) (omega (arith, small))

pub put_piece-requires : goal.put_piece-requires
put_piece-requires c =
    let d = (goal.at.put_piece-requires c).In-Some in
    let m = (goal.at.put_piece-requires c).After-min-here in
    let t = part m (count d) (object d) in
    let i = rw (count d) at c.loop-u.invariant in
    (own-holds t, own-fits t, part_room t i.4 (room m))

pub loop-u-preserved : goal.loop-u-preserved
loop-u-preserved c =
    let d = (goal.at.loop-u-preserved c).In-Some in
    let t = part (goal.at.loop-u-preserved c).After-min-here (count d) (object d) in
    let i = rw (count d) at c.loop-u.invariant in
    let f = part_filled t i.4 c.put_piece.ensures in
    let least : c.min-here.result ≤ c.loop-u.left = omega (arith, c.min-here.ensures) in
    let at : 2 * (c.args.n - c.loop-u.left) + c.put_piece.result ≡ 2 * (c.args.n - (c.loop-u.left - c.min-here.result)) =
    omega (arith, c.put_piece.ensures.size, own-size t, i.2) in (
      omega (arith, i.0),
      last-rest c.args.self.now.chain.now c.loop-u.u-iterator.iter.rest.now c.next.new.self.iter.rest.now c.in-Some.u.now c.loop-u.invariant.0 c.loop-u.invariant.1
          c.in-Some.ensures.steps,
      omega (arith, i.2),
      own-after t,
      rw at at f,
      wrote-length f.wrote,
    )

pub returns : goal.returns
returns c =
    let s = c.args.self.now in
    let l = c.loop-u in
    let k = length l.u-iterator.iter.rest.now in
    let e : l.left ≡ 0 = elim c.match-next.branch [
      | in-None w ↦
          let i = rw w.in-None.ensures.steps.0 at l.invariant in
          omega (arith, i.3, ap length (pieces_none s.names.now s.chain.now))
      | in-Some+then-left-eq0 w ↦ w.if-left-eq0.true
    ] in
    let z : 2 * (c.args.n - l.left) ≡ 2 * c.args.n = omega arith in
    rw z at (filled-all l.invariant.4 (ap (λ (n : ℕ). unit_bytes (take n (drop l.skip (pieces s.names.now s.chain.now k)))) e))
