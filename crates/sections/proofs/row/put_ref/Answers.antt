-- `row::put_ref` meets its contract: the text's bytes behind the first four, then their number in these. Assumes nothing.
use Prim.Native.Nat.{◌+◌, ◌≤◌}
use native.Mathlib.Omega.{arith}
use lib.ListN.{length}
use Rattle.packages.specs.RefBytes.{ref_bytes}
use Rattle.sections.specs.WrittenLaws.{behind-length, again-length, first-size, first-wrote}
use Rattle.sections.proofs.row.put_ref.Goals.{Start}
use Rattle.sections.proofs.row.put_ref.Goals as goal

room : (c : Start) → 4 + length (ref_bytes c.args.p.now.block.bytes.now c.args.index) ≤ length c.args.out.now
room c = first-size (ref_bytes c.args.p.now.block.bytes.now c.args.index) c.requires.1

pub slice_bounds-put_reference-count : goal.slice_bounds-put_reference-count
slice_bounds-put_reference-count c = omega (arith, room (goal.at.slice_bounds-put_reference-count c).Start)

pub slice_bounds-put_reference-start : goal.slice_bounds-put_reference-start
slice_bounds-put_reference-start c = omega (arith, room (goal.at.slice_bounds-put_reference-start c).Start)

pub put_reference-n-requires : goal.put_reference-n-requires
put_reference-n-requires c =
    let r = room (goal.at.put_reference-n-requires c).Start in
    (c.requires.0, omega (arith, behind-length 4 c.args.out.now (omega arith)))

pub put_length-requires : goal.put_length-requires
put_length-requires c =
    let r = room (goal.at.put_length-requires c).Start in
    omega (arith, again-length 4 c.args.out.now c.put_reference-n.new.out (omega arith) c.put_reference-n.auto.out)

pub returns : goal.returns
returns c =
    let r = room (goal.at.returns c).Start in
    first-wrote (omega arith) c.put_reference-n.ensures c.put_length.ensures
