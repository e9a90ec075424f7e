-- `text::name::put_name_text` meets its contract: the bytes first, then their number in front of them. Assumes nothing.
use mathlib.Core.Path.{◌≡◌}
use Prim.Native.Nat.{◌+◌, ◌≤◌}
use native.Mathlib.Omega.{arith}
use lib.ListN.{length, length-append, length-take, length-drop}
use Rattle.base.specs.Number.{be_bytes}
use Rattle.base.specs.OutputLaws.{wrote_as, wrote_count, wrote-front}
use Rattle.text.specs.Utf8.{utf8}
use Rattle.text.specs.Name.{rendered, text_bytes}
use Rattle.text.specs.NameLaws.{text_bytes-length}
use Rattle.text.proofs.name.put_name_text.Goals.{Start}
use Rattle.text.proofs.name.put_name_text.Goals as goal

-- there is room for the text
room : (c : Start) → 4 + length (utf8 (rendered c.args.text.part.wide c.args.text.part.bytes.now c.args.number)) ≤ length c.args.out.now
room c = rw text_bytes-length at c.requires.0

pub slice_bounds-put_name-count : goal.slice_bounds-put_name-count
slice_bounds-put_name-count c = omega (arith, room (goal.at.slice_bounds-put_name-count c).Start)

pub slice_bounds-put_name-start : goal.slice_bounds-put_name-start
slice_bounds-put_name-start c = omega (arith, room (goal.at.slice_bounds-put_name-start c).Start)

pub put_name-n-requires : goal.put_name-n-requires
put_name-n-requires c = simp (length-take, length-drop) (omega (arith, room (goal.at.put_name-n-requires c).Start))

pub put_be32-requires : goal.put_be32-requires
put_be32-requires c =
    simp (length-append, length-take, length-drop)
    (omega (arith, room (goal.at.put_be32-requires c).Start, c.put_name-n.auto.out))

pub returns : goal.returns
unfolding text_bytes be_bytes
returns c =
    let v = c.put_name-n.ensures in
    let w = c.put_be32.ensures in
    let four : c.put_be32.result ≡ 4 = w.size in
    wrote_as
    (wrote_count
    (wrote-front v (omega (arith, room (goal.at.returns c).Start)) (wrote_count w four))
    (omega arith))
    (rw v.size)
