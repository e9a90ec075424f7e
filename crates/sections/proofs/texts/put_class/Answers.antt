-- `texts::put_class` meets its contract: the class's path behind the first four bytes, then its length in these. Assumes nothing.
use Prim.Native.Nat.{◌≤◌}
use native.Mathlib.Omega.{arith}
use lib.ListN.{length}
use Rattle.text.specs.Name.{text_bytes}
use Rattle.text.specs.NameLaws.{text_bytes-length}
use Rattle.resolve.specs.Classes.{class_no}
use Rattle.sections.specs.WrittenLaws.{behind-length, again-length, first-wrote}
use Rattle.sections.proofs.texts.put_class.Goals.{Start}
use Rattle.sections.proofs.texts.put_class.Goals as goal

-- there is room for a length
four : (c : Start) → 4 ≤ length c.args.out.now
four c = omega (arith, text_bytes-length (class_no c.requires.classes c.args.i).path, c.requires.room)

pub slice_bounds-put_class_path-count : goal.slice_bounds-put_class_path-count
slice_bounds-put_class_path-count c = four (goal.at.slice_bounds-put_class_path-count c).Start

pub slice_bounds-put_class_path-start : goal.slice_bounds-put_class_path-start
slice_bounds-put_class_path-start c = four (goal.at.slice_bounds-put_class_path-start c).Start

pub put_class_path-k-requires : goal.put_class_path-k-requires
put_class_path-k-requires c =
    let r = c.requires in
    record {
      classes = r.classes;
      holds = rw c.rest.ensures r.holds;
      inside = r.inside;
      room = omega (arith, text_bytes-length (class_no r.classes c.args.i).path, r.room, behind-length 4 c.args.out.now (four (goal.at.put_class_path-k-requires c).Start));
    }

pub put_length-requires : goal.put_length-requires
put_length-requires c =
    omega (arith, again-length 4 c.args.out.now c.put_class_path-k.new.out (four (goal.at.put_length-requires c).Start) c.put_class_path-k.auto.out, four (goal.at.put_length-requires c).Start)

pub overflow_add-result : goal.overflow_add-result
unfolding text_bytes
overflow_add-result c =
    let r = c.requires in
    let w = first-wrote {s = c.args.out.now} (four (goal.at.overflow_add-result c).Start) (c.put_class_path-k.ensures r.classes (rw c.rest.ensures r.holds) r.inside) c.put_length.ensures in
    omega (arith, w.fits)

pub returns : goal.returns
unfolding text_bytes
returns c = λ xs h z.
    first-wrote (four (goal.at.returns c).Start) (c.put_class_path-k.ensures xs (rw c.rest.ensures h) z) c.put_length.ensures
