-- `row::put_row` meets its contract: the texts behind the first ten bytes, then what stands before them in these. Assumes nothing.
use mathlib.Core.List.{List}
use Prim.Native.Nat.{ℕ, ◌≤◌}
use native.Mathlib.Omega.{arith}
use lib.ListN.{length}
use Rattle.scriptblock.specs.Script.{Objects}
use Rattle.meaning.specs.Scan.{Class}
use Rattle.resolve.specs.Rows.{limits_of}
use Rattle.sections.specs.Written.{row_for}
use Rattle.sections.specs.WrittenLaws.{behind, behind-length, again-length}
use Rattle.sections.specs.Pieces.{row_texts, row_no, RowDue}
use Rattle.sections.specs.PieceLaws.{row_size_lem, row_wrote}
use Rattle.sections.proofs.row.put_row.Goals as goal

-- a buffer with room for the row has room for its texts behind ten bytes
texts_fit_lem : (objects : ℕ) (xs : List Class) (o : Objects) (lookups id : ℕ) (d : List ℕ) (i : ℕ) (out : List ℕ) → length (row_for (limits_of lookups objects) xs o id d i) ≤ length out
    → (10 ≤ length out) × (length (row_texts (row_no (limits_of lookups objects) xs o id d i)) ≤ length (behind 10 out))
texts_fit_lem objects xs o lookups id d i out h =
    let e = row_size_lem (row_no (limits_of lookups objects) xs o id d i) in
    let ten : 10 ≤ length out = omega arith in
    (ten, omega (arith, behind-length 10 out ten))

pub slice_bounds-put_texts-count : goal.slice_bounds-put_texts-count
slice_bounds-put_texts-count c =
    let r = c.requires in
    (texts_fit_lem c.args.src.now.limit r.classes r.read r.lookups r.id c.args.p.now.block.bytes.now r.number c.args.out.now r.room).0

pub slice_bounds-put_texts-start : goal.slice_bounds-put_texts-start
slice_bounds-put_texts-start c =
    let r = c.requires in
    (texts_fit_lem c.args.src.now.limit r.classes r.read r.lookups r.id c.args.p.now.block.bytes.now r.number c.args.out.now r.room).0

pub put_texts-t-requires : goal.put_texts-t-requires
put_texts-t-requires c =
    let r = c.requires in
    record {
      class_kind = c.kind_of-kind.ensures;
      texts_room = record {
        read = r.read;
        classes = r.classes;
        lookups = r.lookups;
        id = r.id;
        number = r.number;
        due = record { inside = r.inside; kind_is = r.kind_is; row_is = r.row_is; target = r.target };
        room = (texts_fit_lem c.args.src.now.limit r.classes r.read r.lookups r.id c.args.p.now.block.bytes.now r.number c.args.out.now r.room).1;
      };
    }

pub put_front-requires : goal.put_front-requires
put_front-requires c =
    let r = c.requires in
    let f = texts_fit_lem c.args.src.now.limit r.classes r.read r.lookups r.id c.args.p.now.block.bytes.now r.number c.args.out.now r.room in
    let t = c.put_texts-t.ensures r.read r.classes r.lookups r.id r.number (record { inside = r.inside; kind_is = r.kind_is; row_is = r.row_is; target = r.target }) f.1 in
    let l = behind-length 10 c.args.out.now f.0 in
    omega (arith, t.wrote.fits, again-length 10 c.args.out.now c.put_texts-t.new.out f.0 c.put_texts-t.auto.out)

pub returns : goal.returns
returns c = λ o xs lookups id i inside kind is target room.
    let a = c.args in
    let d : RowDue a.src.now.packages.corpus.now a.src.now.script.now a.src.now.objects a.src.now.limit a.src.now.work.now a.p.now.block.bytes.now a.p.now.block.parts a.v.now a.l o xs lookups id i = record { inside = inside; kind_is = kind; row_is = is; target = target } in
    let f = texts_fit_lem a.src.now.limit xs o lookups id a.p.now.block.bytes.now i a.out.now room in
    row_wrote c.args.p.now.block.accepted d a.out.now c.kind_of-kind.ensures f.0 (c.put_texts-t.ensures o xs lookups id i d f.1) c.put_front.ensures

pub overflow_add-result : goal.overflow_add-result
overflow_add-result c =
    let r = c.requires in
    let a = c.args in
    let d : RowDue a.src.now.packages.corpus.now a.src.now.script.now a.src.now.objects a.src.now.limit a.src.now.work.now a.p.now.block.bytes.now a.p.now.block.parts a.v.now a.l r.read r.classes r.lookups r.id r.number =
    record { inside = r.inside; kind_is = r.kind_is; row_is = r.row_is; target = r.target } in
    let f = texts_fit_lem a.src.now.limit r.classes r.read r.lookups r.id a.p.now.block.bytes.now r.number a.out.now r.room in
    let w = row_wrote c.args.p.now.block.accepted d a.out.now c.kind_of-kind.ensures f.0 (c.put_texts-t.ensures r.read r.classes r.lookups r.id r.number d f.1) c.put_front.ensures in
    omega (arith, w.fits)
