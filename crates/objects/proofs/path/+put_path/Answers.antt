-- `path::put_path` meets its contract: the outer's path by the recursive call, then the separator and the name. The measure is how many objects may
-- still come. Assumes nothing.
use Rattle.std.proofs.Common.{◌≡◌, sym, arith, ◌-◌, ℕ}
use Rattle.base.specs.Output.{Wrote}
use Rattle.base.specs.OutputLaws.{wrote-length}
use Rattle.objects.specs.Numbers.{path_no}
use Rattle.objects.specs.PathLaws.{path_end}
use Rattle.objects.specs.Told.{path_bytes}
use Rattle.objects.specs.ToldLaws.{written_none, written-first}
use Rattle.objects.specs.PutLaws.{outer-read, stands-holds, stands-linked, stands-lost, stands-top, outer-inside, up-stands, up_room, up-lost, up-wrote, up-deep, up_next, up_more}
use Rattle.objects.proofs.path.+put_path.Goals.{In_ok-above-in-Object}
use Rattle.objects.proofs.path.+put_path.Goals as goal

-- the outer's path is written
outer-wrote : (t : ℕ) (c : In_ok-above-in-Object t)
    → Wrote c.args.out.now (path_bytes (path_no (c.args.limit - 1) c.requires.objects (c.args.u.outer - 2))) c.put_path.new.out c.in_ok-above-in-Object.above.len
outer-wrote t c =
    let r = c.requires in
    let a = outer-read c.args.u c.if-limit-eq0.false c.in-Object.ensures c.object_at-v.ensures in
    up-wrote r.stands a c.args.out.now r.room c.put_path.ensures _ _ c.in_ok-above-in-Object.was

pub returns-then-limit-eq0 : goal.returns-then-limit-eq0
returns-then-limit-eq0 t c = λ o i st room. written_none c.args.out.now (path_end c.args.limit o i (omega arith))

pub returns-in-Missing : goal.returns-in-Missing
returns-in-Missing t c = λ o i st room.
    written_none c.args.out.now (stands-lost st c.args.limit c.if-limit-eq0.false (sym c.in-Missing.ensures))

pub put_name-len-requires : goal.put_name-len-requires
put_name-len-requires t c =
    let r = c.requires in
    (stands-holds r.stands (λ j. (c.type_inv.b j).fits), rw (stands-top r.stands c.args.limit c.if-limit-eq0.false (sym c.in-Nothing.ensures)) at r.room)

pub returns-in-Nothing : goal.returns-in-Nothing
returns-in-Nothing t c = λ o i st room.
    written-first (stands-top st c.args.limit c.if-limit-eq0.false (sym c.in-Nothing.ensures)) c.put_name-len.ensures

pub object_at-v-requires : goal.object_at-v-requires
object_at-v-requires t c =
    let s = c.requires.stands in
    let k : c.args.u.outer - 2 ≡ c.in-Object.i = omega (arith, c.in-Object.ensures) in
    (stands-linked s, rw k at (outer-inside s (λ z. omega (arith, c.in-Object.ensures)) (λ z. omega (arith, c.in-Object.ensures))))

pub returns-then-eq : goal.returns-then-eq
returns-then-eq t c = λ o i st room.
    c.put_two.ensures o _ i st (outer-read c.args.u c.if-limit-eq0.false c.in-Object.ensures c.object_at-v.ensures) room

pub put_path-requires : goal.put_path-requires
put_path-requires t c =
    let r = c.requires in
    let a = outer-read c.args.u c.if-limit-eq0.false c.in-Object.ensures c.object_at-v.ensures in (
      omega arith,
      record {
        objects = r.objects;
        number = c.args.u.outer - 2;
        stands = up-stands r.stands a c.args.out.now r.room;
        room = up_room r.stands a c.args.out.now r.room;
      },
    )

pub returns-in_err-above-in-Object : goal.returns-in_err-above-in-Object
returns-in_err-above-in-Object t c = λ o i st room.
    let a = outer-read c.args.u c.if-limit-eq0.false c.in-Object.ensures c.object_at-v.ensures in
    rw c.from_residual.ensures (up-lost st a c.args.out.now room c.put_path.ensures c.in_err-above-in-Object.was)

pub slice_bounds-put_next-count : goal.slice_bounds-put_next-count
slice_bounds-put_next-count t c =
    let w = outer-wrote t (goal.at.slice_bounds-put_next-count t c).In_ok-above-in-Object in omega (arith, w.fits, wrote-length w)

pub slice_bounds-put_next-start : goal.slice_bounds-put_next-start
slice_bounds-put_next-start t c =
    let w = outer-wrote t (goal.at.slice_bounds-put_next-start t c).In_ok-above-in-Object in omega (arith, w.fits, wrote-length w)

pub put_next-n-requires : goal.put_next-n-requires
put_next-n-requires t c =
    let r = c.requires in
    let a = outer-read c.args.u c.if-limit-eq0.false c.in-Object.ensures c.object_at-v.ensures in
    let d = up-deep r.stands a c.args.out.now r.room c.put_path.ensures _ _ c.in_ok-above-in-Object.was in
    let n = up_next r.stands a c.args.out.now r.room c.put_path.ensures _ _ c.in_ok-above-in-Object.was in
    record { holds = (stands-holds r.stands (λ j. (c.type_inv.b j).fits), d.0); number_in_bounds = n }

pub overflow_add-result-in-Object : goal.overflow_add-result-in-Object
overflow_add-result-in-Object t c =
    let r = c.requires in
    let a = outer-read c.args.u c.if-limit-eq0.false c.in-Object.ensures c.object_at-v.ensures in
    let d = up-deep r.stands a c.args.out.now r.room c.put_path.ensures _ _ c.in_ok-above-in-Object.was in
    omega (arith, d.1)

pub returns-in_ok-above-in-Object : goal.returns-in_ok-above-in-Object
returns-in_ok-above-in-Object t c = λ o i st room.
    let a = outer-read c.args.u c.if-limit-eq0.false c.in-Object.ensures c.object_at-v.ensures in
    up_more st a c.args.out.now room c.put_path.ensures _ _ c.in_ok-above-in-Object.was c.put_next-n.ensures
