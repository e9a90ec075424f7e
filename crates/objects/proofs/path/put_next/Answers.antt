-- `path::put_next` meets its contract: the separator, and the name behind it. Assumes nothing.
use native.Mathlib.Omega.{arith}
use lib.ListN.{length-set}
use Rattle.objects.specs.PutLaws.{name_of}
use Rattle.objects.specs.ToldLaws.{next-length, next-name, next-wrote}
use Rattle.objects.proofs.path.put_next.Goals as goal

pub bounds-out-0 : goal.bounds-out-0
bounds-out-0 c =
    omega (arith, next-length c.requires.holds.1 c.separator_of.ensures (name_of c.args.b.now c.args.u))

pub slice_bounds-put_name-count : goal.slice_bounds-put_name-count
slice_bounds-put_name-count c =
    simp length-set (omega (arith, next-length c.requires.holds.1 c.separator_of.ensures (name_of c.args.b.now c.args.u)))

pub slice_bounds-put_name-start : goal.slice_bounds-put_name-start
slice_bounds-put_name-start c =
    simp length-set (omega (arith, next-length c.requires.holds.1 c.separator_of.ensures (name_of c.args.b.now c.args.u)))

pub put_name-n-requires : goal.put_name-n-requires
put_name-n-requires c = (
  c.requires.holds.0,
  next-name c.requires.holds.1 c.separator_of.ensures (name_of c.args.b.now c.args.u) c.args.out.now c.requires.number_in_bounds,
)

pub returns : goal.returns
returns c =
    next-wrote c.requires.holds.1 c.separator_of.ensures (name_of c.args.b.now c.args.u) c.args.out.now c.requires.number_in_bounds c.put_name-n.ensures
