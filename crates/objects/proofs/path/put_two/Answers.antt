-- `path::put_two` meets its contract: the outer's name is its path, and the name of the object comes behind it. Assumes nothing.
use mathlib.Core.Path.{◌≡◌, refl}
use mathlib.Core.List.{List}
use Prim.Native.Nat.{ℕ, ◌-◌, ◌≤◌}
use native.Mathlib.Omega.{arith}
use lib.ListN.{length}
use Rattle.base.specs.Output.{Wrote}
use Rattle.scriptblock.specs.Script.{Objects}
use Rattle.objects.specs.Numbers.{path_no}
use Rattle.objects.specs.PathLaws.{path_end}
use Rattle.objects.specs.Told.{known, path_bytes, Written}
use Rattle.objects.specs.ToldLaws.{written_none, written-first}
use Rattle.objects.specs.Work.{Stands}
use Rattle.objects.specs.PutLaws.{stands-holds, stands-top, up-stands, up_room, up-lost, up-wrote, up-deep, up_next, up_more}
use Rattle.objects.proofs.path.put_two.Goals.{After-put_name-at}
use Rattle.objects.proofs.path.put_two.Goals as goal

-- more than one object may come
more : (n : ℕ) → (n ≡ 0 → ⊥) → (n ≡ 1 → ⊥) → n - 1 ≡ 0 → ⊥
more n a b z = omega arith

-- the outer's path is written
first : (c : After-put_name-at) (q : Objects) (w : List ℕ) (j : ℕ) → Stands c.args.b.now q w j c.args.v
    → length (path_bytes (path_no (c.args.limit - 1) q j)) ≤ length c.args.out.now
    → Written
    (path_no (c.args.limit - 1) q j)
    c.args.out.now
    c.put_name-at.new.out
    (known c.put_name-at.result 1)
first c q w j st room =
    written-first (stands-top st (c.args.limit - 1) (more c.args.limit c.requires.read.some c.if-limit-eq1.false) c.requires.top) c.put_name-at.ensures

outer-wrote : (c : After-put_name-at)
    → Wrote
    c.args.out.now
    (path_bytes (path_no
    (c.args.limit - 1)
    c.requires.objects
    (c.args.u.outer - 2)))
    c.put_name-at.new.out
    c.put_name-at.result
outer-wrote c =
    let r = c.requires in
    up-wrote r.stands r.read c.args.out.now r.room (λ q j. first c q r.work j) _ 1 refl

pub returns-then-limit-eq1 : goal.returns-then-limit-eq1
returns-then-limit-eq1 c = λ o w i st a room.
    up-lost st a c.args.out.now room (λ q j sq rq. written_none c.args.out.now (path_end (c.args.limit - 1) q j (omega arith))) refl

pub put_name-at-requires : goal.put_name-at-requires
put_name-at-requires c =
    let r = c.requires in
    let v = up-stands r.stands r.read c.args.out.now r.room in
    let e = stands-top v (c.args.limit - 1) (more c.args.limit r.read.some c.if-limit-eq1.false) r.top in
    (stands-holds v (λ j. (c.type_inv.b j).fits), rw e at (up_room r.stands r.read c.args.out.now r.room))

pub put_next-n-requires : goal.put_next-n-requires
put_next-n-requires c =
    let r = c.requires in
    let d = up-deep r.stands r.read c.args.out.now r.room (λ q j. first (goal.at.put_next-n-requires c).After-put_name-at q r.work j) _ 1 refl in
    let n = up_next r.stands r.read c.args.out.now r.room (λ q j. first (goal.at.put_next-n-requires c).After-put_name-at q r.work j) _ 1 refl in
    record { holds = (stands-holds r.stands (λ j. (c.type_inv.b j).fits), d.0); number_in_bounds = n }

pub returns : goal.returns
returns c = λ o w i st a room.
    up_more st a c.args.out.now room (λ q j. first (goal.at.returns c).After-put_name-at q w j) _ 1 refl c.put_next-n.ensures
