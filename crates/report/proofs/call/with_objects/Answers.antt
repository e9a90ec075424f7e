-- `report::call::with_objects` meets its contract. Assumes nothing.
use Rattle.std.proofs.lemmas.Result.{err_from_is_err_and}
use mathlib.Core.Path.{refl}
use Rattle.walk.specs.OpenLaws.{begun-few, begun-small}
use Rattle.report.proofs.Scanned.{scanned_refused, Walked, scanned_twice, scanned_short, scanned_all}
use Rattle.report.proofs.call.with_objects.Goals.{In_ok-t}
use Rattle.report.proofs.call.with_objects.Goals as goal

-- what the walk entered
walked : (c : In_ok-t) → let a = c.args in
    Walked a.m.objects a.c.now.bytes.now a.c.now.frame a.c.now.script.now a.s.now.block.layout.count c.in_ok-t.t a.w.now c.scan_packages.new.w
walked c =
    let (q, z, k) = c.requires in
    let e = rw (c.packages.ensures.0, c.packages.ensures.1, c.packages.ensures.2) at c.scan_packages.ensures in
    let t = c.in_ok-t.was in
    record {
      begun = c.args.c.now.begun;
      linked = k;
      packages = e.all _ t;
      state = e.state _ k.objects t k.holds;
      size = e.size;
      few = e.few _ t;
      marked = e.marks _ t;
    }

pub scan_packages-requires : goal.scan_packages-requires
scan_packages-requires c =
    let b = c.args.c.now.begun in
    rw (c.packages.ensures.0, c.packages.ensures.2) (record { few = ((begun-few b).0, (begun-few b).2); linked = (c.requires.2, begun-small b) })

pub returns-in_err-t : goal.returns-in_err-t
returns-in_err-t c =
    let p = err_from_is_err_and c.from_residual.result c.from_residual.ensures.1 in
    let e = rw (c.packages.ensures.0, c.packages.ensures.1, c.packages.ensures.2) at c.scan_packages.ensures in
    rw (p.1, p.2) (scanned_refused c.args.c.now.begun c.requires.2 (e.refused _ c.in_err-t.was) refl)

pub returns-in-Repeated : goal.returns-in-Repeated
returns-in-Repeated c = scanned_twice (walked (goal.at.returns-in-Repeated c).In_ok-t) _ c.in-Repeated.is (rw (c.at.ensures.0, c.at.ensures.1))

pub finish-requires : goal.finish-requires
finish-requires c =
    let z = walked (goal.at.finish-requires c).In_ok-t in
    record { begun = (z.packages, scanned_all z c.in-Open.is) }

pub returns-in-Open : goal.returns-in-Open
returns-in-Open c = let z = walked (goal.at.returns-in-Open c).In_ok-t in rw z.size at c.finish.ensures

pub refuse_short-requires : goal.refuse_short-requires
refuse_short-requires c = ((walked (goal.at.refuse_short-requires c).In_ok-t).packages, c.requires.0)

pub returns-in-Full : goal.returns-in-Full
returns-in-Full c = scanned_short (walked (goal.at.returns-in-Full c).In_ok-t) c.in-Full.is (rw c.requires.1 at c.refuse_short.ensures)
