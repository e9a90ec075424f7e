-- `call::with_objects` meets its contract. Assumes nothing.
use mathlib.Core.Path.{refl}
use Rattle.std.proofs.lemmas.Result.{err_from_is_err_and}
use Rattle.meaning.specs.Call.{limits}
use Rattle.walk.specs.OpenLaws.{begun-few, begun-small, opened_package}
use Rattle.verify.specs.StepLaws.{answered-opened}
use Rattle.verify.proofs.Scanned.{Walked, walked-twice, walked_all}
use Rattle.verify.proofs.call.with_objects.Goals.{In_ok-k}
use Rattle.verify.proofs.call.with_objects.Goals as goal

-- what the walk entered
walked : (c : In_ok-k) → let a = c.args in
    Walked a.c.now.bytes.now a.c.now.frame a.c.now.script.now a.s.now.block.layout.count a.t c.in_ok-k.k a.w.now c.scan_packages.new.w
walked c =
    let (q, z, k, y) = c.requires in
    let e = rw (c.packages.ensures.0, c.packages.ensures.1, c.packages.ensures.2) at c.scan_packages.ensures in
    let t = c.in_ok-k.was in
    record { begun = c.args.c.now.begun; linked = k; tally = y; packages = e.all _ t; state = e.state _ k.objects t k.holds }

pub scan_packages-requires : goal.scan_packages-requires
scan_packages-requires c =
    let (q, z, k, y) = c.requires in
    let b = c.args.c.now.begun in
    rw (c.packages.ensures.0, c.packages.ensures.2) (record { few = ((begun-few b).0, (begun-few b).2); linked = (k, begun-small b) })

pub returns-in_err-k : goal.returns-in_err-k
returns-in_err-k c =
    let (q, z, k, y) = c.requires in
    let e = rw (c.packages.ensures.0, c.packages.ensures.1, c.packages.ensures.2) at c.scan_packages.ensures in
    let p = err_from_is_err_and c.from_residual.result c.from_residual.ensures.1 in
    rw (p.1, p.2) (answered-opened (opened_package limits _ c.args.c.now.begun k.holds.all.read (e.refused _ c.in_err-k.was)) refl)

pub returns-in-Repeated : goal.returns-in-Repeated
returns-in-Repeated c = rw (c.at.ensures.0, c.at.ensures.1) (walked-twice (walked (goal.at.returns-in-Repeated c).In_ok-k) _ c.in-Repeated.is)

pub finish-requires : goal.finish-requires
finish-requires c = walked_all (walked (goal.at.finish-requires c).In_ok-k) c.in-Open.is

pub compare-requires : goal.compare-requires
compare-requires c =
    let (q, z, k, y) = c.requires in
    ((walked (goal.at.compare-requires c).In_ok-k).packages, q, z, y)
