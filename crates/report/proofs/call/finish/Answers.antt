-- `report::call::finish` meets its contract. Assumes nothing.
use native.Mathlib.Omega.{arith}
use Rattle.resolve.specs.MarkLaws.{marks_then}
use Rattle.resolve.specs.Marks.{MarksKept}
use Rattle.walk.specs.OpenLaws.{begun-few}
use Rattle.report.proofs.Finished.{gathered-classes, gathered-kept, gathered-linked, gathered-marks, Summed, finish-beyond, finish-outside, finish_roomy, finish-room, finish-report}
use Rattle.report.proofs.call.finish.Goals.{After-resolve_all, then-size-gt-MOST-via-then-size-gt-MOST, then-size-gt-MOST-via-else-size-gt-MOST+then-report-size}
use Rattle.report.proofs.call.finish.Goals as goal

-- what the rows come to
summed : (c : After-resolve_all) → let a = c.args in
    Summed a.m.lookups a.m.objects a.c.now.bytes.now a.c.now.frame a.c.now.script.now a.n a.t a.w.now c.link_classes.new.w c.resolve_all.new.w c.resolve_all.result
summed c =
    let (a, g) = c.requires.begun in
    record { begun = c.args.c.now.begun; packages = a; gathered = g; links = c.link_classes.ensures.kept; resolves = c.resolve_all.ensures.is }

-- the rows' marks are as the walk left them
marked : (c : After-resolve_all) → let a = c.args in MarksKept a.n a.t.rows a.w.now c.resolve_all.new.w
marked c =
    let k = c.link_classes in
    marks_then (gathered-linked (summed c).gathered k.ensures.linked k.auto.w) c.resolve_all.ensures.marks

pub link_classes-requires : goal.link_classes-requires
link_classes-requires c = gathered-classes c.requires.begun.1

pub resolve_all-requires : goal.resolve_all-requires
resolve_all-requires c =
    let g = c.requires.begun.1 in
    (gathered-kept g c.link_classes.ensures.kept, g.few.0)

pub overflow_add-size : goal.overflow_add-size
overflow_add-size c =
    let g = (summed (goal.at.overflow_add-size c).After-resolve_all).gathered in
    omega (arith, g.few.0, g.few.1, c.resolve_all.ensures.few)

pub returns-then-size-gt-MOST : goal.returns-then-size-gt-MOST
returns-then-size-gt-MOST c =
    let z = summed (goal.at.returns-then-size-gt-MOST c).After-resolve_all in
    elim c.then-size-gt-MOST.branch [
      | then-size-gt-MOST-via-then-size-gt-MOST w ↦ finish-beyond z w.if-size-gt-MOST.true (rw (c.at.ensures.0, c.at.ensures.1))
      | then-size-gt-MOST-via-else-size-gt-MOST+then-report-size w ↦ finish-outside z w.if-report-size.true (rw (c.at.ensures.0, c.at.ensures.1))
    ]

pub pool_texts-requires : goal.pool_texts-requires
pool_texts-requires c =
    finish_roomy (summed (goal.at.pool_texts-requires c).After-resolve_all) c.link_classes.auto.w

pub put_report-requires : goal.put_report-requires
put_report-requires c =
    let z = summed (goal.at.put_report-requires c).After-resolve_all in
    let kept = marks_then (marked (goal.at.put_report-requires c).After-resolve_all) c.pool_texts.ensures.marks in
    rw (c.packages.ensures.0, c.packages.ensures.1, c.packages.ensures.2) (record {
      read = (z.packages, omega (arith, (begun-few c.args.c.now.begun).0));
      report_room = finish-room z c.pool_texts.ensures.is _ c.if-size-gt-MOST.false c.if-report-size.false;
      marks_in = gathered-marks z.gathered kept;
    })

pub returns : goal.returns
returns c =
    let put = rw (c.packages.ensures.0, c.packages.ensures.1, c.packages.ensures.2) at c.put_report.ensures in
    finish-report (summed (goal.at.returns c).After-resolve_all) c.pool_texts.ensures.is c.if-size-gt-MOST.false c.if-report-size.false put
