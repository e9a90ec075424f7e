-- `walk::scan_exports` meets its contract. The loop's invariant: the state and the marks are those of the first i exports. Assumes nothing.
use Prim.Native.Nat.{ℕ, ◌≤◌}
use native.Mathlib.Omega.{arith}
use Rattle.packages.specs.PackageLaws.{export_count_lem}
use Rattle.walk.specs.MarkedLaws.{marked_closed}
use Rattle.walk.specs.Steps.{Grown}
use Rattle.walk.specs.declared.walk.Census.{Census}
use Rattle.walk.proofs.walk.scan_exports.Invariants.{begun, more, shut, whole, marked}
use Rattle.walk.proofs.walk.scan_exports.Goals as goal

grown-more : {m i : ℕ} {t₀ t : Census} → i ≤ m → Grown i t₀ t → Grown m t₀ t
grown-more h g = record { classes = omega (arith, g.classes); rows = omega (arith, g.rows); size = omega (arith, g.size) }

pub loop-i-init : goal.loop-i-init
loop-i-init c =
    let a = c.args in
    begun a.p.now.block.bytes.now a.s.now.block.now a.s.now.count a.s.now.limit a.v a.step c.requires.some_state.0

pub returns-then-not-is_open-clause-state : goal.returns-then-not-is_open-clause-state
returns-then-not-is_open-clause-state c =
    let l = c.loop-i in
    let a = c.args in
    shut a.p.now.block.bytes.now a.s.now.block.now a.s.now.count a.s.now.limit a.v a.step l.invariant a.p.now.block.accepted l.auto.i-end (c.is_open.ensures.1 c.if-not-is_open.true)

pub returns-then-not-is_open-clause-grown : goal.returns-then-not-is_open-clause-grown
returns-then-not-is_open-clause-grown c = grown-more c.loop-i.auto.i-end c.loop-i.invariant.grown

pub returns-then-not-is_open-clause-marks : goal.returns-then-not-is_open-clause-marks
returns-then-not-is_open-clause-marks c = λ l m. marked_closed (c.is_open.ensures.1 c.if-not-is_open.true)

pub scan_export-t-requires-clause-open_value : goal.scan_export-t-requires-clause-open_value
scan_export-t-requires-clause-open_value c =
    let l = c.loop-i in
    let g = l.invariant.grown in
    let q = c.requires.some_state in
    let h = c.loop-i-test.true in (
      c.is_open.ensures.0 c.if-not-is_open.false,
      l.invariant.some,
      omega (arith, g.classes, q.1, h),
      omega (arith, g.rows, q.2, h),
      omega (arith, g.size, q.3, h),
      omega (arith, q.4, h),
    )

pub loop-i-preserved : goal.loop-i-preserved
loop-i-preserved c =
    let l = c.loop-i in
    let a = c.args in
    let p = a.p.now in
    let e = c.scan_export-t.ensures in
    more p.block.bytes.now a.s.now.block.now a.s.now.count a.s.now.limit a.v a.step l.invariant e.state e.grown e.size (omega (arith, c.loop-i-test.true, export_count_lem p.block.accepted)) e.marks

pub returns-clause-state : goal.returns-clause-state
returns-clause-state c =
    let a = c.args in
    whole a.p.now.block.bytes.now a.s.now.block.now a.s.now.count a.s.now.limit a.v a.step c.loop-i.invariant a.p.now.block.accepted (omega (arith, c.loop-i.auto.i-end, c.loop-i-test.false))

pub returns-clause-grown : goal.returns-clause-grown
returns-clause-grown c = grown-more c.loop-i.auto.i-end c.loop-i.invariant.grown

pub returns-clause-marks : goal.returns-clause-marks
returns-clause-marks c =
    let a = c.args in
    marked a.p.now.block.bytes.now a.s.now.block.now a.s.now.count a.s.now.limit a.v a.step c.loop-i.invariant a.p.now.block.accepted (omega (arith, c.loop-i.auto.i-end, c.loop-i-test.false))
