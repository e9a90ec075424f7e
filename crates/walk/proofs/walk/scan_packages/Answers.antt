-- `walk::scan_packages` meets its contract. The loop's invariant: the first i packages are accepted, and the state and the marks are theirs. Assumes nothing.
use mathlib.Core.Path.{◌≡◌, refl}
use Prim.Native.Nat.{ℕ, ◌+◌, ◌^◌, ◌≤◌, ◌<◌}
use native.Mathlib.Omega.{arith}
use Rattle.walk.specs.Steps.{Small}
use Rattle.walk.specs.declared.walk.Census.{Census}
use Rattle.walk.proofs.Scans.{ok_same, handed}
use Rattle.walk.proofs.walk.scan_packages.Invariants.{table-room, front, begun, site, stopped, asked, next}
use Rattle.walk.proofs.walk.scan_packages.Goals.{After-loop-i}
use Rattle.walk.proofs.walk.scan_packages.Goals as goal

few : {x m : ℕ} {t : Census} → Small x t → x ≤ m → m < 2 ^ 32 + 4 → (t.rows < 2 ^ 32) × (t.size < 2 ^ 60)
few h l r = (omega (arith, h.rows), omega (arith, h.size))

pub clear-requires : goal.clear-requires
clear-requires c =
    let a = c.args in
    table-room a.p.now.corpus.now a.p.now.at a.s.now.block.now a.s.now.count a.s.now.limit a.w.now c.requires.linked.0

pub loop-i-init : goal.loop-i-init
loop-i-init c =
    let a = c.args in
    let u = c.clear in
    begun a.p.now.corpus.now a.p.now.at a.s.now.block.now a.s.now.count a.s.now.limit a.w.now c.requires.linked.0 u.new.w a.s.now.fits c.requires.linked.1 u.ensures c.opened-t.ensures

pub visit_at-v-requires : goal.visit_at-v-requires
visit_at-v-requires c =
    let l = c.loop-i in
    let a = c.args in
    ((site a.p.now.corpus.now a.p.now.at a.s.now.block.now a.s.now.count a.s.now.limit l.invariant a.p.now.sites c.loop-i-test.true).starts, omega (arith, c.loop-i-test.true, c.requires.few.0))

pub block_at-requires : goal.block_at-requires
block_at-requires c =
    let a = c.args in
    let k = site a.p.now.corpus.now a.p.now.at a.s.now.block.now a.s.now.count a.s.now.limit c.loop-i.invariant a.p.now.sites c.loop-i-test.true in
    (k.starts, k.stops)

pub scan_block-requires : goal.scan_block-requires
scan_block-requires c =
    let a = c.args in
    record {
      some_state = asked a.p.now.corpus.now a.p.now.at a.s.now.block.now a.s.now.count a.s.now.limit c.loop-i.invariant a.p.now.sites c.loop-i-test.true c.block_at.ensures
          c.visit_at-v.ensures;
    }

pub returns-in_err-t-clause-refused : goal.returns-in_err-t-clause-refused
returns-in_err-t-clause-refused c = λ r z.
    let a = c.args in
    let e = c.in_err-t.ensures.refused _ refl in
    rw (handed c.from_residual.ensures.1 z)
    (stopped a.p.now.corpus.now a.p.now.at a.s.now.block.now a.s.now.count a.s.now.limit c.loop-i.invariant a.p.now.sites c.loop-i-test.true c.block_at.ensures c.visit_at-v.ensures e.0 e.1)

pub next_at-place-requires : goal.next_at-place-requires
next_at-place-requires c =
    let a = c.args in
    let k = site a.p.now.corpus.now a.p.now.at a.s.now.block.now a.s.now.count a.s.now.limit c.loop-i.invariant a.p.now.sites c.loop-i-test.true in
    (k.starts, k.stops)

pub loop-i-preserved : goal.loop-i-preserved
loop-i-preserved c =
    let e = c.in_ok-t.ensures in
    let l = c.loop-i in
    let a = c.args in
    next a.p.now.corpus.now a.p.now.at a.s.now.block.now a.s.now.count a.s.now.limit l.invariant a.p.now.sites c.loop-i-test.true c.block_at.ensures c.visit_at-v.ensures (e.read _ refl)
    (λ c o f z k. e.state _ c o f refl z k) (λ y k. e.small _ y refl k) e.size (λ y k. e.marks _ y refl k) c.next_at-place.ensures

-- all packages are passed
all : (c : After-loop-i) → c.loop-i.i ≡ c.args.p.now.count
all c = omega (arith, c.loop-i.auto.i-end, c.loop-i-test.false)

pub returns-clause-all : goal.returns-clause-all
returns-clause-all c = λ t z. let n = all (goal.at.returns-clause-all c).After-loop-i in rw n at c.loop-i.invariant.read

pub returns-clause-state : goal.returns-clause-state
returns-clause-state c = λ t o z h.
    let a = c.args in
    let n = all (goal.at.returns-clause-state c).After-loop-i in
    rw (← ok_same z, ← n) (c.loop-i.invariant.state o (front a.p.now.corpus.now a.p.now.at a.s.now.block.now a.s.now.count a.s.now.limit a.w.now c.requires.linked.0 c.clear.new.w h))

pub returns-clause-few : goal.returns-clause-few
returns-clause-few c = λ t z. let k = c.loop-i.invariant in rw (← ok_same z) (few k.small k.high c.requires.few.1)

pub returns-clause-marks : goal.returns-clause-marks
returns-clause-marks c = λ t z. let n = all (goal.at.returns-clause-marks c).After-loop-i in rw (← ok_same z, ← n) c.loop-i.invariant.marks
