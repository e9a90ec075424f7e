-- `walk::scan_package` meets its contract: its section is counted, then its exports. Assumes nothing.
use mathlib.Core.Path.{◌≡◌, ap}
use mathlib.Core.List.{List, ◌++◌}
use Prim.Native.Nat.{ℕ, ◌+◌, ◌*◌, ◌^◌, ◌≤◌, ◌<◌}
use native.Mathlib.Omega.{arith}
use lib.ListN.{length}
use Rattle.scriptblock.specs.Script.{Objects}
use Rattle.packages.specs.Package.{read_in, package_in, PackageIn}
use Rattle.packages.specs.PackageLaws.{package_in_lem, package_facts, export_count_lem}
use Rattle.packages.specs.declared.package.Parts.{Parts}
use Rattle.resolve.specs.MarkLaws.{few-steps, step_is}
use Rattle.resolve.specs.Marks.{marks_from, step_at, marks_of}
use Rattle.walk.specs.Found.{Found, head_size, with_exports, State}
use Rattle.walk.specs.MarkedLaws.{marked-same}
use Rattle.walk.specs.StateLaws.{state-head}
use Rattle.walk.specs.Steps.{opened_as, SomeState, Marked, row_most, head_most, Grown, Small}
use Rattle.walk.specs.declared.walk.Census.{Census}
use Rattle.walk.specs.declared.walk.Entering.TheVariants.{Open}
use Rattle.walk.specs.declared.walk.Visit.{Visit}
use Rattle.walk.proofs.walk.scan_package.Goals.{After-parts_of}
use Rattle.walk.proofs.walk.scan_package.Goals as goal

few-exports : {d : List ℕ} {p : Parts} → PackageIn d p → 72 * p.count ≤ length d
few-exports a = let f = package_facts a in omega (arith, f.few-exports, f.exports, export_count_lem a)

-- behind x bytes of packages comes one of m bytes, which has so many exports
module _ {x : ℕ} (m count : ℕ) {k : ℕ} {t : Census} (h : Small x t) (fits : 72 * count ≤ m) (head : k ≤ head_most) where
  module _ (room : x + 12 + m < 2 ^ 32 + 4) where
    few-classes : t.classes + count < 2 ^ 32
    few-classes = omega (arith, h.classes)

    few-rows : t.rows + count < 2 ^ 32
    few-rows = omega (arith, h.rows)

    few_bytes : t.size + k + row_most * count < 2 ^ 60
    few_bytes = omega (arith, h.size)

  small-next : {r : Census} → Grown count (opened_as t.classes t.rows (t.size + k)) r → Small (x + 12 + m) r
  small-next g = record { classes = omega (arith, h.classes, g.classes); rows = omega (arith, h.rows, g.rows); size = omega (arith, h.size, g.size) }

-- d: the block of the package that is visited; b: the script block
module _ (d b : List ℕ) (n limit : ℕ) (v : Visit) {t : Census} {w : List ℕ} (going : t.state ≡ Open) {k : ℕ} (head : (id : ℕ) → k ≡ head_size (package_in id d))
    {u : Census} (is : u ≡ opened_as t.classes t.rows (t.size + k)) where
  state_headed : {c : List ℕ} {o : Objects} {f : Found} → State c b o n f t w → State c b o n (with_exports limit o v.block (package_in v.id d) 0 f) u w
  state_headed s = rw is (state-head s going limit v.block (package_in v.id d) (ap (λ (z : ℕ). t.size + z) (head v.id)))

  some_headed : SomeState b n v d t w → SomeState b n v d u w
  some_headed s = record {
    corpus = s.corpus;
    objects = s.objects;
    found = with_exports limit s.objects v.block (package_in v.id d) 0 s.found;
    visited = s.visited;
    holds = state_headed s.holds;
  }

  marked_headed : {p : Parts} → PackageIn d p → {step : ℕ} → step ≡ step_at v.at p.exports → {r : Census} {w' : List ℕ}
      → ((l : List ℕ) → Marked n l u w → Marked n (l ++ marks_from (read_in d) step (read_in d).exports) r w')
      → (l : List ℕ) → Marked n l t w → Marked n (l ++ marks_of v.at d) r w'
  marked_headed a e next l m = rw (← step_is a v.at e) (next l (marked-same m going (ap (λ (x : Census). x.rows) is)))

-- its parts are those of an accepted package
accepted : (c : After-parts_of) → PackageIn c.args.b.now c.parts_of.result
accepted c = package_in_lem c.args.b.now c.args.l c.parts_of.result c.requires.b_value c.parts_of.ensures

pub invariant_of-block : goal.invariant_of-block
invariant_of-block c = record { accepted = accepted (goal.at.invariant_of-block c).After-parts_of; fits = λ i. (c.type_inv.b i).fits }

pub step_of-step-requires : goal.step_of-step-requires
step_of-step-requires c =
    (few-steps c.requires.open_value.1.visited.site (accepted (goal.at.step_of-step-requires c).After-parts_of)).0

pub scan_exports-requires : goal.scan_exports-requires
scan_exports-requires c =
    let o = c.opened-before.ensures in
    let h = c.head_len.ensures in
    let p = c.parts_of.result in
    let a = c.args in
    let q = c.requires.open_value in
    let k = accepted (goal.at.scan_exports-requires c).After-parts_of in
    let (x, small, room) = q.2 in rw c.noted-p.ensures (record {
      some_state = (
        some_headed a.b.now a.s.now.block.now a.s.now.count a.s.now.limit a.v q.0 (rw c.noted-p.ensures at h.0) o q.1,
        rw o (few-classes (length a.b.now) p.count small (few-exports k) h.1 room),
        rw o (few-rows (length a.b.now) p.count small (few-exports k) h.1 room),
        rw o (few_bytes (length a.b.now) p.count small (few-exports k) h.1 room),
        rw c.step_of-step.ensures (few-steps q.1.visited.site k).1,
      );
    })

pub returns-clause-state : goal.returns-clause-state
returns-clause-state c = λ q o f z x.
    let a = c.args in
    (rw c.noted-p.ensures at c.scan_exports.ensures.state) q o f z
    (state_headed a.b.now a.s.now.block.now a.s.now.count a.s.now.limit a.v c.requires.open_value.0 (rw c.noted-p.ensures at c.head_len.ensures.0) c.opened-before.ensures x)

pub returns-clause-small : goal.returns-clause-small
returns-clause-small c = λ x small.
    let k = accepted (goal.at.returns-clause-small c).After-parts_of in
    small-next (length c.args.b.now) c.parts_of.result.count small (few-exports k) c.head_len.ensures.1
    (rw (c.noted-p.ensures, c.opened-before.ensures) at c.scan_exports.ensures.grown)

pub returns-clause-marks : goal.returns-clause-marks
returns-clause-marks c =
    let a = c.args in
    let k = accepted (goal.at.returns-clause-marks c).After-parts_of in
    marked_headed a.b.now a.s.now.block.now a.s.now.count a.s.now.limit a.v c.requires.open_value.0 (rw c.noted-p.ensures at c.head_len.ensures.0) c.opened-before.ensures k
    c.step_of-step.ensures (rw c.noted-p.ensures at c.scan_exports.ensures.marks)
