-- `walk::scan_export` meets its contract: the row, then the class. Assumes nothing.
use mathlib.Core.Path.{◌≡◌, refl, sym, ◌∙◌}
use mathlib.Core.Bool.{Bool, true, false}
use mathlib.Core.List.{List}
use Prim.Native.Nat.{ℕ, ◌*◌, ◌≤◌, ◌<◌}
use native.Mathlib.Omega.{arith}
use lib.ListN.{length, take, drop}
use Rattle.scriptblock.specs.Script.{Objects}
use Rattle.zen.specs.declared.tables.Export.{Export}
use Rattle.meaning.specs.Scan.{is_class}
use Rattle.objects.specs.Work.{ObjectsIn, LinkedOf}
use Rattle.packages.specs.Package.{package_in}
use Rattle.packages.specs.Row.{export_no}
use Rattle.resolve.specs.Classes.{Classes}
use Rattle.walk.specs.Found.{Found, with_export, State}
use Rattle.walk.specs.StateLaws.{export-both, class-none, class-more, class-behind, class-hash, class-some, state-classes, state_closed}
use Rattle.walk.specs.Steps.{with_row, with_own, Visited, SomeState}
use Rattle.walk.specs.declared.walk.Census.{Census}
use Rattle.walk.specs.declared.walk.Entering.TheVariants.{Open}
use Rattle.walk.specs.declared.walk.Visit.{Visit}
use Rattle.walk.proofs.walk.scan_export.Goals.{After-is_class}
use Rattle.walk.proofs.walk.scan_export.Goals as goal

room-is : {b : List ℕ} {n : ℕ} {v : Visit} {d : List ℕ} {t : Census} {w : List ℕ} → SomeState b n v d t w → t.state ≡ Open → 64 * n ≤ length w
room-is k h = omega (arith, k.holds.room h)

-- b: the script block; d: the block of the package that is visited. The row is kept: from t and w on there are r and w₁
module _ (n limit : ℕ) (v : Visit) (i : ℕ) (d b : List ℕ) {t r : Census} {w w₁ : List ℕ}
    (row : (c b : List ℕ) (o : Objects) (f : Found) → State c b o n f t w → State c b o n (with_row (package_in v.id d) i f) r w₁) where
  abbrev Next : Census → List ℕ → Type 0
  Next u w' = (c : List ℕ) (o : Objects) (f : Found) → Visited c v d → State c b o n f t w → State c b o n (with_export limit o v.block (package_in v.id d) i f) u w'

  -- nothing more is entered
  shut : (r.state ≡ Open → ⊥) → Next r w₁
  shut h c o f z k =
      rw (export-both (package_in v.id d) i f limit o v.block)
      (state_closed (row c b o f k) h (class-behind limit o v.block (package_in v.id d) i (with_row (package_in v.id d) i f)) refl)

  module _ (going : r.state ≡ Open) where
    abbrev some-row : SomeState b n v d t w → SomeState b n v d r w₁
    some-row k = record {
      corpus = k.corpus;
      objects = k.objects;
      found = with_row (package_in v.id d) i k.found;
      visited = k.visited;
      holds = row k.corpus b k.objects k.found k.holds;
    }

    linked : SomeState b n v d t w → LinkedOf b (take (56 * n) w₁)
    linked k = record { objects = k.objects; holds = ((some-row k).holds.holds going).tables.objects }

    -- whether the export is a class
    module _ {e : Export} (at : e ≡ export_no d i) {is : Bool} (told : (o : Objects) → ObjectsIn b o (take (56 * n) w₁) → is ≡ is_class limit o e) where
      class-is : {c : List ℕ} {o : Objects} {f : Found} → State c b o n f r w₁ → is_class limit o (export_no d i) ≡ is
      class-is {o = o} k = rw (← at) (sym (told o (k.holds going).tables.objects))

      no_class_lem : is ≡ false → Next r w₁
      no_class_lem h c o f z k =
          let x = row c b o f k in
          rw (export-both (package_in v.id d) i f limit o v.block, class-none (package_in v.id d) i (with_row (package_in v.id d) i f) limit o v.block (class-is x ∙ h)) x

      module _ (h : is ≡ true) where
        a-class : {u : Census} {w₂ : List ℕ}
            → ((c b : List ℕ) (o : Objects) (f : Found) → Visited c v d → State c b o n f r w₁ → State c b o n (with_own v.block (package_in v.id d) i f) u w₂)
            → Next u w₂
        a-class class c o f z k =
            let x = row c b o f k in
            rw (export-both (package_in v.id d) i f limit o v.block, class-more (package_in v.id d) i (with_row (package_in v.id d) i f) limit o v.block (class-is x ∙ h))
            (class c b o (with_row (package_in v.id d) i f) z x)

        -- what entering it asks
        asked : SomeState b n v d t w → ((export_no d i).hash ≡ 0 → ⊥) × Classes (2 * n) r.classes (drop (56 * n) w₁) × (0 < n)
        asked k =
            let x = (some-row k).holds in
            let c = class-is x ∙ h in (
              class-hash limit k.objects (export_no d i) c,
              state-classes x going,
              class-some limit k.objects (export_no d i) c (x.holds going).tables.count (x.holds going).tables.objects,
            )

-- the row is kept, all is entered, and the export is looked at
module _ (c : After-is_class) where
  open-row : c.keep_row-r.result.state ≡ Open
  open-row = c.is_open.ensures.0 c.if-not-is_open.false

  export-is : c.export-e.result ≡ export_no c.args.p.now.block.bytes.now c.args.i
  export-is = c.export-e.ensures

  -- what entering its class asks
  class-asked : c.is_class.result ≡ true → let r = c.keep_row-r in
      ((export_no c.args.p.now.block.bytes.now c.args.i).hash ≡ 0 → ⊥) × Classes (2 * c.args.s.now.count) r.result.classes (drop (56 * c.args.s.now.count) r.new.w) × (0 < c.args.s.now.count)
  class-asked h =
      let a = c.args in
      asked a.s.now.count a.s.now.limit a.v a.i a.p.now.block.bytes.now a.s.now.block.now c.keep_row-r.ensures.state open-row export-is c.is_class.ensures h c.requires.open_value.1

pub returns-then-not-is_open-clause-state : goal.returns-then-not-is_open-clause-state
returns-then-not-is_open-clause-state c =
    let a = c.args in
    shut a.s.now.count a.s.now.limit a.v a.i a.p.now.block.bytes.now a.s.now.block.now c.keep_row-r.ensures.state (c.is_open.ensures.1 c.if-not-is_open.true)

pub keep_class-requires-clause-export : goal.keep_class-requires-clause-export
keep_class-requires-clause-export c =
    let z = (goal.at.keep_class-requires-clause-export c).After-is_class in
    (c.requires.export, (class-asked z c.if-is_class.true).0)

pub keep_class-requires-clause-open_value : goal.keep_class-requires-clause-open_value
keep_class-requires-clause-open_value c =
    let z = (goal.at.keep_class-requires-clause-open_value c).After-is_class in
    let e = c.keep_row-r.ensures in
    let q = c.requires.open_value in
    let k = class-asked z c.if-is_class.true in
    (open-row z, omega (arith, room-is q.1 q.0, e.size), k.1, k.2, omega (arith, e.grown.0, q.2), omega (arith, e.grown.1, q.3))

pub returns-then-is_class-clause-state : goal.returns-then-is_class-clause-state
returns-then-is_class-clause-state c =
    let z = (goal.at.returns-then-is_class-clause-state c).After-is_class in
    let a = c.args in
    a-class a.s.now.count a.s.now.limit a.v a.i a.p.now.block.bytes.now a.s.now.block.now c.keep_row-r.ensures.state (open-row z) (export-is z) c.is_class.ensures c.if-is_class.true
    c.keep_class.ensures.state

pub returns-then-is_class-clause-marks : goal.returns-then-is_class-clause-marks
returns-then-is_class-clause-marks c = λ l m.
    let z = (goal.at.returns-then-is_class-clause-marks c).After-is_class in
    let a = c.args in
    let e = c.keep_row-r.ensures in
    let p = some-row a.s.now.count a.s.now.limit a.v a.i a.p.now.block.bytes.now a.s.now.block.now e.state (open-row z) c.requires.open_value.1 in
    c.keep_class.ensures.marks p.corpus a.s.now.block.now p.objects p.found _ p.visited p.holds (e.marks l m)

pub returns-clause-state : goal.returns-clause-state
returns-clause-state c =
    let z = (goal.at.returns-clause-state c).After-is_class in
    let a = c.args in
    no_class_lem a.s.now.count a.s.now.limit a.v a.i a.p.now.block.bytes.now a.s.now.block.now c.keep_row-r.ensures.state (open-row z) (export-is z) c.is_class.ensures c.if-is_class.false
