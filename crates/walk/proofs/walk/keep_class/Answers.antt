-- `walk::keep_class` meets its contract: no room, a class entered, or one whose key stands already. Assumes nothing.
use mathlib.Core.Path.{◌≡◌, sym, ap, ap₂}
use mathlib.Core.Bool.{Bool, true, false}
use mathlib.Core.List.{List}
use Prim.Native.Nat.{ℕ, ◌+◌, ◌*◌, ◌-◌, ◌/◌, ◌≤◌, ◌<◌}
use native.Mathlib.Omega.{arith}
use lib.ListN.{length, take, drop, length-drop}
use Rattle.base.specs.Number.{be_at}
use Rattle.scriptblock.specs.Script.{Objects}
use Rattle.meaning.specs.Scan.{Class, class_at}
use Rattle.packages.specs.Package.{package_in}
use Rattle.packages.specs.Row.{export_no}
use Rattle.packages.specs.Walk.{Site}
use Rattle.table.specs.Table.{record_at}
use Rattle.table.specs.Words.{put}
use Rattle.resolve.specs.Classes.{class_from, ClassesIn, Classes, Entered, Stands}
use Rattle.walk.specs.Found.{Found, classes_in, State}
use Rattle.walk.specs.MarkedLaws.{marked-class}
use Rattle.resolve.specs.Lent.{lent-part}
use Rattle.walk.specs.StateLaws.{state-count, state-class-full, state-class, state-twice}
use Rattle.walk.specs.Steps.{with_own, opened_as, closed_as, Visited, Marked}
use Rattle.walk.specs.declared.walk.Census.{Census}
use Rattle.walk.specs.declared.walk.Entering.TheVariants.{Open, Full, Repeated}
use Rattle.walk.specs.declared.walk.Visit.{Visit}
use Rattle.walk.proofs.walk.keep_class.Goals as goal

-- the class of export i of the package that is visited, as the corpus has it
class-here : {s : List ℕ} {v : Visit} {d : List ℕ} → Visited s v d → (i : ℕ) → class_from s v.at i ≡ class_at (package_in v.id d) i (export_no d i)
class-here k i = ap₂ (λ (id : ℕ) (x : List ℕ). class_at (package_in id x) i (export_no x i)) (sym k.id) (sym k.site.is)

-- d: the block of the package that is visited
module _ (n : ℕ) (v : Visit) (d : List ℕ) (i : ℕ) (t : Census) (w : List ℕ) (going : t.state ≡ Open) where
  abbrev Next : Census → List ℕ → Type 0
  Next r w' = (c b : List ℕ) (o : Objects) (f : Found) → Visited c v d → State c b o n f t w → State c b o n (with_own v.block (package_in v.id d) i f) r w'

  no_room : length w / 64 ≤ n + t.classes + t.rows → {r : Census} → r ≡ closed_as t Full → Next r w
  no_room l q c b o f z k = rw q (state-class-full k going (package_in v.id d) i v.block l)

  module _ (l : n + t.classes + t.rows < length w / 64) where
    abbrev lent : List ℕ
    lent = take (length w - 56 * n) (drop (56 * n) w)

    -- what entering it asks
    asked : Classes (2 * n) t.classes (drop (56 * n) w) → 0 < n
        → Classes (2 * n) t.classes lent × (0 < 2 * n) × (record_at (2 * n) 64 (t.classes + 1) ≤ length lent)
    asked k h = (rw (lent-part (56 * n) w) k, omega arith, rw (lent-part (56 * n) w, length-drop (56 * n) w) (omega arith))

    module _ {r : Bool} {u : Census} where
      module _ {ys : List ℕ} (q : r ≡ true)
          (new : r ≡ true → (c : List ℕ) (xs : List Class) → Site c v.at d → v.id ≡ be_at 8 c v.at → ClassesIn c (2 * n) xs lent → length xs ≡ t.classes
          → Entered c (2 * n) xs (class_from c v.at i) lent ys)
          (g : u ≡ opened_as (t.classes + 1) t.rows t.size) where
        came : {c b : List ℕ} {o : Objects} {f : Found} → Visited c v d → State c b o n f t w
            → Entered c (2 * n) (classes_in f) (class_at (package_in v.id d) i (export_no d i)) (drop (56 * n) w) ys
        came {c} {f = f} z k =
            let x = new q c (classes_in f) z.site z.id (rw (lent-part (56 * n) w) (k.holds going).tables.classes) (state-count k going) in
            rw (class-here z i, lent-part (56 * n) w) at x

        entered : Next u (put (56 * n) (length w - 56 * n) w ys)
        entered c b o f z k = rw g (state-class k going (package_in v.id d) i v.block l (came z k))

        marked : (c b : List ℕ) (o : Objects) (f : Found) (m : List ℕ) → Visited c v d → State c b o n f t w → Marked n m t w
            → Marked n m u (put (56 * n) (length w - 56 * n) w ys)
        marked c b o f m z k h = marked-class h going l (came z k) (state-count k going) (ap (λ (x : Census). x.rows) g)

      stands : r ≡ false
          → (r ≡ false → (c : List ℕ) (xs : List Class) → Site c v.at d → v.id ≡ be_at 8 c v.at → ClassesIn c (2 * n) xs lent → length xs ≡ t.classes
          → Stands xs (class_from c v.at i))
          → u ≡ closed_as t (Repeated v.block) → {w' : List ℕ} → Next u w'
      stands q old g {w'} c b o f z k =
          let x = old q c (classes_in f) z.site z.id (rw (lent-part (56 * n) w) (k.holds going).tables.classes) (state-count k going) in
          rw g (state-twice k going (package_in v.id d) i v.block (rw (class-here z i) at x))

pub returns-then-w-n-clause-state : goal.returns-then-w-n-clause-state
returns-then-w-n-clause-state c =
    let a = c.args in
    no_room a.n a.v a.p.now.block.bytes.now a.i a.t a.w.now c.requires.open_value.0 c.if-w-n.true c.closed.ensures

pub enter_class-requires-clause-classes : goal.enter_class-requires-clause-classes
enter_class-requires-clause-classes c =
    let a = c.args in
    let q = c.requires.open_value in
    let k = asked a.n a.v a.p.now.block.bytes.now a.i a.t a.w.now q.0 c.if-w-n.false q.2 q.3 in
    (k.0, k.1, q.4, k.2)

pub returns-then-enter_class-clause-state : goal.returns-then-enter_class-clause-state
returns-then-enter_class-clause-state c =
    let a = c.args in
    entered a.n a.v a.p.now.block.bytes.now a.i a.t a.w.now c.requires.open_value.0 c.if-w-n.false c.if-enter_class.true c.enter_class.ensures.new c.opened.ensures

pub returns-then-enter_class-clause-marks : goal.returns-then-enter_class-clause-marks
returns-then-enter_class-clause-marks c =
    let a = c.args in
    marked a.n a.v a.p.now.block.bytes.now a.i a.t a.w.now c.requires.open_value.0 c.if-w-n.false c.if-enter_class.true c.enter_class.ensures.new c.opened.ensures

pub returns-clause-state : goal.returns-clause-state
returns-clause-state c =
    let a = c.args in
    stands a.n a.v a.p.now.block.bytes.now a.i a.t a.w.now c.requires.open_value.0 c.if-w-n.false c.if-enter_class.false c.enter_class.ensures.old
    c.closed-2.ensures
