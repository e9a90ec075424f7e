-- `walk::scan_block` meets its contract: refused, scanned, or passed over where nothing more is entered. Assumes nothing.
use mathlib.Core.Path.{◌≡◌, refl, sym}
use mathlib.Core.List.{List}
use Prim.Native.Nat.{ℕ}
use Rattle.base.specs.Reading.{run_block}
use Rattle.scriptblock.specs.Script.{Objects}
use Rattle.zen.specs.AnswersLaws.{rejected-got}
use Rattle.zen.specs.Zen.{package_block}
use Rattle.packages.specs.Package.{package_in}
use Rattle.packages.specs.WalkLaws.{layout_package}
use Rattle.walk.specs.Found.{Found, with_package, State}
use Rattle.walk.specs.StateLaws.{package_behind, state_closed}
use Rattle.walk.specs.declared.walk.Census.{Census}
use Rattle.walk.specs.declared.walk.Entering.TheVariants.{Open}
use Rattle.walk.specs.declared.walk.Visit.{Visit}
use Rattle.walk.proofs.Scans.{ok_same, err_same}
use Rattle.walk.proofs.walk.scan_block.Goals as goal

-- nothing more is entered
shut : (d b : List ℕ) (n limit : ℕ) (v : Visit) {t : Census} {w : List ℕ} → (t.state ≡ Open → ⊥) → {c : List ℕ} {o : Objects} {f : Found} → State c b o n f t w
    → State c b o n (with_package limit o v.block (package_in v.id d) f) t w
shut d b n limit v h {o = o} {f = f} k = state_closed k h (package_behind limit o v.block (package_in v.id d) f) refl

pub returns-in-Err-clause-refused : goal.returns-in-Err-clause-refused
returns-in-Err-clause-refused c = λ r z. rw (← err_same z, c.at.ensures.0) (c.at.ensures.1, rejected-got (run_block package_block c.args.b.now) (sym c.in-Err.ensures))

pub returns-in-Ok-clause-read : goal.returns-in-Ok-clause-read
returns-in-Ok-clause-read c = λ t z. (layout_package c.args.b.now c.in-Ok.l (sym c.in-Ok.ensures)).is

pub returns-in-Ok-clause-small : goal.returns-in-Ok-clause-small
returns-in-Ok-clause-small c = λ t x z h. rw (← ok_same z) (c.scan_package.ensures.small x h)

pub returns-in-Ok-2-clause-read : goal.returns-in-Ok-2-clause-read
returns-in-Ok-2-clause-read c = λ t z. (layout_package c.args.b.now c.in-Ok-2.field-0 (sym c.in-Ok-2.ensures)).is

pub returns-in-Ok-2-clause-state : goal.returns-in-Ok-2-clause-state
returns-in-Ok-2-clause-state c = λ t k o f z v x.
    let a = c.args in
    rw (← ok_same z) (shut a.b.now a.s.now.block.now a.s.now.count a.s.now.limit a.v (c.is_open.ensures.1 c.if-is_open.false) x)
