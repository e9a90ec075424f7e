-- `chain::put_chain` meets its contract. The loop's invariant: the objects so far are in the chain, and the path is theirs behind that of the object
-- at hand. Assumes nothing.
use mathlib.Core.Path.{◌≡◌, refl, ◌∙◌, ap}
use mathlib.Core.List.{List}
use Prim.Native.Nat.{ℕ, suc, ◌-◌}
use native.Mathlib.Omega.{arith}
use lib.ListN.{length, length-set}
use Rattle.base.specs.NumberLaws.{Bytes}
use Rattle.scriptblock.specs.Script.{Objects}
use Rattle.objects.specs.Numbers.{entry_no, link_of}
use Rattle.objects.specs.PathLaws.{link-inside, outer_no}
use Rattle.objects.specs.Work.{ObjectsIn}
use Rattle.objects.specs.declared.object.Object.{Object}
use Rattle.hashes.specs.ChainLaws.{Own, own-work, reached_none, reached_end, reached_lost, reached_top, reached_up}
use Rattle.hashes.proofs.chain.put_chain.Goals.{After-name_of}
use Rattle.hashes.proofs.chain.put_chain.Goals as goal

-- the object at hand: its name is there, and where its outer leads
own : (c : After-name_of) {b : List ℕ} {o : Objects} → ObjectsIn b o c.args.w.now → Bytes b → Own b o c.loop-depth.at c.name_of.result
own c {b} {o} t y = rw c.name_of.ensures (own-work t y c.loop-depth.at c.loop-depth.invariant.0 (c.object_at-u.ensures b o t) refl)

link : (c : After-name_of) {b : List ℕ} {o : Objects} → ObjectsIn b o c.args.w.now
    → c.object_at-u.result.outer ≡ link_of o (entry_no o c.loop-depth.at).outer
link c {b} {o} t = ap (λ (u : Object). u.outer) (c.object_at-u.ensures b o t) ∙ outer_no b o c.loop-depth.at

pub loop-depth-init : goal.loop-depth-init
loop-depth-init c = (c.requires.1, omega arith, omega arith, λ b o t y. reached_none b o (length c.args.chain.now) c.args.i c.args.chain.now)

pub returns-in-Missing-clause-told : goal.returns-in-Missing-clause-told
returns-in-Missing-clause-told c =
    let l = c.loop-depth in
    let d = (goal.at.returns-in-Missing-clause-told c).After-name_of in
    λ b o t y. reached_lost (l.invariant.3 b o t y) c.loop-depth-test.true l.invariant.2 (own d t y) (c.in-Missing.ensures ∙ link d t)

pub returns-in-Nothing-clause-told : goal.returns-in-Nothing-clause-told
returns-in-Nothing-clause-told c =
    let l = c.loop-depth in
    let d = (goal.at.returns-in-Nothing-clause-told c).After-name_of in
    λ b o t y. reached_top (l.invariant.3 b o t y) c.loop-depth-test.true l.invariant.2 (own d t y) (c.in-Nothing.ensures ∙ link d t)

pub loop-depth-preserved : goal.loop-depth-preserved
loop-depth-preserved c =
    let l = c.loop-depth in
    let p = c.requires.0 in
    let d = (goal.at.loop-depth-preserved c).After-name_of in
    let z : suc (suc c.in-Object.outer) - 2 ≡ c.in-Object.outer = omega arith in (
      rw z at (link-inside p.holds (entry_no p.objects l.at).outer (c.in-Object.ensures ∙ link d p.holds) (omega arith)),
      omega (arith, c.loop-depth-test.true),
      simp length-set l.invariant.2,
      λ b o t y. reached_up (l.invariant.3 b o t y) c.loop-depth-test.true l.invariant.2 (own d t y) (c.in-Object.ensures ∙ link d t),
    )

pub returns-clause-told : goal.returns-clause-told
returns-clause-told c = λ b o t y. reached_end (c.loop-depth.invariant.3 b o t y) (omega (arith, c.loop-depth-test.false))
