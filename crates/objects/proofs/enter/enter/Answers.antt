-- `enter::enter` meets its contract. The loop's invariant: the first i objects are entered, and the first fault from object i on is the first of
-- all. Assumes nothing.
use Rattle.std.specs.Prelude.{Option, Some, None, is_some}
use mathlib.Core.Bool.{false, false≢true}
use mathlib.Core.Path.{◌≡◌, refl, sym, ◌∙◌}
use Prim.Native.Nat.{ℕ, ◌<◌}
use native.Mathlib.Omega.{arith}
use Rattle.std.proofs.lemmas.Result.{err_from_is_err_and}
use Rattle.base.specs.NumberLaws.{Bytes}
use Rattle.scriptblock.specs.ScriptFaults.{no_fault, fault-first, fault-none, fault-own, fault-seen, fault-next}
use Rattle.base.proofs.Numbers.{number-some}
use Rattle.scriptblock.proofs.ScriptLaws.{open_fits}
use Rattle.objects.specs.WorkLaws.{entered-none}
use Rattle.objects.specs.EnterLaws.{open_held, is-new, is-old, entered-next}
use Rattle.objects.proofs.enter.enter.Goals as goal

none_is : (r : Option ℕ) → false ≡ is_some r → r ≡ None
none_is None e = refl
none_is (Some k) e = absurd (false≢true e)

pub loop-i-init : goal.loop-i-init
loop-i-init c =
    let a = c.args in
    let b = a.names.now.block.now in
    let f = open_fits b c.requires.opened.0 in
    (fault-first b a.l, rw c.clear.ensures (entered-none b a.l a.w.now c.requires.w_len.0 (omega arith)))

pub overflow_add-l : goal.overflow_add-l
overflow_add-l c = omega (arith, open_fits c.args.names.now.block.now c.requires.opened.0)

pub entry_in-e-requires : goal.entry_in-e-requires
entry_in-e-requires c = omega (arith, open_fits c.args.names.now.block.now c.requires.opened.0)

pub returns-in_err-check_entry-clause-fault : goal.returns-in_err-check_entry-clause-fault
returns-in_err-check_entry-clause-fault c =
    let p = err_from_is_err_and c.from_residual.result c.from_residual.ensures.1 in
    let l = c.loop-i in
    let a = c.args in
    let b = a.names.now.block.now in
    let e = c.in_err-check_entry.ensures in
    rw (p.1, p.2) (e ∙ sym (l.invariant.0 ∙ fault-own b a.l l.i (omega arith) c.entry_in-e.ensures (λ z. number-some _ (e ∙ z))))

pub returns-then-is_some-clause-fault : goal.returns-then-is_some-clause-fault
returns-then-is_some-clause-fault c =
    let l = c.loop-i in
    let a = c.args in
    let b = a.names.now.block.now in
    let e = c.entry_in-e.ensures in
    let old = is-old b a.l l.i e l.invariant.1 c.add.result c.add.ensures.found c.if-is_some.ensures in
    sym (l.invariant.0 ∙ fault-seen b a.l l.i (omega arith) e (sym c.in_ok-check_entry.ensures) old)

pub put_object-requires : goal.put_object-requires
put_object-requires c =
    let l = c.args.l in (
      rw c.requires.opened.1 (no_fault c.entry_in-e.result l.names.count (sym c.in_ok-check_entry.ensures)).0,
      omega (arith, c.record_at.ensures, c.loop-i.invariant.1.size, c.add.auto),
    )

pub loop-i-preserved : goal.loop-i-preserved
loop-i-preserved c =
    let l = c.loop-i in
    let a = c.args in
    let b = a.names.now.block.now in
    let bs : Bytes b = a.names.now.fits in
    let e = c.entry_in-e.ensures in
    let own = sym c.in_ok-check_entry.ensures in
    let z = none_is c.add.result c.if-is_some.ensures in
    let m : l.i < a.l.count = omega arith in
    let new = is-new b a.l l.i e l.invariant.1 c.add.result c.add.ensures.found z in (
      l.invariant.0 ∙ fault-next b a.l l.i m e own new,
      entered-next b a.l bs (open_held b c.requires.opened.0 bs) c.requires.w_len.1 l.invariant.1 m e
          (no_fault c.entry_in-e.result a.l.names.count own).0 (c.add.ensures.added z) (rw (c.record_at.ensures, c.requires.opened.1) at c.put_object.ensures),
    )

pub returns-clause-fault : goal.returns-clause-fault
returns-clause-fault c =
    let l = c.loop-i in
    let a = c.args in
    let b = a.names.now.block.now in
    sym (l.invariant.0 ∙ fault-none b a.l l.i (omega arith))
