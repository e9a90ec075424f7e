-- The first fault from entry i on is the first fault of all.
use mathlib.Core.Path.{sym, ◌∙◌}
use native.Mathlib.Omega.{arith}
use Rattle.std.proofs.lemmas.Result.{err_from_is_err_and}
use Rattle.base.proofs.Numbers.{number-some}
use Rattle.scriptblock.specs.ScriptFaults.{fault-first, fault-none, fault-own, fault-seen, fault-next}
use Rattle.scriptblock.proofs.script.check_entries.Goals as goal

pub loop-i-init : goal.loop-i-init
loop-i-init c = fault-first c.args.b.now c.args.l

pub returns-in_err-check_entry : goal.returns-in_err-check_entry
returns-in_err-check_entry c =
    let p = err_from_is_err_and c.from_residual.result c.from_residual.ensures.1 in
    let l = c.loop-i in
    let a = c.args in
    let e = c.in_err-check_entry.ensures in
    rw (p.1, p.2) (e ∙ sym (l.invariant ∙ fault-own a.b.now a.l l.i (omega arith) c.entry_in-e.ensures (λ z. number-some _ (e ∙ z))))

pub returns-then-not-is_fresh : goal.returns-then-not-is_fresh
returns-then-not-is_fresh c =
    let l = c.loop-i in
    let a = c.args in
    sym (l.invariant ∙ fault-seen a.b.now a.l l.i (omega arith) c.entry_in-e.ensures
    (sym c.in_ok-check_entry.ensures)
    (sym c.is_fresh.ensures ∙ c.if-not-is_fresh.true))

pub loop-i-preserved : goal.loop-i-preserved
loop-i-preserved c =
    let l = c.loop-i in
    let a = c.args in
    l.invariant ∙ fault-next a.b.now a.l l.i (omega arith) c.entry_in-e.ensures (sym c.in_ok-check_entry.ensures)
    (sym c.is_fresh.ensures ∙ c.if-not-is_fresh.false)

pub returns : goal.returns
returns c =
    let l = c.loop-i in
    let a = c.args in
    sym (l.invariant ∙ fault-none a.b.now a.l l.i (omega arith))
