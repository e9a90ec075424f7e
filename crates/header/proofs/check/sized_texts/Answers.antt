-- `check::sized_texts` meets its contract. The loop's invariant: the texts from here on, with the size so far, give what all give. Assumes nothing.
use mathlib.Core.Path.{◌≡◌, sym, ◌∙◌}
use Prim.Native.Nat.{◌+◌, ◌-◌, ◌≤◌}
use native.Mathlib.Omega.{arith}
use Rattle.std.specs.Prelude.{Some}
use Rattle.header.specs.Parts.{sized_text}
use Rattle.header.specs.PartsLaws.{sized-to, text_bound, turn-none, turn-bad, turn_more}
use Rattle.header.proofs.check.sized_texts.Goals.{In_ok-text}
use Rattle.header.proofs.check.sized_texts.Goals as goal

-- what a turn passes
passed : (c : In_ok-text) → sized_text c.args.more c.args.s.now c.loop.next ≡ Some c.in_ok-text.text
passed c = sym c.sized_text.ensures ∙ c.in_ok-text.was

small : (c : In_ok-text) → c.in_ok-text.text.size ≤ 65534
small c =
    let u = c.args in
    let (f, p, q) = sized-to u.more u.s.now c.loop.next (passed c) in
    omega (arith, text_bound u.more u.s.now c.loop.next f)

pub returns-in_err-text : goal.returns-in_err-text
returns-in_err-text c =
    let l = c.loop in
    let u = c.args in
    c.from_residual.ensures
    ∙ turn-bad u.more u.s.now l.size l.next (u.count - l.counter) (omega arith) (sym c.sized_text.ensures ∙ c.in_err-text.was) ∙ l.invariant.2

pub overflow_add-size : goal.overflow_add-size
overflow_add-size c = omega (arith, small (goal.at.overflow_add-size c).In_ok-text)

pub loop-preserved : goal.loop-preserved
loop-preserved c =
    let l = c.loop in
    let u = c.args in
    let p = passed (goal.at.loop-preserved c).In_ok-text in
    let (f, q, r) = sized-to u.more u.s.now l.next p in
    let left : u.count - (l.counter + 1) ≡ u.count - l.counter - 1 = omega arith in (
      omega (arith, f.next),
      omega (arith, small (goal.at.loop-preserved c).In_ok-text),
      rw left (turn_more u.more u.s.now l.size l.next (u.count - l.counter) (omega arith) p ∙ l.invariant.2),
    )

pub returns : goal.returns
returns c =
    let l = c.loop in
    let u = c.args in
    turn-none u.more u.s.now l.size l.next (u.count - l.counter) (omega arith) ∙ l.invariant.2
