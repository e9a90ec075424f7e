-- `textapi::text_put_name` meets its contract, by whether the part is a text and has room. Assumes nothing.
use mathlib.Core.Path.{◌≡◌}
use mathlib.Core.Bool.{true, false}
use native.Mathlib.Omega.{arith}
use lib.ListN.{length}
use Rattle.text.specs.Parts.{rendered_in}
use Rattle.text.specs.Name.{rendered}
use Rattle.textapi.specs.Answers.{name_answer, name_after, fits}
use Rattle.textapi.proofs.Fine.{fine-parts, fits_not, fits-room, fits-short}
use Rattle.textapi.proofs.text_put_name.Goals.{In-Some}
use Rattle.textapi.proofs.text_put_name.Goals as goal

-- the text is that of the part
same : (c : In-Some) → rendered_in c.in-Some.name.part c.args.number ≡ rendered c.args.wide c.args.part.now c.args.number
same c = rw (c.in-Some.ensures.1, c.in-Some.ensures.2)

pub name_len-requires : goal.name_len-requires
name_len-requires c = rw c.in-Some.ensures.2 (fine-parts _ _ c.in-Some.ensures.0).1

pub returns-then-name_len-out : goal.returns-then-name_len-out
unfolding name_answer name_after
returns-then-name_len-out c =
    let a = c.args in
    let w = rw (same (goal.at.returns-then-name_len-out c).In-Some) at c.put_name.ensures in
    let n = rw (same (goal.at.returns-then-name_len-out c).In-Some) at c.name_len.ensures.0 in
    let e : fits (length a.out.now) a.wide a.part.now a.number ≡ true = fits-room _ _ _ _ c.in-Some.ensures.0 (omega arith) in
    (rw e w.size, rw e w.is)

pub returns-else-name_len-out : goal.returns-else-name_len-out
unfolding name_answer name_after
returns-else-name_len-out c =
    let a = c.args in
    let n = rw (same (goal.at.returns-else-name_len-out c).In-Some) at c.name_len.ensures.0 in
    let e : fits (length a.out.now) a.wide a.part.now a.number ≡ false = fits-short _ _ _ _ c.in-Some.ensures.0 (omega arith) in
    (rw e, rw e)

pub returns-in_default : goal.returns-in_default
unfolding name_answer name_after
returns-in_default c =
    let a = c.args in
    let e : fits (length a.out.now) a.wide a.part.now a.number ≡ false = fits_not _ _ _ _ c.in_default.ensures in
    (rw e, rw e)
