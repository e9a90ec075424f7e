-- `decode::step::step_at` meets its contract. Assumes nothing.
use mathlib.Core.Path.{sym, ◌∙◌}
use native.Mathlib.Omega.{arith}
use Rattle.decode.proofs.StepLaws.{ascii-passed, four-passed, two-passed, one-passed, none_passed}
use Rattle.decode.proofs.step.step_at.Goals as goal

pub returns-then-a-lt128 : goal.returns-then-a-lt128
returns-then-a-lt128 c = let f = c.ascii_at-few.ensures.passed in ascii-passed _ _ _ f.0 f.1.0 f.1.1

pub returns-then-are_common : goal.returns-then-are_common
returns-then-are_common c = four-passed _ _ (omega arith) (sym c.are_common.ensures ∙ c.if-are_common.true)

pub returns-then-are_plane : goal.returns-then-are_plane
returns-then-are_plane c = two-passed _ _ (omega arith) (sym c.are_plane.ensures ∙ c.if-are_plane.true)

pub returns-in_err-c : goal.returns-in_err-c
returns-in_err-c c = rw c.from_residual.ensures (none_passed _ _ c.requires (sym c.quick_char.ensures ∙ c.in_err-c.was))

pub returns : goal.returns
returns c =
    rw c.char_units.ensures (one-passed c.args.s.now c.args.at c.requires (sym c.quick_char.ensures ∙ c.in_ok-c.was))
