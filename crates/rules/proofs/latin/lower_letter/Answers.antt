-- `lower_letter`: one law of `lower` for each case. Assumes nothing.
use mathlib.Core.Path.{◌≡◌, sym}
use native.Mathlib.Omega.{arith}
use Rattle.rules.specs.LatinLaws.{lower_letter, lower-small, times_stays}
use Rattle.rules.proofs.latin.lower_letter.Goals as goal

pub returns-in-215 : goal.returns-in-215
returns-in-215 c = let e : c.args.c ≡ 0xD7 = omega arith in rw e (sym times_stays)

pub returns-in-215-2 : goal.returns-in-215-2
returns-in-215-2 c = sym (lower-small _ (omega arith) c.requires.1)

pub returns-in_default : goal.returns-in_default
returns-in_default c = sym (lower_letter _ c.requires.0 (omega arith) (λ e. omega arith))
