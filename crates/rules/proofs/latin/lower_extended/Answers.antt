-- `lower_extended`: one law of `lower` for each case. Assumes nothing.
use mathlib.Core.Path.{◌≡◌, sym}
use native.Mathlib.Omega.{arith}
use Rattle.lower.proofs.LowerLaws.{dotted_stays}
use Rattle.rules.specs.LatinLaws.{lower-first, lower-second, lower-third, lower_last, diaeresis, long_stays}
use Rattle.rules.proofs.latin.lower_extended.Goals as goal

pub returns-in-304 : goal.returns-in-304
returns-in-304 c = let e : c.args.c ≡ 0x130 = omega arith in rw e (sym dotted_stays)

pub returns-in-0-to-311 : goal.returns-in-0-to-311
returns-in-0-to-311 c = sym (lower-first _ c.requires.0 (omega arith) (λ e. omega arith))

pub returns-in-0-to-328 : goal.returns-in-0-to-328
returns-in-0-to-328 c = sym (lower-second _ (omega arith) (omega arith))

pub returns-in-0-to-375 : goal.returns-in-0-to-375
returns-in-0-to-375 c = sym (lower-third _ (omega arith) (omega arith))

pub returns-in-376 : goal.returns-in-376
returns-in-376 c = let e : c.args.c ≡ 0x178 = omega arith in rw e (sym diaeresis)

pub returns-in-383 : goal.returns-in-383
returns-in-383 c = let e : c.args.c ≡ 0x17F = omega arith in rw e (sym long_stays)

pub returns-in_default : goal.returns-in_default
returns-in_default c = sym (lower_last _ (omega arith) (omega arith))
