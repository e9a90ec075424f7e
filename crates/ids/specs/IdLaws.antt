-- Laws of the id of a name: the units that are hashed. Assumes nothing.
use Rattle.std.specs.Prelude.{◌≡◌, refl, List, ◌++◌, ℕ, zero, suc, ◌+◌, ◌%◌, ◌/◌, ◌<◌}
use Rattle.std.proofs.Common.{◌∙◌, arith, lt-ltb, le-ltb}
use Rattle.std.proofs.Math.Logic.{by_cases}
use Rattle.std.proofs.Math.Decide.{dec_lt}
use Rattle.text.specs.Utf16.{encode16}
use Rattle.text.specs.Utf16Laws.{encode_append, encode_ascii}
use Rattle.text.specs.Digits.{digits, decimal}
use Rattle.text.specs.Name.{suffix}
use Rattle.text.specs.NameLaws.{suffix-ascii}
use Rattle.lower.specs.Lower.{lower, lowered}
use Rattle.lower.proofs.AsciiLaws.{ascii-below, ascii-above}
use Rattle.rules.specs.LatinLaws.{lower_ascii_lem}
use Rattle.ids.specs.LowerLaws.{lowered_append}
use Rattle.ids.specs.LoweredUnits.{name_units}

-- an instance number has no letter
lower-plain : (c : ℕ) → c < 65 → lower c ≡ c
lower-plain c h = lower_ascii_lem c (omega arith) ∙ ascii-below c h

digits-lowered : (f n : ℕ) → lowered (digits f n) ≡ digits f n
unfolding digits
digits-lowered zero n = refl
digits-lowered (suc f) n =
    by_cases (dec_lt n 10)
    (λ (h : n < 10). rw (lt-ltb n 10 h, lower-plain (48 + n) (omega arith)))
    (λ (h : ¬ (n < 10)). rw (le-ltb n 10 (omega arith), lowered_append, digits-lowered f (n / 10), lower-plain (48 + n % 10) (omega arith)))

pub suffix-lowered : (n : ℕ) → lowered (suffix n) ≡ suffix n
unfolding decimal
suffix-lowered zero = refl
suffix-lowered (suc n) = rw (lower_ascii_lem 95 (omega arith), ascii-above 95 (omega arith), digits-lowered)

-- the units of a lowered name: those of its lowered base, and its number as it stands
pub name_units_lem : (base : List ℕ) (number : ℕ) → encode16 (lowered (base ++ suffix number)) ≡ name_units base (suffix number)
unfolding name_units
name_units_lem base number = rw (lowered_append, suffix-lowered, encode_append, encode_ascii (suffix number) (suffix-ascii number))
