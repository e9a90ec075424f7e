-- What a signed number says as a size (document 01: "An offset is a signed number"). Assumes nothing.
use Rattle.std.specs.Prelude.{cond, ℕ, ℤ, pos, negsuc}
use Rattle.std.specs.Int.Signed.{non_neg}
use Rattle.base.specs.Signed.{twos}
use Rattle.std.specs.Prelude.{Option, Some, None}

-- a number that is not negative is a size
abbrev pub size_of : ℤ → Option ℕ
size_of (pos n) = Some n
size_of (negsuc n) = None

-- the size that k bits of value n say
unfoldable pub size_in : ℕ → ℕ → Option ℕ
size_in k n = cond (non_neg (twos k n)) (Some n) None
