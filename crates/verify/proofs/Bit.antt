-- A truth as a number. Assumes nothing.
use mathlib.Core.Path.{◌≡◌, refl}
use mathlib.Core.Bool.{Bool, true, false}
use Rattle.std.specs.Prelude.{cond}
use mir.Val.{bool_byte}

pub bit-is : (b : Bool) → bool_byte b ≡ cond b 1 0
bit-is true = refl
bit-is false = refl
