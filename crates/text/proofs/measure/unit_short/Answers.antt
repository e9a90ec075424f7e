-- `measure::unit_short` meets its contract, by the three tests. Assumes nothing.
use mathlib.Core.Path.{◌≡◌, refl}
use mathlib.Core.Bool.{Bool, true, false, cond, not}
use lib.Dec.{ltb}
use mir.Val.{bool_byte}
use Rattle.text.specs.UnitLengthLaws.{unit-short}
use Rattle.text.proofs.measure.unit_short.Goals as goal

-- a test as a number, and one turned round
byte : (b : Bool) → bool_byte b ≡ cond b 1 0
byte true = refl
byte false = refl

byte-not : (b : Bool) → bool_byte (not b) ≡ cond b 0 1
byte-not true = refl
byte-not false = refl

pub returns : goal.returns
returns c = rw (c.from.ensures, c.from-2.ensures, c.from-3.ensures, c.is_single.ensures, byte (ltb c.args.u 0x80), byte (ltb c.args.u 0x800), byte-not) (unit-short c.args.u)
