-- `names::put_string` meets its contract: whether the text fits Latin-1 says how it is written, and ASCII fits. Assumes nothing.
use mathlib.Core.Path.{◌≡◌, sym, ◌∙◌, ap}
use mathlib.Core.Bool.{true, false}
use native.Mathlib.Omega.{arith}
use lib.ListN.{length, take}
use lib.Seq.{length-take-le}
use Rattle.base.specs.OutputLaws.{wrote_as}
use Rattle.decode.specs.Measure.{text_of, fits_latin1}
use Rattle.header.specs.WritingLaws.{string_latin, string_wide, plain-room, plain-put}
use Rattle.header.proofs.names.put_string.Goals.{Else-is_latin1, Then-is_latin1}
use Rattle.header.proofs.names.put_string.Goals as goal

-- what the second test says
latin : (c : Then-is_latin1) → let a = c.args in fits_latin1 (text_of (take a.to a.s.now)) ≡ true
latin c = sym c.is_latin1.ensures ∙ c.if-is_latin1.true

wide : (c : Else-is_latin1) → let a = c.args in fits_latin1 (text_of (take a.to a.s.now)) ≡ false
wide c = sym c.is_latin1.ensures ∙ c.if-is_latin1.false

pub put_pieces-requires : goal.put_pieces-requires
put_pieces-requires c =
    plain-room (take c.args.to c.args.s.now) _ c.is_ascii.ensures c.if-is_ascii.true _ c.requires.2

pub returns-then-is_ascii : goal.returns-then-is_ascii
returns-then-is_ascii c =
    let e = length-take-le c.args.to c.args.s.now c.requires.0 in
    rw e at (plain-put (take c.args.to c.args.s.now) _ c.is_ascii.ensures c.if-is_ascii.true c.put_pieces.ensures)

pub put_latin1-size-requires : goal.put_latin1-size-requires
put_latin1-size-requires c =
    let l = latin (goal.at.put_latin1-size-requires c).Then-is_latin1 in
    (c.requires.0, c.requires.1, l, omega (arith, c.requires.2, ap length (string_latin (text_of (take c.args.to c.args.s.now)) l)))

pub returns-then-is_latin1 : goal.returns-then-is_latin1
returns-then-is_latin1 c =
    let l = latin (goal.at.returns-then-is_latin1 c).Then-is_latin1 in
    (wrote_as c.put_latin1-size.ensures (sym (string_latin _ l)), sym l)

pub put_utf16le-size-requires : goal.put_utf16le-size-requires
put_utf16le-size-requires c =
    (c.requires.1, omega (arith, c.requires.2, ap length (string_wide (text_of (take c.args.to c.args.s.now)) (wide (goal.at.put_utf16le-size-requires c).Else-is_latin1))))

pub returns : goal.returns
returns c =
    let l = wide (goal.at.returns c).Else-is_latin1 in
    (wrote_as c.put_utf16le-size.ensures (sym (string_wide _ l)), sym l)
