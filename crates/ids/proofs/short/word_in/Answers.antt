-- `short::word_in`: four units of 16 bits. Assumes nothing.
use Prim.Native.Nat.{◌+◌}
use native.Mathlib.Omega.{arith}
use Rattle.ids.proofs.ShortUnits.{word_of}
use Rattle.ids.proofs.short.word_in.Goals as goal

pub returns : goal.returns
returns c =
    let i = c.args.i in
    let w = c.requires.1 in
    omega (arith, w i, w (i + 1), w (i + 2), w (i + 3), word_of c.args.units.now i c.requires.0)
