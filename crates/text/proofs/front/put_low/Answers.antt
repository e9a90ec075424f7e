-- `front::put_low` meets its contract: the low bytes of eight units, copied. Assumes nothing.
use mathlib.Core.Path.{◌≡◌, sym, ◌∙◌}
use mathlib.Core.List.{List, ◌++◌}
use Prim.Native.Nat.{ℕ, ◌≤◌}
use lib.ListN.{length, drop}
use Rattle.base.specs.Output.{over, Wrote}
use Rattle.text.specs.Units.{units_in}
use Rattle.text.specs.FrontLaws.{lows-eight, eight-length}
use Rattle.text.proofs.front.put_low.Goals as goal

-- the first n bytes are written over
copied : {s a p : List ℕ} {n : ℕ} → p ≡ a → length a ≡ n → n ≤ length s → Wrote s a (p ++ drop n s) n
unfolding over
copied e l h = record { size = sym l; fits = h; is = rw (e, l) }

pub returns : goal.returns
returns c =
    let us = units_in c.args.part in
    let i = c.args.i in
    let h = c.requires.0 in
    let e =
    lows-eight us i h c.low.ensures c.low-2.ensures c.low-3.ensures c.low-4.ensures c.low-5.ensures c.low-6.ensures c.low-7.ensures c.low-8.ensures in
    copied (c.copy_from_slice.ensures.after ∙ sym e) (eight-length us i h) c.requires.1
