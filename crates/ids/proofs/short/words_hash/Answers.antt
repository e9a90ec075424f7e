-- `short::words_hash`: by the first two and the last two words. Assumes nothing.
use mathlib.Core.Path.{sym}
use native.Mathlib.Omega.{arith}
use Rattle.ids.proofs.ShortUnits.{units-four}
use Rattle.ids.proofs.short.words_hash.Goals as goal

pub returns : goal.returns
returns c =
    rw (c.hash_four.ensures, c.word.ensures, c.word-2.ensures, c.word-3.ensures, c.word-4.ensures)
    (sym (units-four c.args.name.units.now c.count-n.result c.count-n.ensures (omega arith) (omega arith)))
