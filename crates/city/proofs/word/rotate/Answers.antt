-- `word::rotate` computes `rotr`. Assumes nothing.
use Rattle.std.proofs.Common.{◌∙◌, le_of_lt}
use Rattle.city.proofs.Words.{rotr_law, rotate-is}
use Rattle.city.proofs.word.rotate.Goals as goal

pub returns : goal.returns
returns c =
    let a = c.args in
    c.rotate_right.ensures ∙ (rotate-is a.k a.x c.requires.0 c.requires.1 ∙ rotr_law a.k a.x (le_of_lt c.requires.1) c.ranges.x.fits)
