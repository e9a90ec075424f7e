-- `put_place_text` meets its contract: the text is the one at the place.
use native.Mathlib.Omega.{arith}
use Rattle.batch.specs.Holds.{holds-short}
use Rattle.batch.proofs.texts.put_place_text.Goals as goal

pub put_name_text-requires : goal.put_name_text-requires
put_name_text-requires c =
    rw (c.text_of.ensures.0, c.text_of.ensures.1) (c.requires.1, omega (arith, holds-short c.requires.0 c.args.n.number))
