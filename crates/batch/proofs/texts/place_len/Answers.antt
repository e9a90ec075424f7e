-- `place_len` meets its contract: the text is the one at the place.
use Rattle.batch.specs.Holds.{holds-short}
use Rattle.batch.proofs.texts.place_len.Goals as goal

pub returns : goal.returns
returns c =
    let e = rw (c.text_of.ensures.0, c.text_of.ensures.1) at c.name_len.ensures.0 in
    (e, rw e (holds-short c.requires c.args.n.number))
