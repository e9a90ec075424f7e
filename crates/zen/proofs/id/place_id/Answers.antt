-- `place_id` meets its contract: the text is the one at the place.
use native.Mathlib.Omega.{arith}
use lib.ListN.{length-take}
use Rattle.zen.proofs.id.place_id.Goals as goal

pub name_id-requires : goal.name_id-requires
name_id-requires c = rw c.text_of.ensures.1 (simp length-take (omega (arith, c.requires.small)))

pub returns : goal.returns
returns c = rw (c.text_of.ensures.0, c.text_of.ensures.1) at c.name_id.ensures
