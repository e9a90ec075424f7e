-- `place_at` meets its contract: where the name starts, and what its header says.
use Rattle.batch.specs.Places.{place_at}
use Rattle.batch.proofs.notes.NotedNames.place.Goals as goal

pub returns : goal.returns
unfolding place_at
returns c = rw (c.at.ensures, c.start.ensures, c.read_head.ensures.0)
