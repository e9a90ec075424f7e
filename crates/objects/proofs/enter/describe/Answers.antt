-- `enter::describe` meets its contract: four stores. Assumes nothing.
use Rattle.objects.specs.Work.{described}
use Rattle.objects.proofs.enter.describe.Goals as goal

pub returns : goal.returns
unfolding described
returns c = cc
