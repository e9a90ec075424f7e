-- `link::find` meets its contract: what the table answers is the number of the object. Assumes nothing.
use Rattle.base.specs.OneMore.{one_more}
use Rattle.objects.specs.WorkLaws.{found_number}
use Rattle.objects.specs.LinkLaws.{count-is, all-table}
use Rattle.objects.proofs.link.find.Goals as goal

pub look_up-requires : goal.look_up-requires
look_up-requires c = all-table c.requires.holds

pub returns : goal.returns
returns c = λ b o t. found_number t c.args.index (one_more c.look_up.result) (c.look_up.ensures _ _ _ (rw (count-is t) t.entered.keys))
