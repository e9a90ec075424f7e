-- `textapi::text_name_id` meets its contract, by whether the part is a text. Assumes nothing.
use Rattle.textapi.specs.Answers.{id_answer}
use Rattle.textapi.proofs.Fine.{fine-parts}
use Rattle.textapi.proofs.text_name_id.Goals as goal

pub name_id-requires : goal.name_id-requires
name_id-requires c = rw c.in-Some.ensures.2 (fine-parts _ _ c.in-Some.ensures.0).1

pub returns-in_default : goal.returns-in_default
unfolding id_answer
returns-in_default c = rw c.in_default.ensures

pub returns : goal.returns
unfolding id_answer
returns c = rw (c.in-Some.ensures.0, c.name_id.ensures, c.in-Some.ensures.1, c.in-Some.ensures.2)
