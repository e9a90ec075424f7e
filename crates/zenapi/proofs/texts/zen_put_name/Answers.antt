-- `zenapi::texts::zen_put_name` meets its contract.
use Rattle.zenapi.proofs.TextsFound.{there, put-missing, put-short, put-there}
use Rattle.zenapi.proofs.texts.zen_put_name.Goals as goal

pub returns-in_default : goal.returns-in_default
returns-in_default c = put-missing _ _ _ _ c.in_default.ensures

pub place_len-requires : goal.place_len-requires
place_len-requires c = (there c.in-Some.ensures).base

pub returns-then-out-place_len : goal.returns-then-out-place_len
returns-then-out-place_len c = put-short _ _ _ _ (there c.in-Some.ensures) (rw c.place_len.ensures.0 at c.if-out-place_len.true)

pub put_place-requires : goal.put_place-requires
put_place-requires c = ((there c.in-Some.ensures).base, rw c.place_len.ensures.0 at c.if-out-place_len.false)

pub returns : goal.returns
returns c = put-there _ _ _ _ (there c.in-Some.ensures) c.put_place.ensures
