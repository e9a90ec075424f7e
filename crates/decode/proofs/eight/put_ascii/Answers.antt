-- `eight::put_ascii` meets its contract: as many bytes as a test has seen, or one, are ASCII. Assumes nothing.
use Rattle.std.proofs.Common.{sym, ◌∙◌, length}
use Rattle.decode.specs.Eight.{Few}
use Rattle.decode.proofs.EightLaws.{few_is, one_is, few-room}
use Rattle.decode.proofs.eight.put_ascii.Goals.{Then-starts_few, Then-starts_few-2, Else-starts_few-2}
use Rattle.decode.proofs.eight.put_ascii.Goals as goal

-- what the tests have seen
eight : (c : Then-starts_few) → Few 8 c.args.s.now c.args.at
eight c = few_is 8 _ _ (sym c.starts_few.ensures ∙ c.if-starts_few.true)

four : (c : Then-starts_few-2) → Few 4 c.args.s.now c.args.at
four c = few_is 4 _ _ (sym c.starts_few-2.ensures ∙ c.if-starts_few-2.true)

pub put_eight-requires : goal.put_eight-requires
put_eight-requires c =
    let f = eight (goal.at.put_eight-requires c).Then-starts_few in
    (f.0, few-room c.args.s.now c.args.at c.requires.2 8 f (length c.args.out.now) c.requires.3)

pub put_few-requires : goal.put_few-requires
put_few-requires c =
    let f = four (goal.at.put_few-requires c).Then-starts_few-2 in
    (f.0, few-room c.args.s.now c.args.at c.requires.2 4 f (length c.args.out.now) c.requires.3)

pub put_few-requires-2 : goal.put_few-requires-2
put_few-requires-2 c =
    let f = one_is c.args.s.now c.args.at c.requires.0 c.requires.1 in
    (f.0, few-room c.args.s.now c.args.at c.requires.2 1 f (length c.args.out.now) c.requires.3)
