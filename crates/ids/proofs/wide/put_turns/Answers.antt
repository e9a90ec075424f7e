-- `wide::put_turns`: over what was tried as ASCII, units of a script count where they are all of it. Assumes nothing.
use native.Mathlib.Omega.{arith}
use Rattle.ids.proofs.PutUnits.{wrote-within}
use Rattle.ids.proofs.wide.put_turns.Goals as goal

pub returns-in-Latin : goal.returns-in-Latin
returns-in-Latin c =
    let p = c.put_whole.ensures in
    (omega arith, p.1, wrote-within c.tried.ensures.0 p.2 (omega arith))

pub returns-in-Greek : goal.returns-in-Greek
returns-in-Greek c =
    let p = c.put_whole-in-Greek.ensures in
    (omega arith, p.1, wrote-within c.tried.ensures.0 p.2 (omega arith))

pub returns-in-Other : goal.returns-in-Other
returns-in-Other c =
    let p = c.put_whole-in-Other.ensures in
    (omega arith, p.1, wrote-within c.tried.ensures.0 p.2 (omega arith))
