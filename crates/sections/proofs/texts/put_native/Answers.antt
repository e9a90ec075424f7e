-- `texts::put_native` meets its contract: what the row keeps is the text that is due. Assumes nothing.
use mathlib.Core.Path.{ap}
use native.Mathlib.Omega.{arith}
use lib.ListN.{length}
use Rattle.table.specs.WordLaws.{mid-length}
use Rattle.sections.specs.WrittenLaws.{kept-inside, kept-size, kept_put}
use Rattle.sections.proofs.texts.put_native.Goals as goal

pub kept_text-requires : goal.kept_text-requires
kept_text-requires c = kept-inside c.requires.0.target

pub put_bytes-requires : goal.put_bytes-requires
put_bytes-requires c =
    let l = c.args.l in
    let (ne, e) = c.in-Some.ensures in
    omega (arith, ap length e, mid-length l.text l.size c.args.src.now.work.now (kept-inside c.requires.0.target ne), kept-size c.requires.0.target ne c.requires.1, c.requires.0.room)

pub returns-in-Some : goal.returns-in-Some
returns-in-Some c = λ q o xs lookups r t room.
    let (ne, e) = c.in-Some.ensures in
    kept_put t ne c.requires.1 e c.put_bytes.ensures
