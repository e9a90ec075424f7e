-- `texts::put_second` meets its contract. Assumes nothing.
use mathlib.Core.Path.{◌∙◌, ap}
use native.Mathlib.Omega.{arith}
use lib.ListN.{length, length-take, length-drop}
use Rattle.base.specs.OutputLaws.{wrote_as, wrote-rest}
use Rattle.table.specs.WordLaws.{mid-length}
use Rattle.sections.proofs.texts.put_second.Goals as goal

pub kept_text-requires : goal.kept_text-requires
kept_text-requires c = λ ne. (c.requires.1 ne).0

pub put_bytes-requires : goal.put_bytes-requires
put_bytes-requires c =
    let l = c.args.l in
    let (ne, e) = c.in-Some.ensures in
    let k = c.requires.1 ne in
    simp (length-take, length-drop) (omega (arith, c.requires.0, k.1, ap length e, mid-length l.text l.size c.args.w.now k.0))

pub returns-in-Some : goal.returns-in-Some
returns-in-Some c = λ old a v f.
    let (ne, e) = c.in-Some.ensures in
    wrote-rest v (wrote_as c.put_bytes.ensures (e ∙ f ne))
