-- `call::Plan::put_header` meets its contract. Assumes nothing.
use mathlib.Core.Path.{ap}
use native.Mathlib.Omega.{arith}
use lib.ListN.{length, length-append}
use Rattle.base.specs.Find.{flat}
use Rattle.base.specs.Number.{le_bytes}
use Rattle.base.specs.OutputLaws.{wrote-rest, wrote_as, next-room}
use Rattle.written.specs.HeaderBytes.{content_bytes}
use Rattle.header.specs.Places.{description_at}
use Rattle.header.specs.Parts.{summary_words}
use Rattle.header.specs.WritingLaws.{words-length}
use Rattle.header.proofs.Rooms.{header_made}
use Rattle.header.proofs.call.Plan.put_header.Goals as goal

pub put_summary-a-requires : goal.put_summary-a-requires
put_summary-a-requires c =
    let s = c.args.self.now.s.now in
    let g = c.args.self.now.regions in
    omega (
      arith,
      c.requires,
      ap length (header_made s g c.args.self.now.regions_are),
      length-append (flat (le_bytes 4) (summary_words s g)) (content_bytes (description_at s)),
      words-length s g,
    )

pub put_content-requires : goal.put_content-requires
put_content-requires c =
    let s = c.args.self.now.s.now in
    let g = c.args.self.now.regions in
    next-room _ (flat (le_bytes 4) (summary_words s g)) (content_bytes (description_at s)) _ _ c.put_summary-a.ensures
    (omega (arith, c.requires, ap length (header_made s g c.args.self.now.regions_are)))

pub returns : goal.returns
returns c =
    wrote_as (wrote-rest c.put_summary-a.ensures c.put_content.ensures) (header_made
    c.args.self.now.s.now c.args.self.now.regions c.args.self.now.regions_are)
