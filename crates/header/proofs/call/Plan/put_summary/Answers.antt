-- `call::Plan::put_summary` meets its contract: thirteen numbers, each within the longest header. Assumes nothing.
use mathlib.Core.List.{List, [], ◌∷◌}
use mathlib.Core.Path.{◌≡◌, ◌∙◌, ap}
use Prim.Native.Nat.{ℕ, ◌≤◌}
use native.Mathlib.Omega.{arith}
use lib.ListN.{length, get_or}
use borrow.Author.Rules.{rules}
use Rattle.base.specs.Find.{flat}
use Rattle.base.specs.Number.{le_bytes}
use Rattle.base.specs.NumberLaws.{length-le_bytes}
use Rattle.base.specs.OutputLaws.{wrote_as}
use Rattle.header.specs.Parts.{summary_words}
use Rattle.header.specs.Pieces.{pieces}
use Rattle.header.specs.PiecesLaws.{pieces-list}
use Rattle.header.specs.WritingLaws.{words-length}
use Rattle.header.proofs.Rooms.{within}
use Rattle.header.proofs.call.Plan.put_summary.Goals.{After-be32-2}
use Rattle.header.proofs.call.Plan.put_summary.Goals as goal

-- the numbers, each a piece
abbrev numbers : After-be32-2 → List ℕ
numbers c =
    let g = c.args.self.now.regions in
    0 ∷ g.size ∷ c.be32.result ∷ c.be32-2.result ∷ 0 ∷ 0 ∷ g.hashes ∷ g.exports ∷ g.exports ∷ g.imported ∷ g.imported ∷ g.imported ∷ g.imported ∷ []

numbers-are : (c : After-be32-2) → numbers c ≡ summary_words c.args.self.now.s.now c.args.self.now.regions
unfolding summary_words
numbers-are c = rw (c.be32.ensures, c.be32-2.ensures)

made : (c : After-be32-2) → pieces (λ i. le_bytes 4 (get_or (numbers c) i 0)) 13 ≡ flat (le_bytes 4) (summary_words c.args.self.now.s.now c.args.self.now.regions)
made c = pieces-list (le_bytes 4) (numbers c) ∙ ap (flat (le_bytes 4)) (numbers-are c)

four : (xs : List ℕ) (i : ℕ) → length (le_bytes 4 (get_or xs i 0)) ≡ 4
four xs i = length-le_bytes 4 (get_or xs i 0)

pub overflow_cast-hashes : goal.overflow_cast-hashes
overflow_cast-hashes c = omega (arith, (within c.args.self.now.s.now c.args.self.now.whole c.args.self.now.regions c.args.self.now.regions_are).hashes)

pub overflow_cast-exports : goal.overflow_cast-exports
overflow_cast-exports c = omega (arith, (within c.args.self.now.s.now c.args.self.now.whole c.args.self.now.regions c.args.self.now.regions_are).exports)

pub overflow_cast-imported : goal.overflow_cast-imported
overflow_cast-imported c = omega (arith, (within c.args.self.now.s.now c.args.self.now.whole c.args.self.now.regions c.args.self.now.regions_are).imported)

pub overflow_cast-numbers : goal.overflow_cast-numbers
overflow_cast-numbers c = omega (arith, (within c.args.self.now.s.now c.args.self.now.whole c.args.self.now.regions c.args.self.now.regions_are).size)

pub put_pieces-requires : goal.put_pieces-requires
put_pieces-requires c =
    let k = (goal.at.put_pieces-requires c).After-be32-2 in (
      (λ i. le_bytes 4 (get_or (numbers k) i 0)),
      record {
        may = λ o i lt h. let room : 4 ≤ length o.now = omega (arith, four (numbers k) i) in search rules;
        wrote = λ o o' i n lt p. search rules;
      },
      omega (arith, ap length (made k), words-length c.args.self.now.s.now c.args.self.now.regions, c.requires),
    )

pub returns : goal.returns
returns c =
    let k = (goal.at.returns c).After-be32-2 in
    wrote_as (c.put_pieces.ensures (λ i. le_bytes 4 (get_or (numbers k) i 0)) (record {
      may = λ o i lt h. let room : 4 ≤ length o.now = omega (arith, four (numbers k) i) in search rules;
      wrote = λ o o' i n lt p. search rules;
    })) (made k)
