-- `tables::put_export` meets its contract: nine numbers. Assumes nothing.
use mathlib.Core.List.{List, [], ◌∷◌}
use mathlib.Core.Path.{◌≡◌, ◌∙◌, ap}
use Prim.Native.Nat.{ℕ, ◌+◌, ◌*◌, ◌≤◌}
use native.Mathlib.Omega.{arith}
use lib.ListN.{length, get_or}
use borrow.Author.Rules.{rules}
use Rattle.base.specs.Number.{le_bytes}
use Rattle.base.specs.NumberLaws.{length-le_bytes}
use Rattle.base.specs.OutputLaws.{wrote_as}
use Rattle.written.specs.HeaderBytes.{export_bytes}
use Rattle.header.specs.Places.{export_in}
use Rattle.header.specs.Pieces.{pieces}
use Rattle.header.specs.PiecesLaws.{pieces-list}
use Rattle.header.specs.WritingLaws.{export-made}
use Rattle.header.proofs.tables.put_export.Goals.{After-be64-4}
use Rattle.header.proofs.tables.put_export.Goals as goal

-- the numbers, each a piece
abbrev numbers : After-be64-4 → List ℕ
numbers c =
    0 ∷ 0 ∷ (c.from.result + c.from-2.result * 4294967296) ∷ c.be64.result ∷ c.be64-2.result ∷ c.be64-3.result ∷ 0 ∷ c.be64-4.result ∷ 0 ∷ []

made : (c : After-be64-4) → pieces (λ i. le_bytes 8 (get_or (numbers c) i 0)) 9 ≡ export_bytes (export_in c.args.s.now c.args.at)
made c =
    pieces-list (le_bytes 8) (numbers c)
    ∙ export-made c.args.s.now c.args.at c.from.result c.from-2.result c.be64.result c.be64-2.result c.be64-3.result c.be64-4.result
    (search rules) (search rules) (search rules) c.be64.ensures c.be64-2.ensures c.be64-3.ensures c.be64-4.ensures

eight : (xs : List ℕ) (i : ℕ) → length (le_bytes 8 (get_or xs i 0)) ≡ 8
eight xs i = length-le_bytes 8 (get_or xs i 0)

pub put_pieces-requires : goal.put_pieces-requires
put_pieces-requires c =
    let k = (goal.at.put_pieces-requires c).After-be64-4 in (
      (λ i. le_bytes 8 (get_or (numbers k) i 0)),
      record {
        may = λ o i lt h. let room : 8 ≤ length o.now = omega (arith, eight (numbers k) i) in search rules;
        wrote = λ o o' i n lt p. search rules;
      },
      omega (arith, ap length (made k), c.requires.1),
    )

pub returns : goal.returns
returns c =
    let k = (goal.at.returns c).After-be64-4 in
    wrote_as (c.put_pieces.ensures (λ i. le_bytes 8 (get_or (numbers k) i 0)) (record {
      may = λ o i lt h. let room : 8 ≤ length o.now = omega (arith, eight (numbers k) i) in search rules;
      wrote = λ o o' i n lt p. search rules;
    })) (made k)
