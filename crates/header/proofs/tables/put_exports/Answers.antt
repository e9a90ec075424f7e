-- `tables::put_exports` meets its contract: each export is a piece. Assumes nothing.
use mathlib.Core.List.{List}
use Prim.Native.Nat.{ℕ, ◌+◌, ◌*◌, ◌/◌}
use borrow.Author.Rules.{rules}
use lib.ListN.{length}
use Rattle.base.specs.OutputLaws.{wrote_as}
use Rattle.written.specs.HeaderBytes.{export_bytes}
use Rattle.header.specs.Places.{export_in}
use Rattle.header.specs.PiecesLaws.{pieces-cells}
use Rattle.header.proofs.tables.put_exports.Goals as goal

-- the export that is a piece
abbrev export : List ℕ → ℕ → ℕ → List ℕ
export s «from» i = export_bytes (export_in s («from» + 40 * i))

pub put_pieces-requires : goal.put_pieces-requires
put_pieces-requires c =
    let a = c.args in (
      export a.exports.now 0,
      record { may = λ o i lt h. search rules; wrote = λ o o' i n lt p. search rules },
      rw (pieces-cells export_bytes (export_in a.exports.now) 40 0 (length a.exports.now / 40)) c.requires,
    )

pub returns : goal.returns
returns c =
    let a = c.args in
    wrote_as (c.put_pieces.ensures (export a.exports.now 0) (record { may = λ o i lt h. search rules; wrote = λ o o' i n lt p. search rules }))
    (pieces-cells export_bytes (export_in a.exports.now) 40 0 (length a.exports.now / 40))
