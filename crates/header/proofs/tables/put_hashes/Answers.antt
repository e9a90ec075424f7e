-- `tables::put_hashes` meets its contract: each hash is a piece. Assumes nothing.
use mathlib.Core.List.{List}
use Prim.Native.Nat.{ℕ, ◌+◌, ◌*◌, ◌/◌, ◌≤◌}
use mathlib.Core.Path.{◌≡◌}
use native.Mathlib.Omega.{arith}
use borrow.Author.Rules.{rules}
use lib.ListN.{length}
use Rattle.base.specs.Number.{be_at, le_bytes}
use Rattle.base.specs.NumberLaws.{length-le_bytes}
use Rattle.base.specs.OutputLaws.{wrote_as}
use Rattle.header.specs.PiecesLaws.{pieces-cells}
use Rattle.header.proofs.tables.put_hashes.Goals as goal

-- the hash that is a piece
abbrev hash : List ℕ → ℕ → ℕ → List ℕ
hash s «from» i = le_bytes 8 (be_at 8 s («from» + 8 * i))

eight : (s : List ℕ) («from» i : ℕ) → length (hash s «from» i) ≡ 8
eight s «from» i = length-le_bytes 8 (be_at 8 s («from» + 8 * i))

pub put_pieces-requires : goal.put_pieces-requires
put_pieces-requires c =
    let a = c.args in (
      hash a.hashes.now 0,
      record {
        may = λ o i lt h. let room : 8 ≤ length o.now = omega (arith, eight a.hashes.now 0 i) in search rules;
        wrote = λ o o' i n lt p. search rules;
      },
      rw (pieces-cells (le_bytes 8) (be_at 8 a.hashes.now) 8 0 (length a.hashes.now / 8)) c.requires,
    )

pub returns : goal.returns
returns c =
    let a = c.args in
    wrote_as (c.put_pieces.ensures (hash a.hashes.now 0) (record {
      may = λ o i lt h. let room : 8 ≤ length o.now = omega (arith, eight a.hashes.now 0 i) in search rules;
      wrote = λ o o' i n lt p. search rules;
    }))
    (pieces-cells (le_bytes 8) (be_at 8 a.hashes.now) 8 0 (length a.hashes.now / 8))
