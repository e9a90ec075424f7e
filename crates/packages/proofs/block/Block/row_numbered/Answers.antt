-- `packages::block::Block::row_numbered` meets its contract: what a row has beside its kind doesn't depend on it. Assumes nothing.
use Rattle.std.specs.Prelude.{Option}
use mathlib.Core.Path.{◌≡◌}
use mathlib.Core.List.{List}
use Prim.Native.Nat.{ℕ}
use Rattle.packages.specs.Numbered.{numbered_in}
use Rattle.packages.specs.Row.{row_in}
use Rattle.packages.specs.declared.numbered.NumberedRow.{NumberedRow}
use Rattle.packages.specs.declared.package.Parts.{Parts}
use Rattle.packages.specs.declared.rows.Candidate.{Candidate}
use Rattle.packages.specs.declared.rows.Row.{Row}
use Rattle.packages.proofs.block.Block.row_numbered.Goals as goal

made : (b : List ℕ) (p : Parts) (k i : ℕ) (c : Option Candidate) (w : Row) → w ≡ row_in b p c i
    → ◌≡◌ {A = NumberedRow} (record { kind = k; own = w.own; outer = w.outer; class = w.class }) (numbered_in b p k i)
unfolding row_in numbered_in
made b p k i c w e = rw e

pub returns : goal.returns
returns c = made _ _ _ _ _ _ c.row_noted-w.ensures
