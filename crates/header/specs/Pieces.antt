-- Pieces written one behind another, each known by its number: records of one size, or the numbers of an array. Assumes nothing.
use Rattle.std.specs.Prelude.{List, [], ◌++◌, ℕ, zero, suc, ◌≤◌, ◌<◌, length}
use Rattle.std.specs.Fn.{Shared}
use denote.Ref.{MutBor}
use Rattle.base.specs.Output.{Wrote}

-- the first n pieces
unfoldable pub pieces : (ℕ → List ℕ) → ℕ → List ℕ
pieces b zero = []
pieces b (suc n) = pieces b n ++ b n

-- f writes each of so many pieces to the front of a buffer that has room for it
pub record Puts {F : Type 0} (g : Shared F (MutBor (List ℕ) × (ℕ × Unit {0})) (ℕ × (MutBor (List ℕ) × Unit {0}))) (f : F) (b : ℕ → List ℕ) (count : ℕ) : Type 0 where
  pub may : (o : MutBor (List ℕ)) (i : ℕ) → i < count → length (b i) ≤ length o.now → g.pre f (o, (i, tt))
  pub wrote : (o o' : MutBor (List ℕ)) (i n : ℕ) → i < count → g.post f (o, (i, tt)) (n, (o', tt)) → Wrote o.now (b i) o'.now n
