-- Loops that write a text character by character: what is written, and what is left. Assumes nothing.
use Rattle.std.specs.Prelude.{◌≡◌, List, ◌++◌, ℕ}
use Rattle.base.specs.Output.{Wrote}

-- the buffer s is now o: of x, the first n bytes are written to its front, and rest is left
pub record Partly (s x o rest : List ℕ) (n : ℕ) : Type 0 where
  pub done : List ℕ
  pub wrote : Wrote s done o n
  pub is : done ++ rest ≡ x
