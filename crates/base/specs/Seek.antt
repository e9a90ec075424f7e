-- The first element of a list that passes a test, by its number. Assumes nothing.
use Rattle.std.specs.Prelude.{Bool, cond, List, [], ◌∷◌, ℕ, ◌+◌}

module _ {A : Type 0} where
  -- one more than its number, counted from i; 0 where none passes
  unfoldable pub seek_from : ℕ → (A → Bool) → List A → ℕ
  seek_from i f [] = 0
  seek_from i f (x ∷ l) = cond (f x) (i + 1) (seek_from (i + 1) f l)

  abbrev pub seek : (A → Bool) → List A → ℕ
  seek f l = seek_from 0 f l
