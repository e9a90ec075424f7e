-- What a function that writes to the front of a lent buffer does to it. Assumes nothing.
use Rattle.std.specs.Prelude.{◌≡◌, List, ◌++◌, ℕ, ◌≤◌, length, drop}

-- the buffer old, whose first bytes are now new
unfoldable pub over : List ℕ → List ℕ → List ℕ
over old new = new ++ drop (length new) old

-- the buffer was old and is now `over old new`; n is how many bytes were written, and they fit
pub record Wrote (old new now : List ℕ) (n : ℕ) : Type 0 where
  pub size : n ≡ length new
  pub fits : n ≤ length old
  pub is : now ≡ over old new
