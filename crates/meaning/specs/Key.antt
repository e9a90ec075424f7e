-- The key of a class (document 01: "Its key is (package id, hash)"). Only this file and KeyLaws.antt take a key apart. Assumes nothing.
use Rattle.std.specs.Prelude.{Bool, ◌&&◌, ℕ, eqb}

pub data Key : Type 0 where
  -- package id and hash
  public : ℕ → ℕ → Key

unfoldable pub same_key : Key → Key → Bool
same_key (public i h) (public j g) = eqb i j && eqb h g
