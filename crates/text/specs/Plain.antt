-- Names whose bytes are copied as they stand. Assumes nothing.
use Rattle.std.specs.Prelude.{◌≡◌, Bool, true, false, List, ℕ, length}
use Rattle.base.specs.Output.{Wrote}
use Rattle.text.specs.Affix.{all_ascii}

-- whether a part is its own UTF-8: one-byte text that is ASCII
abbrev pub is_copy : Bool → List ℕ → Bool
is_copy false part = all_ascii part
is_copy true part = false

-- a part was written as it stands where it is one-byte text, and r says whether it is its own UTF-8
pub record Copied (wide : Bool) (part old now : List ℕ) (r : Bool) : Type 0 where
  pub is : r ≡ is_copy wide part
  pub kept : wide ≡ true → now ≡ old
  pub wrote : wide ≡ false → Wrote old part now (length part)
