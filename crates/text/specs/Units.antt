-- A part of a block as units: the bytes of one-byte text, the 16-bit units of wide text. What the code reads. Assumes nothing.
use Rattle.std.specs.Prelude.{Bool, true, false, List, [], ◌∷◌, ℕ, Option, Some, None}
use Rattle.base.specs.Choose.{choose}
use Rattle.text.specs.Utf16.{is_high, is_low, of_pair, units}
use Rattle.text.specs.declared.text.Part.{Part}
use Rattle.text.specs.declared.utf16.Scalar.{Scalar}

unfoldable pub units_of : Bool → List ℕ → List ℕ
units_of false part = part
units_of true part = units part

-- the units of a part
abbrev pub units_in : Part → List ℕ
units_in p = units_of p.wide p.bytes.now

-- a scalar value c that takes k units
abbrev pub of_units : ℕ → ℕ → Option Scalar
of_units k c = Some (record { value = c; units = k })

-- the scalar value that starts with the first of some units, and how many units it takes
unfoldable pub scalar_of : List ℕ → Option Scalar
scalar_of [] = None
scalar_of (u ∷ []) = choose (is_high u) (λ _. None) (λ _. choose (is_low u) (λ _. None) (λ _. of_units 1 u))
scalar_of (u ∷ v ∷ us) =
    choose (is_high u)
    (λ _. choose (is_low v) (λ _. of_units 2 (of_pair u v)) (λ _. None))
    (λ _. choose (is_low u) (λ _. None) (λ _. of_units 1 u))
