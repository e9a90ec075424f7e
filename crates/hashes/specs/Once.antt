-- What is known of a chain has one proof at most, as a ghost field asks. Assumes nothing.
use Rattle.std.specs.Prelude.{List, [], ◌∷◌, ℕ}
use Rattle.std.specs.Coded.{×_prop, Unit-prop, le_prop}
use Rattle.std.proofs.Common.{ap, inl, inr, arith}
use Rattle.std.proofs.Props.{props}
use Rattle.text.specs.Utf16.{Scalar, Scalars}

-- a scalar value is below the surrogates or above them
scalar-prop : (c : ℕ) → IsProp (Scalar c)
scalar-prop c (inl a) (inl b) = ap inl (le_prop a b)
scalar-prop c (inl a) (inr b) = absurd (omega (arith, a, b.0))
scalar-prop c (inr a) (inl b) = absurd (omega (arith, a.0, b))
scalar-prop c (inr a) (inr b) = ap inr (×_prop le_prop le_prop a b)

pub scalars-prop : (t : List ℕ) → IsProp (Scalars t)
scalars-prop [] = Unit-prop
scalars-prop (c ∷ t) = ×_prop (scalar-prop c) (scalars-prop t)

-- with what std knows of
pub ruleset once = (scalars-prop, props)
