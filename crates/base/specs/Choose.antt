-- Choosing by a test. Assumes nothing.
use Rattle.std.specs.Prelude.{◌≡◌, refl, Bool, true, false, ◌⊎◌, ℕ, ◌≤◌, ◌<◌, ltb}
use Rattle.std.proofs.Common.{inl, inr, ltb-true, ltb-false}

module _ {A : Type 0} where
  -- the case that the test picks
  abbrev pub pick : Bool → A → A → A
  pick true a b = a
  pick false a b = b

  -- the same, where the cases wait behind a λ, so that only the one picked is computed
  abbrev pub choose : Bool → (Unit {0} → A) → (Unit {0} → A) → A
  choose true a b = a tt
  choose false a b = b tt

-- below, or not
pub lt_or_le : (a b : ℕ) → (a < b) ⊎ (b ≤ a)
lt_or_le a b = go (ltb a b) refl
  where
    go : (t : Bool) → ltb a b ≡ t → (a < b) ⊎ (b ≤ a)
    go true e = inl (ltb-true a b e)
    go false e = inr (ltb-false a b e)
