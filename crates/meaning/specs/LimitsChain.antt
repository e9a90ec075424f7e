-- Within limits of which neither is smaller (document 02, Q-5), where the class table holds all classes that it held and no key twice: the class of
-- a key, each chain, a reference's class and its native class stay.
use Rattle.std.specs.Prelude.{◌≤◌}
use Rattle.meaning.specs.Resolve.{Limits}

-- "neither limit of the second is smaller"
pub record NoSmaller (m₁ m₂ : Limits) : Type 0 where
  pub lookups : m₁.lookups ≤ m₂.lookups
  pub objects : m₁.objects ≤ m₂.objects
