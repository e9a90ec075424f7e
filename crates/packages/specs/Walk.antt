-- The packages of a framed corpus by number: where each is, its block, what was read of it. Assumes nothing.
use Rattle.std.specs.Prelude.{◌≡◌, List, [], ◌∷◌, ◌++◌, ℕ, zero, suc, ◌+◌, ◌^◌, ◌≤◌, ◌<◌, length, take, drop}
use Rattle.base.specs.Number.{be_at}
use Rattle.base.specs.Reading.{gives, run_block}
use Rattle.zen.specs.Zen.{package_block}
use Rattle.meaning.specs.Reference.{Package}
use Rattle.packages.specs.Framing.{next_at}
use Rattle.packages.specs.Package.{read_in, package_in}

-- the block of the package at a place, and the package
abbrev pub block_at : List ℕ → ℕ → List ℕ
block_at s at = take (be_at 4 s (at + 8)) (drop (at + 12) s)

abbrev pub package_at : List ℕ → ℕ → Package
package_at s at = package_in (be_at 8 s at) (block_at s at)

-- b is the block of the package at a place, which lies inside, of a corpus whose length four bytes say
pub record Site (s : List ℕ) (at : ℕ) (b : List ℕ) : Type 0 where
  pub starts : at + 12 ≤ length s
  pub stops : next_at s at ≤ length s
  pub small : length s < 2 ^ 32 + 4
  pub is : b ≡ block_at s at

-- where package i is, of those from a place on
unfoldable pub place_of : List ℕ → ℕ → ℕ → ℕ
place_of s at zero = at
place_of s at (suc i) = next_at s (place_of s at i)

-- the first n of them, as packages
unfoldable pub packages_at : List ℕ → ℕ → ℕ → List Package
packages_at s at zero = []
packages_at s at (suc n) = packages_at s at n ++ (package_at s (place_of s at n) ∷ [])

-- n packages from a place on lie inside a corpus
pub record Sites (s : List ℕ) (at n : ℕ) : Type 0 where
  pub site : (i : ℕ) → i < n → Site s (place_of s at i) (block_at s (place_of s at i))

-- the first n of them are accepted
pub record AllRead (s : List ℕ) (at n : ℕ) : Type 0 where
  pub read : (i : ℕ) → i < n → run_block package_block (block_at s (place_of s at i)) ≡ gives (read_in (block_at s (place_of s at i)))
