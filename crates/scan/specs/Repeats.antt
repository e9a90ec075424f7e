-- Question 24 by number (document 01: "no class key twice? 24 (block of the first class, in package and export order, whose key an earlier one
-- has)"): exports by their number in their package, packages by theirs in the corpus. Assumes nothing.
use Rattle.std.specs.Prelude.{◌≡◌, Bool, false, ◌&&◌, ◌||◌, List, ℕ, zero, suc, eqb, length, get_or}
use Rattle.std.proofs.Math.Option.{Option, none, some}
use Rattle.base.specs.Reading.{gives, run_block}
use Rattle.scriptblock.specs.Script.{Objects}
use Rattle.zen.specs.Zen.{package_block, no_export}
use Rattle.zen.specs.declared.tables.Export.{Export}
use Rattle.meaning.specs.Reference.{Package}
use Rattle.meaning.specs.Scan.{is_class}
use Rattle.meaning.specs.Call.{Placed}
use Rattle.packages.specs.Package.{read_in}
use Rattle.packages.specs.Walk.{block_at, package_at, Site, place_of}

-- the package at a place lies inside and is accepted
pub record ReadAt (c : List ℕ) (at : ℕ) : Type 0 where
  pub site : Site c at (block_at c at)
  pub is : run_block package_block (block_at c at) ≡ gives (read_in (block_at c at))

-- package i of those from a place on
abbrev pub package_no : List ℕ → ℕ → ℕ → Package
package_no c at i = package_at c (place_of c at i)

-- whether a number below n passes a test
unfoldable pub below : ℕ → (ℕ → Bool) → Bool
below zero f = false
below (suc n) f = below n f || f n

module _ (limit : ℕ) (o : Objects) where
  -- whether an export is a class with a hash
  unfoldable pub is_class_of : ℕ → Export → Bool
  is_class_of hash e = eqb e.hash hash && is_class limit o e

  -- whether one of the first n exports is
  unfoldable pub has_class : List Export → ℕ → ℕ → Bool
  has_class es n hash = below n (λ j. is_class_of hash (get_or es j no_export))

  -- whether a package has a class with a key: its id, and a hash
  unfoldable pub has_public : Package → ℕ → ℕ → Bool
  has_public p id hash = eqb p.id id && has_class p.read.exports (length p.read.exports) hash

  -- of the packages from a place on
  module _ (c : List ℕ) (at : ℕ) where
    -- whether one of the first n has a class with a key
    unfoldable pub is_before : ℕ → ℕ → ℕ → Bool
    is_before n id hash = below n (λ i. has_public (package_no c at i) id hash)

    -- whether an export, of number j in package i, is a class whose key an earlier one has
    unfoldable pub is_repeat : ℕ → List Export → ℕ → ℕ → Bool
    is_repeat i es id j =
        is_class limit o (get_or es j no_export) && (has_class es j (get_or es j no_export).hash || is_before i id (get_or es j no_export).hash)

    -- whether package i has one
    unfoldable pub repeats_in : ℕ → Bool
    repeats_in i = below (length (package_no c at i).read.exports) (is_repeat i (package_no c at i).read.exports (package_no c at i).id)

-- the block of a repeated class, or 0
abbrev pub repeat_block : Option Placed → ℕ
repeat_block none = 0
repeat_block (some x) = x.block
