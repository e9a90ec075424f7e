-- Laws of what `check_packages` answers. Assumes nothing.
use Rattle.std.specs.Prelude.{◌≡◌, refl, List, ℕ, ◌+◌, ◌<◌, Ok, Err}
use Rattle.std.proofs.Common.{ap}
use native.Mathlib.Omega.{arith}
use Rattle.base.specs.Never.{never}
use Rattle.base.specs.Reading.{refused, run_block}
use Rattle.zen.specs.Zen.{package_block}
use Rattle.meaning.specs.Reference.{Package}
use Rattle.meaning.specs.Call.{Answer, refused_in, accepted, read_from}
use Rattle.packages.specs.Framing.{parts_at}
use Rattle.packages.specs.Walk.{block_at, place_of, AllRead}
use Rattle.packages.specs.WalkLaws.{read_some, read-refused}
use Rattle.scan.specs.Blocks.{blocks_as}

-- for callers: an answer says what the reading came to
pub blocks-refused : (a : Answer (List Package)) {q j : ℕ} → blocks_as a ≡ Err (q, j) → a ≡ refused_in q j
unfolding blocks_as
blocks-refused (refused_in p i) {q} {j} e =
    let z : ◌≡◌ {A = ℕ × ℕ} (p, i) (q, j) = cc in
    rw (ap (λ (x : ℕ × ℕ). x.0) z, ap (λ (x : ℕ × ℕ). x.1) z)
blocks-refused (accepted ps) e = never (cc)

pub blocks-fine : (a : Answer (List Package)) → blocks_as a ≡ Ok tt → (ps : List Package) × (a ≡ accepted ps)
unfolding blocks_as
blocks-fine (refused_in q j) e = never (cc)
blocks-fine (accepted ps) e = (ps, refl)

-- what the reading of packages comes to: all are accepted, or package i is the first that is refused
module _ (s : List ℕ) (at n : ℕ) where
  pub blocks-all : AllRead s at n → Ok tt ≡ blocks_as (read_from 2 (parts_at s at n))
  unfolding blocks_as
  blocks-all a = rw (read_some 2 s at n a)

  pub blocks-stop : (i q : ℕ) → i < n → AllRead s at i → run_block package_block (block_at s (place_of s at i)) ≡ refused q
      → Err (q, i + 2) ≡ blocks_as (read_from 2 (parts_at s at n))
  unfolding blocks_as
  blocks-stop i q h a e = let z : 2 + i ≡ i + 2 = omega arith in rw (read-refused 2 s at n i q h a e, z)
