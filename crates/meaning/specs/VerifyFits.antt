-- What `verify` writes fits its fields and stands where it is said to stand: 26 asks of the buffer alone, and counts and flags are read back
-- from the output's bytes (document 01: "4-byte length of the rest, version byte 1, then what is listed, counts in 4 bytes, flags in 1").
use Rattle.std.specs.Prelude.{◌≡◌, ℕ, ◌+◌, take, drop}
use mathlib.Core.List.{List, [], ◌∷◌}
use Rattle.std.proofs.Math.ListN.{length}
use Rattle.base.specs.Number.{be}
use Rattle.meaning.specs.Verify.{Counts, verify_version}

-- the output says these counts and has these flags
pub record Says (output : List ℕ) (n : Counts) (marks : List ℕ) : Type 0 where
  pub rest : be (take 4 output) + 4 ≡ length output
  pub version : take 1 (drop 4 output) ≡ verify_version ∷ []
  pub objects : be (take 4 (drop 5 output)) ≡ n.objects
  pub resolved : be (take 4 (drop 9 output)) ≡ n.resolved
  pub matches : be (take 4 (drop 13 output)) ≡ n.matches
  pub mismatches : be (take 4 (drop 17 output)) ≡ n.mismatches
  pub packages : be (take 4 (drop 21 output)) ≡ length marks
  pub flags : drop 25 output ≡ marks
