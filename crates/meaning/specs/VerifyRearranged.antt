-- `verify` on a corpus with its packages in another order and whatever values in what is passed over (document 02, Q-2: "Neither depends on
-- passed-over bytes"): the counts stay, and each package keeps its flag. Where the order stays, so does the whole answer.
use Rattle.std.specs.Prelude.{◌≡◌, List, ◌∷◌, ◌++◌, map, ℕ, ◌+◌, length}
use Rattle.base.specs.Number.{be_bytes}
use Rattle.base.specs.Reading.{Out, refused, gives, run_block}
use Rattle.zen.specs.Zen.{Read, package_block}
use Rattle.meaning.specs.Frame.{Part}
use Rattle.meaning.specs.Call.{accepted}
use Rattle.meaning.specs.Rearranged.{Rearranged}
use Rattle.meaning.specs.Verify.{Counts, package_flag, verify_version, verify_answer}

-- ---- the flag of a package of a corpus

abbrev pub flag_as : ℕ → Out Read → ℕ
flag_as id (refused q) = 0
flag_as id (gives r) = package_flag (record { id = id; read = r })

-- the package as its block reads
unfoldable pub flag_in : Part → ℕ
flag_in p = flag_as p.id (run_block package_block p.block)

-- ---- in another order

-- length of the rest, version, four counts, package count
unfoldable pub front_with : Counts → ℕ → List ℕ
front_with n k =
    be_bytes 4 (21 + k)
    ++ (verify_version ∷ (be_bytes 4 n.objects ++ be_bytes 4 n.resolved ++ be_bytes 4 n.matches ++ be_bytes 4 n.mismatches ++ be_bytes 4 k))

-- what holds of two such corpora, the first accepted with the output `old`
pub record Turned (s t : List ℕ) (w : Rearranged s t) (room : ℕ) (old : List ℕ) : Type 0 where
  pub new : List ℕ
  pub accepted_too : verify_answer t room ≡ accepted new
  pub as_long : length new ≡ length old
  -- the counts stay
  pub front : List ℕ
  pub front_length : length front ≡ 25
  pub old-is : old ≡ front ++ map flag_in w.old.parts
  pub new_is : new ≡ front ++ map flag_in w.new.parts
  -- and each package has the flag it had
  pub same_flags : map flag_in w.new.parts ≡ map flag_in w.how.order
