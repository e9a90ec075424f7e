-- The counts of `verify` object by object, and the bytes before the flags. Assumes nothing.
use Rattle.std.specs.Prelude.{cond, List, ◌∷◌, [], ◌++◌, ℕ, ◌+◌, ◌-◌, eqb, Option, Some, None}
use Rattle.base.specs.Index.{value}
use Rattle.base.specs.Number.{be_bytes}
use Rattle.scriptblock.specs.Script.{Objects}
use Rattle.meaning.specs.Verify.{Counts, is_resolved, is_match, counts_of, verify_version}
use Rattle.meaning.proofs.VerifyLaws.{scored_to}
use Rattle.verify.specs.declared.counts.Tally.{Tally}

-- an object more, by its global index and the hash of its path: resolved if it has one, a match if "the low 62 bits" are equal
unfoldable pub tallied : Tally → ℕ → Option ℕ → Tally
tallied t global None = t
tallied t global (Some hash) = record { resolved = t.resolved + 1; matches = t.matches + cond (eqb (value hash) (value global)) 1 0 }

-- the first i objects of a block, and all
abbrev pub tally_to : ℕ → Objects → ℕ → Tally
tally_to limit o i = record { resolved = scored_to limit o is_resolved i; matches = scored_to limit o is_match i }

abbrev pub tally_of : ℕ → Objects → Tally
tally_of limit o = record { resolved = (counts_of limit o).resolved; matches = (counts_of limit o).matches }

-- the four counts, by how many objects there are: what is resolved matches or doesn't
abbrev pub counts_by : ℕ → Tally → Counts
counts_by n t = record { objects = n; resolved = t.resolved; matches = t.matches; mismatches = t.resolved - t.matches }

-- their bytes, and all that stands before the flags of so many packages
abbrev pub count_bytes : Counts → List ℕ
count_bytes n = (be_bytes 4 n.objects ++ be_bytes 4 n.resolved) ++ (be_bytes 4 n.matches ++ be_bytes 4 n.mismatches)

abbrev pub front_of : Counts → ℕ → List ℕ
front_of n count = ((be_bytes 4 (count + 21) ++ (verify_version ∷ [])) ++ count_bytes n) ++ be_bytes 4 count
