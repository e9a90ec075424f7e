-- A build's own hashes (document 02, Q-2): what the call `class_verify` writes and answers. Assumes nothing.
use Rattle.std.specs.Prelude.{Bool, true, false, cond, not, ◌&&◌, ◌||◌, List, ◌∷◌, ◌++◌, map, ℕ, leb, eqb, length}
use Rattle.std.proofs.Math.Option.{Option}
use Rattle.base.specs.Find.{option, sum}
use Rattle.base.specs.House.{length_first, longest_output}
use Rattle.ids.specs.Id.{id_of}
use Rattle.base.specs.Index.{value}
use Rattle.base.specs.Number.{be_bytes}
use Rattle.scriptblock.specs.Script.{Objects}
use Rattle.scriptblock.specs.declared.script.Entry.{Entry}
use Rattle.zen.specs.Zen.{package_name}
use Rattle.meaning.specs.Path.{Path, path_of}
use Rattle.meaning.specs.Reference.{Package}
use Rattle.meaning.specs.Call.{Answer, accepted, ◌>>=◌, ◌>>◌, need, Opened, opened, number_of, buffer_after, limits}

-- ---- a path's hash

-- "The path has `.` and `:` turned to `/`": U+002E and U+003A to U+002F, wherever they stand in it, inside a name too
abbrev pub slash : ℕ → ℕ
slash c = cond (eqb c 0x2E || eqb c 0x3A) 0x2F c

abbrev pub slashed : List ℕ → List ℕ
slashed text = map slash text

-- "is lowered and hashed": as a name is for its id
unfoldable pub path_hash : List ℕ → ℕ
path_hash text = id_of (slashed text)

-- "and the low 62 bits are compared with the global index's"
abbrev pub agrees : ℕ → List ℕ → Bool
agrees global text = eqb (value (path_hash text)) (value global)

-- ---- the counts

-- what is asked of an object, by its global index and the path that has, if it is known: is the path resolved, does its hash match, doesn't it
abbrev pub is_resolved : ℕ → Option Path → Bool
is_resolved global path = option false (λ (p : Path). true) path

abbrev pub is_match : ℕ → Option Path → Bool
is_match global path = option false (λ (p : Path). agrees global p.text) path

abbrev pub is_mismatch : ℕ → Option Path → Bool
is_mismatch global path = option false (λ (p : Path). not (agrees global p.text)) path

-- 1 for an entry of the block that passes, else 0; a path is known within this many objects
abbrev pub scored : (ℕ → Option Path → Bool) → ℕ → Objects → Entry → ℕ
scored test limit o e = cond (test e.global (path_of limit o e.global)) 1 0

-- "objects, paths resolved, hash matches, mismatches"
pub record Counts : Type 0 where
  pub objects : ℕ
  pub resolved : ℕ
  pub matches : ℕ
  pub mismatches : ℕ

-- "The four counts equal sums over the block"
unfoldable pub counts_of : ℕ → Objects → Counts
counts_of limit o = record {
  objects = length o.entries;
  resolved = sum (scored is_resolved limit o) o.entries;
  matches = sum (scored is_match limit o) o.entries;
  mismatches = sum (scored is_mismatch limit o) o.entries;
}

-- ---- the flags

-- "each package gets one flag: does the id of its rendered name equal the id in the corpus": all 64 bits
unfoldable pub package_flag : Package → ℕ
package_flag p = cond (eqb (id_of (package_name p.read)) p.id) 1 0

-- ---- the output

-- "version byte 1"
abbrev pub verify_version : ℕ
verify_version = 1

-- "The output, in house form: the four counts, the package count, the flags" (document 01: "big-endian, 4-byte length of the rest, version
-- byte 1, then what is listed, counts in 4 bytes, flags in 1")
unfoldable pub output_with : Counts → List ℕ → List ℕ
output_with n flags =
    length_first
    (verify_version
    ∷ (be_bytes 4 n.objects ++ be_bytes 4 n.resolved ++ be_bytes 4 n.matches ++ be_bytes 4 n.mismatches ++ be_bytes 4 (length flags) ++ flags))

-- of what a corpus holds: "without limits of its own uses 64 lookups and 65 objects"
unfoldable pub output_of : Opened → List ℕ
output_of d = output_with (counts_of limits.objects d.objects) (map package_flag d.packages)

-- ---- the call

-- "An output beyond its buffer or beyond 4,294,967,299 bytes is 26, asked last" (no corpus has so many packages: VerifyFits.antt)
unfoldable pub output_fits : ℕ → List ℕ → Bool
output_fits room output = leb (length output) longest_output && leb (length output) room

-- "If it lends a corpus it asks the report's questions unless said otherwise"; "25 is not asked": 1, 2, the blocks and 24; then 26
unfoldable pub verify_answer : List ℕ → ℕ → Answer (List ℕ)
verify_answer corpus room = do
  d ← opened limits corpus
  need (output_fits room (output_of d)) 26 0
  accepted (output_of d)

-- THE CALL: the number that it returns and what the output buffer then holds: "bytes past the output stay as they were", and "refused, its
-- output buffer is unchanged". The work buffer doesn't count
pub record Verified : Type 0 where
  pub number : ℕ
  pub output : List ℕ

unfoldable pub verified : List ℕ → List ℕ → Verified
verified corpus old = record { number = number_of (verify_answer corpus (length old)); output = buffer_after (verify_answer corpus (length old)) old }
