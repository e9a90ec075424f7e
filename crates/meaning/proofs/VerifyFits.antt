-- What `verify` writes fits its fields and stands where it is said to stand: 26 asks of the buffer alone, and counts and flags are read back
-- from the output's bytes (document 01: "4-byte length of the rest, version byte 1, then what is listed, counts in 4 bytes, flags in 1").
use Rattle.std.specs.Prelude.{◌≡◌, ℕ, ◌+◌, ◌*◌, ◌^◌, ◌≤◌, ◌<◌, leb, take, drop}
use Rattle.std.proofs.Common.{sym, ◌∙◌, ap, mod-eq_of_lt, le-leb, length-append, take_at, drop_at, drop-drop}
use mathlib.Core.List.{List, [], ◌∷◌, ◌++◌, map, append_assoc}
use native.Mathlib.Omega.{arith}
use Rattle.std.proofs.Math.ListN.{length}
use Rattle.base.specs.Find.{flat}
use Rattle.base.specs.House.{length_first, longest_output}
use Rattle.base.specs.HouseLaws.{length_first_lem, first-is}
use Rattle.base.specs.Number.{be, be_bytes}
use Rattle.base.specs.NumberLaws.{Bytes, length-be_bytes, be-be_bytes}
use Rattle.base.specs.Reading.{gives, run}
use Rattle.scriptblock.specs.Script.{Objects, script}
use Rattle.scriptblock.proofs.ScriptAccepted.{answer_of}
use Rattle.scriptblock.proofs.ScriptFacts.{objects-facts}
use Rattle.meaning.specs.Frame.{Part, framed}
use Rattle.meaning.specs.Bytes.{part_bytes, corpus_rest}
use Rattle.meaning.specs.BytesLaws.{length_part, length_rest, Framed, bytes-frame, frame-fits}
use Rattle.meaning.specs.Call.{accepted, Opened, holding, opened, limits}
use Rattle.meaning.proofs.Accepted.{good_length, from-corpus}
use Rattle.meaning.specs.Verify.{is_resolved, is_match, is_mismatch, Counts, counts_of, package_flag, verify_version, output_with, output_of, output_fits}
use Rattle.meaning.proofs.VerifyLaws.{sums-few, length-output, output-length}
pub use Rattle.meaning.specs.VerifyFits.{Says}

-- ---- how many there can be

-- a package takes 12 bytes
twelve-each : (ps : List Part) → 12 * length ps ≤ length (flat part_bytes ps)
twelve-each [] = omega arith
twelve-each (p ∷ ps) = omega (arith, length-append (part_bytes p) (flat part_bytes ps), length_part p, twelve-each ps)

-- a script object 32 of its block
objects-few : (b : List ℕ) (o : Objects) → run script 0 b ≡ gives o → length o.entries ≤ length b
objects-few b o e = let f = objects-facts b o.layout (answer_of e) o e in omega (arith, f.entries, f.size)

-- what a corpus of bytes holds
module _ (s : List ℕ) (b : Bytes s) (d : Opened) (h : opened limits s ≡ accepted d) where
  few : (length d.objects.entries < 2 ^ 32) × (12 * length d.packages < 2 ^ 32)
  unfolding holding
  few =
      let (c, f, a, e) = from-corpus limits s d h in
      let g : Framed s c = bytes-frame s c b f in
      let fits : length (corpus_rest c) < 2 ^ 32 = frame-fits c {d = c} (ap framed (sym g.is) ∙ f) in
      let n = length_rest c in
      let objects = objects-few c.script a.objects a.script-is in
      let packages = good_length c.parts a.good in
      let twelve = twelve-each c.parts in
      rw e (omega arith, omega arith)

  -- "beyond 4,294,967,299 bytes" is no output
  pub output-short : length (output_of d) ≤ longest_output
  output-short = omega (arith, few, output-length d)

  -- so 26 is asked of the buffer alone
  pub fits-is : (room : ℕ) → output_fits room (output_of d) ≡ leb (25 + length d.packages) room
  unfolding output_fits
  fits-is room = rw (le-leb (length (output_of d)) longest_output output-short, output-length d)

-- ---- what stands where

-- a number of four bytes at k, and what is behind it
field_at : (k x : ℕ) (output back : List ℕ) → drop k output ≡ be_bytes 4 x ++ back → x < 2 ^ 32
    → (be (take 4 (drop k output)) ≡ x) × (drop (k + 4) output ≡ back)
field_at k x output back e h = (
  rw (e, take_at (be_bytes 4 x) back 4 (length-be_bytes 4 x), be-be_bytes 4 x) (mod-eq_of_lt h),
  sym (drop-drop 4 k output) ∙ rw e (drop_at (be_bytes 4 x) back 4 (length-be_bytes 4 x)),
)

module _ (n : Counts) (marks : List ℕ) where
  -- behind the length field, and behind the version
  abbrev listed : List ℕ
  listed = be_bytes 4 n.objects ++ (be_bytes 4 n.resolved ++ (be_bytes 4 n.matches ++ (be_bytes 4 n.mismatches ++ (be_bytes 4 (length marks) ++ marks))))

  output-is : output_with n marks ≡ length_first (verify_version ∷ listed)
  unfolding output_with
  output-is = simp append_assoc

  behind-length : drop 4 (output_with n marks) ≡ verify_version ∷ listed
  behind-length =
      let rest = verify_version ∷ listed in
      rw output-is (drop_at (be_bytes 4 (length rest)) rest 4 (length-be_bytes 4 (length rest)))

  output-says : length (output_with n marks) ≤ longest_output → n.objects < 2 ^ 32 → n.resolved < 2 ^ 32 → n.matches < 2 ^ 32 → n.mismatches < 2 ^ 32
      → Says (output_with n marks) n marks
  output-says h h₁ h₂ h₃ h₄ =
      let output = output_with n marks in
      let size = length-output n marks in
      let rest : length (verify_version ∷ listed) < 2 ^ 32 = omega (arith, ap length output-is, length_first_lem (verify_version ∷ listed)) in
      let from-5 : drop 5 output ≡ listed = sym (drop-drop 1 4 output) ∙ ap (drop 1) behind-length in
      let (objects, from-9) = field_at 5 n.objects output _ from-5 h₁ in
      let (resolved, from-13) = field_at 9 n.resolved output _ from-9 h₂ in
      let (matches, from-17) = field_at 13 n.matches output _ from-13 h₃ in
      let (mismatches, from-21) = field_at 17 n.mismatches output _ from-17 h₄ in
      let (packages, from-25) = field_at 21 (length marks) output marks from-21 (omega arith) in
      record {
        rest = rw output-is (first-is (verify_version ∷ listed) rest);
        version = ap (take 1) behind-length;
        objects = objects;
        resolved = resolved;
        matches = matches;
        mismatches = mismatches;
        packages = packages;
        flags = from-25;
      }

-- of every corpus of bytes that is opened
module _ (s : List ℕ) (b : Bytes s) (d : Opened) (h : opened limits s ≡ accepted d) where
  pub says : Says (output_of d) (counts_of limits.objects d.objects) (map package_flag d.packages)
  unfolding output_of counts_of
  says =
      let limit = limits.objects in
      let o = d.objects in
      let short = output-short s b d h in
      let f : length o.entries < 2 ^ 32 = (few s b d h).0 in
      output-says (counts_of limit o) (map package_flag d.packages) short f (omega (arith, sums-few limit o is_resolved o.entries))
      (omega (arith, sums-few limit o is_match o.entries)) (omega (arith, sums-few limit o is_mismatch o.entries))
