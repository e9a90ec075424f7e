-- The counts of `verify` (document 02, Q-2: "resolved paths are matches plus mismatches"), by the entry too, and how long its output is. Assumes
-- nothing.
use Rattle.std.specs.Prelude.{◌≡◌, Bool, true, false, cond, not, ℕ, ◌+◌, ◌≤◌, ◌<◌, take, get_or}
use Rattle.std.proofs.Math.Path.{refl}
use mathlib.Core.List.{List, [], ◌∷◌, ◌++◌, map, map-append}
use Rattle.std.proofs.Math.Option.{Option, none, some}
use Rattle.std.proofs.Common.{add-one, arith, length-append, take-suc}
use Rattle.std.proofs.Math.ListN.{length}
use Rattle.std.proofs.lemmas.List.{length-map}
use Rattle.std.proofs.Math.Seq.{take-length}
use Rattle.base.specs.Find.{sum}
use Rattle.base.specs.HouseLaws.{length_first_lem}
use Rattle.base.specs.LoopLaws.{sum-take}
use Rattle.base.specs.NumberLaws.{length-be_bytes}
use Rattle.scriptblock.specs.Script.{Objects}
use Rattle.scriptblock.specs.ScriptAnswers.{no_entry}
use Rattle.scriptblock.specs.declared.script.Entry.{Entry}
use Rattle.meaning.specs.Path.{Path, path_of}
use Rattle.meaning.specs.Reference.{Package}
use Rattle.meaning.specs.Call.{Opened}
use Rattle.meaning.specs.Verify.{agrees, is_resolved, is_match, is_mismatch, scored, Counts, counts_of, package_flag, output_with, output_of}

-- ---- the counts

either : (b : Bool) → 1 ≡ cond b 1 0 + cond (not b) 1 0
either true = refl
either false = refl

module _ (limit : ℕ) (o : Objects) where
  -- an object by itself: what is resolved matches or doesn't
  scored-either : (e : Entry) → scored is_resolved limit o e ≡ scored is_match limit o e + scored is_mismatch limit o e
  scored-either e = go (path_of limit o e.global)
    where
      go : (x : Option Path) → cond (is_resolved e.global x) 1 0 ≡ cond (is_match e.global x) 1 0 + cond (is_mismatch e.global x) 1 0
      go none = refl
      go (some p) = either (agrees e.global p.text)

  sums-either : (l : List Entry) → sum (scored is_resolved limit o) l ≡ sum (scored is_match limit o) l + sum (scored is_mismatch limit o) l
  sums-either [] = refl
  sums-either (e ∷ l) = omega (arith, scored-either e, sums-either l)

  pub scored-one : (test : ℕ → Option Path → Bool) (e : Entry) → scored test limit o e ≤ 1
  scored-one test e = go (test e.global (path_of limit o e.global))
    where
      go : (b : Bool) → cond b 1 0 ≤ 1
      go true = omega arith
      go false = omega arith

  pub sums-few : (test : ℕ → Option Path → Bool) (l : List Entry) → sum (scored test limit o) l ≤ length l
  sums-few test [] = omega arith
  sums-few test (e ∷ l) = omega (arith, scored-one test e, sums-few test l)

  -- "resolved paths are matches plus mismatches"
  pub resolved-are : (counts_of limit o).resolved ≡ (counts_of limit o).matches + (counts_of limit o).mismatches
  unfolding counts_of
  resolved-are = sums-either o.entries

  -- each object counts once
  pub objects-are : (counts_of limit o).objects ≡ sum (λ (e : Entry). 1) o.entries
  unfolding counts_of
  objects-are = ones o.entries
    where
      ones : (l : List Entry) → length l ≡ sum (λ (e : Entry). 1) l
      ones [] = refl
      ones (e ∷ l) = rw (ones l) (omega arith)

  -- those with an unknown path count in the objects alone
  pub resolved-few : (counts_of limit o).resolved ≤ (counts_of limit o).objects
  unfolding counts_of
  resolved-few = sums-few is_resolved o.entries

  -- entry by entry, for a loop: what the first i entries add up to, one more, and all
  abbrev pub scored_to : (ℕ → Option Path → Bool) → ℕ → ℕ
  scored_to test i = sum (scored test limit o) (take i o.entries)

  pub scored-more : (test : ℕ → Option Path → Bool) (i : ℕ) → i < length o.entries
      → scored_to test (i + 1) ≡ scored_to test i + scored test limit o (get_or o.entries i no_entry)
  scored-more test i h = sum-take (scored test limit o) o.entries i no_entry h

  pub counts_all : (n : ℕ) → length o.entries ≡ n
      → counts_of limit o ≡ record { objects = n; resolved = scored_to is_resolved n; matches = scored_to is_match n; mismatches = scored_to is_mismatch n }
  unfolding counts_of
  counts_all n h = rw (← h, take-length o.entries)

-- package by package, for a loop
pub flags-more : (ps : List Package) (i : ℕ) (d : Package) → i < length ps
    → map package_flag (take (i + 1) ps) ≡ map package_flag (take i ps) ++ package_flag (get_or ps i d) ∷ []
flags-more ps i d h = rw (add-one i, take-suc ps i d h) (map-append package_flag (take i ps) (get_or ps i d ∷ []))

-- ---- how long the output is

pub length-output : (n : Counts) (flags : List ℕ) → length (output_with n flags) ≡ 25 + length flags
unfolding output_with
length-output n flags = rw (length_first_lem) (simp (length-append, length-be_bytes) (omega arith))

-- "the four counts, the package count, the flags": 25 bytes and one for each package
pub output-length : (d : Opened) → length (output_of d) ≡ 25 + length d.packages
unfolding output_of
output-length d = rw (length-output, length-map d.packages package_flag)
