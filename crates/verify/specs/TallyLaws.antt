-- Laws of the counts object by object: one more, all of them; and that the output is what stands before the flags, and these. Assumes nothing.
use Rattle.std.specs.Prelude.{◌≡◌, refl, Bool, true, false, cond, List, ◌∷◌, ◌++◌, ℕ, ◌+◌, ◌-◌, ◌≤◌, ◌<◌, eqb, take, Option, Some, None}
use Rattle.std.proofs.Common.{append_assoc, length-append, length-take-le}
use Rattle.std.proofs.Math.Option.{Option as Maybe, none, some}
use native.Mathlib.Omega.{arith}
use borrow.Author.Tests.{eq-eqb, ne_eqb}
use Rattle.std.proofs.Math.ListN.{length}
use Rattle.base.specs.Index.{value}
use Rattle.base.specs.Number.{be_bytes}
use Rattle.base.specs.NumberLaws.{length-be_bytes}
use Rattle.scriptblock.specs.Script.{Objects}
use Rattle.scriptblock.specs.ScriptFacts.{ScriptFacts}
use Rattle.scriptblock.proofs.ScriptGood.{script-good}
use Rattle.scriptblock.specs.declared.script.Layout.{Layout}
use Rattle.meaning.specs.Path.{Path, path_of}
use Rattle.meaning.specs.Verify.{is_resolved, is_match, Counts, counts_of, verify_version, output_with}
use Rattle.meaning.proofs.VerifyLaws.{scored_to, scored-more, counts_all, resolved-are, sums-few}
use Rattle.objects.specs.Numbers.{entry_no, path_no}
use Rattle.objects.specs.NumberLaws.{path_no_lem}
use Rattle.hashes.specs.Hashed.{hashed_as}
use Rattle.verify.specs.Tallies.{tallied, tally_to, tally_of, counts_by, front_of}
use Rattle.verify.specs.declared.counts.Tally.{Tally}

-- ---- an object more: its path is unknown, its hash matches, it doesn't

module _ (t : Tally) (global : ℕ) {path : Option ℕ} where
  pub tally-unknown : path ≡ None → t ≡ tallied t global path
  unfolding tallied
  tally-unknown e = rw e

  pub tally_match : {hash : ℕ} → path ≡ Some hash → value hash ≡ value global
      → record { resolved = t.resolved + 1; matches = t.matches + 1 } ≡ tallied t global path
  unfolding tallied
  tally_match {hash} e h = rw (e, eq-eqb (value hash) (value global) h)

  pub tally-other : {hash : ℕ} → path ≡ Some hash → (value hash ≡ value global → ⊥)
      → record { resolved = t.resolved + 1; matches = t.matches } ≡ tallied t global path
  unfolding tallied
  tally-other {hash} e h = let n : t.matches ≡ t.matches + 0 = omega arith in rw (e, ne_eqb (value hash) (value global) h, ← n)

-- each count grows by one at most
pub tallied-few : (t : Tally) (global : ℕ) (path : Option ℕ) → ((tallied t global path).resolved ≤ t.resolved + 1) × ((tallied t global path).matches ≤ t.matches + 1)
unfolding tallied
tallied-few t global None = (omega arith, omega arith)
tallied-few t global (Some hash) = (omega arith, go (eqb (value hash) (value global)))
  where
    go : (b : Bool) → t.matches + cond b 1 0 ≤ t.matches + 1
    go true = omega arith
    go false = omega arith

-- ---- the objects of a block

module _ {s : List ℕ} {l : Layout} {o : Objects} (x : ScriptFacts s l o) (limit : ℕ) where
  pub tally-more : (i : ℕ) → i < l.count → {h : Option ℕ} → h ≡ hashed_as (path_no limit o i)
      → tallied (tally_to limit o i) (entry_no o i).global h ≡ tally_to limit o (i + 1)
  unfolding tallied
  tally-more i inside {h} e =
      let less : i < length o.entries = rw x.entries inside in
      let p = path_no_lem limit o (script-good s o x.is) i less in
      rw (e, scored-more limit o is_resolved i less, scored-more limit o is_match i less, p) (go (path_of limit o (entry_no o i).global))
    where
      same : (t : Tally) → t ≡ record { resolved = t.resolved + 0; matches = t.matches + 0 }
      same t = let a : t.resolved ≡ t.resolved + 0 = omega arith in let b : t.matches ≡ t.matches + 0 = omega arith in rw (← a, ← b)

      go : (y : Maybe Path) → tallied (tally_to limit o i) (entry_no o i).global (hashed_as y)
          ≡ record {
            resolved = scored_to limit o is_resolved i + cond (is_resolved (entry_no o i).global y) 1 0;
            matches = scored_to limit o is_match i + cond (is_match (entry_no o i).global y) 1 0;
          }
      go none = same (tally_to limit o i)
      go (some q) = refl

  pub tally-all : tally_to limit o l.count ≡ tally_of limit o
  tally-all = rw (counts_all limit o l.count x.entries)

  -- no more than there are
  pub tally-few : (i : ℕ) → i ≤ l.count → ((tally_to limit o i).resolved ≤ i) × ((tally_to limit o i).matches ≤ i)
  tally-few i h =
      let n : length (take i o.entries) ≡ i = length-take-le i o.entries (rw x.entries h) in
      (omega (arith, sums-few limit o is_resolved (take i o.entries)), omega (arith, sums-few limit o is_match (take i o.entries)))

  -- the four counts
  pub counts_by_lem : counts_by l.count (tally_of limit o) ≡ counts_of limit o
  counts_by_lem =
      let n : (counts_of limit o).objects ≡ l.count = rw (counts_all limit o l.count x.entries) in
      let d : (counts_of limit o).mismatches ≡ (counts_of limit o).resolved - (counts_of limit o).matches = omega (arith, resolved-are limit o) in
      rw (← n, ← d)

  pub match_few : (tally_of limit o).matches ≤ (tally_of limit o).resolved
  match_few = omega (arith, resolved-are limit o)

-- ---- the output

pub output-parts : (n : Counts) (flags : List ℕ) → output_with n flags ≡ front_of n (length flags) ++ flags
unfolding output_with
output-parts n flags =
    let m : length (verify_version
    ∷ (be_bytes 4 n.objects ++ be_bytes 4 n.resolved ++ be_bytes 4 n.matches ++ be_bytes 4 n.mismatches ++ be_bytes 4 (length flags) ++ flags))
    ≡ length flags + 21 = simp (length-append, length-be_bytes) (omega arith) in
    rw m (simp append_assoc)
