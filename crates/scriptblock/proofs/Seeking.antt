-- The search for an entry with a global index, by number.
use Rattle.std.specs.Prelude.{Ok, Option, Some, None, Bool, true, false}
use Rattle.std.specs.Bool.{MatchBool}
use Rattle.std.specs.Option.{MatchOption}
use Rattle.std.specs.List.{range_with_len, AllWithin, HoldsAt}
use Rattle.std.proofs.lemmas.List.FromFn.{length-range_with_len, get_or-range_with_len}
use mathlib.Core.Path.{◌≡◌, sym, ◌∙◌}
use mathlib.Core.List.{List}
use Prim.Native.Nat.{ℕ, ◌+◌, ◌*◌, ◌≤◌, ◌<◌}
use Rattle.std.proofs.Math.Decide.{ℕ_discrete}
use native.Mathlib.Numerals.{add-one}
use native.Mathlib.Omega.{arith}
use lib.ListN.{length, get_or}
use Rattle.base.specs.Number.{le_at}
use Rattle.base.specs.OneMore.{one_more}
use Rattle.base.specs.Reading.{run}
use Rattle.scriptblock.specs.Script.{script}
use Rattle.scriptblock.specs.ScriptAnswers.{entry_at, fresh_at, script_answer, entries_of}
use Rattle.scriptblock.specs.ScriptFaults.{all-fresh, fresh-seen}
use Rattle.scriptblock.proofs.ScriptAccepted.{script-parts, entry-count, entry-is}
use Rattle.scriptblock.proofs.ScriptFacts.{none_number, is_number}
use Rattle.scriptblock.specs.Objects.{entry_number}
use Rattle.scriptblock.specs.declared.script.Layout.{Layout}

-- `all` over a range from 0, said of the numbers in it and not of a list
pub all_in_range : (n : ℕ) (r : Bool) (Yes No : ℕ → Type 0)
    → MatchBool r (AllWithin Yes (range_with_len 0 n) 0 (length (range_with_len 0 n)))
    ((k : ℕ) × (k < length (range_with_len 0 n)) × HoldsAt No (range_with_len 0 n) k)
    → MatchBool r ((k : ℕ) → k < n → Yes k) ((k : ℕ) × (k < n) × No k)
all_in_range n true Yes No h = λ k l.
    let e : get_or (range_with_len 0 n) k 0 ≡ k = omega (arith, get_or-range_with_len 0 n k 0 l) in
    rw e at (h k 0 (omega arith) (omega (arith, length-range_with_len 0 n)))
all_in_range n false Yes No h =
    let l : h.0 < n = omega (arith, length-range_with_len 0 n, h.1) in
    let e : get_or (range_with_len 0 n) h.0 0 ≡ h.0 = omega (arith, get_or-range_with_len 0 n h.0 0 l) in
    (h.0, l, rw e at (h.2 0))

-- what holds of each number below i, and of i, holds of each below the next
pub one_more_asked : (Yes : ℕ → Type 0) (i : ℕ) → ((k : ℕ) → k < i → Yes k) → Yes i → (k : ℕ) → k < i + 1 → Yes k
one_more_asked Yes i below here k h = go (ℕ_discrete k i)
  where
    go : Dec (k ≡ i) → Yes k
    go (yes e) = rw e here
    go (no n) = below k (omega (arith, h, n))

module _ (b : List ℕ) (g : ℕ) where
  -- whether an entry's global index is another
  pub fresh_is : (from n : ℕ) (r : Bool)
      → MatchBool r ((k : ℕ) → k < n → le_at 8 b (from + 32 * k + 8) ≡ g → ⊥)
      ((k : ℕ) × (k < n) × (le_at 8 b (from + 32 * k + 8) ≡ g)) → r ≡ fresh_at b from n g
  unfolding entry_at
  fresh_is from n true h = sym (all-fresh b from n g h)
  fresh_is from n false h = sym (fresh-seen b from n g h.0 h.1 h.2)

  -- the first entry with it
  pub number_found : (l : Layout) → script_answer (run script 0 b) ≡ Ok l → (r : Option ℕ)
      → MatchOption r ((k : ℕ) → 0 ≤ k → k < l.count → le_at 8 b (l.entries + 32 * k + 8) ≡ g → ⊥)
      (λ i. (0 ≤ i) × (i < l.count) × (le_at 8 b (l.entries + 32 * i + 8) ≡ g) × ((k : ℕ) → 0 ≤ k → k < i → le_at 8 b (l.entries + 32 * k + 8) ≡ g → ⊥))
      → one_more r ≡ entry_number g (entries_of (run script 0 b))
  unfolding entry_at
  number_found l acc None h =
      let p = script-parts b l acc in
      sym (none_number g (entries_of (run script 0 b)) λ i a e.
      let k : i < l.count = rw (entry-count b l p) at a in
      h i (omega arith) k (rw (entry-is b l p i k) at e))
  number_found l acc (Some i) h =
      let p = script-parts b l acc in
      let is = is_number g (entries_of (run script 0 b)) i (rw (entry-count b l p) h.1) (rw (entry-is b l p i h.1) h.2) (λ j a e.
      h.3 j (omega arith) a (rw (entry-is b l p j (omega (arith, h.1))) at e)) in
      sym (is ∙ add-one i)
