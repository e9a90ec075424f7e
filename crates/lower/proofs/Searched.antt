-- What a binary search by the firsts finds in a list of pairs that rises. Assumes nothing.
use Rattle.std.proofs.Common.{◌≡◌, ℕ, ◌≤◌, ◌<◌, List, length, Ok, Err, sym, ◌∙◌, ap, arith}
use Rattle.std.specs.Prelude.{true}
use Rattle.std.proofs.Math.Logic.{by_cases}
use Rattle.std.proofs.Math.Decide.{dec_lt}
use Rattle.std.specs.List.Sorted.{IsSearchInRange, IsBinarySearchResult, IsNonDecreasingBy}
use Rattle.std.specs.Ordering.{nat_cmp, ordering_index}
use Rattle.std.proofs.lemmas.Cmp.{ranked}
use Rattle.std.proofs.lemmas.List.Sorted.{IsNonDecreasingBy-from_default}
use Rattle.std.proofs.lemmas.Bool.Decides.{nat_tests}
use Rattle.lower.specs.Lower.{second_of}
use Rattle.lower.specs.SearchLaws.{rising, first_at, second_at, first-later, second_at_lem, second_none}

module _ (ps : List (ℕ × ℕ)) (a : ℕ) (rises : rising a ps ≡ true) (c : ℕ) where
  -- the comparisons with c rise along the list, as a binary search asks
  compared : IsNonDecreasingBy (λ pair. ordering_index (nat_cmp pair.0 c)) ps
  compared =
      IsNonDecreasingBy-from_default (λ pair. ordering_index (nat_cmp pair.0 c)) ps (0, 0)
      (λ i j le h.
      let order : first_at ps i ≤ first_at ps j =
      by_cases (dec_lt i j) (λ (l : i < j). omega (arith, first-later a ps rises i j l h))
      (λ (l : ¬ (i < j)). let same : i ≡ j = omega arith in omega (arith, ap (first_at ps) same)) in
      grind (arith, nat_tests))

  -- the second of the pair found
  pub found : (at : ℕ) → IsSearchInRange (Ok at) (length ps) → IsBinarySearchResult (λ pair. nat_cmp pair.0 c) ps (Ok at) → second_at ps at ≡ second_of c ps
  found at in_range equal =
      let here : first_at ps at ≡ c = ranked _ c _ (sym (equal (0, 0))) in
      sym (second_at_lem a ps rises at in_range) ∙ ap (λ (x : ℕ). second_of x ps) here

  -- c itself where there is none
  pub missing : (at : ℕ) → IsBinarySearchResult (λ pair. nat_cmp pair.0 c) ps (Err at) → c ≡ second_of c ps
  missing at parted = sym (second_none c ps (λ i h same. by_cases (dec_lt i at) (below i same) (above i h same)))
    where
      below : (i : ℕ) → first_at ps i ≡ c → i < at → ⊥
      below i same l =
          let less : first_at ps i < c = ranked _ c _ (sym ((parted compared).0 i (0, 0) (omega arith) l)) in
          omega arith

      above : (i : ℕ) → i < length ps → first_at ps i ≡ c → ¬ (i < at) → ⊥
      above i h same l =
          let greater : c < first_at ps i = ranked _ c _ (sym ((parted compared).1 i (0, 0) (omega arith) h)) in
          omega arith
