-- `zen::summary::in_order` meets its contract: the places rise exactly if each is at least its predecessor.
use Rattle.std.specs.Prelude.{◌≡◌, refl, Bool, true, false, List, [], ◌∷◌, ℕ, zero, suc, ◌+◌, ◌<◌, length, get_or}
use Rattle.std.specs.Bool.{MatchBool}
use Rattle.std.specs.List.Sorted.{IsNonDecreasing}
use Rattle.std.proofs.Common.{sym, arith, lit≤}
use Rattle.std.proofs.lemmas.List.Sorted.{non_decreasing_from_is_sorted}
use Rattle.zen.specs.Zen.{ordered}
use Rattle.zen.specs.declared.summary.Summary.{Summary}
use Rattle.zen.proofs.SummaryLaws.{Rising, rising_of, rising_is}
use Rattle.zen.proofs.summary.in_order.Goals as goal

module _ (m : Summary) (size : ℕ) where
  abbrev places : List ℕ
  places = 52 ∷ m.hashes ∷ m.imports ∷ m.exports ∷ m.bundles ∷ m.headers ∷ m.entries ∷ m.imported ∷ size ∷ []

  rise : IsNonDecreasing places → true ≡ ordered m size
  rise n =
      sym (rising_is (record {
        low = n 0 1 0 (lit≤ tt) (lit≤ tt);
        hashes = n 1 2 0 (lit≤ tt) (lit≤ tt);
        imports = n 2 3 0 (lit≤ tt) (lit≤ tt);
        exports = n 3 4 0 (lit≤ tt) (lit≤ tt);
        bundles = n 4 5 0 (lit≤ tt) (lit≤ tt);
        headers = n 5 6 0 (lit≤ tt) (lit≤ tt);
        entries = n 6 7 0 (lit≤ tt) (lit≤ tt);
        imported = n 7 8 0 (lit≤ tt) (lit≤ tt);
      }))

  -- a fall is none of the eight steps
  fall : Rising m size → (k : ℕ) → k + 1 < length places → get_or places (k + 1) 0 < get_or places k 0 → ⊥
  fall r zero h f = omega arith
  fall r (suc zero) h f = omega arith
  fall r (suc (suc zero)) h f = omega arith
  fall r (suc (suc (suc zero))) h f = omega arith
  fall r (suc (suc (suc (suc zero)))) h f = omega arith
  fall r (suc (suc (suc (suc (suc zero))))) h f = omega arith
  fall r (suc (suc (suc (suc (suc (suc zero)))))) h f = omega arith
  fall r (suc (suc (suc (suc (suc (suc (suc zero))))))) h f = omega arith
  fall r (suc (suc (suc (suc (suc (suc (suc (suc k)))))))) h f = omega arith

  answered : (r : Bool) → MatchBool r (IsNonDecreasing places) ((k : ℕ) × (k + 1 < length places) × ((d : ℕ) → get_or places (k + 1) d < get_or places k d))
      → r ≡ ordered m size
  answered true n = rise n
  answered false (k, h, f) = go (ordered m size) refl
    where
      go : (b : Bool) → ordered m size ≡ b → false ≡ b
      go true q = absurd (fall (rising_of m size q) k h (f 0))
      go false q = refl

pub returns : goal.returns
returns c = answered _ _ _ (non_decreasing_from_is_sorted (places c.args.m c.args.size) _ c.is_sorted.ensures.cases)
