-- All that a caller needs of an accepted package, in one place: what was read of it, how much of each there is, what its names' places
-- hold. With it the accessors' promises are about what was read, and nothing of the reading is opened. Assumes nothing.
use Rattle.std.specs.Prelude.{◌≡◌, refl, ℕ, Ok}
use Rattle.std.proofs.Math.Path.{sym, ap}
use Rattle.std.proofs.Common.{◌∙◌}
use mathlib.Core.List.{List, [], ◌++◌}
use Rattle.std.proofs.Math.ListN.{length, get_or}
use Rattle.text.specs.Name.{suffix}
use Rattle.base.specs.Reading.{gives, run_block}
use Rattle.zen.specs.Zen.{Read, package_block}
use Rattle.zen.specs.Answers.{answer, exports_of, hashes_of, names_of, imported_of, numbers_of, imported_name_of, package_name_of}
use Rattle.zen.specs.AnswersLaws.{accepted-got}
use Rattle.zen.proofs.Accepted.{parts}
use Rattle.zen.proofs.PackageLaws.{name-count, imported_count_lem, number-count, export-index, name-text, imported-text}
use Rattle.zen.specs.declared.zen.Layout.{Layout}
pub use Rattle.zen.specs.PackageFacts.{PackageFacts, imported_place, name_place}

module _ (b : List ℕ) (l : Layout) (acc : answer (run_block package_block b) ≡ Ok l) where
  -- the facts of what is known to have been read
  pub read-facts : (r : Read) → run_block package_block b ≡ gives r → PackageFacts b l r
  unfolding answer exports_of hashes_of names_of imported_of numbers_of imported_name_of package_name_of
  read-facts r q =
      let p = parts b l acc in
      let e : r.layout ≡ l = let z : Ok r.layout ≡ Ok l = sym (ap answer q) ∙ acc in cc in
      let x = ap exports_of q in
      let n = ap names_of q in
      let i = ap imported_of q in
      record {
        accepted = acc;
        is = q;
        layout = e;
        exports_of_lem = x;
        hashes_of_lem = ap hashes_of q;
        names_of_lem = n;
        imported_of_lem = i;
        numbers_of_lem = ap numbers_of q;
        imported_name_of_lem = λ j. ap (λ o. imported_name_of o j) q;
        package_name_of_lem = ap package_name_of q;
        package_name_lem = ap (λ (k : Layout). get_or r.names k.summary.index [] ++ suffix k.summary.number) e;
        exports = sym (ap length x) ∙ p.export_count_lem;
        hashes = sym (ap (λ o. length (hashes_of o)) q) ∙ p.hash_count_lem;
        names = sym (ap length n) ∙ name-count b l acc;
        imported = sym (ap length i) ∙ imported_count_lem b l acc;
        numbers = sym (ap (λ o. length (numbers_of o)) q) ∙ number-count b l acc;
        size = p.size;
        few-exports = p.few-exports;
        few-hashes = p.few-hashes;
        few-names = p.few-names;
        few-imported = p.few-imported;
        named = λ j h. rw x at (export-index b l acc j (rw p.export_count_lem h));
        index = p.index;
        name-holds = λ y j h. rw n at (name-text b l acc y j (name_place b l j) h refl);
        imported-holds = λ y j h. rw i at (imported-text b l acc y j (imported_place b l j) h refl);
      }

  -- and what was read
  pub package_facts : (r : Read) × PackageFacts b l r
  package_facts = let (r, q, e) = accepted-got (run_block package_block b) acc in (r, read-facts r q)
