-- What the answer of `check_package` says of each exported function's answer. Assumes nothing.
use Rattle.std.specs.Prelude.{Result, Err, Ok, MatchResult}
use mathlib.Core.Path.{◌≡◌, sym, ◌∙◌, ap}
use mathlib.Core.List.{List, [], ◌∷◌}
use Prim.Native.Nat.{ℕ, ◌≤◌, ◌<◌}
use native.Mathlib.Omega.{arith}
use borrow.Author.Tests.{lt-ltb, le-ltb}
use lib.ListN.{length, take, get_or}
use Rattle.ids.specs.Id.{id_of}
use Rattle.base.specs.Reading.{Out, refused, gives}
use Rattle.base.specs.Refusal.{number, numbered}
use Rattle.base.specs.declared.refusal.Refusal.{Refusal}
use Rattle.zen.proofs.Accepted.{parts}
use Rattle.zen.specs.Answers.{answer, names_of, exports_of, hashes_of, imported_of, imported_name_of, export_count, hash_count}
use Rattle.zen.proofs.PackageLaws.{rejected-read, accepted-read, name-count, imported_count_lem}
use Rattle.zen.specs.Zen.{Read, no_export}
use Rattle.zen.specs.declared.tables.Export.{Export}
use Rattle.zen.specs.declared.zen.Layout.{Layout}
use Rattle.zenapi.specs.Answers.{package_in, none, refusal, counts, export_fields, export_answer, id_answer, ends, ends_answer}
use Rattle.zenapi.proofs.Cells.{past, any_default, cell_at, cell-past}

counts_of_lem : (x : Out Read) (r : Read) → x ≡ gives r → counts x ≡ length (names_of x) ∷ length (exports_of x) ∷ length (hashes_of x) ∷ length (imported_of x) ∷ []
unfolding counts names_of exports_of hashes_of imported_of
counts_of_lem x r y = rw y

ends_of : (b : List ℕ) (x : Out Read) (r : Read) → x ≡ gives r → ends_answer b x ≡ ends (take r.layout.size b) r.layout.names (exports_of x)
unfolding ends_answer exports_of
ends_of b x r y = rw y

module _ (b : List ℕ) where
  module _ (q : ℕ) (d : answer (package_in b) ≡ Err q) where
    gone : package_in b ≡ refused q
    gone = rejected-read b q d

    pub told : q ≡ refusal (package_in b)
    unfolding refusal
    told = rw gone

    pub no_count : (k : ℕ) → none ≡ get_or (counts (package_in b)) k none
    unfolding counts
    no_count k = rw gone

    pub no_hash : (i : ℕ) → none ≡ get_or (hashes_of (package_in b)) i none
    unfolding hashes_of
    no_hash i = rw gone

    pub no_export_lem : (i k : ℕ) → none ≡ export_answer (package_in b) i k
    unfolding export_answer exports_of
    no_export_lem i k = rw gone (cell-past export_fields [] i k (omega arith))

    pub no_id : (i : ℕ) → none ≡ id_answer (package_in b) i
    unfolding id_answer imported_of
    no_id i = rw (gone, le-ltb i 0 (omega arith))

    pub no_ends : none ≡ ends_answer b (package_in b)
    unfolding ends_answer
    no_ends = rw gone

  module _ (l : Layout) (accepted : answer (package_in b) ≡ Ok l) where
    pub passed : 0 ≡ refusal (package_in b)
    unfolding refusal
    passed = let (r, y, z) = accepted-read b l accepted in rw y

    pub counts-are : counts (package_in b) ≡ l.names.count ∷ export_count l ∷ hash_count l ∷ l.imported.count ∷ []
    counts-are =
        let (r, y, z) = accepted-read b l accepted in
        let k = parts b l accepted in
        counts_of_lem (package_in b) r y ∙ rw (name-count b l accepted, k.export_count_lem, k.hash_count_lem, imported_count_lem b l accepted)

    module _ (i : ℕ) where
      pub hash-here : (n : ℕ) → n ≡ hash_count l → i < n → i < length (hashes_of (package_in b))
      hash-here n w h = rw ((parts b l accepted).hash_count_lem, ← w) h

      pub hash-past : (n : ℕ) → n ≡ hash_count l → n ≤ i → none ≡ get_or (hashes_of (package_in b)) i none
      hash-past n w h = past (hashes_of (package_in b)) i (rw ((parts b l accepted).hash_count_lem, ← w) h)

      pub hash-there : (n r : ℕ) → n ≡ hash_count l → i < n → r ≡ get_or (hashes_of (package_in b)) i 0 → r ≡ get_or (hashes_of (package_in b)) i none
      hash-there n r w h q = q ∙ any_default (hashes_of (package_in b)) i 0 none (hash-here n w h)

      pub export-here : (n : ℕ) → n ≡ export_count l → i < n → i < length (exports_of (package_in b))
      export-here n w h = rw ((parts b l accepted).export_count_lem, ← w) h

      pub export-past : (n k : ℕ) → n ≡ export_count l → n ≤ i → none ≡ export_answer (package_in b) i k
      unfolding export_answer
      export-past n k w h = cell-past export_fields (exports_of (package_in b)) i k (rw ((parts b l accepted).export_count_lem, ← w) h)

      pub export-there : (n k : ℕ) (x : Export) (r : ℕ) → n ≡ export_count l → i < n → x ≡ get_or (exports_of (package_in b)) i no_export
          → r ≡ get_or (export_fields x) k none → r ≡ export_answer (package_in b) i k
      unfolding export_answer
      export-there n k x r w h = cell_at export_fields (exports_of (package_in b)) i no_export k (export-here n w h)

      pub id-past : l.imported.count ≤ i → none ≡ id_answer (package_in b) i
      unfolding id_answer
      id-past h = rw (imported_count_lem b l accepted, le-ltb i l.imported.count h)

      pub id-there : (r : ℕ) → i < l.imported.count → r ≡ id_of (imported_name_of (package_in b) i) → r ≡ id_answer (package_in b) i
      unfolding id_answer
      id-there r h q = rw (imported_count_lem b l accepted, lt-ltb i l.imported.count h) q

    pub ends_there : (r : ℕ) → r ≡ ends (take l.size b) l.names (exports_of (package_in b)) → r ≡ ends_answer b (package_in b)
    ends_there r q =
        let (o, y, z) = accepted-read b l accepted in
        q ∙ (sym (ap (λ (k : Layout). ends (take k.size b) k.names (exports_of (package_in b))) z) ∙ sym (ends_of b (package_in b) o y))

  -- the refusal's number, or 0
  pub refused-as : (x : Result Layout Refusal) (r : ℕ) → numbered x ≡ answer (package_in b) → MatchResult x (λ l. r ≡ 0) (λ e. r ≡ number e)
      → r ≡ refusal (package_in b)
  refused-as (Ok l) r q m = m ∙ passed l (sym q)
  refused-as (Err e) r q m = m ∙ told (number e) (sym q)
