-- `zen::zen::check_content` meets its contract.
use Rattle.std.specs.Prelude.{Err, Ok}
use Prim.Native.Nat.{ℕ, ◌≤◌}
use mathlib.Core.Path.{◌≡◌, sym, ap, ◌∙◌}
use mathlib.Core.List.{List}
use native.Mathlib.Omega.{arith}
use lib.ListN.{length}
use Rattle.base.specs.Reading.{walk, got}
use Rattle.base.specs.ReadingLaws.{out, then-walk, then-bad}
use Rattle.batch.specs.Batch.{batch}
use Rattle.batch.specs.BatchAnswers.{checked, batched}
use Rattle.batch.specs.BatchAnswersLaws.{checked-passed, checked-failed, batched-refused}
use Rattle.batch.specs.FoundBatch.{FoundAt, found_at}
use Rattle.batch.specs.declared.names.Names.{Names}
use Rattle.zen.specs.Zen.{bulk, tables, Tables, imports, content}
use Rattle.zen.specs.Answers.{imported, answer, Order}
use Rattle.zen.specs.AnswersLaws.{imported-refused, imported-found}
use Rattle.zen.specs.TableLaws.{bulk-got, tables_end}
use Rattle.zen.proofs.Handed.{handed}
use Rattle.zen.specs.declared.summary.Summary.{Summary}
use Rattle.zen.proofs.zen.check_content.Goals as goal

-- stage by stage
module _ (s : List ℕ) (m : Summary) (o : Order m (length s)) where
  no_names_lem : {r : ℕ} → Err r ≡ batched (walk batch s 52) → Err r ≡ answer (out (walk (content (length s) m) s 52))
  unfolding content answer
  no_names_lem q = ap (λ g. answer (out g)) (sym (then-bad batch _ s 52 (batched-refused _ (sym q))))

  module _ (n : Names) (q : Ok n ≡ batched (walk batch s 52)) where
    found : FoundAt s 52 n
    found = found_at s 52 n (omega (arith, o.low, o.imports, o.exports, o.bundles, o.imported, o.high)) (sym q)

    inside : n.«end» ≤ length s
    inside = found.inside

    no_bulk : {r : ℕ} → Err r ≡ checked (walk (bulk m.hashes) s n.«end») → Err r ≡ answer (out (walk (content (length s) m) s 52))
    unfolding content answer
    no_bulk p = ap (λ g. answer (out g)) (sym (then-walk batch _ s 52 found.is ∙ then-bad (bulk m.hashes) _ s n.«end» (checked-failed _ (sym p))))

    module _ (p : Ok tt ≡ checked (walk (bulk m.hashes) s n.«end»)) where
      passed : walk (bulk m.hashes) s n.«end» ≡ got tt m.hashes
      passed = let (u, k, b) = checked-passed _ (sym p) in b ∙ ap (got tt) (bulk-got s n.«end» m.hashes b)

      no_tables : {r : ℕ} → Err r ≡ checked (walk (tables m n.count) s m.hashes) → Err r ≡ answer (out (walk (content (length s) m) s 52))
      unfolding content answer
      no_tables h =
          ap (λ g. answer (out g))
          (sym (then-walk batch _ s 52 found.is
          ∙ (then-walk (bulk m.hashes) _ s n.«end» passed ∙ then-bad (tables m n.count) _ s m.hashes (checked-failed _ (sym h)))))

      module _ (h : Ok tt ≡ checked (walk (tables m n.count) s m.hashes)) where
        read : (t : Tables) × (walk (tables m n.count) s m.hashes ≡ got t m.imported)
        read = let (t, k, b) = checked-passed _ (sym h) in (t, b ∙ ap (got t) (tables_end s m n.count o b))

        no_imports : {r : ℕ} → Err r ≡ imported (walk (imports m.index n.count) s m.imported) → Err r ≡ answer (out (walk (content (length s) m) s 52))
        unfolding content answer
        no_imports j =
            ap (λ g. answer (out g))
            (sym (then-walk batch _ s 52 found.is
            ∙ (then-walk (bulk m.hashes) _ s n.«end» passed
            ∙ (then-walk (tables m n.count) _ s m.hashes read.1
            ∙ then-bad (imports m.index n.count) _ s m.imported (imported-refused _ (sym j))))))

        whole : (k : Names) → Ok k ≡ imported (walk (imports m.index n.count) s m.imported)
            → Ok (record { size = length s; summary = m; names = n; imported = k }) ≡ answer (out (walk (content (length s) m) s 52))
        unfolding content answer
        whole k j =
            let (v, u, g, a) = imported-found _ (sym j) in
            rw (← a) (ap (λ g. answer (out g))
            (sym (then-walk batch _ s 52 found.is
            ∙ (then-walk (bulk m.hashes) _ s n.«end» passed
            ∙ (then-walk (tables m n.count) _ s m.hashes read.1 ∙ then-walk (imports m.index n.count) _ s m.imported g)))))

pub returns-in_err-names : goal.returns-in_err-names
returns-in_err-names c = handed _ _ c.from_residual.ensures.1 (no_names_lem _ _ c.requires c.in_err-names.ensures)

pub check_bulk-requires : goal.check_bulk-requires
check_bulk-requires c = inside _ _ c.requires _ c.in_ok-names.ensures

pub returns-in_err-check_bulk : goal.returns-in_err-check_bulk
returns-in_err-check_bulk c =
    handed _ _ c.from_residual-in_err-check_bulk.ensures.1 (no_bulk _ _ c.requires _ c.in_ok-names.ensures c.in_err-check_bulk.ensures)

pub returns-in_err-check_tables : goal.returns-in_err-check_tables
returns-in_err-check_tables c =
    handed _ _ c.from_residual-in_err-check_tables.ensures.1
    (no_tables _ _ c.requires _ c.in_ok-names.ensures c.in_ok-check_bulk.ensures c.in_err-check_tables.ensures)

pub returns-in_err-imported : goal.returns-in_err-imported
returns-in_err-imported c =
    handed _ _ c.from_residual-in_err-imported.ensures.1
    (no_imports _ _ c.requires _ c.in_ok-names.ensures c.in_ok-check_bulk.ensures c.in_ok-check_tables.ensures c.in_err-imported.ensures)

pub returns : goal.returns
returns c =
    whole _ _ c.requires _ c.in_ok-names.ensures c.in_ok-check_bulk.ensures c.in_ok-check_tables.ensures _ c.in_ok-imported.ensures
