-- `zen::tables::check_tables` meets its contract.
use Rattle.std.specs.Prelude.{Err, Ok}
use Prim.Native.Nat.{ℕ, ◌-◌, ◌%◌}
use mathlib.Core.Path.{◌≡◌, sym, ◌∙◌}
use mathlib.Core.List.{List}
use mathlib.Core.Bool.{Bool, true, false}
use lib.ListN.{length}
use borrow.Author.Tests.{eq-eqb, ne_eqb}
use Rattle.base.specs.Reading.{walk}
use Rattle.batch.specs.BatchAnswers.{checked}
use Rattle.zen.specs.Zen.{tables, named}
use Rattle.zen.specs.TableLaws.{tables-is, exports_in}
use Rattle.zen.specs.Answers.{Order}
use Rattle.zen.specs.declared.summary.Summary.{Summary}
use Rattle.zen.proofs.tables.check_tables.Goals.{then-m-ne0-via-then-m-ne0, then-m-ne0-via-else-m-ne0+then-m-ne0-2}
use Rattle.zen.proofs.tables.check_tables.Goals as goal

-- question by question
module _ (s : List ℕ) (m : Summary) (n : ℕ) (o : Order m (length s)) where
  hashes : ((m.imports - m.hashes) % 8 ≡ 0 → ⊥) → Err 20 ≡ checked (walk (tables m n) s m.hashes)
  unfolding checked
  hashes a = rw (tables-is s m n o, ne_eqb ((m.imports - m.hashes) % 8) 0 a)

  module _ (a : (m.imports - m.hashes) % 8 ≡ 0) where
    imports : ((m.exports - m.imports) % 8 ≡ 0 → ⊥) → Err 20 ≡ checked (walk (tables m n) s m.hashes)
    unfolding checked
    imports b = rw (tables-is s m n o, eq-eqb ((m.imports - m.hashes) % 8) 0 a, ne_eqb ((m.exports - m.imports) % 8) 0 b)

    module _ (b : (m.exports - m.imports) % 8 ≡ 0) where
      exports : ((m.bundles - m.exports) % 72 ≡ 0 → ⊥) → Err 21 ≡ checked (walk (tables m n) s m.hashes)
      unfolding checked
      exports d =
          rw (
            tables-is s m n o,
            eq-eqb ((m.imports - m.hashes) % 8) 0 a,
            eq-eqb ((m.exports - m.imports) % 8) 0 b,
            ne_eqb ((m.bundles - m.exports) % 72) 0 d,
          )

      module _ (d : (m.bundles - m.exports) % 72 ≡ 0) (t : Bool) (e : t ≡ named n (exports_in s m)) where
        names : t ≡ true → (Ok tt) ≡ checked (walk (tables m n) s m.hashes)
        unfolding checked
        names q =
            rw (
              tables-is s m n o,
              eq-eqb ((m.imports - m.hashes) % 8) 0 a,
              eq-eqb ((m.exports - m.imports) % 8) 0 b,
              eq-eqb ((m.bundles - m.exports) % 72) 0 d,
              sym e ∙ q,
            )

        unnamed : t ≡ false → Err 10 ≡ checked (walk (tables m n) s m.hashes)
        unfolding checked
        unnamed q =
            rw (
              tables-is s m n o,
              eq-eqb ((m.imports - m.hashes) % 8) 0 a,
              eq-eqb ((m.exports - m.imports) % 8) 0 b,
              eq-eqb ((m.bundles - m.exports) % 72) 0 d,
              sym e ∙ q,
            )

pub returns-then-m-ne0 : goal.returns-then-m-ne0
returns-then-m-ne0 c =
    elim c.then-m-ne0.branch [
      | then-m-ne0-via-then-m-ne0 w ↦ search hashes
      | then-m-ne0-via-else-m-ne0+then-m-ne0-2 w ↦ search imports
    ]

pub returns-then-region-ne0 : goal.returns-then-region-ne0
returns-then-region-ne0 c = search exports

pub returns-then-not-check_exports : goal.returns-then-not-check_exports
returns-then-not-check_exports c = search unnamed

pub returns : goal.returns
returns c = search names
