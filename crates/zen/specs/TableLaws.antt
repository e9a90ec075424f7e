-- Bulk bytes, exports and tables by position (questions 3, 10 and 18 to 21).
use Rattle.std.specs.Prelude.{◌≡◌, refl, List, false, ℕ, zero, suc, ◌+◌, ◌*◌, ◌-◌, ◌/◌, ◌%◌, ◌≤◌, ◌<◌, eqb, length, take, drop}
use Rattle.std.proofs.Common.{sym, ◌∙◌, sub-one, div-add-mod', mul_comm, lit≤}
use Rattle.std.proofs.Math.Path.{ap}
use Rattle.std.proofs.Math.Bool.{true, and-false}
use native.Mathlib.Omega.{arith}
use borrow.Author.Tests.{le-leb, lt-ltb, le-ltb, eqb-true}
use Rattle.std.proofs.Math.Dec.{leb}
use Rattle.std.specs.Int.Signed.{non_neg}
use Rattle.base.specs.Choose.{pick}
use Rattle.base.specs.Reading.{Got, bad, got, walk, rows}
use Rattle.base.specs.ReadingLaws.{pick-by, ask-is, pick_cong, then-walk, last-is, number-there}
use Rattle.base.specs.ReadingRows.{cells, rows-there}
use Rattle.base.specs.Number.{le, le_at}
use Rattle.base.specs.NumberLaws.{le_at-is}
use Rattle.base.specs.Signed.{twos}
use Rattle.batch.specs.Batch.{u64}
use Rattle.batch.specs.Field.{low30}
use Rattle.zen.specs.Zen.{bulk, export, export_at, named, Tables, tables}
use Rattle.zen.specs.Answers.{Order}
use Rattle.zen.specs.declared.summary.Summary.{Summary}
use Rattle.zen.specs.declared.tables.Export.{Export}

-- bulk size and bulk bytes
module _ (s : List ℕ) (at stop : ℕ) where
  -- by the size z that is read
  abbrev sized_bulk : ℕ → Got (Unit {0})
  sized_bulk z =
      pick (leb (at + 8) (length s))
      (pick (non_neg (twos 64 z)) (pick (leb (at + 8 + z) (length s)) (pick (eqb (at + 8 + z) stop) (got tt (at + 8 + z)) (bad 19)) (bad 3)) (bad 18))
      (bad 3)

  pub bulk-is : walk (bulk stop) s at ≡ sized_bulk (le_at 8 s at)
  unfolding bulk
  bulk-is =
      let z = le (take 8 (drop at s)) in
      rw (le_at-is 8 s at)
      (pick_cong (leb (at + 8) (length s)) (bad 3) λ a.
      ask-is (non_neg (twos 64 z)) 18 _ s (at + 8) ∙ pick_cong (non_neg (twos 64 z)) (bad 18) λ b.
      pick_cong (leb (at + 8 + z) (length s)) (bad 3) λ c. last-is (eqb (at + 8 + z) stop) 19 s (at + 8 + z))

  pub bulk-got : {n : ℕ} {u : Unit {0}} → walk (bulk stop) s at ≡ got u n → n ≡ stop
  bulk-got {n} {u} q =
      pick-by (leb (at + 8) (length s)) _ 3 (sym bulk-is ∙ q) λ a r.
      pick-by (non_neg (twos 64 (le_at 8 s at))) _ 18 r λ b r.
      pick-by (leb (at + 8 + le_at 8 s at) (length s)) _ 3 r λ c r.
      pick-by (eqb (at + 8 + le_at 8 s at) stop) _ 19 r λ d r.
      let z : at + 8 + le_at 8 s at ≡ n = cc in
      sym z ∙ eqb-true (at + 8 + le_at 8 s at) stop d

-- an export
module _ (s : List ℕ) (at : ℕ) where
  pub export-there : at + 72 ≤ length s → walk export s at ≡ got (export_at s at) (at + 72)
  unfolding export export_at low30
  export-there h =
      let e19 : at + 16 + 3 ≡ at + 19 = omega arith in
      let e20 : at + 19 + 1 ≡ at + 20 = omega arith in
      let e24 : at + 20 + 4 ≡ at + 24 = omega arith in
      let e32 : at + 24 + 8 ≡ at + 32 = omega arith in
      let e40 : at + 32 + 8 ≡ at + 40 = omega arith in
      let e48 : at + 40 + 8 ≡ at + 48 = omega arith in
      let e56 : at + 48 + 8 ≡ at + 56 = omega arith in
      let e64 : at + 56 + 8 ≡ at + 64 = omega arith in
      let e72 : at + 64 + 8 ≡ at + 72 = omega arith in
      let inside : (n : ℕ) → n ≤ 72 → leb (at + n) (length s) ≡ true = λ n l. le-leb (at + n) (length s) (omega arith) in
      rw (e19, e20, e24, e32, e40, e48, e56, e64, e72)
      (rw (le_at-is 3 s (at + 16), le_at-is 4 s (at + 20), le_at-is 8 s (at + 24), le_at-is 8 s (at + 32), le_at-is 8 s (at + 40), le_at-is 8 s (at + 56))
      (rw (
        inside 16 (lit≤ tt),
        inside 19 (lit≤ tt),
        inside 20 (lit≤ tt),
        inside 24 (lit≤ tt),
        inside 32 (lit≤ tt),
        inside 40 (lit≤ tt),
        inside 48 (lit≤ tt),
        inside 56 (lit≤ tt),
        inside 64 (lit≤ tt),
        inside 72 (lit≤ tt),
      )))

-- the names of exports by position
module _ (s : List ℕ) (count : ℕ) where
  pub named_none : (at k : ℕ) → k ≤ 0 → named count (cells (export_at s) 72 at k) ≡ true
  named_none at zero l = refl
  named_none at (suc k) l = absurd (omega arith)

  pub named-pass : (at k : ℕ) → 0 < k → (export_at s at).index < count
      → named count (cells (export_at s) 72 at k) ≡ named count (cells (export_at s) 72 (at + 72) (k - 1))
  named-pass at zero l g = absurd (omega arith)
  named-pass at (suc k) l g = rw (lt-ltb _ _ g, sub-one)

  pub named_fail : (at k : ℕ) → 0 < k → count ≤ (export_at s at).index → named count (cells (export_at s) 72 at k) ≡ false
  named_fail at zero l g = absurd (omega arith)
  named_fail at (suc k) l g = rw (le-ltb _ _ g)

  pub named-all : (at n : ℕ) → ((k : ℕ) → k < n → low30 s (at + 72 * k + 16) < count) → named count (cells (export_at s) 72 at n) ≡ true
  unfolding export_at
  named-all at zero h = refl
  named-all at (suc n) h =
      let here : low30 s (at + 16) < count = let e : at + 72 * 0 + 16 ≡ at + 16 = omega arith in rw e at (h 0 (omega arith)) in
      rw (lt-ltb _ _ here) (named-all (at + 72) n (λ k l.
      let e : at + 72 + 72 * k + 16 ≡ at + 72 * (k + 1) + 16 = omega arith in
      rw e (h (k + 1) (omega arith))))

  pub named-some : (at n k : ℕ) → k < n → count ≤ low30 s (at + 72 * k + 16) → named count (cells (export_at s) 72 at n) ≡ false
  unfolding export_at
  named-some at zero k l h = absurd (omega arith)
  named-some at (suc n) zero l h = let e : at + 72 * 0 + 16 ≡ at + 16 = omega arith in rw (le-ltb _ _ (rw e at h))
  named-some at (suc n) (suc k) l h =
      let e : at + 72 * suc k + 16 ≡ at + 72 + 72 * k + 16 = omega arith in
      rw (named-some (at + 72) n k (omega arith) (rw e at h)) (and-false _)

-- the public hashes, and the exports
abbrev pub hashes_in : List ℕ → Summary → List ℕ
hashes_in s m = cells (le_at 8 s) 8 m.hashes ((m.imports - m.hashes) / 8)

abbrev pub exports_in : List ℕ → Summary → List Export
exports_in s m = cells (export_at s) 72 m.exports ((m.bundles - m.exports) / 72)

-- a region in equal parts
pub in_parts : (k n : ℕ) → eqb (n % suc k) 0 ≡ true → suc k * (n / suc k) ≡ n
in_parts k n e = let z = eqb-true (n % suc k) 0 e in omega (arith, div-add-mod' n (suc k), mul_comm (n / suc k) (suc k))

-- the tables, by their questions
module _ (s : List ℕ) (m : Summary) (n : ℕ) (o : Order m (length s)) where
  pub tables-is : walk (tables m n) s m.hashes
      ≡ pick (eqb ((m.imports - m.hashes) % 8) 0)
      (pick (eqb ((m.exports - m.imports) % 8) 0)
      (pick (eqb ((m.bundles - m.exports) % 72) 0)
      (pick (named n (exports_in s m)) (got (record { hashes = hashes_in s m; exports = exports_in s m }) m.imported) (bad 10)) (bad 21)) (bad 20)) (bad 20)
  unfolding tables
  tables-is =
      ask-is (eqb ((m.imports - m.hashes) % 8) 0) 20 _ s m.hashes ∙ pick_cong (eqb ((m.imports - m.hashes) % 8) 0) (bad 20) λ e.
      let i : m.hashes + 8 * ((m.imports - m.hashes) / 8) ≡ m.imports = omega (arith, in_parts 7 (m.imports - m.hashes) e, o.imports) in
      then-walk (rows ((m.imports - m.hashes) / 8) u64) _ s m.hashes
      (rows-there u64 s (le_at 8 s) 8 (number-there 8 s) ((m.imports - m.hashes) / 8) m.hashes
      (omega (arith, i, o.imports, o.exports, o.bundles, o.imported, o.high)) ∙ ap (got (hashes_in s m)) i) ∙
      (ask-is (eqb ((m.exports - m.imports) % 8) 0) 20 _ s m.imports ∙ pick_cong (eqb ((m.exports - m.imports) % 8) 0) (bad 20) λ f.
      let u : m.imports + (m.exports - m.imports) ≡ m.exports = omega (arith, o.exports) in
      rw (u, le-leb m.exports (length s) (omega (arith, o.bundles, o.imported, o.high)))
      (ask-is (eqb ((m.bundles - m.exports) % 72) 0) 21 _ s m.exports ∙ pick_cong (eqb ((m.bundles - m.exports) % 72) 0) (bad 21) λ g.
      let j : m.exports + 72 * ((m.bundles - m.exports) / 72) ≡ m.bundles = omega (arith, in_parts 71 (m.bundles - m.exports) g, o.bundles) in
      then-walk (rows ((m.bundles - m.exports) / 72) export) _ s m.exports
      (rows-there export s (export_at s) 72 (export-there s) ((m.bundles - m.exports) / 72) m.exports (omega (arith, j, o.imported, o.high))
      ∙ ap (got (exports_in s m)) j) ∙
      (ask-is (named n (exports_in s m)) 10 _ s m.bundles ∙ pick_cong (named n (exports_in s m)) (bad 10) λ h.
      let v : m.bundles + (m.imported - m.bundles) ≡ m.imported = omega (arith, o.imported) in
      rw (v, le-leb m.imported (length s) o.high))))

  -- they end at the imported names
  pub tables_end : {t : Tables} {k : ℕ} → walk (tables m n) s m.hashes ≡ got t k → k ≡ m.imported
  tables_end q =
      pick-by (eqb ((m.imports - m.hashes) % 8) 0) _ 20 (sym tables-is ∙ q) λ a r.
      pick-by (eqb ((m.exports - m.imports) % 8) 0) _ 20 r λ b r.
      pick-by (eqb ((m.bundles - m.exports) % 72) 0) _ 21 r λ c r.
      pick-by (named n (exports_in s m)) _ 10 r λ d r. cc
