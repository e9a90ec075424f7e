-- The summary by position: its offsets (questions 3 and 16), the whole, and what 17 says of it.
use Rattle.std.specs.Prelude.{◌≡◌, refl, List, true, false, ℕ, ◌+◌, ◌≤◌, ◌<◌, leb, length, take, drop}
use Rattle.std.proofs.Math.Path.{sym}
use Rattle.std.proofs.Common.{◌∙◌, arith}
use Rattle.std.proofs.Math.Bool.{and-eq-true_iff}
use Rattle.std.proofs.Math.Decide.{dec_le}
use borrow.Author.Tests.{le-leb, lt-leb, leb-true}
use Rattle.std.specs.Int.Signed.{non_neg}
use Rattle.base.specs.Reading.{Got, bad, got, walk, rows}
use Rattle.base.specs.ReadingLaws.{walk_bind, pick-by, bad-got, walk-within, ask-by, pick-short}
use Rattle.base.specs.ReadingRows.{rows-got}
use Rattle.base.specs.Number.{le, le_at}
use Rattle.base.specs.NumberLaws.{le_at-is}
use Rattle.base.specs.Signed.{twos}
use Rattle.batch.specs.Field.{low30}
use Rattle.zen.specs.Zen.{offset, summary, summary_at, ordered}
use Rattle.zen.specs.Answers.{Order}
use Rattle.zen.specs.declared.summary.Summary.{Summary}

-- an offset
module _ (s : List ℕ) (at : ℕ) where
  pub offset-short : length s < at + 4 → walk offset s at ≡ bad 3
  unfolding offset
  offset-short l = rw (lt-leb _ _ l)

  pub offset-negative : at + 4 ≤ length s → non_neg (twos 32 (le_at 4 s at)) ≡ false → walk offset s at ≡ bad 16
  unfolding offset
  offset-negative l g = rw (le-leb _ _ l, ← le_at-is 4 s at, g)

  pub offset-there : at + 4 ≤ length s → non_neg (twos 32 (le_at 4 s at)) ≡ true → walk offset s at ≡ got (le_at 4 s at) (at + 4)
  unfolding offset
  offset-there l g = rw (le-leb _ _ l, ← le_at-is 4 s at, g)

  pub offset-got : (a m : ℕ) → walk offset s at ≡ got a m → (a ≡ le_at 4 s at) × (m ≡ at + 4)
  unfolding offset
  offset-got a m q =
      pick-by (leb (at + 4) (length s)) _ 3 q λ l r.
      let x = le (take 4 (drop at s)) in
      ask-by (non_neg (twos 32 x)) 16 _ s (at + 4) r λ g e.
      let y : x ≡ a = cc in
      (sym y ∙ sym (le_at-is 4 s at), cc)

-- the summary
module _ (s : List ℕ) where
  pub summary-short : length s < 24 → walk summary s 8 ≡ bad 3
  unfolding summary
  summary-short l =
      pick-short (leb 11 (length s)) _ 3 λ a.
      pick-short (leb 12 (length s)) _ 3 λ b.
      pick-short (leb 16 (length s)) _ 3 λ c.
      pick-short (leb 20 (length s)) _ 3 λ d.
      rw (lt-leb 24 (length s) l)

  module _ (l : 24 ≤ length s) where
    pub summary-failed : {r : ℕ} → walk (rows 7 offset) s 24 ≡ bad r → walk summary s 8 ≡ bad r
    unfolding summary
    summary-failed q =
        rw (
          le-leb 11 (length s) (omega arith),
          le-leb 12 (length s) (omega arith),
          le-leb 16 (length s) (omega arith),
          le-leb 20 (length s) (omega arith),
          le-leb 24 (length s) l,
          walk_bind (rows 7 offset),
          q,
        )

    pub summary-passed : {os : List ℕ} {n : ℕ} → walk (rows 7 offset) s 24 ≡ got os n → (walk summary s 8 ≡ got (summary_at s) 52) × (52 ≤ length s)
    unfolding summary summary_at low30
    summary-passed {os} {n} q =
        let g = rows-got offset s (le_at 4 s) 4 (offset-got s) 7 24 os n q in (
          rw (
            le_at-is 3 s 8,
            le_at-is 4 s 12,
            le-leb 11 (length s) (omega arith),
            le-leb 12 (length s) (omega arith),
            le-leb 16 (length s) (omega arith),
            le-leb 20 (length s) (omega arith),
            le-leb 24 (length s) l,
            walk_bind (rows 7 offset),
            q,
            g.0,
            g.1,
          ),
          omega (arith, g.1, walk-within (rows 7 offset) s 24 l q),
        )

-- the summary that was read
pub summary-got : (s : List ℕ) {m : Summary} {n : ℕ} → walk summary s 8 ≡ got m n → (m ≡ summary_at s) × (n ≡ 52) × (52 ≤ length s)
summary-got s {m} {n} q = go (dec_le 24 (length s))
  where
    go : Dec (24 ≤ length s) → (m ≡ summary_at s) × (n ≡ 52) × (52 ≤ length s)
    go (no l) = bad-got (sym (summary-short s (omega arith)) ∙ q)
    go (yes l) = two (walk (rows 7 offset) s 24) refl
      where
        two : (g : Got (List ℕ)) → walk (rows 7 offset) s 24 ≡ g → (m ≡ summary_at s) × (n ≡ 52) × (52 ≤ length s)
        two (bad r) e = bad-got (sym (summary-failed s l e) ∙ q)
        two (got os k) e =
            let p = summary-passed s l e in
            let z = sym q ∙ p.0 in
            (cc, cc, p.1)

-- question 17, step by step
pub record Rising (m : Summary) (size : ℕ) : Type 0 where
  pub low : 52 ≤ m.hashes
  pub hashes : m.hashes ≤ m.imports
  pub imports : m.imports ≤ m.exports
  pub exports : m.exports ≤ m.bundles
  pub bundles : m.bundles ≤ m.headers
  pub headers : m.headers ≤ m.entries
  pub entries : m.entries ≤ m.imported
  pub imported : m.imported ≤ size

pub rising_of : (m : Summary) (size : ℕ) → ordered m size ≡ true → Rising m size
unfolding ordered
rising_of m size q =
    let (p7, h) = (and-eq-true_iff _ (leb m.imported size)).0 q in
    let (p6, g) = (and-eq-true_iff _ (leb m.entries m.imported)).0 p7 in
    let (p5, f) = (and-eq-true_iff _ (leb m.headers m.entries)).0 p6 in
    let (p4, e) = (and-eq-true_iff _ (leb m.bundles m.headers)).0 p5 in
    let (p3, d) = (and-eq-true_iff _ (leb m.exports m.bundles)).0 p4 in
    let (p2, c) = (and-eq-true_iff _ (leb m.imports m.exports)).0 p3 in
    let (a, b) = (and-eq-true_iff (leb 52 m.hashes) (leb m.hashes m.imports)).0 p2 in
    record {
      low = leb-true 52 m.hashes a;
      hashes = leb-true m.hashes m.imports b;
      imports = leb-true m.imports m.exports c;
      exports = leb-true m.exports m.bundles d;
      bundles = leb-true m.bundles m.headers e;
      headers = leb-true m.headers m.entries f;
      entries = leb-true m.entries m.imported g;
      imported = leb-true m.imported size h;
    }

pub rising_is : {m : Summary} {size : ℕ} → Rising m size → ordered m size ≡ true
unfolding ordered
rising_is {m} {size} r =
    rw (
      le-leb 52 m.hashes r.low,
      le-leb m.hashes m.imports r.hashes,
      le-leb m.imports m.exports r.imports,
      le-leb m.exports m.bundles r.exports,
      le-leb m.bundles m.headers r.bundles,
      le-leb m.headers m.entries r.headers,
      le-leb m.entries m.imported r.entries,
      le-leb m.imported size r.imported,
    )

-- question 17
pub order_of : (m : Summary) (size : ℕ) → ordered m size ≡ true → Order m size
order_of m size q =
    let r = rising_of m size q in
    record { low = r.low; imports = r.hashes; exports = r.imports; bundles = r.exports; imported = omega arith; high = r.imported }
