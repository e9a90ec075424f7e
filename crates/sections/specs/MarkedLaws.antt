-- Laws of the rows' marks: which rows are those of a package, which export each is of, and that steps are small. Assumes nothing.
use Rattle.std.specs.Prelude.{◌≡◌, refl, List, ◌++◌, ℕ, ◌+◌, ◌*◌, ◌-◌, ◌/◌, ◌%◌, ◌^◌, ◌≤◌, ◌<◌, length, drop}
use Rattle.std.proofs.Common.{sym, ◌∙◌, add-one, arith, length-append, get_or-append-add}
use Rattle.std.proofs.Math.Path.{ap}
use Rattle.std.proofs.Math.Decide.{dec_lt}
use Rattle.std.proofs.Math.ListN.{get_or, get_or-append}
use Rattle.base.specs.Number.{le_at}
use Rattle.zen.specs.Zen.{no_export}
use Rattle.meaning.specs.Scan.{candidate_kind, candidates}
use Rattle.packages.specs.Package.{read_in, PackageIn}
use Rattle.packages.specs.Row.{export_no}
use Rattle.packages.specs.Walk.{block_at, package_at, Site, place_of, Sites, AllRead}
use Rattle.packages.specs.declared.package.Parts.{Parts}
use Rattle.resolve.specs.MarkLaws.{mark-count, Tells, mark-tells, step_is, few-steps, follow}
use Rattle.resolve.specs.Marks.{marks_from, step_at, step_in, first_step, marks_at, marks_in, MarksIn}
use Rattle.resolve.specs.Rows.{row_at}
use Rattle.sections.specs.RefsLaws.{refs-count}
use Rattle.sections.specs.Sections.{refs_of, RowsMarked}

-- m is the mark of candidate k of the package with the block d, whose exports start in a step
pub record RowTold (d : List ℕ) (step k m : ℕ) : Type 0 where
  pub low : step ≤ m / 4
  pub inside : m / 4 - step < length (read_in d).exports
  pub export : export_no d (m / 4 - step) ≡ get_or (candidates (read_in d)) k no_export
  pub kind : m % 4 ≡ candidate_kind (read_in d) (export_no d (m / 4 - step))
  pub below : m < 4 * (step + length (read_in d).exports)

module _ {n : ℕ} {w d : List ℕ} {step first all : ℕ} (t : RowsMarked n w d step first all) where
  abbrev own : List ℕ
  own = marks_from (read_in d) step (read_in d).exports

  -- as many as candidates
  count : length own ≡ length (candidates (read_in d))
  unfolding candidates
  count = mark-count (read_in d) step (read_in d).exports

  -- the package's rows are among all
  pub rows_inside : first + length (candidates (read_in d)) ≤ all
  rows_inside = omega (arith, count, t.first-is, t.all-is, length-append t.before (own ++ t.after), length-append own t.after)

  -- all are there
  pub rows-there : 32 * all ≤ length (drop (56 * n) w)
  rows-there = omega (arith, t.all-is, t.marks.room)

  module _ (k : ℕ) {m : ℕ} (is : m ≡ le_at 4 (drop (56 * n) w) (row_at (drop (56 * n) w) (first + k) + 28)) where
    marked : first + k < all → m ≡ get_or (own ++ t.after) k 0
    marked h =
        is ∙ (t.marks.is (first + k) (omega (arith, t.all-is))
        ∙ rw (← t.first-is) (get_or-append-add t.before (own ++ t.after) k 0))

    -- a row of the package: its mark tells its export
    pub row_told : k < length (candidates (read_in d)) → RowTold d step k m
    unfolding candidates
    row_told h =
        let e : m ≡ get_or own k 0 = marked (omega (arith, rows_inside)) ∙ get_or-append own t.after 0 k (omega (arith, count)) in
        let z : Tells (read_in d) step (read_in d).exports m (get_or (candidates (read_in d)) k no_export) = rw e (mark-tells (read_in d) step (read_in d).exports k h) in
        record {
          low = omega (arith, z.low);
          inside = omega (arith, z.low, z.high);
          export = z.export;
          kind = z.kind ∙ ap (candidate_kind (read_in d)) (sym z.export);
          below = omega (arith, z.high);
        }

    -- a row whose mark is less than those behind the package is the package's
    pub row-own : first + k < all → m < 4 * (step + length (read_in d).exports) → k < length (candidates (read_in d))
    row-own h l = go (dec_lt k (length own))
      where
        go : Dec (k < length own) → k < length (candidates (read_in d))
        go (yes a) = omega (arith, count, a)
        go (no a) =
            let j = k - length own in
            let e : k ≡ length own + j = omega (arith, a) in
            let z : m ≡ get_or t.after j 0 = marked h ∙ (ap (λ (i : ℕ). get_or (own ++ t.after) i 0) e ∙ get_or-append-add own t.after j 0) in
            absurd (omega (arith, z, t.later j (omega (arith, e, t.first-is, t.all-is, length-append t.before (own ++ t.after), length-append own t.after))))

    -- and one whose mark is not less is not
    pub row_other : 4 * (step + length (read_in d).exports) ≤ m → length (candidates (read_in d)) ≤ k
    row_other l = go (dec_lt k (length (candidates (read_in d))))
      where
        go : Dec (k < length (candidates (read_in d))) → length (candidates (read_in d)) ≤ k
        go (yes a) = absurd (omega (arith, (row_told a).below))
        go (no a) = omega (arith, a)

-- ---- steps

-- steps and counts are small
pub record Small (at : ℕ) (p : Parts) : Type 0 where
  pub start : at + 12 + p.exports < 2 ^ 64
  pub count : p.count < 2 ^ 32
  pub step : step_at at p.exports + p.count < 2 ^ 29

pub step_small : {s : List ℕ} {at : ℕ} {d : List ℕ} {p : Parts} → Site s at d → PackageIn d p → Small at p
step_small k q = let (start, step) = few-steps k q in record { start = start; count = omega (arith, step); step = step }

-- the step as code has it
pub step-first : (c : List ℕ) (at : ℕ) {d : List ℕ} {p : Parts} → d ≡ block_at c at → PackageIn d p → step_at at p.exports ≡ first_step c at
step-first c at e k = step_is k at refl ∙ ap (step_in at) e

-- ---- the rows of package i

pub marks-first : (c : List ℕ) (from : ℕ) → length (marks_in c from 0) ≡ 0
unfolding marks_in
marks-first c from = refl

-- those of one package more are behind it
pub marks-next : (c : List ℕ) (from i : ℕ) → length (marks_in c from (i + 1)) ≡ length (marks_in c from i) + length (refs_of (package_at c (place_of c from i)))
unfolding marks_in candidates
marks-next c from i =
    let at = place_of c from i in
    let r = read_in (block_at c at) in
    rw (add-one i) (omega (arith, length-append (marks_in c from i) (marks_at c at), mark-count r (first_step c at) r.exports, refs-count (package_at c at)))

module _ (n : ℕ) (w : List ℕ) {c : List ℕ} {from total all : ℕ} (sites : Sites c from total) (read : AllRead c from total) (marks : MarksIn (marks_in c from total) (drop (56 * n) w))
    (size : length (marks_in c from total) ≡ all) (i : ℕ) (inside : i < total) where
  pub rows-marked : {first : ℕ} → first ≡ length (marks_in c from i)
      → RowsMarked n w (block_at c (place_of c from i)) (first_step c (place_of c from i)) first all
  rows-marked e =
      let f = follow sites read total i inside (omega arith) in
      record {
        before = marks_in c from i;
        after = f.after;
        marks = rw f.is at marks;
        first-is = sym e;
        all-is = ap length (sym f.is) ∙ size;
        later = f.later;
      }
