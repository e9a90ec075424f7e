-- `section::put_each` meets its contract. The loop's invariant: the rows of the first candidates are written. Assumes nothing.
use mathlib.Core.Path.{◌≡◌, refl, ◌∙◌}
use mathlib.Core.List.{List, ◌++◌}
use Prim.Native.Nat.{ℕ, ◌+◌, ◌*◌, ◌-◌, ◌/◌, ◌≤◌, ◌<◌}
use native.Mathlib.Omega.{arith}
use lib.ListN.{length, take, drop, get_or}
use Rattle.base.specs.Number.{le_at}
use Rattle.base.specs.Output.{Wrote}
use Rattle.zen.specs.Zen.{no_export}
use Rattle.meaning.specs.Scan.{candidates}
use Rattle.packages.specs.Kinds.{number-of}
use Rattle.packages.specs.NumberedLaws.{candidate-small}
use Rattle.packages.specs.Package.{read_in, package_in, PackageIn}
use Rattle.packages.specs.declared.package.Parts.{Parts}
use Rattle.packages.specs.PackageLaws.{export_count_lem}
use Rattle.packages.specs.Row.{export_no}
use Rattle.resolve.specs.Rows.{row_at}
use Rattle.sections.specs.MarkedLaws.{RowTold, rows_inside, rows-there, row_told, row-own, row_other}
use Rattle.sections.specs.SectionLaws.{filled_none, filled-inside, item_room, item-filled, item-sums, filled-all}
use Rattle.sections.specs.Sections.{How, export_row, export_refs, Filled, RowsMarked, ExportRoom, EachRoom}
use Rattle.sections.proofs.section.put_each.Goals.{At-loop-r, Else-end-mark}
use Rattle.sections.proofs.section.put_each.Invariants.{Upto}
use Rattle.sections.proofs.section.put_each.Goals as goal

-- candidate k, whose mark m is
module _ (objects id : ℕ) (b : List ℕ) (size k : ℕ) {c s : List ℕ} {n : ℕ} {w : List ℕ} {first : ℕ} {out o : List ℕ} {h : How} {step m : ℕ}
    (a : EachRoom c s n w objects first id b out h) (t : Upto objects id b h k out o (record { size = size; rows = k }))
    (inside : k < length (candidates (read_in b))) (told : RowTold b step k m) where
  room : {r : ℕ} → r ≡ first + k → ExportRoom c s n w objects r id b (m / 4 - step) (take (length o - size) (drop size o)) h
  room e = rw (e, told.export) (item_room (export_refs (package_in id b)) (export_row objects h (package_in id b)) (candidates (read_in b)) k no_export inside a t)

  module _ {q : List ℕ} {j : ℕ} (y : Wrote (take (length o - size) (drop size o)) (export_row objects h (package_in id b) (export_no b (m / 4 - step))) q j) where
    item : let x = get_or (candidates (read_in b)) k no_export in
        Filled (export_refs (package_in id b) x) (export_row objects h (package_in id b) x) (take (length o - size) (drop size o)) q (record { size = j; rows = 1 })
    item = record { wrote = rw (← told.export) y; rows = refl }

    more : Upto objects id b h (k + 1) out (take size o ++ (q ++ drop (length o - size) (drop size o))) (record { size = size + j; rows = k + 1 })
    more = item-filled (export_refs (package_in id b)) (export_row objects h (package_in id b)) (candidates (read_in b)) k no_export inside a t item

    sum : size + j ≤ length out
    sum = (item-sums (export_refs (package_in id b)) (export_row objects h (package_in id b)) (candidates (read_in b)) k no_export inside a t item).0

-- row k behind the first has the mark m
module _ {n : ℕ} {w b : List ℕ} {p : Parts} {step first all : ℕ} (k : ℕ) {r m : ℕ} (at : r ≡ first + k) (q : PackageIn b p) (t : RowsMarked n w b step first all)
    (is : m ≡ le_at 4 (drop (56 * n) w) (row_at (drop (56 * n) w) r + 28)) where
  mark-is : m ≡ le_at 4 (drop (56 * n) w) (row_at (drop (56 * n) w) (first + k) + 28)
  mark-is = rw at at is

  -- a mark from the end on: no candidate is left
  beyond : 4 * (step + p.count) ≤ m → length (candidates (read_in b)) ≤ k
  beyond g = row_other t k mark-is (omega (arith, g, export_count_lem q))

  -- a mark below the end: a candidate is left, and the mark tells which
  module _ (less : m < 4 * (step + p.count)) (h : r < all) where
    left : k < length (candidates (read_in b))
    left = row-own t k mark-is (omega arith) (omega (arith, less, export_count_lem q))

    told : RowTold b step k m
    told = row_told t k mark-is left

-- what was written fits
holds-size : (c : At-loop-r)
    → (c.loop-r.size ≤ length c.loop-r.out) × (length c.loop-r.out ≡ length c.args.out.now)
holds-size c = let (id, h, a) = c.requires.by_index in filled-inside (c.loop-r.invariant.1 id h a)

-- row r is so many behind the first
behind : (first r : ℕ) → first ≤ r → r ≡ first + (r - first)
behind first r h = omega arith

found : (c : Else-end-mark) → RowTold c.args.p.now.block.bytes.now c.args.step (c.loop-r.r - c.args.first) c.mark_at-mark.result
found c = told (c.loop-r.r - c.args.first) (behind c.args.first c.loop-r.r c.loop-r.auto.r) c.args.p.now.block.accepted c.requires.rows_marked.0 (rw c.rest.ensures at c.mark_at-mark.ensures.0) c.if-end-mark.false c.loop-r-test.true

pub loop-r-init : goal.loop-r-init
loop-r-init c =
    let z : c.args.first - c.args.first ≡ 0 = omega arith in
    rw z (omega arith, λ id h a. filled_none c.args.out.now)

pub mark_at-mark-requires : goal.mark_at-mark-requires
mark_at-mark-requires c =
    rw c.rest.ensures (omega (arith, rows-there c.requires.rows_marked.0, c.loop-r-test.true))

pub shape_of-out-then-end-mark : goal.shape_of-out-then-end-mark
shape_of-out-then-end-mark c = (holds-size (goal.at.shape_of-out-then-end-mark c).At-loop-r).1

pub returns-then-end-mark : goal.returns-then-end-mark
returns-then-end-mark c = λ id h a.
    let l = c.loop-r in
    let k = l.r - c.args.first in
    let b = c.args.p.now.block.bytes.now in
    let z = beyond k (behind c.args.first l.r l.auto.r) c.args.p.now.block.accepted c.requires.rows_marked.0 (rw c.rest.ensures at c.mark_at-mark.ensures.0) c.if-end-mark.true in
    let e : k ≡ length (candidates (read_in b)) = omega (arith, z, l.invariant.0) in
    filled-all (export_refs (package_in id b)) (export_row c.args.src.now.limit h (package_in id b)) (candidates (read_in b)) k e (l.invariant.1 id h a)

pub slice_bounds-put_export-count : goal.slice_bounds-put_export-count
slice_bounds-put_export-count c = (holds-size (goal.at.slice_bounds-put_export-count c).At-loop-r).0

pub slice_bounds-put_export-start : goal.slice_bounds-put_export-start
slice_bounds-put_export-start c = (holds-size (goal.at.slice_bounds-put_export-start c).At-loop-r).0

pub overflow_sub-mark : goal.overflow_sub-mark
overflow_sub-mark c = (found (goal.at.overflow_sub-mark c).Else-end-mark).low

-- the candidate is there, and its row
at-row : (c : Else-end-mark) → c.loop-r.r - c.args.first < length (candidates (read_in c.args.p.now.block.bytes.now))
at-row c = left (c.loop-r.r - c.args.first) (behind c.args.first c.loop-r.r c.loop-r.auto.r) c.args.p.now.block.accepted c.requires.rows_marked.0 (rw c.rest.ensures at c.mark_at-mark.ensures.0) c.if-end-mark.false c.loop-r-test.true

lent : (c : Else-end-mark) (id : ℕ) (h : How) → EachRoom c.args.src.now.packages.corpus.now c.args.src.now.script.now c.args.src.now.objects c.args.src.now.work.now c.args.src.now.limit c.args.first id c.args.p.now.block.bytes.now c.args.out.now h
    → ExportRoom c.args.src.now.packages.corpus.now c.args.src.now.script.now c.args.src.now.objects c.args.src.now.work.now c.args.src.now.limit c.loop-r.r id c.args.p.now.block.bytes.now
    (c.mark_at-mark.result / 4 - c.args.step) (take (length c.loop-r.out - c.loop-r.size) (drop c.loop-r.size c.loop-r.out)) h
lent c id h a =
    let l = c.loop-r in
    room c.args.src.now.limit id c.args.p.now.block.bytes.now l.size (l.r - c.args.first) a (l.invariant.1 id h a) (at-row c) (found c) (behind c.args.first l.r l.auto.r)

pub put_export-size-requires : goal.put_export-size-requires
put_export-size-requires c =
    let p = (goal.at.put_export-size-requires c).Else-end-mark in
    let t = found p in
    let (id, h, a) = c.requires.by_index in
    record {
      inside = omega (arith, t.inside, export_count_lem c.args.p.now.block.accepted);
      kind_value = rw c.candidate_in.ensures (number-of _ (rw t.kind (candidate-small (read_in c.args.p.now.block.bytes.now) _)) ∙ t.kind);
      by_index = (id, h, lent p id h a);
    }

pub overflow_add-size : goal.overflow_add-size
overflow_add-size c =
    let p = (goal.at.overflow_add-size c).Else-end-mark in
    let l = c.loop-r in
    let (id, h, a) = c.requires.by_index in
    let y = c.put_export-size.ensures id h (lent p id h a) in
    omega (arith, sum c.args.src.now.limit id c.args.p.now.block.bytes.now l.size (l.r - c.args.first) a (l.invariant.1 id h a) (at-row p) (found p) y)

pub loop-r-preserved : goal.loop-r-preserved
loop-r-preserved c =
    let p = (goal.at.loop-r-preserved c).Else-end-mark in
    let l = c.loop-r in
    let e : l.r + 1 - c.args.first ≡ l.r - c.args.first + 1 = omega (arith, l.auto.r) in
    rw e (
      omega (arith, at-row p),
      λ id h a.
          more c.args.src.now.limit id c.args.p.now.block.bytes.now l.size (l.r - c.args.first) a (l.invariant.1 id h a) (at-row p) (found p)
          (c.put_export-size.ensures id h (lent p id h a)),
    )

pub shape_of-out : goal.shape_of-out
shape_of-out c = (holds-size (goal.at.shape_of-out c).At-loop-r).1

pub returns : goal.returns
returns c = λ id h a.
    let l = c.loop-r in
    let b = c.args.p.now.block.bytes.now in
    let i = rows_inside c.requires.rows_marked.0 in
    let k : l.r ≡ c.args.src.now.rows = omega (arith, c.loop-r-test.false) in
    let e : l.r - c.args.first ≡ length (candidates (read_in b)) = omega (arith, l.invariant.0) in
    rw (← k) (filled-all (export_refs (package_in id b)) (export_row c.args.src.now.limit h (package_in id b)) (candidates (read_in b)) (l.r - c.args.first) e (l.invariant.1 id h a))
