-- `section::put_sections` meets its contract. The loop's invariant: the sections of the first i packages are written, and the rows have their marks. Assumes nothing.
use mathlib.Core.Path.{◌≡◌, sym, ◌∙◌, ap}
use mathlib.Core.List.{List, ◌++◌}
use Prim.Native.Nat.{ℕ, ◌+◌, ◌-◌, ◌*◌, ◌≤◌, ◌<◌}
use native.Mathlib.Nat.{zero-add}
use native.Mathlib.Omega.{arith}
use lib.ListN.{length, take, drop, get_or, length-drop}
use Rattle.packages.specs.Walk.{package_at, packages_at}
use Rattle.packages.specs.WalkLaws.{place_none, place-next, packages-length, package_no_lem}
use Rattle.resolve.specs.Marks.{marks_in, MarksIn}
use Rattle.sections.specs.MarkedLaws.{marks-first, marks-next, rows-marked}
use Rattle.sections.specs.SectionLaws.{filled_none, filled-inside, item_room, item-filled, item-sums, filled-all}
use Rattle.sections.specs.Sections.{How, section_of, refs_of, Filled, SectionRoom, SectionFilled, SectionsRoom}
use Rattle.sections.specs.declared.section.Section.{Section}
use Rattle.sections.proofs.section.put_sections.Goals.{After-put_section-z, At-loop}
use Rattle.sections.proofs.section.put_sections.Invariants.{Upto, Sofar}
use Rattle.sections.proofs.section.put_sections.Goals as goal

module _ {c s : List ℕ} {n : ℕ} {w : List ℕ} {objects from count : ℕ} {old : List ℕ} {i at : ℕ} {new : List ℕ} {z : Section}
    (t : Sofar c s n w objects from count old i at new z) (inside : i < count) where
  listed : i < length (packages_at c from count)
  listed = rw (packages-length c from count) inside

  here : get_or (packages_at c from count) i (package_at c from) ≡ package_at c at
  here = package_no_lem c from count i (package_at c from) inside ∙ ap (package_at c) (sym t.place)

  module _ (h : How) (a : SectionsRoom c s n w objects from count old h) where
    room : SectionRoom c s n w objects z.rows at (take (length new - z.size) (drop z.size new)) h
    room = rw (here, zero-add z.rows) at (item_room refs_of (section_of objects h) (packages_at c from count) i (package_at c from) listed a (t.filled h a))

    module _ {q : List ℕ} {v : Section} (y : SectionFilled c objects at h (take (length new - z.size) (drop z.size new)) q v) where
      item : let p = get_or (packages_at c from count) i (package_at c from) in
          Filled (refs_of p) (section_of objects h p) (take (length new - z.size) (drop z.size new)) q v
      item = rw here y

      more : Upto objects h (packages_at c from count) (i + 1) old (take z.size new ++ (q ++ drop (length new - z.size) (drop z.size new)))
          (record { size = z.size + v.size; rows = z.rows + v.rows })
      more = item-filled refs_of (section_of objects h) (packages_at c from count) i (package_at c from) listed a (t.filled h a) item

      -- each row has a mark
      marked : z.rows + v.rows ≡ length (marks_in c from (i + 1))
      marked = omega (arith, t.marks, y.rows, ap (λ (x : ℕ). length (refs_of (package_at c x))) t.place, marks-next c from i)

      sums : (z.size + v.size ≤ length old) × (z.rows + v.rows ≤ length w)
      sums = item-sums refs_of (section_of objects h) (packages_at c from count) i (package_at c from) listed a (t.filled h a) item

-- the rows stand in the work buffer
rows-room : {ms : List ℕ} {all : ℕ} (n : ℕ) (w : List ℕ) → MarksIn ms (drop (56 * n) w) → length ms ≡ all → 32 * all ≤ length w
rows-room n w m e = omega (arith, m.room, e, length-drop (56 * n) w)

-- what was written fits
holds-size : (c : At-loop)
    → (c.loop.size ≤ length c.loop.out) × (length c.loop.out ≡ length c.args.out.now)
holds-size c = filled-inside (c.loop.invariant.filled c.requires.sections_room.0 c.requires.sections_room.1)

summed : (c : After-put_section-z)
    → let l = c.loop in
    let u = c.args in
    (l.size + c.put_section-z.result.size ≤ length u.out.now) × (l.rows + c.put_section-z.result.rows ≤ length u.src.now.work.now)
summed c =
    let t = c.loop.invariant in
    let (h, a) = c.requires.sections_room in
    sums t c.loop-test.true h a (c.put_section-z.ensures.is h (room t c.loop-test.true h a))

pub loop-init : goal.loop-init
loop-init c =
    let z = c.args in
    record { place = sym (place_none z.src.now.packages.corpus.now z.src.now.packages.at); marks = sym (marks-first z.src.now.packages.corpus.now z.src.now.packages.at); filled = λ h a. filled_none z.out.now }

pub slice_bounds-put_section-count : goal.slice_bounds-put_section-count
slice_bounds-put_section-count c = (holds-size (goal.at.slice_bounds-put_section-count c).At-loop).0

pub slice_bounds-put_section-start : goal.slice_bounds-put_section-start
slice_bounds-put_section-start c = (holds-size (goal.at.slice_bounds-put_section-start c).At-loop).0

pub put_section-z-requires : goal.put_section-z-requires
put_section-z-requires c =
    let l = c.loop in
    let t = l.invariant in
    let (h, a) = c.requires.sections_room in
    record {
      site = (
        rw t.place (c.args.src.now.packages.sites.site l.counter c.loop-test.true),
        rw t.place (c.requires.read.read l.counter c.loop-test.true),
      );
      section_room = (h, room t c.loop-test.true h a);
      rows_marked = rw t.place (rows-marked c.args.src.now.objects c.args.src.now.work.now c.args.src.now.packages.sites c.requires.read c.requires.marks_in.0 c.requires.marks_in.1 l.counter c.loop-test.true t.marks);
    }

pub overflow_add-size : goal.overflow_add-size
overflow_add-size c =
    omega (arith, (summed (goal.at.overflow_add-size c).After-put_section-z).0)

pub overflow_add-rows : goal.overflow_add-rows
overflow_add-rows c =
    omega (arith, (summed (goal.at.overflow_add-rows c).After-put_section-z).1)

pub loop-preserved : goal.loop-preserved
loop-preserved c =
    let l = c.loop in
    let u = c.args in
    let t = l.invariant in
    let (h, a) = c.requires.sections_room in
    record {
      place = c.next_at-at.ensures ∙ rw t.place (sym (place-next u.src.now.packages.corpus.now u.src.now.packages.at l.counter));
      marks = marked t c.loop-test.true h a (c.put_section-z.ensures.is h (room t c.loop-test.true h a));
      filled = λ h a. more t c.loop-test.true h a (c.put_section-z.ensures.is h (room t c.loop-test.true h a));
    }

pub shape_of-out : goal.shape_of-out
shape_of-out c = (holds-size (goal.at.shape_of-out c).At-loop).1

pub returns : goal.returns
returns c = λ h a.
    let l = c.loop in
    let u = c.args in
    let ps = packages_at u.src.now.packages.corpus.now u.src.now.packages.at u.src.now.packages.count in
    let e : l.counter ≡ length ps = omega (arith, c.loop-test.false, packages-length u.src.now.packages.corpus.now u.src.now.packages.at u.src.now.packages.count) in
    (filled-all refs_of (section_of u.src.now.limit h) ps l.counter e (l.invariant.filled h a)).wrote
