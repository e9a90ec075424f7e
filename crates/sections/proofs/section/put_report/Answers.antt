-- `section::put_report` meets its contract: the sections are written first, then what stands before them. Assumes nothing.
use mathlib.Core.Path.{◌≡◌, sym, ◌∙◌, ap}
use mathlib.Core.List.{List, [], ◌∷◌, ◌++◌}
use Prim.Native.Nat.{ℕ, ◌+◌, ◌-◌, ◌^◌, ◌≤◌, ◌<◌}
use native.Mathlib.Omega.{arith}
use lib.ListN.{length, take, drop, length-append, length-drop}
use lib.Seq.{length-take-le}
use Rattle.base.specs.Number.{be_bytes}
use Rattle.base.specs.NumberLaws.{length-be_bytes}
use Rattle.base.specs.Output.{Wrote}
use Rattle.base.specs.OutputLaws.{wrote-front, wrote_count, wrote_as}
use Rattle.scriptblock.specs.Script.{Objects}
use Rattle.packages.specs.Walk.{packages_at}
use Rattle.packages.specs.WalkLaws.{packages-length}
use Rattle.walk.specs.Found.{classes_in, found_in}
use Rattle.walk.specs.FoundLaws.{found-classes, found-refs}
use Rattle.resolve.specs.Lent.{lent-part}
use Rattle.sections.specs.RefsLaws.{rows_all}
use Rattle.resolve.specs.Rows.{limits_of}
use Rattle.sections.specs.SectionLaws.{report-is}
use Rattle.sections.specs.Sections.{How, front_of, sections_of, SectionsRoom}
use Rattle.sections.specs.Written.{report_at, Ready}
use Rattle.sections.proofs.section.put_report.Goals.{After-put_sections-size}
use Rattle.sections.proofs.section.put_report.Goals as goal

module _ (c : List ℕ) (at count lookups objects : ℕ) (o : Objects) where
  -- by the classes that were found
  abbrev how : How
  how = record { objects = o; classes = classes_in (found_in objects o c at count); lookups = lookups }

  abbrev sections : List ℕ
  sections = sections_of objects how (packages_at c at count)

  parts : report_at (limits_of lookups objects) o c at count ≡ front_of (5 + length sections) count ++ sections
  parts =
      report-is lookups objects o (classes_in (found_in objects o c at count)) (packages_at c at count) (found-classes objects o c at count)
      ∙ ap (λ (k : ℕ). front_of (5 + length sections) k ++ sections) (packages-length c at count)

  front_length : (size : ℕ) → length (front_of size count) ≡ 9
  front_length size =
      omega (
        arith,
        length-append (be_bytes 4 size ++ (1 ∷ [])) (be_bytes 4 count),
        length-append (be_bytes 4 size) (1 ∷ []),
        length-be_bytes 4 size,
        length-be_bytes 4 count,
      )

  size : length (report_at (limits_of lookups objects) o c at count) ≡ 9 + length sections
  size = ap length parts ∙ omega (arith, length-append (front_of (5 + length sections) count) sections, front_length (5 + length sections))

  module _ (out : List ℕ) {s : List ℕ} {n : ℕ} {w : List ℕ} (t : Ready c s o n at count lookups objects w)
      (fits : length (report_at (limits_of lookups objects) o c at count) ≤ length out) where
    room : SectionsRoom c s n w objects at count (take (length out - 9) (drop 9 out)) how
    room = record {
      resolved = rw (found-refs objects o c at count) at (rows_all {h = how} t.holds);
      room = rw (lent-part 9 out, length-drop 9 out) (omega (arith, size));
    }

    done : {q x : List ℕ} {k : ℕ} → Wrote (take (length out - 9) (drop 9 out)) sections q k
        → Wrote (take 9 out ++ (q ++ drop (length out - 9) (drop 9 out))) (front_of (k + 5) count) x 9
        → Wrote out (report_at (limits_of lookups objects) o c at count) x (k + 9)
    done {q} {x} {k} v y =
        let e : k + 5 ≡ 5 + length sections = omega (arith, v.size) in
        let f = wrote-front {s = out} v (omega (arith, size)) y in
        wrote_count (wrote_as f (ap (λ (j : ℕ). front_of j count ++ sections) e ∙ sym parts)) (omega arith)

-- the length of what follows fits four bytes
short : (c : After-put_sections-size) → c.put_sections-size.result + 5 < 2 ^ 32
short c =
    let a = c.args in
    let r = c.requires.report_room in
    let h = how a.src.now.packages.corpus.now a.src.now.packages.at a.src.now.packages.count r.lookups a.src.now.limit r.read in
    let v = c.put_sections-size.ensures h (room a.src.now.packages.corpus.now a.src.now.packages.at a.src.now.packages.count r.lookups a.src.now.limit r.read a.out.now r.ready r.room) in
    omega (arith, v.size, r.small, size a.src.now.packages.corpus.now a.src.now.packages.at a.src.now.packages.count r.lookups a.src.now.limit r.read)

pub slice_bounds-put_sections-count : goal.slice_bounds-put_sections-count
slice_bounds-put_sections-count c = omega (arith, c.requires.report_room.room, size c.args.src.now.packages.corpus.now c.args.src.now.packages.at c.args.src.now.packages.count c.requires.report_room.lookups c.args.src.now.limit c.requires.report_room.read)

pub slice_bounds-put_sections-start : goal.slice_bounds-put_sections-start
slice_bounds-put_sections-start c = omega (arith, c.requires.report_room.room, size c.args.src.now.packages.corpus.now c.args.src.now.packages.at c.args.src.now.packages.count c.requires.report_room.lookups c.args.src.now.limit c.requires.report_room.read)

pub put_sections-size-requires : goal.put_sections-size-requires
put_sections-size-requires c =
    let a = c.args in
    let r = c.requires.report_room in
    record {
      read = c.requires.read.0;
      sections_room = (
        how a.src.now.packages.corpus.now a.src.now.packages.at a.src.now.packages.count r.lookups a.src.now.limit r.read,
        room a.src.now.packages.corpus.now a.src.now.packages.at a.src.now.packages.count r.lookups a.src.now.limit r.read a.out.now r.ready r.room,
      );
      marks_in = c.requires.marks_in;
    }

pub overflow_add-size : goal.overflow_add-size
overflow_add-size c = omega (arith, short (goal.at.overflow_add-size c).After-put_sections-size)

pub overflow_cast-size : goal.overflow_cast-size
overflow_cast-size c = omega (arith, short (goal.at.overflow_cast-size c).After-put_sections-size)

pub put_front-requires : goal.put_front-requires
put_front-requires c =
    let out = c.args.out.now in
    rw (length-append (take 9 out), length-take-le 9 out (omega (arith, c.requires.report_room.room, size c.args.src.now.packages.corpus.now c.args.src.now.packages.at c.args.src.now.packages.count c.requires.report_room.lookups c.args.src.now.limit c.requires.report_room.read))) (omega arith)

pub overflow_add-result : goal.overflow_add-result
overflow_add-result c = omega (arith, short (goal.at.overflow_add-result c).After-put_sections-size)

pub returns : goal.returns
returns c = λ o lookups t fits.
    let a = c.args in
    done a.src.now.packages.corpus.now a.src.now.packages.at a.src.now.packages.count lookups a.src.now.limit o a.out.now t fits
    (c.put_sections-size.ensures (how a.src.now.packages.corpus.now a.src.now.packages.at a.src.now.packages.count lookups a.src.now.limit o) (room a.src.now.packages.corpus.now a.src.now.packages.at a.src.now.packages.count lookups a.src.now.limit o a.out.now t fits))
    c.put_front.ensures
