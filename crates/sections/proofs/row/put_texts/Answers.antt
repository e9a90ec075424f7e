-- `row::put_texts` meets its contract: one text behind another. Assumes nothing.
use mathlib.Core.List.{List, ◌++◌}
use Prim.Native.Nat.{ℕ, ◌+◌, ◌≤◌}
use native.Mathlib.Omega.{arith}
use lib.ListN.{length}
use Rattle.base.specs.NumberLaws.{Bytes}
use Rattle.base.specs.Output.{Wrote}
use Rattle.base.specs.OutputLaws.{wrote-length, wrote-rest, next-room, front_fits}
use Rattle.scriptblock.specs.Script.{Objects}
use Rattle.meaning.specs.Reference.{Ref, ref_in}
use Rattle.meaning.specs.Report.{row_of}
use Rattle.meaning.specs.Scan.{Class}
use Rattle.packages.specs.Package.{package_in, PackageIn}
use Rattle.packages.specs.Row.{export_no, names_at}
use Rattle.packages.specs.declared.package.Parts.{Parts}
use Rattle.packages.specs.declared.rows.Row.{Row}
use Rattle.resolve.specs.Rows.{limits_of}
use Rattle.sections.specs.Written.{Target, both_texts, BothPut}
use Rattle.sections.specs.WrittenLaws.{behind, again}
use Rattle.sections.specs.Pieces.{row_texts, reference_text, row_no, RowDue, TextsPut}
use Rattle.sections.specs.PieceLaws.{due-holds, texts-are}
use Rattle.resolve.specs.declared.rows.Led.{Led}
use Rattle.sections.specs.declared.texts.Texts.{Texts}
use Rattle.sections.proofs.row.put_texts.Goals.{After-put_both-both}
use Rattle.sections.proofs.row.put_texts.Goals as goal

-- what is due, and its texts in the order in which they are written
module _ {s b : List ℕ} {n objects : ℕ} {w d : List ℕ} {p : Parts} {v : Row} {l : Led} {o : Objects} {xs : List Class} {lookups id i : ℕ} (a : PackageIn d p) (y : Bytes d)
    (due : RowDue s b n objects w d p v l o xs lookups id i) (out : List ℕ) (room : length (row_texts (row_no (limits_of lookups objects) xs o id d i)) ≤ length out) where
  abbrev ref : Ref
  ref = ref_in (package_in id d) (export_no d i).class

  abbrev text₁ : List ℕ
  text₁ = names_at d v

  abbrev text₂ : List ℕ
  text₂ = both_texts (limits_of lookups objects) xs o ref

  all : length (text₁ ++ text₂ ++ reference_text d v.class) ≤ length out
  all = rw (texts-are a due y) at room

  two : length (text₁ ++ text₂) ≤ length out
  two = front_fits (text₁ ++ text₂) (reference_text d v.class) (length out) all

  names-fit : length text₁ ≤ length out
  names-fit = front_fits text₁ text₂ (length out) two

  module _ {o₁ : List ℕ} {k₁ : ℕ} (w₁ : Wrote out text₁ o₁ k₁) where
    both-fit : length text₂ ≤ length (behind k₁ o₁)
    both-fit = next-room out text₁ text₂ o₁ k₁ w₁ two

    module _ {o₂ : List ℕ} {t₂ : Texts}
        (put₂ : (o : Objects) (xs : List Class) (lookups : ℕ) (r : Ref) → Target s b o n xs lookups objects w r l
        → length (both_texts (limits_of lookups objects) xs o r) ≤ length (behind k₁ o₁) → BothPut (limits_of lookups objects) xs o r (behind k₁ o₁) o₂ t₂) where
      both-put : BothPut (limits_of lookups objects) xs o ref (behind k₁ o₁) o₂ t₂
      both-put = put₂ o xs lookups ref due.target both-fit

      both-wrote : Wrote out (text₁ ++ text₂) (again k₁ o₁ o₂) (k₁ + t₂.size)
      both-wrote = wrote-rest w₁ both-put.wrote

      both_in : (k₁ + t₂.size ≤ length out) × (k₁ + t₂.size ≤ length (again k₁ o₁ o₂))
      both_in = let l = wrote-length both-wrote in (both-wrote.fits, omega (arith, both-wrote.fits))

      ref-fits : length (reference_text d v.class) ≤ length (behind (k₁ + t₂.size) (again k₁ o₁ o₂))
      ref-fits = next-room out (text₁ ++ text₂) (reference_text d v.class) (again k₁ o₁ o₂) (k₁ + t₂.size) both-wrote all

      module _ {o₃ : List ℕ} {k₃ : ℕ} (w₃ : Wrote (behind (k₁ + t₂.size) (again k₁ o₁ o₂)) (reference_text d v.class) o₃ k₃) where
        done : TextsPut (row_no (limits_of lookups objects) xs o id d i) out (again (k₁ + t₂.size) (again k₁ o₁ o₂) o₃)
            (record { size = k₁ + t₂.size + k₃; class = t₂.class; native = t₂.native })
        unfolding row_of
        done = record { wrote = rw (texts-are a due y) (wrote-rest both-wrote w₃); class = both-put.class; native = both-put.native }

-- names and classes are written
second : (c : After-put_both-both) → let k = c.put_names-first.result + c.put_both-both.result.size in
    (k ≤ length c.args.out.now) × (k ≤ length (again c.put_names-first.result c.put_names-first.new.out c.put_both-both.new.out))
second c =
    let r = c.requires.texts_room in
    both_in c.args.p.now.block.accepted c.args.p.now.block.fits r.due c.args.out.now r.room c.put_names-first.ensures c.put_both-both.ensures

pub put_names-first-requires : goal.put_names-first-requires
put_names-first-requires c =
    let a = c.args.p.now.block.accepted in
    let r = c.requires.texts_room in
    (due-holds a r.due c.args.p.now.block.fits, names-fit a c.args.p.now.block.fits r.due c.args.out.now r.room)

pub put_both-both-requires : goal.put_both-both-requires
put_both-both-requires c =
    let r = c.requires.texts_room in
    record {
      read = r.read;
      classes = r.classes;
      lookups = r.lookups;
      ref = _;
      target = r.due.target;
      room = both-fit c.args.p.now.block.accepted c.args.p.now.block.fits r.due c.args.out.now r.room c.put_names-first.ensures;
    }

pub overflow_add-second : goal.overflow_add-second
overflow_add-second c = omega (arith, (second (goal.at.overflow_add-second c).After-put_both-both).0)

pub slice_bounds-put_ref-count : goal.slice_bounds-put_ref-count
slice_bounds-put_ref-count c = (second (goal.at.slice_bounds-put_ref-count c).After-put_both-both).1

pub slice_bounds-put_ref-start : goal.slice_bounds-put_ref-start
slice_bounds-put_ref-start c = (second (goal.at.slice_bounds-put_ref-start c).After-put_both-both).1

pub put_ref-requires : goal.put_ref-requires
put_ref-requires c =
    let r = c.requires.texts_room in
    (c.requires.class_kind, ref-fits c.args.p.now.block.accepted c.args.p.now.block.fits r.due c.args.out.now r.room c.put_names-first.ensures c.put_both-both.ensures)

pub overflow_add-size : goal.overflow_add-size
overflow_add-size c =
    let r = c.requires.texts_room in
    let t = done c.args.p.now.block.accepted c.args.p.now.block.fits r.due c.args.out.now r.room c.put_names-first.ensures c.put_both-both.ensures c.put_ref.ensures in
    omega (arith, t.wrote.fits)

pub returns : goal.returns
returns c = λ o xs lookups id i due room.
    done c.args.p.now.block.accepted c.args.p.now.block.fits due c.args.out.now room c.put_names-first.ensures c.put_both-both.ensures c.put_ref.ensures
