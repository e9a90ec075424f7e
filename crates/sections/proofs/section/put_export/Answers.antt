-- `section::put_export` meets its contract: the row of the export is written, by what its resolved row holds. Assumes nothing.
use Rattle.std.specs.Prelude.{Option}
use mathlib.Core.Path.{◌≡◌, sym, ◌∙◌, ap}
use mathlib.Core.List.{List}
use Prim.Native.Nat.{ℕ, ◌*◌, ◌<◌}
use native.Mathlib.Omega.{arith}
use lib.ListN.{drop}
use Rattle.meaning.specs.Report.{class_ref}
use Rattle.meaning.specs.Scan.{candidate_kind}
use Rattle.packages.specs.Kinds.{candidate_number}
use Rattle.packages.specs.Package.{read_in, package_in}
use Rattle.packages.specs.Row.{export_no, row_in}
use Rattle.packages.specs.declared.package.Parts.{Parts}
use Rattle.packages.specs.declared.rows.Candidate.{Candidate}
use Rattle.packages.specs.declared.rows.Row.{Row}
use Rattle.resolve.specs.Rows.{row_at, led_at}
use Rattle.sections.specs.SectionLaws.{row_target}
use Rattle.sections.specs.Sections.{How, ExportRoom}
use Rattle.sections.specs.Written.{Target, RowRoom}
use Rattle.resolve.specs.declared.rows.Led.{Led}
use Rattle.sections.proofs.section.put_export.Goals as goal

module _ (objects id : ℕ) (d : List ℕ) (i : ℕ) {c s : List ℕ} {n : ℕ} {w : List ℕ} {r : ℕ} {out : List ℕ} {h : How} (a : ExportRoom c s n w objects r id d i out h) where
  module _ {l : Led} (q : l ≡ led_at (drop (56 * n) w) (row_at (drop (56 * n) w) r)) where
    target : Target c s h.objects n h.classes h.lookups objects w (class_ref (package_in id d) (export_no d i)) l
    target = rw q (row_target a.resolved)

    row_room : {p : Parts} → i < p.count → {v : Row} → candidate_number v.kind ≡ candidate_kind (read_in d) (export_no d i) → v ≡ row_in d p v.kind i
        → RowRoom c s n objects w d p v l out
    row_room inside k e = record {
      read = h.objects;
      classes = h.classes;
      lookups = h.lookups;
      id = id;
      number = i;
      inside = inside;
      kind_is = k;
      row_is = e;
      target = target;
      room = a.room;
    }

-- the row has the kind that it was made with
module _ (b : List ℕ) (p : Parts) (k : Option Candidate) (i : ℕ) where
  kind : {v : Row} → v ≡ row_in b p k i → v.kind ≡ k
  unfolding row_in
  kind e = ap (λ (x : Row). x.kind) e

  kind_is : {v : Row} {m : ℕ} → v ≡ row_in b p k i → candidate_number k ≡ m → candidate_number v.kind ≡ m
  kind_is e q = ap candidate_number (kind e) ∙ q

  row_is : {v : Row} → v ≡ row_in b p k i → v ≡ row_in b p v.kind i
  row_is e = e ∙ ap (λ (x : Option Candidate). row_in b p x i) (sym (kind e))

pub led_at-l-requires : goal.led_at-l-requires
led_at-l-requires c = rw c.rest.ensures (omega (arith, c.requires.by_index.2.resolved.there))

pub put_row-requires : goal.put_row-requires
put_row-requires c =
    let q = rw c.rest.ensures at c.led_at-l.ensures in
    let e = c.row-v.ensures in
    row_room c.args.src.now.limit c.requires.by_index.0 c.args.p.now.block.bytes.now c.args.i c.requires.by_index.2 q c.requires.inside
    (kind_is _ _ _ _ e c.requires.kind_value) (row_is _ _ _ _ e)

pub returns : goal.returns
returns c = λ id h a.
    let q = rw c.rest.ensures at c.led_at-l.ensures in
    let e = c.row-v.ensures in
    c.put_row.ensures h.objects h.classes h.lookups id c.args.i c.requires.inside (kind_is _ _ _ _ e c.requires.kind_value) (row_is _ _ _ _ e)
    (target c.args.src.now.limit id c.args.p.now.block.bytes.now c.args.i a q) a.room
