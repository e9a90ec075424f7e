-- `walk::keep_row` meets its contract: no candidate, no room, or a row put at the end of the work buffer. Assumes nothing.
use Rattle.std.specs.Prelude.{Option as Maybe, Some, None}
use mathlib.Core.Path.{◌≡◌, sym, ◌∙◌, ap}
use mathlib.Core.List.{List, ◌++◌, append-nil}
use Prim.Native.Nat.{ℕ, ◌+◌, ◌*◌, ◌-◌, ◌/◌, ◌^◌, ◌≤◌, ◌<◌}
use native.Mathlib.Omega.{arith}
use lib.ListN.{length, take, drop}
use Rattle.base.specs.NumberLaws.{Bytes}
use Rattle.scriptblock.specs.Script.{Objects}
use Rattle.meaning.specs.Reference.{ref_in}
use Rattle.meaning.specs.Scan.{candidate_kind}
use Rattle.packages.specs.Kinds.{candidate_number}
use Rattle.packages.specs.Meaning.{words_of}
use Rattle.packages.specs.Package.{read_in, package_in, PackageIn}
use Rattle.packages.specs.RefBytes.{ref_bytes}
use Rattle.packages.specs.Row.{export_no, row_in, names_size, RowHolds}
use Rattle.packages.specs.RowLaws.{row-holds}
use Rattle.packages.specs.declared.package.Parts.{Parts}
use Rattle.packages.specs.declared.entries.Words.{Words}
use Rattle.packages.specs.declared.rows.Candidate.{Candidate}
use Rattle.packages.specs.declared.rows.Candidate.TheVariants.{Variable, Subobject}
use Rattle.packages.specs.declared.rows.Row.{Row}
use Rattle.table.specs.Words.{put}
use Rattle.walk.specs.Found.{Found, State}
use Rattle.walk.specs.MarkedLaws.{marked_row}
use Rattle.resolve.specs.Lent.{lent-part}
use Rattle.resolve.specs.Marks.{mark_of, export_marks}
use Rattle.resolve.specs.Rows.{row_at, worded}
use Rattle.walk.specs.SizeLaws.{row-class, base_size_lem}
use Rattle.walk.specs.StateLaws.{candidate-not, candidate-is, row-none, state-row-full, state-row}
use Rattle.walk.specs.Steps.{with_row, opened_as, closed_as, Marked}
use Rattle.walk.specs.declared.walk.Census.{Census}
use Rattle.walk.specs.declared.walk.Entering.TheVariants.{Open, Full}
use Rattle.walk.proofs.walk.keep_row.Goals as goal

-- a kind is one
some_kind : (k : Candidate) → candidate_number (Some k) ≡ 0 → ⊥
some_kind Variable q = omega arith
some_kind Subobject q = omega arith

small_kind : (k : Candidate) → candidate_number (Some k) ≤ 2
small_kind Variable = omega arith
small_kind Subobject = omega arith

-- export i of the package with an id, whose block d is; its kind as a candidate
module _ (n id i : ℕ) (d : List ℕ) (t : Census) (w : List ℕ) (k : Maybe Candidate) (is : candidate_number k ≡ candidate_kind (read_in d) (export_no d i)) where
  abbrev Next : Census → List ℕ → Type 0
  Next r w' = (c b : List ℕ) (o : Objects) (f : Found) → State c b o n f t w → State c b o n (with_row (package_in id d) i f) r w'

  no_candidate : k ≡ None → Next t w
  no_candidate z c b o f s = rw (row-none (package_in id d) i f (candidate-not (read_in d) (export_no d i) (sym is ∙ ap candidate_number z))) s

  module _ (some : candidate_number k ≡ 0 → ⊥) (going : t.state ≡ Open) where
    no_room : length w / 64 ≤ n + t.classes + t.rows → {r : Census} → r ≡ closed_as t Full → Next r w
    no_room h e c b o f s = rw e (state-row-full s going (package_in id d) i (candidate-is (read_in d) (export_no d i) (λ z. some (is ∙ z))) h)

    module _ {p : Parts} (a : PackageIn d p) (y : Bytes d) (l : i < p.count) {v : Row} (row : v ≡ row_in d p k i) where
      held : RowHolds d v
      held = rw row (row-holds a y i l k is)

      class-is : v.class ≡ (export_no d i).class
      class-is = ap (λ (x : Row). x.class) row ∙ row-class a y i l k

      row_put : n + t.classes + t.rows < length w / 64 → {m : Words} → m ≡ words_of (ref_in (package_in id d) v.class) → m.lo < 2 ^ 64 → m.hi < 2 ^ 64
          → (mark : ℕ) → {ys : List ℕ}
          → ys ≡ worded (row_at (take (length w - 56 * n) (drop (56 * n) w)) t.rows) m mark (take (length w - 56 * n) (drop (56 * n) w))
          → {z : ℕ} → z ≡ 34 + names_size d v + length (ref_bytes d v.class)
          → {r : Census} → r ≡ opened_as t.classes (t.rows + 1) (t.size + z) → Next r (put (56 * n) (length w - 56 * n) w ys)
      row_put h {m} e lo hi mark {ys} q {z} g x c b o f s =
          rw x (state-row s going (package_in id d) i (candidate-is (read_in d) (export_no d i) (λ x. some (is ∙ x))) h m
          (e ∙ ap (λ (x : ℕ). words_of (ref_in (package_in id d) x)) class-is) lo hi mark
          (rw (lent-part (56 * n) w) at q)
          (ap (λ (x : ℕ). t.size + x) (g ∙ (ap (λ (x : Row). 34 + names_size d x + length (ref_bytes d x.class)) row ∙ base_size_lem a y i l k is id))))

-- its mark: it stands in a step
module _ (n step i : ℕ) (d : List ℕ) (t : Census) (w : List ℕ) (k : Maybe Candidate)
    (is : candidate_number k ≡ candidate_kind (read_in d) (export_no d i)) where
  abbrev Marks : Census → List ℕ → Type 0
  Marks r w' = (l : List ℕ) → Marked n l t w → Marked n (l ++ export_marks (read_in d) step (export_no d i)) r w'

  no_mark : k ≡ None → Marks t w
  no_mark z l m = rw (candidate-not (read_in d) (export_no d i) (sym is ∙ ap candidate_number z), append-nil l) m

  mark-put : (candidate_number k ≡ 0 → ⊥) → t.state ≡ Open → n + t.classes + t.rows < length w / 64 → (m : Words) → {mark : ℕ}
      → mark ≡ mark_of step (candidate_number k) → mark < 2 ^ 32
      → {ys : List ℕ} → ys ≡ worded (row_at (take (length w - 56 * n) (drop (56 * n) w)) t.rows) m mark (take (length w - 56 * n) (drop (56 * n) w))
      → {z : ℕ} {r : Census} → r ≡ opened_as t.classes (t.rows + 1) z → Marks r (put (56 * n) (length w - 56 * n) w ys)
  mark-put some going h m {mark} e small q x l s =
      rw (candidate-is (read_in d) (export_no d i) (λ z. some (is ∙ z)), ← (e ∙ ap (λ (n : ℕ). mark_of step n) is))
      (marked_row s going h m mark small (rw (lent-part (56 * n) w) at q) (ap (λ (c : Census). c.rows) x))

pub returns-in_default-clause-state : goal.returns-in_default-clause-state
returns-in_default-clause-state c =
    let a = c.args in
    no_candidate a.n a.id a.i a.p.now.block.bytes.now a.t a.w.now c.candidate.result c.candidate.ensures c.in_default.is

pub returns-in_default-clause-marks : goal.returns-in_default-clause-marks
returns-in_default-clause-marks c =
    let a = c.args in
    no_mark a.n a.step a.i a.p.now.block.bytes.now a.t a.w.now c.candidate.result c.candidate.ensures c.in_default.is

pub returns-then-w-n-clause-state : goal.returns-then-w-n-clause-state
returns-then-w-n-clause-state c =
    let a = c.args in
    no_room a.n a.id a.i a.p.now.block.bytes.now a.t a.w.now (Some c.in-Some.kind) c.in-Some.ensures (some_kind c.in-Some.kind) c.requires.open_value.0
    c.if-w-n.true c.closed.ensures

pub row_len-len-requires : goal.row_len-len-requires
row_len-len-requires c =
    let a = c.args in
    let p = a.p.now in
    held a.n a.id a.i p.block.bytes.now a.t a.w.now (Some c.in-Some.kind) c.in-Some.ensures (some_kind c.in-Some.kind) c.requires.open_value.0
    p.block.accepted p.block.fits c.requires.export c.row-v.ensures

pub returns-clause-state : goal.returns-clause-state
returns-clause-state c =
    let a = c.args in
    let p = a.p.now in
    let m = c.meaning-m in
    row_put a.n a.id a.i p.block.bytes.now a.t a.w.now (Some c.in-Some.kind) c.in-Some.ensures (some_kind c.in-Some.kind) c.requires.open_value.0
    p.block.accepted p.block.fits c.requires.export c.row-v.ensures c.if-w-n.false
    m.ensures (omega (arith, m.type_inv)) (omega (arith, m.type_inv)) c.mark_of.result c.put_words.ensures c.row_len-len.ensures.0 c.opened.ensures

pub returns-clause-marks : goal.returns-clause-marks
returns-clause-marks c =
    let a = c.args in
    let y = c.mark_of.ensures in
    mark-put a.n a.step a.i a.p.now.block.bytes.now a.t a.w.now (Some c.in-Some.kind) c.in-Some.ensures (some_kind c.in-Some.kind) c.requires.open_value.0
    c.if-w-n.false c.meaning-m.result y (omega (arith, y, c.requires.open_value.5, small_kind c.in-Some.kind))
    c.put_words.ensures c.opened.ensures
