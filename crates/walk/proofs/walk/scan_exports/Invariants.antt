-- `walk::scan_exports` meets its contract. The loop's invariant: the state and the marks are those of the first i exports. Assumes nothing.
use mathlib.Core.Path.{◌≡◌, refl, ◌∙◌}
use mathlib.Core.List.{List, ◌++◌, append_assoc, append-nil}
use Prim.Native.Nat.{ℕ, ◌+◌, ◌≤◌, ◌<◌}
use native.Mathlib.Omega.{arith}
use lib.ListN.{length, take}
use lib.Seq.{take_all}
use Rattle.scriptblock.specs.Script.{Objects}
use Rattle.packages.specs.Package.{read_in, package_in, PackageIn}
use Rattle.packages.specs.PackageLaws.{export_count_lem}
use Rattle.packages.specs.Row.{export_no}
use Rattle.packages.specs.declared.package.Parts.{Parts}
use Rattle.resolve.specs.MarkLaws.{marks-take}
use Rattle.resolve.specs.Marks.{export_marks, marks_from}
use Rattle.walk.specs.Found.{Found, with_export, with_exports, with_package, State}
use Rattle.walk.specs.StateLaws.{exports-next, exports-behind, state_closed}
use Rattle.walk.specs.Steps.{SomeState, Visited, Marked, Grown}
use Rattle.walk.specs.declared.walk.Census.{Census}
use Rattle.walk.specs.declared.walk.Entering.TheVariants.{Open}
use Rattle.walk.specs.declared.walk.Visit.{Visit}
use Rattle.walk.proofs.walk.scan_exports.Given as goal

-- after i exports of the package that is visited, whose block d is, the first in a step; b: the script block
pub record Done (d b : List ℕ) (n limit : ℕ) (v : Visit) (step : ℕ) (t₀ : Census) (w₀ : List ℕ) (i : ℕ) (t : Census) (w : List ℕ) : Type 0 where
  pub size : length w ≡ length w₀
  pub grown : Grown i t₀ t
  pub some : SomeState b n v d t w
  pub state : (c : List ℕ) (o : Objects) (f : Found) → Visited c v d → State c b o n (with_exports limit o v.block (package_in v.id d) 0 f) t₀ w₀
      → State c b o n (with_exports limit o v.block (package_in v.id d) i f) t w
  pub marks : (l : List ℕ) → Marked n l t₀ w₀ → Marked n (l ++ marks_from (read_in d) step (take i (read_in d).exports)) t w

module _ (d b : List ℕ) (n limit : ℕ) (v : Visit) (step : ℕ) {t₀ : Census} {w₀ : List ℕ} where
  pub begun : SomeState b n v d t₀ w₀ → Done d b n limit v step t₀ w₀ 0 t₀ w₀
  unfolding marks_from
  begun k = record {
    size = refl;
    grown = record { classes = omega arith; rows = omega arith; size = omega arith };
    some = k;
    state = λ c o f z s. s;
    marks = λ l m. rw (append-nil l) m;
  }

  module _ {i : ℕ} {t : Census} {w : List ℕ} (k : Done d b n limit v step t₀ w₀ i t w) where
    pub more : {u : Census} {w' : List ℕ}
        → ((c : List ℕ) (o : Objects) (f : Found) → Visited c v d → State c b o n f t w → State c b o n (with_export limit o v.block (package_in v.id d) i f) u w')
        → Grown 1 t u → length w' ≡ length w
        → i < length (read_in d).exports → ((l : List ℕ) → Marked n l t w → Marked n (l ++ export_marks (read_in d) (step + i) (export_no d i)) u w')
        → Done d b n limit v step t₀ w₀ (i + 1) u w'
    more next g l h mark = record {
      size = l ∙ k.size;
      grown = record { classes = omega (arith, k.grown.classes, g.classes); rows = omega (arith, k.grown.rows, g.rows); size = omega (arith, k.grown.size, g.size) };
      some = let s = k.some in record {
        corpus = s.corpus;
        objects = s.objects;
        found = with_export limit s.objects v.block (package_in v.id d) i s.found;
        visited = s.visited;
        holds = next s.corpus s.objects s.found s.visited s.holds;
      };
      state = λ c o f z s. rw (exports-next limit o v.block (package_in v.id d) i f)
          (next c o (with_exports limit o v.block (package_in v.id d) i f) z (k.state c o f z s));
      marks = λ l m.
          let x = marks_from (read_in d) step (take i (read_in d).exports) in
          rw (marks-take (read_in d) step (read_in d).exports i h, ← append_assoc l x (export_marks (read_in d) (step + i) (export_no d i))) (mark (l ++ x) (k.marks l m));
    }

    module _ {p : Parts} (a : PackageIn d p) where
      abbrev pub End : Type 0
      End = (c : List ℕ) (o : Objects) (f : Found) → Visited c v d → State c b o n (with_exports limit o v.block (package_in v.id d) 0 f) t₀ w₀
          → State c b o n (with_package limit o v.block (package_in v.id d) f) t w

      -- nothing more is entered
      pub shut : i ≤ p.count → (t.state ≡ Open → ⊥) → End
      shut h q c o f z s =
          state_closed (k.state c o f z s) q (exports-behind limit o v.block (package_in v.id d) f i _ (omega (arith, export_count_lem a))) refl

      -- all are
      pub whole : i ≡ p.count → End
      whole e c o f z s = let q = e ∙ export_count_lem a in rw q at (k.state c o f z s)

      pub marked : i ≡ p.count → (l : List ℕ) → Marked n l t₀ w₀ → Marked n (l ++ marks_from (read_in d) step (read_in d).exports) t w
      marked e l m = let q = take_all i (read_in d).exports (omega (arith, export_count_lem a)) in rw q at (k.marks l m)

abbrev pub invariant-loop-i : goal.invariant-loop-i
invariant-loop-i l = Done l.p.block.bytes.now l.s.block.now l.s.count l.s.limit l.v l.step l.initial.t l.initial.w l.i l.t l.w
