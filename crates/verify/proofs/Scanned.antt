-- What comparing the classes and walking over the packages came to: a key twice, or all questions but 26 are passed. Assumes nothing.
use Rattle.std.specs.Prelude.{Ok, Option, Some, None}
use mathlib.Core.Path.{◌≡◌, refl, sym, ap}
use mathlib.Core.List.{List}
use Prim.Native.Nat.{ℕ, ◌*◌}
use native.Mathlib.Omega.{arith}
use lib.ListN.{length, take}
use lib.Seq.{length-take-le}
use Rattle.base.specs.Answer.{refusal}
use Rattle.base.proofs.Nonzero.{some-was, none-was}
use Rattle.base.specs.OneMore.{nonzero}
use Rattle.base.specs.Reading.{gives, run}
use Rattle.scriptblock.specs.Script.{Objects, script}
use Rattle.scriptblock.specs.ScriptAnswers.{script_answer}
use Rattle.scriptblock.proofs.ScriptFacts.{script-facts}
use Rattle.scriptblock.specs.declared.script.Layout.{Layout}
use Rattle.meaning.specs.Call.{none_twice, limits}
use Rattle.packages.specs.declared.frame.Frame.{Frame}
use Rattle.scan.specs.Repeats.{repeat_block}
use Rattle.walk.specs.OpenSteps.{Begun, Packages, found_by, first_in}
use Rattle.walk.specs.OpenLaws.{opened-twice, opened-is, opened_by-block, opened-no_block}
use Rattle.walk.specs.Found.{Linked, State}
use Rattle.walk.specs.FoundLaws.{found-once}
use Rattle.walk.specs.declared.walk.Census.{Census}
use Rattle.walk.specs.declared.walk.Entering.TheVariants.{Open, Repeated}
use Rattle.verify.specs.Steps.{Tallied, Passed, Answered}
use Rattle.verify.specs.StepLaws.{answered-opened}
use Rattle.verify.specs.declared.counts.Tally.{Tally}

-- the part of the work buffer that the script objects take
pub front_length : {s : List ℕ} {n : ℕ} {w : List ℕ} → Linked s n w → length (take (56 * n) w) ≡ 56 * n
front_length {s} {n} {w} k = length-take-le (56 * n) w (omega (arith, k.room))

-- ---- each class was compared with all before it: r is the block of the first whose key stands already, if there is one
pub record Compared (c : List ℕ) (f : Frame) (s : List ℕ) (l : Layout) (t : Tally) (r : Option ℕ) : Type 0 where
  pub begun : Begun c f s
  pub packages : Packages c f
  pub accepted : script_answer (run script 0 s) ≡ Ok l
  pub tally : Tallied s t
  pub told : (o : Objects) → run script 0 s ≡ gives o → r ≡ nonzero (repeat_block (first_in limits.objects o c f))

module _ {c : List ℕ} {f : Frame} {s : List ℕ} {l : Layout} {t : Tally} where
  pub compared-twice : {j : ℕ} → Compared c f s l t (Some j) → {old : List ℕ} → Answered c old old (refusal 24 j)
  compared-twice {j} z =
      let (o, x) = script-facts s l z.accepted in
      let (e, h) = some-was _ j (sym (z.told o x.is)) in
      answered-opened (opened_by-block limits c z.begun x.is z.packages (sym e) (λ q. absurd (omega arith))) refl

  pub compared-none : Compared c f s l t None → Passed c f l.count t
  compared-none z =
      let (o, x) = script-facts s l z.accepted in
      record {
        block = s;
        begun = z.begun;
        objects = o;
        read = x.is;
        packages = z.packages;
        opens = opened-no_block limits c z.begun x.is z.packages refl (none-was _ (sym (z.told o x.is)));
        count = sym (ap (λ (y : Layout). y.count) x.layout);
        tally = z.tally.is o x.is;
      }

-- ---- the walk accepted all packages, and k says what it entered: the work buffer was w and is now w'
pub record Walked (c : List ℕ) (f : Frame) (s : List ℕ) (n : ℕ) (t : Tally) (k : Census) (w w' : List ℕ) : Type 0 where
  pub begun : Begun c f s
  pub linked : Linked s n w
  pub tally : Tallied s t
  pub packages : Packages c f
  pub state : State c s linked.objects n (found_by limits.objects linked.objects c f) k w'

module _ {c : List ℕ} {f : Frame} {s : List ℕ} {n : ℕ} {t : Tally} {k : Census} {w w' : List ℕ} (z : Walked c f s n t k w w') where
  read : run script 0 s ≡ gives z.linked.objects
  read = z.linked.holds.all.read

  pub walked-twice : (j : ℕ) → k.state ≡ Repeated j → {old : List ℕ} → Answered c old old (refusal 24 j)
  walked-twice j h = answered-opened (opened-twice limits c z.begun read z.packages (z.state.twice j h)) refl

  -- all is entered, so no key stands twice
  pub walked_all : k.state ≡ Open → Passed c f n t
  walked_all h =
      let once = ap none_twice (found-once (found_by limits.objects z.linked.objects c f) (z.state.holds h).tables.classes) in
      record {
        block = s;
        begun = z.begun;
        objects = z.linked.objects;
        read = read;
        packages = z.packages;
        opens = opened-is limits c z.begun read z.packages once;
        count = z.linked.count;
        tally = z.tally.is z.linked.objects read;
      }
