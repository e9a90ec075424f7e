-- 26 and the report, from all that was gathered, linked and resolved. Assumes nothing.
use mathlib.Core.Path.{◌≡◌, sym, ◌∙◌, ap}
use mathlib.Core.List.{List, []}
use Prim.Native.Nat.{ℕ, ◌+◌, ◌*◌, ◌≤◌, ◌<◌}
use native.Mathlib.Omega.{arith}
use lib.ListN.{length, drop, length-map}
use Rattle.base.specs.Answer.{refusal}
use Rattle.base.specs.Output.{Wrote}
use Rattle.scriptblock.specs.Script.{Objects}
use Rattle.meaning.specs.Call.{Placed, accepted, first_repeat, none_twice, holding, opened}
use Rattle.meaning.specs.Reference.{Ref}
use Rattle.meaning.specs.Scan.{Class}
use Rattle.packages.specs.Walk.{packages_at}
use Rattle.packages.specs.declared.frame.Frame.{Frame}
use Rattle.walk.specs.OpenSteps.{Begun, Packages, found_by}
use Rattle.walk.specs.OpenLaws.{opened-is}
use Rattle.report.specs.CallSteps.{work_needed, Gathered, Answered}
use Rattle.report.specs.CallLaws.{answer-beyond, answer-outside, answer-fits, refused-by, answered-refused, answered-report}
use Rattle.walk.specs.Found.{classes_in}
use Rattle.walk.specs.FoundLaws.{found-size, found-once}
use Rattle.resolve.specs.LinkLaws.{linked-marks}
use Rattle.resolve.specs.MarkLaws.{marks-kept}
use Rattle.resolve.specs.Marks.{marks_in, MarksIn, MarksKept}
use Rattle.resolve.specs.Rows.{Tables, Kept, SomeClasses, SomeKept, LinkedTo, Resolved, Resolution, limits_of}
use Rattle.pool.specs.Pool.{Roomy, Pooled}
use Rattle.sections.specs.Written.{report_at, Ready, ReportRoom}
use Rattle.walk.specs.declared.walk.Census.{Census}

-- classes were linked, and all is still kept
abbrev pub Links : ℕ → ℕ → List ℕ → List ℕ → Type 0
Links n classes w v =
    (s b : List ℕ) (o : Objects) (xs : List Class) (refs : List Ref) → Kept s b o n xs refs w → classes ≤ length xs → Kept s b o n xs refs v

-- texts were kept
abbrev pub Pools : List ℕ → List ℕ → ℕ → ℕ → ℕ → ℕ → List ℕ → List ℕ → Type 0
Pools c b n classes rows objects w v =
    (o : Objects) (xs : List Class) (lookups : ℕ) (refs : List Ref) → Resolved c b o n xs lookups refs w → length xs ≡ classes → length refs ≡ rows
    → Pooled c b o n xs lookups objects refs v

-- ---- what was gathered

module _ {limit : ℕ} {c : List ℕ} {f : Frame} {s : List ℕ} {n : ℕ} {t : Census} {w : List ℕ} (g : Gathered limit c f s n t w) where
  abbrev classes : List Class
  classes = classes_in (found_by limit g.objects c f)

  abbrev refs : List Ref
  refs = (found_by limit g.objects c f).refs

  kept : Kept c s g.objects n classes refs w
  kept = g.state.holds g.all

  rows_are : length refs ≡ t.rows
  rows_are = sym (g.state.entered g.all).1

  classes-are : length classes ≡ t.classes
  classes-are = length-map (found_by limit g.objects c f).placed (λ (x : Placed). x.class) ∙ sym (g.state.entered g.all).0

  -- its classes can be linked
  pub gathered-classes : SomeClasses n t.classes w
  gathered-classes = record {
    some = record { corpus = c; block = s; objects = g.objects; classes = classes; holds = kept.tables };
    inside = omega (arith, classes-are);
  }

  -- and it can be resolved once they are
  module _ {v : List ℕ} (l : Links n t.classes w v) where
    linked : Kept c s g.objects n classes refs v
    linked = l c s g.objects classes refs kept (omega (arith, classes-are))

    pub gathered-kept : SomeKept n t.rows v
    gathered-kept = record { corpus = c; block = s; objects = g.objects; classes = classes; refs = refs; count = rows_are; holds = linked }

  -- linking leaves the rows' marks
  pub gathered-linked : {v : List ℕ} → ((s b : List ℕ) (o : Objects) (xs : List Class) → Tables s b o n xs w → t.classes ≤ length xs → LinkedTo n xs t.classes w v)
      → length v ≡ length w → MarksKept n t.rows w v
  gathered-linked l e =
      let i : t.classes ≤ length classes = omega (arith, classes-are) in
      linked-marks kept rows_are i (l c s g.objects classes kept.tables i) e

  -- and where all that follows does, they are what the walk found
  pub gathered-marks : {v : List ℕ} → MarksKept n t.rows w v
      → MarksIn (marks_in c (f.«end» + 4) f.count) (drop (56 * n) v) × (length (marks_in c (f.«end» + 4) f.count) ≡ t.rows)
  gathered-marks k = let e = g.marked.count g.all in (marks-kept n (rw e k) (g.marked.holds g.all), e)

  -- no key stands twice, and the work buffer is long enough
  once : none_twice (first_repeat [] (found_by limit g.objects c f).placed) ≡ accepted tt
  once = ap none_twice (found-once (found_by limit g.objects c f) kept.tables.classes)

  enough : work_needed limit g.objects c f ≤ length w
  enough = omega (arith, g.state.room g.all, g.count)

-- ---- once it is resolved

-- what classes and native classes take: `total` bytes
pub record Summed (lookups limit : ℕ) (c : List ℕ) (f : Frame) (s : List ℕ) (n : ℕ) (t : Census) (w v w' : List ℕ) (total : ℕ) : Type 0 where
  pub begun : Begun c f s
  pub packages : Packages c f
  pub gathered : Gathered limit c f s n t w
  pub links : Links n t.classes w v
  pub resolves : (s b : List ℕ) (o : Objects) (xs : List Class) (refs : List Ref) → Kept s b o n xs refs v → length refs ≡ t.rows
      → Resolution (limits_of lookups limit) s b o n xs refs v w' total

module _ {lookups limit : ℕ} {c : List ℕ} {f : Frame} {s : List ℕ} {n : ℕ} {t : Census} {w v w' : List ℕ} {total : ℕ}
    (z : Summed lookups limit c f s n t w v w' total) where
  abbrev objects : Objects
  objects = z.gathered.objects

  abbrev whole : List ℕ
  whole = report_at (limits_of lookups limit) objects c (f.«end» + 4) f.count

  resolved : Resolution (limits_of lookups limit) c s objects n (classes z.gathered) (refs z.gathered) v w' total
  resolved = z.resolves c s objects (classes z.gathered) (refs z.gathered) (linked z.gathered z.links) (rows_are z.gathered)

  whole-size : t.size + total ≡ length whole
  whole-size =
      omega (
        arith,
        (z.gathered.state.entered z.gathered.all).2,
        resolved.size,
        found-size (limits_of lookups limit) objects c (f.«end» + 4) f.count,
      )

  opens : opened (limits_of lookups limit) c ≡ accepted (holding (limits_of lookups limit) objects (packages_at c (f.«end» + 4) f.count))
  opens = opened-is (limits_of lookups limit) c z.begun z.gathered.read z.packages (once z.gathered)

  -- 26
  module _ {old : List ℕ} {r : ℕ} where
    pub finish-beyond : 4294967299 < t.size + total → r ≡ refusal 26 0 → Answered (limits_of lookups limit) c (length w) old old r
    finish-beyond h e =
        answered-refused
        (refused-by
        (answer-beyond (limits_of lookups limit) c (length w) (length old) f objects s z.gathered.read opens (enough z.gathered)
        (rw whole-size at h)) e)

    pub finish-outside : length old < t.size + total → r ≡ refusal 26 0 → Answered (limits_of lookups limit) c (length w) old old r
    finish-outside h e =
        answered-refused
        (refused-by
        (answer-outside (limits_of lookups limit) c (length w) (length old) f objects s z.gathered.read opens (enough z.gathered)
        (rw whole-size at h)) e)

  -- texts can be kept
  pub finish_roomy : length v ≡ length w → Roomy c s n t.classes t.rows w'
  finish_roomy e = record {
    objects = objects;
    table = classes z.gathered;
    lookups = lookups;
    refs = refs z.gathered;
    holds = resolved.holds;
    classes-are = classes-are z.gathered;
    rows_are = rows_are z.gathered;
    room =
        let (a, b, _) = z.gathered.state.entered z.gathered.all in omega (arith, resolved.length-is, z.gathered.state.room z.gathered.all, a, b);
  }

  -- the report fits
  ready : {w'' : List ℕ} → Pools c s n t.classes t.rows limit w' w'' → Ready c s objects n (f.«end» + 4) f.count lookups limit w''
  ready p = record {
    holds = p objects (classes z.gathered) lookups (refs z.gathered) resolved.holds (classes-are z.gathered) (rows_are z.gathered);
  }

  pub finish-room : {w'' : List ℕ} → Pools c s n t.classes t.rows limit w' w'' → (old : List ℕ) → t.size + total ≤ 4294967299 → t.size + total ≤ length old → ReportRoom c s n (f.«end» + 4) f.count limit w'' old
  finish-room p old small fits =
      record { read = objects; lookups = lookups; ready = ready p; room = rw whole-size at fits; small = rw whole-size at small }

  -- and was put
  pub finish-report : {w'' : List ℕ} → Pools c s n t.classes t.rows limit w' w'' → {old new : List ℕ} {r : ℕ} → t.size + total ≤ 4294967299 → t.size + total ≤ length old
      → ((o : Objects) (k : ℕ) → Ready c s o n (f.«end» + 4) f.count k limit w''
      → length (report_at (limits_of k limit) o c (f.«end» + 4) f.count) ≤ length old
      → Wrote old (report_at (limits_of k limit) o c (f.«end» + 4) f.count) new r)
      → Answered (limits_of lookups limit) c (length w) old new r
  finish-report p {old} small fits put =
      answered-report
      (answer-fits (limits_of lookups limit) c (length w) (length old) f objects s z.gathered.read opens (enough z.gathered)
      (rw whole-size at small) (rw whole-size at fits))
      (put objects lookups (ready p) (rw whole-size at fits))
