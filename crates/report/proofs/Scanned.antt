-- What the walk over the packages came to: refused, a key twice, too little work, or all is gathered. Assumes nothing.
use mathlib.Core.Path.{◌≡◌}
use mathlib.Core.List.{List}
use Prim.Native.Nat.{ℕ, ◌+◌, ◌^◌, ◌<◌}
use native.Mathlib.Omega.{arith}
use lib.ListN.{length}
use Rattle.base.specs.Answer.{refusal}
use Rattle.base.specs.Reading.{gives, run}
use Rattle.scriptblock.specs.Script.{Objects, script}
use Rattle.meaning.specs.Call.{read_from, refused_in}
use Rattle.packages.specs.Framing.{parts_at}
use Rattle.packages.specs.declared.frame.Frame.{Frame}
use Rattle.walk.specs.OpenSteps.{Begun, Packages, found_by}
use Rattle.walk.specs.OpenLaws.{opened_package, opened-twice}
use Rattle.report.specs.CallSteps.{work_needed, Gathered, Refused, Answered}
use Rattle.report.specs.CallLaws.{refused-opened, answered-refused}
use Rattle.walk.specs.Found.{Linked, State}
use Rattle.walk.specs.Steps.{Marked}
use Rattle.resolve.specs.Marks.{marks_in}
use Rattle.resolve.specs.Rows.{limits_of}
use Rattle.walk.specs.declared.walk.Census.{Census}
use Rattle.walk.specs.declared.walk.Entering.TheVariants.{Open, Full, Repeated}

-- a package is refused
pub scanned_refused : {limit lookups : ℕ} {c : List ℕ} {f : Frame} {s : List ℕ} {n : ℕ} {w old : List ℕ} {q j r : ℕ} → Begun c f s → Linked s n w
    → read_from 2 (parts_at c (f.«end» + 4) f.count) ≡ refused_in q j → r ≡ refusal q j → Answered (limits_of lookups limit) c (length w) old old r
scanned_refused {limit} {lookups} {c} b k e h = answered-refused (refused-opened (opened_package (limits_of lookups limit) c b k.holds.all.read e) h)

-- all are accepted, and t says what was entered: the work buffer was w and is now w'
pub record Walked (limit : ℕ) (c : List ℕ) (f : Frame) (s : List ℕ) (n : ℕ) (t : Census) (w w' : List ℕ) : Type 0 where
  pub begun : Begun c f s
  pub linked : Linked s n w
  pub packages : Packages c f
  pub state : State c s linked.objects n (found_by limit linked.objects c f) t w'
  pub size : length w' ≡ length w
  pub few : (t.rows < 2 ^ 32) × (t.size < 2 ^ 60)
  pub marked : Marked n (marks_in c (f.«end» + 4) f.count) t w'

module _ {limit : ℕ} {c : List ℕ} {f : Frame} {s : List ℕ} {n : ℕ} {t : Census} {w w' : List ℕ} (z : Walked limit c f s n t w w') where
  read : run script 0 s ≡ gives z.linked.objects
  read = z.linked.holds.all.read

  module _ {lookups : ℕ} {old : List ℕ} {r : ℕ} where
    -- a key stands twice
    pub scanned_twice : (j : ℕ) → t.state ≡ Repeated j → r ≡ refusal 24 j → Answered (limits_of lookups limit) c (length w) old old r
    scanned_twice j h e =
        answered-refused (refused-opened (opened-twice (limits_of lookups limit) c z.begun read z.packages (z.state.twice j h)) e)

    -- there is no room for all
    pub scanned_short : t.state ≡ Full
        → ((o : Objects) (lookups work room : ℕ) → run script 0 s ≡ gives o → work < work_needed limit o c f → Refused (limits_of lookups limit) c work room r)
        → Answered (limits_of lookups limit) c (length w) old old r
    scanned_short e g =
        let short : length w < work_needed limit z.linked.objects c f = omega (arith, z.state.full e, z.linked.count, z.size) in
        answered-refused (g z.linked.objects lookups (length w) (length old) read short)

  -- all is gathered
  pub scanned_all : t.state ≡ Open → Gathered limit c f s n t w'
  scanned_all e = record { objects = z.linked.objects; read = read; count = z.linked.count; all = e; state = z.state; few = z.few; marked = z.marked }
