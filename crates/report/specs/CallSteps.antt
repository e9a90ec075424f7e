-- What the steps of the call know of the corpus, and what they answer. Assumes nothing.
use Rattle.std.specs.Prelude.{◌≡◌, List, ℕ, ◌+◌, ◌*◌, ◌^◌, ◌<◌, length}
use Rattle.base.specs.Answer.{refusal}
use Rattle.base.specs.Reading.{gives, run}
use Rattle.scriptblock.specs.Script.{Objects, script}
use Rattle.meaning.specs.Call.{refused_in, answer, number_of, buffer_after}
use Rattle.meaning.specs.Resolve.{Limits}
use Rattle.packages.specs.declared.frame.Frame.{Frame}
use Rattle.walk.specs.Found.{count_of, State}
use Rattle.walk.specs.OpenSteps.{found_by}
use Rattle.walk.specs.Steps.{Marked}
use Rattle.walk.specs.declared.walk.Census.{Census}
use Rattle.walk.specs.declared.walk.Entering.TheVariants.{Open}
use Rattle.resolve.specs.Marks.{marks_in}

-- "64 × (script objects + classes + candidates) bytes"
abbrev pub work_needed : ℕ → Objects → List ℕ → Frame → ℕ
work_needed limit o c f = 64 * (o.layout.count + count_of (found_by limit o c f))

-- the walk over the packages entered all of it
pub record Gathered (limit : ℕ) (c : List ℕ) (f : Frame) (s : List ℕ) (n : ℕ) (t : Census) (w : List ℕ) : Type 0 where
  pub objects : Objects
  pub read : run script 0 s ≡ gives objects
  pub count : n ≡ objects.layout.count
  pub all : t.state ≡ Open
  pub state : State c s objects n (found_by limit objects c f) t w
  pub few : (t.rows < 2 ^ 32) × (t.size < 2 ^ 60)
  pub marked : Marked n (marks_in c (f.«end» + 4) f.count) t w

-- r says what the call refuses
pub record Refused (m : Limits) (c : List ℕ) (work room r : ℕ) : Type 0 where
  pub question : ℕ
  pub block : ℕ
  pub refuses : answer m c work room ≡ refused_in question block
  pub number : r ≡ refusal question block

-- r is the call's number, and it leaves `new` where `old` stood
pub record Answered (m : Limits) (c : List ℕ) (work : ℕ) (old new : List ℕ) (r : ℕ) : Type 0 where
  pub number : r ≡ number_of (answer m c work (length old))
  pub report : new ≡ buffer_after (answer m c work (length old)) old
