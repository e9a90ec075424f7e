-- What the call answers once its corpus is opened, from what its steps find. Assumes nothing.
use Rattle.std.specs.Prelude.{◌≡◌, List, ℕ, ◌+◌, ◌*◌, ◌≤◌, ◌<◌, Ok}
use Rattle.std.proofs.Common.{◌∙◌}
use Rattle.std.proofs.Math.Path.{ap}
use native.Mathlib.Omega.{arith}
use Rattle.std.proofs.Math.ListN.{length, length-map}
use Rattle.base.specs.Answer.{refusal}
use Rattle.base.specs.Output.{Wrote}
use Rattle.base.specs.Reading.{gives, run}
use Rattle.scriptblock.specs.Script.{Objects, script}
use Rattle.scriptblock.proofs.ScriptAccepted.{answer_of}
use Rattle.scriptblock.specs.ScriptAnswers.{opened as openedScript}
use Rattle.scriptblock.specs.ScriptFacts.{ScriptFacts}
use Rattle.scriptblock.proofs.ScriptFacts.{objects-facts}
use Rattle.scriptblock.specs.declared.script.Layout.{Layout}
use Rattle.meaning.specs.Bounds.{work-short, report-beyond, report-outside, report-fits}
use Rattle.meaning.specs.Call.{refused_in, accepted, Placed, Opened, holding, opened, work_bytes, weighed, answer, number_of, buffer_after, outcome}
use Rattle.meaning.specs.Reference.{Package}
use Rattle.meaning.specs.Report.{report_of}
use Rattle.meaning.specs.Resolve.{Limits}
use Rattle.meaning.proofs.VerifyRefusals.{report-refuses}
use Rattle.packages.specs.Walk.{packages_at}
use Rattle.packages.specs.declared.frame.Frame.{Frame}
use Rattle.scan.specs.Repeats.{repeat_block}
use Rattle.walk.specs.FoundLaws.{found-classes, found_rows}
use Rattle.walk.specs.OpenSteps.{Begun, Packages, found_by, first_in}
use Rattle.walk.specs.OpenLaws.{same_layout, opened_by-block, opened-no_block}
use Rattle.resolve.specs.Rows.{limits_of}
use Rattle.report.specs.CallSteps.{work_needed, Refused, Answered}

-- less work than its objects need is less than all need
pub work-few : (limit : ℕ) (c : List ℕ) (f : Frame) {s : List ℕ} {l k : Layout} {o : Objects} {work : ℕ} → openedScript s ≡ Ok l → ScriptFacts s k o
    → work < 64 * l.count → work < work_needed limit o c f
work-few limit c f {s} {l} {k} {o} q x h = let e : o.layout ≡ l = x.layout ∙ same_layout s q x.accepted in rw e (omega arith)

-- ---- 25 and 26

module _ (m : Limits) (c : List ℕ) (work room : ℕ) (f : Frame) (o : Objects) where
  abbrev packages : List Package
  packages = packages_at c (f.«end» + 4) f.count

  abbrev held : Opened
  held = holding m o packages

  module _ (s : List ℕ) (r : run script 0 s ≡ gives o) (e : opened m c ≡ accepted held) where
    answer-is : answer m c work room ≡ weighed m work room held
    unfolding answer
    answer-is = rw e

    work-is : work_bytes held ≡ work_needed m.objects o c f
    unfolding work_bytes holding
    work-is =
        let e = length-map (found_by m.objects o c f).placed (λ (x : Placed). x.class) in
        let g = ap length (found-classes m.objects o c (f.«end» + 4) f.count) in
        let h = found_rows m.objects o c (f.«end» + 4) f.count in
        let d = (objects-facts s o.layout (answer_of r) o r).entries in
        omega arith

    -- 25
    pub answer-short : work < work_needed m.objects o c f → answer m c work room ≡ refused_in 25 0
    answer-short h = answer-is ∙ work-short m work room held (rw work-is h)

    module _ (h : work_needed m.objects o c f ≤ work) where
      -- 26
      pub answer-beyond : 4294967299 < length (report_of m o packages) → answer m c work room ≡ refused_in 26 0
      unfolding holding
      answer-beyond l = answer-is ∙ report-beyond m work room held (rw work-is h) l

      pub answer-outside : room < length (report_of m o packages) → answer m c work room ≡ refused_in 26 0
      unfolding holding
      answer-outside l = answer-is ∙ report-outside m work room held (rw work-is h) l

      -- accepted
      pub answer-fits : length (report_of m o packages) ≤ 4294967299 → length (report_of m o packages) ≤ room
          → answer m c work room ≡ accepted (report_of m o packages)
      unfolding holding
      answer-fits l k = answer-is ∙ report-fits m work room held (rw work-is h) l k

-- ---- the number and the report buffer

module _ {m : Limits} {c : List ℕ} {work : ℕ} where
  pub refused-by : {room q j r : ℕ} → answer m c work room ≡ refused_in q j → r ≡ refusal q j → Refused m c work room r
  refused-by {q} {j} e n = record { question = q; block = j; refuses = e; number = n }

  -- what the corpus is refused for, the call is refused for
  pub refused-opened : {room q j r : ℕ} → opened m c ≡ refused_in q j → r ≡ refusal q j → Refused m c work room r
  refused-opened {room} {q} {j} e n = refused-by (report-refuses m c q j e work room) n

  -- refused: the buffer as it was
  pub answered-refused : {old : List ℕ} {r : ℕ} → Refused m c work (length old) r → Answered m c work old old r
  unfolding number_of buffer_after
  answered-refused k = record { number = rw k.refuses k.number; report = rw k.refuses }

  -- accepted: the report over it
  pub answered-report : {old new report : List ℕ} {r : ℕ} → answer m c work (length old) ≡ accepted report → Wrote old report new r → Answered m c work old new r
  unfolding number_of buffer_after
  answered-report e w = record { number = rw e w.size; report = rw e w.is }

-- too little work: 25, or 24 by the block that repeats a key
module _ {c : List ℕ} {f : Frame} {s : List ℕ} (b : Begun c f s) {o : Objects} (r : run script 0 s ≡ gives o) (a : Packages c f) {lookups limit work room : ℕ} where
  pub short-once : {n j : ℕ} → j ≡ repeat_block (first_in limit o c f) → j ≡ 0 → work < work_needed limit o c f → n ≡ refusal 25 0
      → Refused (limits_of lookups limit) c work room n
  short-once e e₀ h z =
      refused-by (answer-short (limits_of lookups limit) c work room f o s r (opened-no_block (limits_of lookups limit) c b r a e e₀) h) z

  pub short-twice : {n j : ℕ} → j ≡ repeat_block (first_in limit o c f) → (j ≡ 0 → ⊥) → n ≡ refusal 24 j → Refused (limits_of lookups limit) c work room n
  short-twice e h z = refused-opened (opened_by-block (limits_of lookups limit) c b r a e h) z

-- the contract of the call
pub answered-outcome : {m : Limits} {c : List ℕ} (work : List ℕ) {old new : List ℕ} {r : ℕ} → Answered m c (length work) old new r
    → (r ≡ (outcome m c work old).number) × (new ≡ (outcome m c work old).report)
unfolding outcome
answered-outcome work a = (a.number, a.report)
