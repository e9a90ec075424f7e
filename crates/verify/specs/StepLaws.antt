-- What `verify` answers, from what its steps find. Assumes nothing.
use Rattle.std.specs.Prelude.{◌≡◌, refl, List, map, ℕ, ◌+◌, ◌^◌, ◌≤◌, ◌<◌, length}
use Rattle.std.proofs.Common.{◌∙◌, ap, inr, arith}
use Rattle.base.specs.Answer.{refusal}
use Rattle.base.specs.NumberLaws.{Bytes}
use Rattle.base.specs.Output.{Wrote}
use Rattle.scriptblock.proofs.ScriptAccepted.{answer_of}
use Rattle.scriptblock.specs.ScriptFacts.{ScriptFacts}
use Rattle.scriptblock.proofs.ScriptFacts.{objects-facts}
use Rattle.meaning.specs.Call.{refused_in, accepted, Opened, holding, opened, number_of, buffer_after, limits}
use Rattle.meaning.specs.Verify.{package_flag, output_with, output_of, verify_answer, verified}
use Rattle.meaning.proofs.VerifyRefusals.{verify_opened, verify_refused, verify_accepted}
use Rattle.meaning.specs.Reference.{Package}
use Rattle.packages.specs.Walk.{packages_at}
use Rattle.packages.specs.WalkLaws.{packages-length, script-site, framed-small}
use Rattle.packages.specs.declared.frame.Frame.{Frame}
use Rattle.walk.specs.OpenLaws.{begun-small}
use Rattle.verify.specs.Tallies.{counts_by}
use Rattle.verify.specs.TallyLaws.{counts_by_lem, match_few}
use Rattle.verify.specs.Steps.{Passed, Answered}
use Rattle.verify.specs.declared.counts.Tally.{Tally}

-- ---- the number and the output buffer

module _ {c old : List ℕ} where
  answered-refused : {q j r : ℕ} → verify_answer c (length old) ≡ refused_in q j → r ≡ refusal q j → Answered c old old r
  unfolding number_of buffer_after
  answered-refused e n = record { number = rw e n; output = rw e }

  -- a question before 26
  pub answered-opened : {q j r : ℕ} → opened limits c ≡ refused_in q j → r ≡ refusal q j → Answered c old old r
  answered-opened {q} {j} e n = answered-refused (verify_opened c (length old) q j e) n

  answered-output : {output new : List ℕ} {r : ℕ} → verify_answer c (length old) ≡ accepted output → Wrote old output new r → Answered c old new r
  unfolding number_of buffer_after
  answered-output e w = record { number = rw e w.size; output = rw e w.is }

-- ---- 26 and the output

module _ {c : List ℕ} {f : Frame} {n : ℕ} {t : Tally} (z : Passed c f n t) where
  bytes : Bytes c
  bytes = z.begun.bytes

  facts : ScriptFacts z.block z.objects.layout z.objects
  facts = objects-facts z.block z.objects.layout (answer_of z.read) z.objects z.read

  -- what is asked of the numbers that are written
  pub passed-few : (n < 2 ^ 32) × (t.matches ≤ t.resolved) × (f.count + 21 < 2 ^ 32)
  passed-few =
      let k = script-site c z.begun.frames bytes in
      let m = framed-small c z.begun.frames bytes in (
        rw z.count (omega (arith, facts.size, begun-small z.begun)),
        rw z.tally (match_few facts limits.objects),
        omega (arith, k.few, k.low),
      )

  abbrev packages : List Package
  packages = packages_at c (f.«end» + 4) f.count

  abbrev held : Opened
  held = holding limits z.objects packages

  held-count : length held.packages ≡ f.count
  unfolding holding
  held-count = packages-length c (f.«end» + 4) f.count

  output-is : output_of held ≡ output_with (counts_by n t) (map package_flag packages)
  unfolding output_of holding
  output-is = rw (z.count, z.tally, counts_by_lem facts limits.objects)

  module _ {old : List ℕ} {r : ℕ} where
    pub passed-short : length old < 25 + f.count → r ≡ refusal 26 0 → Answered c old old r
    passed-short h e =
        answered-refused ((verify_refused c bytes (length old) 26 0).1 (inr (refl, refl, (held, z.opens, rw held-count h)))) e

    pub passed-output : {new : List ℕ} → 25 + f.count ≤ length old → Wrote old (output_with (counts_by n t) (map package_flag packages)) new r
        → Answered c old new r
    passed-output h w =
        answered-output (verify_accepted c bytes held z.opens (length old) (rw held-count h) ∙ ap accepted output-is) w

-- the contract of the call
pub answered-verified : {c old new : List ℕ} {r : ℕ} → Answered c old new r → (r ≡ (verified c old).number) × (new ≡ (verified c old).output)
unfolding verified
answered-verified a = (a.number, a.output)
