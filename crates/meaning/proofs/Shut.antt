-- Programs that the definition shuts out (document 01, clause c): no program that does what the definition says writes one fixed report,
-- refuses each corpus, or returns a length and writes no byte; and 25 and 26 are said exactly where the sums are too large.
use Rattle.std.specs.Prelude.{◌≡◌, refl, ◌↔◌, Bool, true, false, ◌&&◌, List, [], ◌∷◌, ◌++◌, ℕ, zero, suc, ◌≤◌, ◌<◌, T, ltb, length, take, get_or, replicate}
use Rattle.std.proofs.Common.{sym, ◌∙◌, ap, arith, ltb-true, length-take-le}
use Rattle.base.specs.Answer.{is_refusal}
use Rattle.base.specs.House.{longest_output}
use Rattle.base.specs.Never.{never}
use Rattle.base.specs.NumberLaws.{Bytes}
use Rattle.zen.proofs.Refusals.{script-refusal, package_refusal}
use Rattle.meaning.specs.Resolve.{Limits}
use Rattle.meaning.specs.Report.{report_of}
use Rattle.meaning.specs.Call.{refused_in, accepted, Opened, opened, work_bytes, answer}
use Rattle.meaning.specs.Limited.{answer_within, outcome_within, InRange}
use Rattle.meaning.proofs.LimitedLaws.{answer_in}
use Rattle.meaning.specs.Bytes.{part_bytes, packages_bytes, corpus_rest, corpus_bytes}
use Rattle.meaning.specs.Computed.{asked}
use Rattle.meaning.specs.Written.{corpus_of}
use Rattle.meaning.specs.Examples.{least, no_objects, named_a, section_a}
use Rattle.meaning.proofs.Order.{FirstFailed, framing, script-block, package_block_lem, key_twice, work-short, report-long, first-failed}
use Rattle.meaning.proofs.Decoded.{framed-refusal}
use Rattle.meaning.proofs.Outcome.{accepted-number, accepted-front, buffer-length}
pub use Rattle.meaning.specs.Shut.{Meets, Program}

-- ---- two corpora, with reports of 9 and of 30 bytes, whatever the limits

abbrev all_bytes : List ℕ → Bool
all_bytes [] = true
all_bytes (x ∷ s) = ltb x 256 && all_bytes s

all_bytes_lem : (s : List ℕ) → T (all_bytes s) → Bytes s
all_bytes_lem [] t i = omega arith
all_bytes_lem (x ∷ s) t i = go (ltb x 256) refl t (all_bytes_lem s) i
  where
    go : (b : Bool) → ltb x 256 ≡ b → T (b && all_bytes s) → (T (all_bytes s) → Bytes s) → Bytes (x ∷ s)
    go true l t ih zero = ltb-true x 256 l
    go true l t ih (suc i) = ih t i
    go false l t ih i = absurd t

abbrev named : List ℕ
named = corpus_of no_objects (named_a 91)

first-bytes : Bytes (least 1)
first-bytes = all_bytes_lem (least 1) tt

second-bytes : Bytes named
unfolding asked corpus_bytes corpus_rest packages_bytes part_bytes
second-bytes = all_bytes_lem named tt

abbrev nine : List ℕ
nine = replicate 9 0

abbrev thirty : List ℕ
thirty = replicate 30 0

abbrev first-report : List ℕ
first-report = 0 ∷ 0 ∷ 0 ∷ 5 ∷ 1 ∷ 0 ∷ 0 ∷ 0 ∷ 0 ∷ []

abbrev second-report : List ℕ
second-report = (0 ∷ 0 ∷ 0 ∷ 26 ∷ 1 ∷ 0 ∷ 0 ∷ 0 ∷ 1 ∷ []) ++ section_a

first-answer : (m : Limits) → answer m (least 1) 0 9 ≡ accepted first-report
unfolding asked
first-answer m = refl

second-answer : (m : Limits) → answer m named 0 30 ≡ accepted second-report
unfolding asked corpus_bytes corpus_rest packages_bytes part_bytes
second-answer m = refl

-- ---- the programs, within any limits that a call may have

module _ (m : Limits) (range : InRange m) (P : Program) (meets : Meets m P) where
  first-given : answer_within m (least 1) 0 9 ≡ accepted first-report
  first-given = rw (answer_in m (least 1) 0 9 range) (first-answer m)

  second-given : answer_within m named 0 30 ≡ accepted second-report
  second-given = rw (answer_in m named 0 30 range) (second-answer m)

  first-number : (outcome_within m (least 1) [] nine).number ≡ 9
  first-number = accepted-number m (least 1) [] nine first-report first-given

  second-number : (outcome_within m named [] thirty).number ≡ 30
  second-number = accepted-number m named [] thirty second-report second-given

  pub refuses-each : ((corpus work buffer : List ℕ) → is_refusal (P corpus work buffer).number ≡ true) → ⊥
  refuses-each h =
      let r = rw (meets (least 1) [] nine first-bytes, first-number) at (h (least 1) [] nine) in
      never (cc)

  -- the front of the buffer is always the same bytes
  pub fixed_report : (report : List ℕ)
      → ((corpus work buffer : List ℕ) → is_refusal (P corpus work buffer).number ≡ false
      → take (P corpus work buffer).number (P corpus work buffer).report ≡ report)
      → ⊥
  fixed_report report h =
      let one = at_first (h (least 1) [] nine) in
      let two = at_second (h named [] thirty) in
      omega arith
    where
      at_first : (is_refusal (P (least 1) [] nine).number ≡ false → take (P (least 1) [] nine).number (P (least 1) [] nine).report ≡ report)
          → length report ≡ 9
      at_first h =
          let k = rw (meets (least 1) [] nine first-bytes, first-number) at h in
          ap length (sym (k refl)) ∙ length-take-le 9 (outcome_within m (least 1) [] nine).report (omega (arith, buffer-length m (least 1) [] nine))

      at_second : (is_refusal (P named [] thirty).number ≡ false → take (P named [] thirty).number (P named [] thirty).report ≡ report) → length report ≡ 30
      at_second h =
          let k = rw (meets named [] thirty second-bytes, second-number) at h in
          ap length (sym (k refl)) ∙ length-take-le 30 (outcome_within m named [] thirty).report (omega (arith, buffer-length m named [] thirty))

  pub no_byte : ((corpus work buffer : List ℕ) → (P corpus work buffer).report ≡ buffer) → ⊥
  no_byte h =
      let r = rw (meets (least 1) [] nine first-bytes) at (h (least 1) [] nine) in
      let front = accepted-front m (least 1) [] nine first-report first-given in
      let same = ap (λ (l : List ℕ). get_or l 3 0) (rw r at front) in
      omega arith

-- ---- 25 and 26, exactly where the sums say

module _ (m : Limits) (s : List ℕ) (work room : ℕ) where
  pub work-refused : (answer m s work room ≡ refused_in 25 0) ↔ ((d : Opened) × (opened m s ≡ accepted d) × (work < work_bytes d))
  work-refused = (λ e. go ((first-failed m s work room 25 0).0 e) refl, λ (d, h, short). (first-failed m s work room 25 0).1 (work-short h short))
    where
      go : {q j : ℕ} → FirstFailed m s work room q j → q ≡ 25 → (d : Opened) × (opened m s ≡ accepted d) × (work < work_bytes d)
      go (framing {q} f) e = absurd (omega (arith, framed-refusal s q f))
      go (script-block {q} {c} f r) e = absurd (omega (arith, script-refusal c.script q r))
      go (package_block_lem {q} before p after f o is good r) e = absurd (omega (arith, package_refusal p.block q r))
      go (key_twice before x after f g good is once has) e = absurd (omega arith)
      go (work-short {d} h short) e = (d, h, short)
      go (report-long h enough long) e = absurd (omega arith)

  -- the report is beyond the longest, or beyond its buffer
  abbrev pub TooLong : Opened → Type 0
  TooLong d = length (report_of m d.objects d.packages) ≤ longest_output → length (report_of m d.objects d.packages) ≤ room → ⊥

  pub report-refused : (answer m s work room ≡ refused_in 26 0) ↔ ((d : Opened) × (opened m s ≡ accepted d) × (work_bytes d ≤ work) × TooLong d)
  report-refused =
      (λ e. go ((first-failed m s work room 26 0).0 e) refl, λ (d, h, enough, long). (first-failed m s work room 26 0).1 (report-long h enough long))
    where
      go : {q j : ℕ} → FirstFailed m s work room q j → q ≡ 26 → (d : Opened) × (opened m s ≡ accepted d) × (work_bytes d ≤ work) × TooLong d
      go (framing {q} f) e = absurd (omega (arith, framed-refusal s q f))
      go (script-block {q} {c} f r) e = absurd (omega (arith, script-refusal c.script q r))
      go (package_block_lem {q} before p after f o is good r) e = absurd (omega (arith, package_refusal p.block q r))
      go (key_twice before x after f g good is once has) e = absurd (omega arith)
      go (work-short h short) e = absurd (omega arith)
      go (report-long {d} h enough long) e = (d, h, enough, long)
