-- DEMAND 3, one theorem: "Take any corpus in document 01's domain, put its packages in whatever order, and give the bytes and bits that
-- document 01 lists as passed over whatever values. Nobody can change a section of the report that way."
use Rattle.std.specs.Prelude.{◌≡◌, List, ◌++◌, map, ℕ, ◌^◌, ◌<◌, length}
use Rattle.std.proofs.Common.{sym, ◌∙◌, ap}
use Rattle.base.specs.Find.{flat}
use Rattle.base.specs.Output.{over}
use Rattle.base.specs.Perm.{perm_flat, perm_length, each_map, flat_map}
use Rattle.base.specs.Reading.{gives}
use Rattle.meaning.specs.Frame.{framed}
use Rattle.meaning.specs.Resolve.{Limits}
use Rattle.meaning.specs.Call.{accepted, answer, number_of, buffer_after, outcome}
use Rattle.meaning.specs.Bytes.{part_bytes, corpus_rest, corpus_bytes}
use Rattle.meaning.specs.BytesLaws.{length_rest, frame-bytes, frame-fits}
use Rattle.meaning.specs.Rearranged.{Rearranged}
use Rattle.meaning.specs.Accepted.{Accepted}
use Rattle.meaning.proofs.Accepted.{from-answer, to-answer}
use Rattle.meaning.specs.Sections.{section_in, front_of}
use Rattle.meaning.proofs.Sections.{length_front, report-is}
use Rattle.meaning.proofs.Rows.{ReportAs, native_in_report}
use Rattle.meaning.specs.Rewriting.{SamePart, section-same}
use Rattle.meaning.specs.RearrangedLaws.{rewritten_length, rewritten_ids, rewritten_same}
use Rattle.meaning.proofs.RearrangedOpens.{turned, turned_same, turned-ids}
use Rattle.meaning.proofs.Reordering.{new-length, reordered_accepted, reordered_section}

-- what holds of the corpus s, accepted with the report `old` and buffers of these lengths, and of the new one, t
pub record Unchanged (m : Limits) (s t : List ℕ) (w : Rearranged s t) (work room : ℕ) (old : List ℕ) : Type 0 where
  -- "With buffers of the lengths the old corpus was accepted with, .. the new corpus is accepted"
  pub new : List ℕ
  pub accepted_too : answer m t work room ≡ accepted new
  -- "whatever they hold, .. the call returns the same number": a pair of buffers for each call, of these lengths and any contents
  pub same_number : (w₁ w₂ b₁ b₂ : List ℕ) → length w₁ ≡ work → length w₂ ≡ work → length b₁ ≡ room → length b₂ ≡ room
      → (outcome m t w₂ b₂).number ≡ (outcome m s w₁ b₁).number
  -- each report stands at the front of whatever buffer was lent
  pub old-buffer : (w₁ b₁ : List ℕ) → length w₁ ≡ work → length b₁ ≡ room → (outcome m s w₁ b₁).report ≡ over b₁ old
  pub new-buffer : (w₂ b₂ : List ℕ) → length w₂ ≡ work → length b₂ ≡ room → (outcome m t w₂ b₂).report ≡ over b₂ new
  -- "All else in the corpus stays, and so do the report's first 9 bytes"
  pub front : List ℕ
  pub nine : length front ≡ 9
  -- behind them stand the sections, package by package: in the old order, and "in the new order"
  pub old-sections : old ≡ front ++ flat (section_in m w.old) w.old.parts
  pub new-sections : new ≡ front ++ flat (section_in m w.new) w.new.parts
  -- "Each package's section is byte for byte the one it had"
  pub same-sections : map (section_in m w.new) w.new.parts ≡ map (section_in m w.old) w.how.order
  -- "In every row of both reports the native class is known exactly when some chain .." (Chain.antt, Rows.antt)
  pub old-rows : ReportAs m w.old old
  pub new-rows : ReportAs m w.new new

-- what an accepted corpus leaves, whatever the buffers hold
module _ (m : Limits) (s : List ℕ) (work room : ℕ) (report : List ℕ) (h : answer m s work room ≡ accepted report) where
  accepted-number : (w b : List ℕ) → length w ≡ work → length b ≡ room → (outcome m s w b).number ≡ length report
  unfolding outcome number_of
  accepted-number w b p q = rw (p, q, h)

  accepted-buffer : (w b : List ℕ) → length w ≡ work → length b ≡ room → (outcome m s w b).report ≡ over b report
  unfolding outcome buffer_after
  accepted-buffer w b p q = rw (p, q, h)

module _ (m : Limits) (s t : List ℕ) (work room : ℕ) (old : List ℕ) (h : answer m s work room ≡ accepted old) (w : Rearranged s t) where
  was-fits : length (corpus_rest w.old) < 2 ^ 32
  was-fits = let (c, f, a) = from-answer m s work room old h in frame-fits w.old {d = c} (ap framed (sym w.was) ∙ f)

  was-accepted : Accepted m w.old work room old
  was-accepted =
      let (c, f, a) = from-answer m s work room old h in
      let framed_is : framed s ≡ gives w.old = rw w.was (frame-bytes w.old w.ids was-fits) in
      let e : c ≡ w.old = let g : gives c ≡ gives w.old = sym f ∙ framed_is in cc in
      rw e at a

  turned-fits : length (corpus_rest (turned w)) < 2 ^ 32
  turned-fits = rw (length_rest (turned w), ← perm_length (perm_flat part_bytes w.how.moved), ← length_rest w.old) was-fits

  abbrev front : List ℕ
  front = front_of (length (flat (section_in m w.old) w.old.parts)) (length w.old.parts)

  abbrev turned-report : List ℕ
  turned-report = front ++ flat (section_in m w.old) w.how.order

  turned-accepted : Accepted m (turned w) work room turned-report
  turned-accepted = reordered_accepted m w.old work room old was-accepted w.how.order w.how.moved

  accepted_too : answer m t work room ≡ accepted turned-report
  accepted_too =
      rw (w.is, rewritten_same (turned w) w.new (turned_same w) (turned-ids w) m work room)
      (to-answer m (corpus_bytes (turned w)) work room (turned w) turned-report (frame-bytes (turned w) (turned-ids w) turned-fits) turned-accepted)

  new-accepted : Accepted m w.new work room turned-report
  new-accepted =
      let (c, f, a) = from-answer m t work room turned-report accepted_too in
      let fits : length (corpus_rest w.new) < 2 ^ 32 = rw (rewritten_length (turned w) w.new (turned_same w)) turned-fits in
      let framed_is : framed t ≡ gives w.new = rw w.is (frame-bytes w.new (rewritten_ids (turned w) w.new (turned_same w) (turned-ids w)) fits) in
      let e : c ≡ w.new = let g : gives c ≡ gives w.new = sym f ∙ framed_is in cc in
      rw e at a

  same-sections : map (section_in m w.new) w.new.parts ≡ map (section_in m w.old) w.how.order
  same-sections =
      each_map SamePart (section_in m w.old) (section_in m w.new)
      (λ p q b. section-same m (turned w) w.new (turned_same w) p q b ∙ reordered_section m w.old w.how.order w.how.moved was-accepted.opens p)
      w.how.order w.new.parts (turned_same w).parts

  -- THE THEOREM
  pub demand_3 : Unchanged m s t w work room old
  demand_3 =
      record {
        new = turned-report;
        accepted_too = accepted_too;
        same_number = λ w₁ w₂ b₁ b₂ p₁ p₂ q₁ q₂.
            accepted-number m t work room turned-report accepted_too w₂ b₂ p₂ q₂
            ∙ (new-length m w.old work room old was-accepted w.how.order w.how.moved ∙ sym (accepted-number m s work room old h w₁ b₁ p₁ q₁));
        old-buffer = accepted-buffer m s work room old h;
        new-buffer = accepted-buffer m t work room turned-report accepted_too;
        front = front;
        nine = length_front (length (flat (section_in m w.old) w.old.parts)) (length w.old.parts);
        old-sections = report-is m w.old work room old was-accepted;
        new-sections = ap (λ r. front ++ r) (flat_map (section_in m w.old) (section_in m w.new) w.how.order w.new.parts (sym same-sections));
        same-sections = same-sections;
        old-rows = native_in_report m w.old work room old was-accepted;
        new-rows = native_in_report m w.new work room turned-report new-accepted;
      }
