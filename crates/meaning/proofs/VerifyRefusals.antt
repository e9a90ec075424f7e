-- What `verify` refuses (document 01: "it asks the report's questions unless said otherwise"; document 02, Q-2: "25 is not asked"): what the
-- report call refuses before 25, by the same question and block, and else 26 exactly where the output is longer than its buffer.
use Rattle.std.specs.Prelude.{◌≡◌, ◌↔◌, ◌⊎◌, false, List, ℕ, ◌+◌, ◌≤◌, ◌<◌, length}
use Rattle.std.proofs.Common.{sym, ◌∙◌, arith, le-leb, leb-false}
use Rattle.std.proofs.Math.Logic.{inl, inr}
use Rattle.std.proofs.lemmas.Bool.{lt-leb}
use Rattle.base.specs.Never.{never}
use Rattle.base.specs.NumberLaws.{Bytes}
use Rattle.zen.proofs.Refusals.{script-refusal, package_refusal}
use Rattle.meaning.specs.Resolve.{Limits}
use Rattle.meaning.specs.Call.{refused_in, accepted, need, Opened, opened, answer, limits}
use Rattle.meaning.proofs.Order.{FirstFailed, framing, script-block, package_block_lem, key_twice, work-short, report-long, first-failed, bind_fails, need_fails}
use Rattle.meaning.specs.Decoded.{Refusal}
use Rattle.meaning.proofs.Decoded.{framed-refusal, refusals}
use Rattle.meaning.specs.Verify.{output_of, output_fits, verify_answer}
use Rattle.meaning.proofs.VerifyFits.{fits-is}
pub use Rattle.meaning.specs.VerifyRefusals.{TooShort}

-- ---- what is refused before any buffer is weighed

module _ (m : Limits) (s : List ℕ) (q j : ℕ) (h : opened m s ≡ refused_in q j) where
  -- the report call refuses it so, whatever its buffers
  pub report-refuses : (work room : ℕ) → answer m s work room ≡ refused_in q j
  unfolding answer
  report-refuses work room = rw h

  -- the question is one of 1 to 22 and 24, and the block fits
  pub opened-refusal : Bytes s → Refusal q j × (q ≤ 24)
  opened-refusal b = (refusals m s b 0 0 q j (report-refuses 0 0), go ((first-failed m s 0 0 q j).0 (report-refuses 0 0)) h)
    where
      go : {q j : ℕ} → FirstFailed m s 0 0 q j → opened m s ≡ refused_in q j → q ≤ 24
      go (framing {q} f) e = omega (arith, framed-refusal s q f)
      go (script-block {q} {c} f r) e = omega (arith, script-refusal c.script q r)
      go (package_block_lem {q} before p after f o is good r) e = omega (arith, package_refusal p.block q r)
      go (key_twice before x after f g good is once has) e = omega arith
      go (work-short {d} g short) e = let z : accepted d ≡ refused_in 25 0 = sym g ∙ e in never (cc)
      go (report-long {d} g enough long) e = let z : accepted d ≡ refused_in 26 0 = sym g ∙ e in never (cc)

module _ (s : List ℕ) (room q j : ℕ) where
  pub verify_opened : opened limits s ≡ refused_in q j → verify_answer s room ≡ refused_in q j
  unfolding verify_answer
  verify_opened h = rw h

module _ (s : List ℕ) (b : Bytes s) (room q j : ℕ) where
  short-is : (d : Opened) → opened limits s ≡ accepted d → output_fits room (output_of d) ≡ false → room < 25 + length d.packages
  short-is d h f = omega (arith, leb-false (25 + length d.packages) room (sym (fits-is s b d h room) ∙ f))

  pub verify_refused : (verify_answer s room ≡ refused_in q j) ↔ ((opened limits s ≡ refused_in q j) ⊎ ((q ≡ 26) × (j ≡ 0) × TooShort s room))
  unfolding verify_answer
  verify_refused = (λ e. forth e, λ r. back r)
    where
      forth : verify_answer s room ≡ refused_in q j → (opened limits s ≡ refused_in q j) ⊎ ((q ≡ 26) × (j ≡ 0) × TooShort s room)
      forth e =
          bind_fails (opened limits s) _ e (λ h. inl h)
          λ d h e. bind_fails (need (output_fits room (output_of d)) 26 0) _ e
          (λ n. let (f, is, at) = need_fails (output_fits room (output_of d)) 26 0 n in inr (is, at, (d, h, short-is d h f)))
          λ u n e. never (cc)

      back : (opened limits s ≡ refused_in q j) ⊎ ((q ≡ 26) × (j ≡ 0) × TooShort s room) → verify_answer s room ≡ refused_in q j
      back (inl h) = verify_opened s room q j h
      back (inr (is, at, (d, h, short))) = rw (h, fits-is s b d h room, lt-leb (25 + length d.packages) room short, is, at)

  -- each has a question and a block that fit the number, and none is 25
  pub verify_refusal : verify_answer s room ≡ refused_in q j → Refusal q j × (q ≡ 25 → ⊥)
  verify_refusal e = go (verify_refused.0 e)
    where
      go : (opened limits s ≡ refused_in q j) ⊎ ((q ≡ 26) × (j ≡ 0) × TooShort s room) → Refusal q j × (q ≡ 25 → ⊥)
      go (inl h) = let (r, l) = opened-refusal limits s q j h b in (r, λ z. omega arith)
      go (inr (is, at, short)) = (record { question = omega arith; kept = λ z. omega arith; block = omega arith }, λ z. omega arith)

-- ---- and else the output

-- a corpus that is opened is accepted by every buffer that is long enough
pub verify_accepted : (s : List ℕ) → Bytes s → (d : Opened) → opened limits s ≡ accepted d → (room : ℕ) → 25 + length d.packages ≤ room
    → verify_answer s room ≡ accepted (output_of d)
unfolding verify_answer
verify_accepted s b d h room enough = rw (h, fits-is s b d h room, le-leb (25 + length d.packages) room enough)
