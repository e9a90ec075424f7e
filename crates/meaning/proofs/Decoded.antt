-- The returned number and the answer determine each other (document 01, "The call": "Accepted: the report's length. Refused: bit 63 set, the
-- refusal in bits 32 to 39, the block in bits 0 to 31, all else 0"): every refusal's question and block fit their bits, and no length has bit 63.
use Rattle.std.specs.Prelude.{◌≡◌, Bool, true, false, cond, ◌⊎◌, ℕ, ◌+◌, ◌/◌, ◌^◌, ◌<◌, eqb, length}
use Rattle.std.proofs.Math.Path.{refl}
use Rattle.std.proofs.Common.{sym, ◌∙◌, ap, inl, inr, arith, length-append}
use mathlib.Core.List.Memᴰ
use mathlib.Core.List.{List, ◌∷◌, map, Memᴰ}
use Rattle.base.specs.Answer.{refusal_is, refusal-question, refusal-block, length-is-none}
use Rattle.base.specs.Never.{never}
use Rattle.base.specs.NumberLaws.{Bytes}
use Rattle.base.specs.Reading.{Out, refused, gives, run}
use Rattle.base.specs.ReadingRefusals.{Within}
use Rattle.scriptblock.specs.Script.{Objects}
use Rattle.zen.proofs.Refusals.{script-refusal, package_refusal}
use Rattle.meaning.specs.Frame.{Corpus, frame, frame_answer, framed}
use Rattle.meaning.specs.Reference.{Package}
use Rattle.meaning.specs.Scan.{Class, classes_of}
use Rattle.meaning.specs.Resolve.{Limits}
use Rattle.meaning.specs.Call.{Answer, refused_in, accepted, Placed, placed_from, answer, number_of}
use Rattle.meaning.specs.Accepted.{packages_in}
use Rattle.meaning.proofs.Accepted.{good_length}
use Rattle.meaning.proofs.Fits.{few-packages, report-short}
use Rattle.meaning.specs.Limited.{answer_within}
use Rattle.meaning.proofs.LimitedLaws.{accepted_in, FirstOf, first_of}
use Rattle.meaning.proofs.Order.{FirstFailed, framing, script-block, package_block_lem, key_twice, work-short, report-long, first-failed}
pub use Rattle.meaning.specs.Decoded.{Refusal, RefusalWithin, decoded, in_short}

-- ---- the questions and the blocks that there are

pub framed-refusal : (s : List ℕ) (q : ℕ) → framed s ≡ refused q → Within 1 2 q
unfolding framed
framed-refusal s q e = go (run frame 0 s) e
  where
    one : (t : Bool) → cond t 2 1 ≡ q → Within 1 2 q
    one true e = omega arith
    one false e = omega arith

    go : (o : Out Corpus) → frame_answer o ≡ refused q → Within 1 2 q
    go (refused r) e = one (eqb r 2) (cc)
    go (gives c) e = never (cc)

placed-block : (i : ℕ) (cs : List Class) (x : Placed) → Memᴰ x (map (λ (c : Class). record { block = i; class = c }) cs) → x.block ≡ i
placed-block i mathlib.Core.List.[] x x3 = elim x3 [ ]
placed-block i (c ∷ cs) x (Memᴰ.head e) = ap (λ (x : Placed). x.block) e
placed-block i (c ∷ cs) x (Memᴰ.tail m) = placed-block i cs x m

-- the block that a class stands in is one of its packages'
placed-within : (limit : ℕ) (o : Objects) (i : ℕ) (ps : List Package) (x : Placed) → Memᴰ x (placed_from limit o i ps) → x.block < i + length ps
placed-within limit o i mathlib.Core.List.[] x m = elim m [ ]
placed-within limit o i (p ∷ ps) x m =
    go (Memᴰ.append_cases (map (λ (c : Class). record { block = i; class = c }) (classes_of limit o p)) m) (placed-within limit o (i + 1) ps x)
  where
    go : Memᴰ x (map (λ (c : Class). record { block = i; class = c }) (classes_of limit o p)) ⊎ Memᴰ x (placed_from limit o (i + 1) ps)
        → (Memᴰ x (placed_from limit o (i + 1) ps) → x.block < i + 1 + length ps) → x.block < i + length (p ∷ ps)
    go (inl m) ih = omega (arith, placed-block i (classes_of limit o p) x m)
    go (inr m) ih = omega (arith, ih m)

pub refusals : (m : Limits) (s : List ℕ) → Bytes s → (work room q j : ℕ) → answer m s work room ≡ refused_in q j → Refusal q j
refusals m s b work room q j e = go ((first-failed m s work room q j).0 e)
  where
    go : {q j : ℕ} → FirstFailed m s work room q j → Refusal q j
    go (framing {q} f) = let (l, h) = framed-refusal s q f in record { question = omega arith; kept = λ z. omega arith; block = omega arith }
    go (script-block {q} {c} f r) = let (l, h) = script-refusal c.script q r in record { question = omega arith; kept = λ z. omega arith; block = omega arith }
    go (package_block_lem {q} {c} before p after f o is good r) =
        let (l, h) = package_refusal p.block q r in
        let n = few-packages s b c f in
        record { question = omega arith; kept = λ z. omega arith; block = omega (arith, ap length is, length-append before (p ∷ after)) }
    go (key_twice {c} {o} before x after f g good is once has) =
        let n = few-packages s b c f in
        let h = placed-within m.objects o 2 (packages_in c) x (rw is (Memᴰ.append_right before (Memᴰ.head refl))) in
        record { question = omega arith; kept = λ z. omega arith; block = omega (arith, good_length c.parts good) }
    go (work-short h short) = record { question = omega arith; kept = λ z. omega arith; block = omega arith }
    go (report-long h enough long) = record { question = omega arith; kept = λ z. omega arith; block = omega arith }

pub refusals-within : (m : Limits) (s : List ℕ) → Bytes s → (work room q j : ℕ) → answer_within m s work room ≡ refused_in q j → RefusalWithin q j
refusals-within m s b work room q j e = go ((first_of m s work room q j).0 e)
  where
    go : FirstOf m s work room q j → RefusalWithin q j
    go (inl (o, is, at)) = record { question = inr is; kept = λ z. omega arith; block = omega arith }
    go (inr (i, f)) =
        let r = refusals m s b work room q j ((first-failed m s work room q j).1 f) in
        record { question = inl r.question; kept = r.kept; block = r.block }

question-fits : {q : ℕ} → Within 1 26 q ⊎ (q ≡ 29) → q < 2 ^ 8
question-fits (inl (l, h)) = omega arith
question-fits (inr e) = omega arith

-- ---- THE NUMBER says the answer

module _ (m : Limits) (s : List ℕ) (b : Bytes s) (work room : ℕ) where
  no_longer : (report : List ℕ) → answer_within m s work room ≡ accepted report → length report < 2 ^ 63
  no_longer report e = let (i, h) = accepted_in m s work room report e in omega (arith, report-short m s work room report h)

  pub number_decodes : decoded (number_of (answer_within m s work room)) ≡ in_short (answer_within m s work room)
  unfolding decoded number_of
  number_decodes = go (answer_within m s work room) refl
    where
      go : (a : Answer (List ℕ)) → answer_within m s work room ≡ a → decoded (number_of a) ≡ in_short a
      go (refused_in q j) e =
          let r = refusals-within m s b work room q j e in
          rw (refusal_is q j, refusal-question q j (question-fits r.question) r.block, refusal-block q j r.block)
      go (accepted report) e = rw (length-is-none (length report) (no_longer report e))

  -- it is one of 64 bits, and of a refusal's all but 63, 39 to 32 and 31 to 0 are 0
  pub number_fits : number_of (answer_within m s work room) < 2 ^ 64
  unfolding number_of
  number_fits = go (answer_within m s work room) refl
    where
      go : (a : Answer (List ℕ)) → answer_within m s work room ≡ a → number_of a < 2 ^ 64
      go (refused_in q j) e = let r = refusals-within m s b work room q j e in omega (arith, question-fits r.question, r.block)
      go (accepted report) e = omega (arith, no_longer report e)

  pub refusal-bits : (q j : ℕ) → answer_within m s work room ≡ refused_in q j → number_of (answer_within m s work room) / 2 ^ 40 ≡ 2 ^ 23
  unfolding number_of
  refusal-bits q j e = let r = refusals-within m s b work room q j e in let few = question-fits r.question in rw e (omega (arith, r.block))

-- two calls that return one number have one answer, but for the report's bytes; each may have limits of its own
pub number_determines : (m n : Limits) (s t : List ℕ) → Bytes s → Bytes t → (work room work' room' : ℕ)
    → number_of (answer_within m s work room) ≡ number_of (answer_within n t work' room')
    → in_short (answer_within m s work room) ≡ in_short (answer_within n t work' room')
number_determines m n s t b b' work room work' room' e =
    sym (number_decodes m s b work room) ∙ (ap decoded e ∙ number_decodes n t b' work' room')
