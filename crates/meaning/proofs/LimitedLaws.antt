-- The limits are asked about first, whatever the corpus is; in the range a call is what `answer` and `outcome` say.
use Rattle.std.specs.Prelude.{◌≡◌, refl, ◌↔◌, ◌⊎◌, Bool, true, false, List, ℕ, leb, length}
use Rattle.std.proofs.Common.{inl, inr, arith, leb-true, leb-false}
use Rattle.base.specs.Never.{never}
use Rattle.meaning.specs.Resolve.{Limits}
use Rattle.meaning.specs.Call.{refused_in, accepted, answer, outcome}
use Rattle.meaning.specs.Limited.{in_range, answer_within, outcome_within, InRange, OutOfRange}
use Rattle.meaning.proofs.Order.{FirstFailed, first-failed}

module _ (m : Limits) where
  -- limits are in the range or out of it, and the test says which
  abbrev pub Tested : Type 0
  Tested = (InRange m × (in_range m ≡ true)) ⊎ (OutOfRange m × (in_range m ≡ false))

  pub ranged : Tested
  ranged = go (leb 1 m.lookups) (leb m.lookups 64) (leb 1 m.objects) (leb m.objects 65) refl refl refl refl
    where
      go : (a b c d : Bool) → leb 1 m.lookups ≡ a → leb m.lookups 64 ≡ b → leb 1 m.objects ≡ c → leb m.objects 65 ≡ d
          → Tested
      go false b c d ea eb ec ed = inr (inl (inl (omega (arith, leb-false 1 m.lookups ea))), rw ea)
      go true false c d ea eb ec ed = inr (inl (inr (leb-false m.lookups 64 eb)), rw (ea, eb))
      go true true false d ea eb ec ed = inr (inr (inl (omega (arith, leb-false 1 m.objects ec))), rw (ea, eb, ec))
      go true true true false ea eb ec ed = inr (inr (inr (leb-false m.objects 65 ed)), rw (ea, eb, ec, ed))
      go true true true true ea eb ec ed =
          let range : InRange m = record {
            some-lookups = leb-true 1 m.lookups ea;
            few-lookups = leb-true m.lookups 64 eb;
            some-objects = leb-true 1 m.objects ec;
            few-objects = leb-true m.objects 65 ed;
          } in
          inl (range, rw (ea, eb, ec, ed))

  -- and never both
  pub never_both : {P : Type 0} → InRange m → OutOfRange m → P
  never_both i (inl (inl z)) = absurd (omega (arith, i.some-lookups))
  never_both i (inl (inr l)) = absurd (omega (arith, i.few-lookups))
  never_both i (inr (inl z)) = absurd (omega (arith, i.some-objects))
  never_both i (inr (inr l)) = absurd (omega (arith, i.few-objects))

  pub in_range_lem : InRange m → in_range m ≡ true
  in_range_lem i = go ranged
    where
      go : Tested → in_range m ≡ true
      go (inl (j, e)) = e
      go (inr (o, e)) = never_both i o

  pub out_of_range : OutOfRange m → in_range m ≡ false
  out_of_range o = go ranged
    where
      go : Tested → in_range m ≡ false
      go (inl (i, e)) = never_both i o
      go (inr (p, e)) = e

  module _ (s : List ℕ) (work room : ℕ) where
    -- in the range: what `answer` says
    pub answer_in : InRange m → answer_within m s work room ≡ answer m s work room
    unfolding answer_within
    answer_in i = rw (in_range_lem i)

    -- out of it: 29, and nothing of the corpus counts
    pub answer-out : OutOfRange m → answer_within m s work room ≡ refused_in 29 0
    unfolding answer_within
    answer-out o = rw (out_of_range o)

    -- the one or the other
    abbrev Given : Type 0
    Given = (InRange m × (answer_within m s work room ≡ answer m s work room)) ⊎ (OutOfRange m × (answer_within m s work room ≡ refused_in 29 0))

    either : Given
    either = go ranged
      where
        go : Tested
            → Given
        go (inl (i, e)) = inl (i, answer_in i)
        go (inr (o, e)) = inr (o, answer-out o)

    -- accepted, the limits are in the range
    pub accepted_in : (report : List ℕ) → answer_within m s work room ≡ accepted report → InRange m × (answer m s work room ≡ accepted report)
    accepted_in report h = go either
      where
        go : Given
            → InRange m × (answer m s work room ≡ accepted report)
        go (inl (i, e)) = (i, rw (← e) h)
        go (inr (o, e)) = never (cc)

    -- THE FIRST QUESTION that fails: 29 before all of document 01's
    abbrev pub FirstOf : ℕ → ℕ → Type 0
    FirstOf q j = (OutOfRange m × (q ≡ 29) × (j ≡ 0)) ⊎ (InRange m × FirstFailed m s work room q j)

    pub first_of : (q j : ℕ) → (answer_within m s work room ≡ refused_in q j) ↔ FirstOf q j
    first_of q j = (λ h. forth h either, back)
      where
        forth : answer_within m s work room ≡ refused_in q j
            → Given → FirstOf q j
        forth h (inl (i, e)) = inr (i, (first-failed m s work room q j).0 (rw (← e) h))
        forth h (inr (o, e)) = inl (o, cc, cc)

        back : FirstOf q j → answer_within m s work room ≡ refused_in q j
        back (inl (o, is, at)) = rw (is, at) (answer-out o)
        back (inr (i, f)) = rw (answer_in i) ((first-failed m s work room q j).1 f)

  pub outcome_in : InRange m → (corpus work buffer : List ℕ) → outcome_within m corpus work buffer ≡ outcome m corpus work buffer
  unfolding outcome_within outcome
  outcome_in i corpus work buffer = rw (answer_in corpus (length work) (length buffer) i)
