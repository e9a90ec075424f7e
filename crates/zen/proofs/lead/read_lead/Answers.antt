-- `zen::lead::read_lead` meets its contract: question by question, with the flag f and the size n that were read.
use Rattle.std.specs.Prelude.{Some, None, Err, Ok}
use mathlib.Core.Path.{◌≡◌, sym, ◌∙◌}
use mathlib.Core.List.{List}
use Prim.Native.Nat.{ℕ, ◌+◌, ◌-◌, ◌≤◌, ◌<◌}
use native.Mathlib.Omega.{arith}
use lib.ListN.{length}
use borrow.Author.Tests.{le-leb, lt-leb, eq-eqb, ne_eqb}
use Rattle.base.specs.Reading.{bad, got, walk}
use Rattle.base.specs.Number.{le_at}
use Rattle.batch.specs.Cursor.{word_at, behind, found_word}
use Rattle.batch.specs.CursorLaws.{word-there, word-missing}
use Rattle.base.specs.Never.{never}
use Rattle.std.proofs.Math.Decide.{dec_le}
use Rattle.zen.specs.Zen.{lead}
use Rattle.zen.specs.Answers.{led}
use Rattle.zen.proofs.BlockLaws.{lead_is}
use Rattle.zen.proofs.Handed.{handed, there_was, none_was}
use Rattle.zen.proofs.lead.read_lead.Goals.{After-read_u32, After-read_u32-2}
use Rattle.zen.proofs.lead.read_lead.Goals as goal

-- the answer from what the reading comes to
fault : (b : List ℕ) {r : ℕ} → walk lead b 0 ≡ bad r → Err r ≡ led (walk lead b 0)
unfolding led
fault b q = rw q

header : (b : List ℕ) {n at : ℕ} → walk lead b 0 ≡ got n at → Ok n ≡ led (walk lead b 0)
unfolding led
header b q = rw q

-- what a read at a place finds, and where it leaves the cursor
module _ (s : List ℕ) (at : ℕ) where
  number_there : {n : ℕ} → Some n ≡ found_word (word_at s at) → (at + 4 ≤ length s) × (n ≡ le_at 4 s at) × (behind (word_at s at) at ≡ at + 4)
  unfolding found_word behind
  number_there {n} q = go (dec_le (at + 4) (length s)) q
    where
      go : Dec (at + 4 ≤ length s) → Some n ≡ found_word (word_at s at) → (at + 4 ≤ length s) × (n ≡ le_at 4 s at) × (behind (word_at s at) at ≡ at + 4)
      go (yes h) q = let z = rw (word-there s at h) at q in (h, cc, rw (word-there s at h))
      go (no h) q = let z = rw (word-missing s at (omega arith)) at q in never (cc)

  number_missing : None ≡ found_word (word_at s at) → length s < at + 4
  unfolding found_word
  number_missing q = go (dec_le (at + 4) (length s)) q
    where
      go : Dec (at + 4 ≤ length s) → None ≡ found_word (word_at s at) → length s < at + 4
      go (yes h) q = let z = rw (word-there s at h) at q in never (cc)
      go (no h) q = omega arith

module _ (b : List ℕ) where
  no_flag : None ≡ found_word (word_at b 0) → Err 3 ≡ led (walk lead b 0)
  no_flag q = fault b (lead_is b ∙ rw (lt-leb 4 (length b) (number_missing b 0 q)))

  module _ (f : ℕ) (w : Some f ≡ found_word (word_at b 0)) where
    known : (4 ≤ length b) × (f ≡ le_at 4 b 0) × (behind (word_at b 0) 0 ≡ 4)
    known = number_there b 0 w

    flagged : (f ≡ 0 → ⊥) → Err 14 ≡ led (walk lead b 0)
    flagged q = fault b (lead_is b ∙ rw (le-leb 4 (length b) known.0, ← known.1, ne_eqb f 0 q))

    module _ (q : f ≡ 0) where
      no_size : None ≡ found_word (word_at b (behind (word_at b 0) 0)) → Err 3 ≡ led (walk lead b 0)
      no_size i =
          fault b (lead_is b ∙ rw (le-leb 4 (length b) known.0, ← known.1, eq-eqb f 0 q, lt-leb 8 (length b) (number_missing b 4 (rw known.2 at i))))

      module _ (n : ℕ) (z : Some n ≡ found_word (word_at b (behind (word_at b 0) 0))) where
        size : (8 ≤ length b) × (n ≡ le_at 4 b 4) × (behind (word_at b 4) 4 ≡ 8)
        size = number_there b 4 (rw known.2 at z)

        past : length b < n → Err 15 ≡ led (walk lead b 0)
        past l =
            let t : 8 + (length b - 8) < n = omega (arith, size.0) in
            fault b
            (lead_is b
            ∙ rw (le-leb 4 (length b) known.0, ← known.1, eq-eqb f 0 q, le-leb 8 (length b) size.0, ← size.1, lt-leb n (8 + (length b - 8)) t))

        there : n ≤ length b → Ok n ≡ led (walk lead b 0)
        there l =
            let t : n ≤ 8 + (length b - 8) = omega (arith, size.0) in
            header b {at = 8}
            (lead_is b
            ∙ rw (le-leb 4 (length b) known.0, ← known.1, eq-eqb f 0 q, le-leb 8 (length b) size.0, ← size.1, le-leb n (8 + (length b - 8)) t))

-- the flag is read at the start of the block, and the size behind it
first : (c : After-read_u32) → c.read_u32.result ≡ found_word (word_at c.args.b.now 0)
first c = rw (c.new-c.ensures.0, c.new-c.ensures.1) at c.read_u32.ensures.number

second : (c : After-read_u32-2) → c.read_u32-2.result ≡ found_word (word_at c.args.b.now (behind (word_at c.args.b.now 0) 0))
second c =
    rw (c.read_u32.ensures.block, c.read_u32.ensures.place, c.new-c.ensures.0, c.new-c.ensures.1) at c.read_u32-2.ensures.number

pub returns-in_err-flag : goal.returns-in_err-flag
returns-in_err-flag c =
    let p = none_was _ _ c.in_err-flag.ensures.value in
    handed _ _ c.from_residual.ensures.1 (rw p.1 (no_flag _ (sym p.0 ∙ first (goal.at.returns-in_err-flag c).After-read_u32)))

pub returns-then-flag-ne0 : goal.returns-then-flag-ne0
returns-then-flag-ne0 c =
    let p = there_was _ _ c.in_ok-flag.ensures.value in
    flagged _ _ (sym p ∙ first (goal.at.returns-then-flag-ne0 c).After-read_u32) c.if-flag-ne0.true

pub returns-in_err-size : goal.returns-in_err-size
returns-in_err-size c =
    let p = there_was _ _ c.in_ok-flag.ensures.value in
    let r = none_was _ _ c.in_err-size.ensures.value in
    let v = goal.at.returns-in_err-size c in
    handed _ _ c.from_residual-in_err-size.ensures.1
    (rw r.1 (no_size _ _ (sym p ∙ first v.After-read_u32) c.if-flag-ne0.false (sym r.0 ∙ second v.After-read_u32-2)))

pub returns-then-b-size : goal.returns-then-b-size
returns-then-b-size c =
    let p = there_was _ _ c.in_ok-flag.ensures.value in
    let r = there_was _ _ c.in_ok-size.ensures.value in
    let v = goal.at.returns-then-b-size c in
    past _ _ (sym p ∙ first v.After-read_u32) c.if-flag-ne0.false _ (sym r ∙ second v.After-read_u32-2) c.if-b-size.true

pub returns : goal.returns
returns c =
    let p = there_was _ _ c.in_ok-flag.ensures.value in
    let r = there_was _ _ c.in_ok-size.ensures.value in
    let v = goal.at.returns c in
    there _ _ (sym p ∙ first v.After-read_u32) c.if-flag-ne0.false _ (sym r ∙ second v.After-read_u32-2) c.if-b-size.false
