-- The block by its first questions (3, 14 and 15), and what is read of it: the header alone.
use Rattle.std.specs.Prelude.{◌≡◌, ℕ, ◌+◌, ◌-◌, ◌≤◌, ◌<◌, leb, eqb, length, take}
use Rattle.std.proofs.Common.{sym, ◌∙◌, arith, leb-true, lit≤}
use Rattle.std.proofs.Math.Path.{ap}
use mathlib.Core.List.{List, [], ◌∷◌}
use Rattle.std.proofs.Math.ListN.{drop, length-take, drop_of_length-le}
use Rattle.base.specs.Choose.{pick}
use Rattle.base.specs.Reading.{refused, Got, bad, got, run_block, walk}
use Rattle.base.specs.ReadingLaws.{pick-by, ask-is, pick_cong, out, run-walk, then-bad, block_read, block_refused}
use Rattle.base.specs.Number.{le, le_at}
use Rattle.base.specs.NumberLaws.{le_at-is}
use Rattle.zen.specs.Zen.{summary, header, lead, package_block}
use Rattle.zen.proofs.SummaryLaws.{summary-short}

-- a block as long as what stands before the summary
abbrev zeros : List ℕ
zeros = 0 ∷ 0 ∷ 0 ∷ 0 ∷ 0 ∷ 0 ∷ 0 ∷ 0 ∷ []

-- the block, by its questions
module _ (b : List ℕ) where
  -- by the flag and the size that are read
  abbrev leads : ℕ → ℕ → Got ℕ
  leads flag size =
      pick (leb 4 (length b)) (pick (eqb flag 0) (pick (leb 8 (length b)) (pick (leb size (8 + (length b - 8))) (got size 8) (bad 15)) (bad 3))
      (bad 14)) (bad 3)

  pub lead_is : walk lead b 0 ≡ leads (le_at 4 b 0) (le_at 4 b 4)
  unfolding lead
  lead_is =
      let flag = le (take 4 b) in
      rw (le_at-is 4 b 0, le_at-is 4 b 4)
      (pick_cong (leb 4 (length b)) (bad 3) λ a.
      ask-is (eqb flag 0) 14 _ b 4 ∙ pick_cong (eqb flag 0) (bad 14) λ c.
      pick_cong (leb 8 (length b)) (bad 3) λ d.
      ask-is (leb (le (take 4 (drop 4 b))) (8 + (length b - 8))) 15 _ b 8)

  -- a header that holds its own size
  pub block-is : {size : ℕ} → walk lead b 0 ≡ got size 8 → 8 ≤ size → size ≤ length b → run_block package_block b ≡ out (walk (header size) (take size b) 8)
  block-is {size} q h l = block_read package_block b q ∙ run-walk (header size) (take size b) 8 (simp length-take (omega arith))

  -- and one that does not
  pub block-low : {size : ℕ} → walk lead b 0 ≡ got size 8 → size < 8 → run_block package_block b ≡ refused 3
  unfolding header
  block-low {size} q h =
      let e : drop 8 (take size b) ≡ [] = drop_of_length-le (take size b) {i = 8} (simp length-take (omega arith)) in
      block_read package_block b q ∙ rw e (run-walk (header size) zeros 8 (lit≤ tt) ∙ ap out (then-bad summary _ zeros 8 (summary-short zeros (lit≤ tt))))

  pub block-bad : {r : ℕ} → walk lead b 0 ≡ bad r → run_block package_block b ≡ refused r
  block-bad q = block_refused package_block b q

-- what was read before the header: its size, which is within the block
pub lead-got : (b : List ℕ) (size at : ℕ) → walk lead b 0 ≡ got size at → (at ≡ 8) × (size ≤ length b) × (size ≡ le_at 4 b 4)
lead-got b size at q =
    pick-by (leb 4 (length b)) _ 3 (sym (lead_is b) ∙ q) λ a r.
    pick-by (eqb (le_at 4 b 0) 0) _ 14 r λ c r.
    pick-by (leb 8 (length b)) _ 3 r λ d r.
    pick-by (leb (le_at 4 b 4) (8 + (length b - 8))) _ 15 r λ e r.
    let d1 = leb-true 8 (length b) d in
    let e1 = leb-true (le_at 4 b 4) (8 + (length b - 8)) e in
    let y : le_at 4 b 4 ≡ size = cc in
    (cc, omega arith, sym y)
