-- `plain::put_half` meets its contract: the bytes of a word are those that it was read from. Assumes nothing.
use mathlib.Core.Path.{◌≡◌, ◌∙◌}
use mathlib.Core.List.{List, [], ◌∷◌}
use Prim.Native.Nat.{ℕ, ◌+◌, ◌≤◌}
use native.Mathlib.Omega.{arith}
use lib.ListN.{length, take, drop, length-drop}
use lib.Seq.{length-take-le}
use Rattle.std.specs.Int.{w32, to_le_bytes, from_le_bytes}
use Rattle.std.proofs.lemmas.Nat.{le_bytes_4}
use Rattle.base.specs.Number.{le, le_at}
use Rattle.base.specs.NumberLaws.{Bytes, bytes-part, le_at-is}
use Rattle.text.proofs.Words.{pasted-word}
use Rattle.text.proofs.plain.put_half.Goals as goal

-- the number of four bytes
of_four : (l : List ℕ) → length l ≡ 4 → le l ≡ from_le_bytes w32 l
of_four [] n = absurd (omega arith)
of_four (a ∷ []) n = absurd (omega arith)
of_four (a ∷ b ∷ []) n = absurd (omega arith)
of_four (a ∷ b ∷ c ∷ []) n = absurd (omega arith)
of_four (a ∷ b ∷ c ∷ d ∷ []) n = omega arith
of_four (a ∷ b ∷ c ∷ d ∷ e ∷ l) n = absurd (omega arith)

word : (s : List ℕ) (at : ℕ) → Bytes s → at + 4 ≤ length s → to_le_bytes w32 (le_at 4 s at) ≡ take 4 (drop at s)
word s at b h =
    let n : length (take 4 (drop at s)) ≡ 4 = length-take-le 4 (drop at s) (simp length-drop (omega arith)) in
    le_bytes_4 (take 4 (drop at s)) (le_at 4 s at) n (bytes-part 4 at s b) (le_at-is 4 s at ∙ of_four (take 4 (drop at s)) n)

pub returns : goal.returns
returns c =
    let s = c.args.src.now in
    let b : Bytes s = λ i. (c.type_inv.src i).fits in
    let e = rw c.le32.ensures at (c.copy_from_slice.ensures.after ∙ c.to_le_bytes.ensures) in
    pasted-word 4 s c.args.out.now _ c.args.at (e ∙ word s c.args.at b c.requires.0) c.requires.0 c.requires.1
