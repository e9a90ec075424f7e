-- `plain::put_eight` meets its contract: the bytes of a word are those that it was read from. Assumes nothing.
use mathlib.Core.Path.{◌≡◌, ◌∙◌}
use mathlib.Core.List.{List, [], ◌∷◌}
use Prim.Native.Nat.{ℕ, ◌+◌, ◌≤◌}
use native.Mathlib.Omega.{arith}
use lib.ListN.{length, take, drop, length-drop}
use lib.Seq.{length-take-le}
use Rattle.std.specs.Int.{w64, to_le_bytes, from_le_bytes}
use Rattle.std.proofs.lemmas.Nat.{le_bytes_8}
use Rattle.base.specs.Number.{le, le_at}
use Rattle.base.specs.NumberLaws.{Bytes, bytes-part, le_at-is}
use Rattle.text.proofs.Words.{pasted-word}
use Rattle.text.proofs.plain.put_eight.Goals as goal

-- the number of eight bytes
of_eight : (l : List ℕ) → length l ≡ 8 → le l ≡ from_le_bytes w64 l
of_eight [] n = absurd (omega arith)
of_eight (a ∷ []) n = absurd (omega arith)
of_eight (a ∷ b ∷ []) n = absurd (omega arith)
of_eight (a ∷ b ∷ c ∷ []) n = absurd (omega arith)
of_eight (a ∷ b ∷ c ∷ d ∷ []) n = absurd (omega arith)
of_eight (a ∷ b ∷ c ∷ d ∷ e ∷ []) n = absurd (omega arith)
of_eight (a ∷ b ∷ c ∷ d ∷ e ∷ f ∷ []) n = absurd (omega arith)
of_eight (a ∷ b ∷ c ∷ d ∷ e ∷ f ∷ g ∷ []) n = absurd (omega arith)
of_eight (a ∷ b ∷ c ∷ d ∷ e ∷ f ∷ g ∷ h ∷ []) n = omega arith
of_eight (a ∷ b ∷ c ∷ d ∷ e ∷ f ∷ g ∷ h ∷ i ∷ l) n = absurd (omega arith)

word : (s : List ℕ) (at : ℕ) → Bytes s → at + 8 ≤ length s → to_le_bytes w64 (le_at 8 s at) ≡ take 8 (drop at s)
word s at b h =
    let n : length (take 8 (drop at s)) ≡ 8 = length-take-le 8 (drop at s) (simp length-drop (omega arith)) in
    le_bytes_8 (take 8 (drop at s)) (le_at 8 s at) n (bytes-part 8 at s b) (le_at-is 8 s at ∙ of_eight (take 8 (drop at s)) n)

pub returns : goal.returns
returns c =
    let s = c.args.src.now in
    let b : Bytes s = λ i. (c.type_inv.src i).fits in
    let e = rw c.le64.ensures at (c.copy_from_slice.ensures.after ∙ c.to_le_bytes.ensures) in
    pasted-word 8 s c.args.out.now _ c.args.at (e ∙ word s c.args.at b c.requires.0) c.requires.0 c.requires.1
