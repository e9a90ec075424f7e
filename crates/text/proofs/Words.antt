-- A word read from a place and written to the same place of a buffer. Assumes nothing.
use mathlib.Core.Path.{◌≡◌, ◌∙◌}
use mathlib.Core.List.{List}
use Prim.Native.Nat.{ℕ, ◌+◌, ◌-◌, ◌≤◌}
use native.Mathlib.Omega.{arith}
use lib.ListN.{length, take, drop, length-drop}
use lib.Seq.{length-take-le, take-take, paste}
use borrow.Rule.Slice.PartMut.{put_mid}
use Rattle.std.proofs.lemmas.Slice.{put_mid-paste}

-- the k bytes of s from a place on were stored at the same place of o
pub pasted-word : (k : ℕ) (s o v : List ℕ) (at : ℕ) → v ≡ take k (drop at s) → at + k ≤ length s → at + k ≤ length o
    → put_mid at (at + k - at) o v ≡ paste o at (drop at s) k
pasted-word k s o v at e h l =
    let n : length (take k (drop at s)) ≡ k = length-take-le k (drop at s) (simp length-drop (omega arith)) in
    put_mid-paste at (at + k - at) o v (take k (drop at s)) k e (omega arith) (omega (arith, n)) ∙ rw (take-take k k (drop at s) (omega arith))
