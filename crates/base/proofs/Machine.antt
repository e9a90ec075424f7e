-- Numbers in bytes as `from_le_bytes` and `from_be_bytes` read them and `to_be_bytes` writes them, once for every width. Assumes nothing.
use Rattle.std.specs.Prelude.{◌≡◌, refl, List, ◌∷◌, ℕ, zero, suc, ◌+◌, ◌*◌, ◌-◌, ◌/◌, ◌%◌, ◌^◌, ◌≤◌, length, get_or, take, drop}
use Rattle.std.proofs.Common.{ap₂, ◌∙◌, add-zero, add-one, pow-suc, div-one, arith, length-take, length-drop}
use Rattle.std.specs.Int.{sum_through, byte_worth, byte_at, bytes_high_first}
use Rattle.std.specs.Array.{IsWholeChunk}
use Rattle.base.specs.Number.{le_at, be_at, be_bytes}
use Rattle.base.specs.NumberLaws.{le_at-add, be_at-add, le_at-one, be_at-one, le_at-part, be_at-part}

worth : (i b : ℕ) → byte_worth i b ≡ b * 256 ^ i
worth zero b = omega arith
worth (suc i) b = refl

-- the bytes from a place on, the lowest first
pub le-sum : (k : ℕ) (s : List ℕ) (at : ℕ) → at + suc k ≤ length s → sum_through (λ i. byte_worth i (get_or s (at + i) 0)) k ≡ le_at (suc k) s at
le-sum zero s at h = rw (add-zero at, le_at-one s at)
le-sum (suc k) s at h =
    rw (← add-one (suc k), le_at-add (suc k) 1 s at (omega arith), le_at-one s (at + suc k), le-sum k s at (omega arith)) (omega arith)

-- the first k + 1 of n + 1 bytes, the highest first
first : (k n : ℕ) (s : List ℕ) (at : ℕ) → k ≤ n → at + suc k ≤ length s
    → sum_through (λ i. byte_worth (n - i) (get_or s (at + i) 0)) k ≡ be_at (suc k) s at * 256 ^ (n - k)
first zero n s at l h = rw (add-zero at, be_at-one s at, worth)
first (suc k) n s at l h =
    let e : n - k ≡ suc (n - suc k) = omega arith in
    rw (
      first k n s at (omega arith) (omega arith),
      worth (n - suc k) (get_or s (at + suc k) 0),
      ← add-one (suc k),
      be_at-add (suc k) 1 s at (omega arith),
      be_at-one s (at + suc k),
      e,
      pow-suc 256 (n - suc k),
    )
    (grind arith)

-- the bytes from a place on, the highest first
pub be-sum : (k : ℕ) (s : List ℕ) (at : ℕ) → at + suc k ≤ length s → sum_through (λ i. byte_worth (k - i) (get_or s (at + i) 0)) k ≡ be_at (suc k) s at
be-sum k s at h = let e : k - k ≡ 0 = omega arith in first k k s at (omega arith) h ∙ rw e (omega arith)

-- the bytes of a part, which are all of a list
part-is : (k : ℕ) (s : List ℕ) {l : List ℕ} (at : ℕ) → at + k ≤ length s → IsWholeChunk (take (at + k - at) (drop at s)) l k → l ≡ take k (drop at s)
part-is k s at h w = let e : at + k - at ≡ k = omega arith in rw e at w.same

pub le-part : (k : ℕ) (s : List ℕ) {l : List ℕ} (at : ℕ) → at + suc k ≤ length s → IsWholeChunk (take (at + suc k - at) (drop at s)) l (suc k)
    → sum_through (λ i. byte_worth i (get_or l (0 + i) 0)) k ≡ le_at (suc k) s at
le-part k s {l} at h w =
    let e : l ≡ take (suc k) (drop at s) = part-is (suc k) s at h w in
    let long : 0 + suc k ≤ length l = rw e (simp (length-take, length-drop) (omega arith)) in
    le-sum k l 0 long ∙ rw e (le_at-part (suc k) at (suc k) s 0 (omega arith) ∙ rw add-zero)

pub be-part : (k : ℕ) (s : List ℕ) {l : List ℕ} (at : ℕ) → at + suc k ≤ length s → IsWholeChunk (take (at + suc k - at) (drop at s)) l (suc k)
    → sum_through (λ i. byte_worth (k - i) (get_or l (0 + i) 0)) k ≡ be_at (suc k) s at
be-part k s {l} at h w =
    let e : l ≡ take (suc k) (drop at s) = part-is (suc k) s at h w in
    let long : 0 + suc k ≤ length l = rw e (simp (length-take, length-drop) (omega arith)) in
    be-sum k l 0 long ∙ rw e (be_at-part (suc k) at (suc k) s 0 (omega arith) ∙ rw add-zero)

digit : (k n : ℕ) → byte_at k n ≡ n / 256 ^ k % 256
digit zero n = rw (div-one n)
digit (suc k) n = refl

-- the k low bytes of n
pub high-first : (k n : ℕ) → bytes_high_first k n ≡ be_bytes k n
unfolding be_bytes
high-first zero n = refl
high-first (suc k) n = ap₂ (λ (x : ℕ) (l : List ℕ). x ∷ l) (digit k n) (high-first k n)
