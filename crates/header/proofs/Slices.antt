-- Records that stand in a slice of their own: as many as it has room for, each as it stands in the whole. Assumes nothing.
use mathlib.Core.Path.{◌≡◌, refl}
use mathlib.Core.List.{List}
use Prim.Native.Nat.{ℕ, zero, suc, ◌+◌, ◌*◌, ◌-◌, ◌/◌, ◌≤◌}
use native.Mathlib.Nat.{mul-suc, add-zero}
use native.Mathlib.Omega.{arith}
use lib.ListN.{length, take, drop, length-drop}
use lib.Seq.{length-take-le}
use Rattle.base.specs.Number.{be_at}
use Rattle.base.specs.NumberLaws.{be_at-part}
use Rattle.base.specs.ReadingRows.{cells}
use Rattle.header.specs.Places.{export_in}

module _ {A : Type 0} (f : List ℕ → ℕ → A) (size : ℕ) (s : List ℕ) (a m : ℕ) (same : (i : ℕ) → i + size ≤ m → f (take m (drop a s)) i ≡ f s (a + i)) where
  cells_in : (n i : ℕ) → i + size * n ≤ m → cells (f (take m (drop a s))) size i n ≡ cells (f s) size (a + i) n
  cells_in zero i h = refl
  cells_in (suc n) i h =
      let k : size * suc n ≡ size + size * n = rw (mul-suc size n) (omega arith) in
      let e : a + (i + size) ≡ a + i + size = omega arith in
      rw (same i (omega arith), cells_in n (i + size) (omega arith), e)

module _ (s : List ℕ) (a n : ℕ) where
  pub hashes-in : a + 8 * n ≤ length s
      → cells (be_at 8 (take (a + 8 * n - a) (drop a s))) 8 0 (length (take (a + 8 * n - a) (drop a s)) / 8) ≡ cells (be_at 8 s) 8 a n
  hashes-in h =
      let m : a + 8 * n - a ≡ 8 * n = omega arith in
      let l : length (take (8 * n) (drop a s)) ≡ 8 * n = length-take-le (8 * n) (drop a s) (omega (arith, length-drop a s)) in
      let k : length (take (8 * n) (drop a s)) / 8 ≡ n = omega arith in
      rw (m, k, cells_in (be_at 8) 8 s a (8 * n) (be_at-part 8 a (8 * n) s) n 0 (omega arith), add-zero a)

export_same : (s : List ℕ) (a m i : ℕ) → i + 40 ≤ m → export_in (take m (drop a s)) i ≡ export_in s (a + i)
unfolding export_in
export_same s a m i h =
    let e : (k : ℕ) → a + (i + k) ≡ a + i + k = λ k. omega arith in
    rw (
      be_at-part 4 a m s i (omega arith),
      be_at-part 4 a m s (i + 4) (omega arith),
      be_at-part 8 a m s (i + 8) (omega arith),
      be_at-part 8 a m s (i + 16) (omega arith),
      be_at-part 8 a m s (i + 24) (omega arith),
      be_at-part 8 a m s (i + 32) (omega arith),
      e 4,
      e 8,
      e 16,
      e 24,
      e 32,
    )

module _ (s : List ℕ) (a n : ℕ) where
  pub exports-in : a + 40 * n ≤ length s
      → cells (export_in (take (a + 40 * n - a) (drop a s))) 40 0 (length (take (a + 40 * n - a) (drop a s)) / 40) ≡ cells (export_in s) 40 a n
  exports-in h =
      let m : a + 40 * n - a ≡ 40 * n = omega arith in
      let l : length (take (40 * n) (drop a s)) ≡ 40 * n = length-take-le (40 * n) (drop a s) (omega (arith, length-drop a s)) in
      let k : length (take (40 * n) (drop a s)) / 40 ≡ n = omega arith in
      rw (m, k, cells_in export_in 40 s a (40 * n) (export_same s a (40 * n)) n 0 (omega arith), add-zero a)
