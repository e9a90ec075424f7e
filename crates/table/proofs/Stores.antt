-- A number stored byte by byte, by halves, and as the bytes that the machine makes of it. Assumes nothing.
use mathlib.Core.Path.{◌≡◌, refl, ap₂, ◌∙◌}
use mathlib.Core.List.{List, ◌∷◌, ◌++◌, append_assoc}
use Prim.Native.Nat.{ℕ, zero, suc, ◌+◌, ◌*◌, ◌/◌, ◌%◌, ◌^◌, ◌≤◌, ◌<◌}
use native.Mathlib.Nat.{pow-suc, zero-add, suc-add, mul_comm, one-le-pow, zero-lt-suc, mod-lt, div-one, div-div-eq-div-mul}
use native.Mathlib.Omega.{arith}
use lib.ListN.{length, take, drop, length-append}
use lib.Seq.{sets, sets-eq, take_at, drop_at, drop-drop, length-take-le}
use lib.Arith.{mod-mul, digits_div, digits_mod}
use borrow.Rule.Slice.PartMut.{put_mid}
use Rattle.std.specs.Int.{byte_at, bytes_low_first}
use Rattle.base.specs.Number.{le_bytes}
use Rattle.base.specs.NumberLaws.{length-le_bytes}
use Rattle.table.specs.Words.{stored}

-- byte by byte
pub stored-sets : (k : ℕ) (w : List ℕ) (at v : ℕ) → at + k ≤ length w → sets w at (le_bytes k v) ≡ stored k w at v
unfolding stored
stored-sets k w at v h =
    let l = length-le_bytes k v in
    sets-eq (le_bytes k v) w at (omega arith) ∙ rw (l, drop-drop k at w, append_assoc)

pow256 : (k : ℕ) → zero < 256 ^ k
pow256 k = one-le-pow k 256 (zero-lt-suc 255)

-- only the k low bytes count
bytes_mod : (k v : ℕ) → le_bytes k (v % 256 ^ k) ≡ le_bytes k v
unfolding le_bytes
bytes_mod zero v = refl
bytes_mod (suc k) v =
    let e : v % 256 ^ suc k ≡ v / 256 % 256 ^ k * 256 + v % 256 = rw (pow-suc 256 k) (mod-mul v (pow256 k) (zero-lt-suc 255)) in
    rw (e, digits_mod (v / 256 % 256 ^ k) (mod-lt v (zero-lt-suc 255)), digits_div (v / 256 % 256 ^ k) (mod-lt v (zero-lt-suc 255)), bytes_mod k (v / 256))

-- the k low bytes and then the m above them
bytes-add : (k m v : ℕ) → le_bytes (k + m) v ≡ le_bytes k v ++ le_bytes m (v / 256 ^ k)
unfolding le_bytes
bytes-add zero m v = rw (zero-add m, div-one v)
bytes-add (suc k) m v = rw (suc-add k m, le_bytes, bytes-add k m (v / 256), div-div-eq-div-mul v 256 (256 ^ k), pow-suc 256 k, mul_comm 256 (256 ^ k))

-- the low part and then the high part
pub stored-parts : (k m : ℕ) (w : List ℕ) (at v : ℕ) → at + (k + m) ≤ length w
    → stored m (stored k w at (v % 256 ^ k)) (at + k) (v / 256 ^ k) ≡ stored (k + m) w at v
unfolding stored
stored-parts k m w at v h =
    let x = le_bytes k v in
    let r = drop k (drop at w) in
    let room : at + k ≤ length w = omega arith in
    let l : length (take at w ++ x) ≡ at + k = simp length-append (omega (arith, length-take-le at w (omega arith), length-le_bytes k v)) in
    rw (
      bytes_mod k v,
      ← append_assoc (take at w) x r,
      take_at (take at w ++ x) r (at + k) l,
      drop_at (take at w ++ x) r (at + k) l,
      drop-drop m k (drop at w),
      bytes-add k m v,
    ) (simp append_assoc)

digit : (i v : ℕ) → byte_at i v ≡ v / 256 ^ i % 256
digit zero v = rw (div-one v)
digit (suc i) v = refl

-- k bytes of v from byte i on
low-first : (i k v : ℕ) → bytes_low_first i k v ≡ le_bytes k (v / 256 ^ i)
unfolding le_bytes
low-first i zero v = refl
low-first i (suc k) v =
    let e : v / 256 ^ suc i ≡ v / 256 ^ i / 256 = rw (div-div-eq-div-mul v (256 ^ i) 256, pow-suc 256 i, mul_comm (256 ^ i) 256) in
    ap₂ (λ (x : ℕ) (l : List ℕ). x ∷ l) (digit i v) (low-first (suc i) k v ∙ rw e)

-- the machine's bytes are those of the number
pub machine_bytes : (k v : ℕ) → bytes_low_first 0 k v ≡ le_bytes k v
machine_bytes k v = low-first 0 k v ∙ rw (div-one v)

-- the k bytes ys of v written over a part
pub part-stored : (k : ℕ) (w ys : List ℕ) (at n v : ℕ) → ys ≡ le_bytes k v → n ≡ k → put_mid at n w ys ≡ stored k w at v
unfolding stored
part-stored k w ys at n v p q = rw (p, q)
