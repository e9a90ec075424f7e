-- CityHash64 v1.1 (google/cityhash, city.cc; the constants are document 01's), function by function, on lists of bytes.
-- `s` is the text from where the C++ pointer stands. Assumes nothing.
use Rattle.std.specs.Prelude.{ℕ, zero, suc, ◌+◌, ◌-◌, ◌*◌, ◌/◌, ◌^◌, cond, List, length, drop, bit_xor, nat_le, nat_lt, slice_index}
use Rattle.base.specs.Number.{le_at}
use Rattle.city.specs.Word.{addw, mulw, rotr, swap}
use Rattle.city.specs.declared.city.Pair.{Pair}
use Rattle.city.specs.declared.city.State.{State}

abbrev pub k0 : ℕ
k0 = 0xc3a5_c85c_97cb_3127

abbrev pub k1 : ℕ
k1 = 0xb492_b66f_be98_f273

abbrev pub k2 : ℕ
k2 = 0x9ae1_6a3b_2f90_404f

abbrev pub k_mul : ℕ
k_mul = 0x9ddf_ea08_eb38_2d69

-- ShiftMix
unfoldable pub shift_mix : ℕ → ℕ
shift_mix x = bit_xor x (x / 2 ^ 47)

-- HashLen16(u, v, mul)
unfoldable pub hash_len16_mul : ℕ → ℕ → ℕ → ℕ
hash_len16_mul u v m = mulw (shift_mix (mulw (bit_xor v (shift_mix (mulw (bit_xor u v) m))) m)) m

-- HashLen16(u, v)
unfoldable pub hash_len16 : ℕ → ℕ → ℕ
hash_len16 u v = hash_len16_mul u v k_mul

-- the multiplier of a text of n bytes
unfoldable pub mul_of : ℕ → ℕ
mul_of n = addw k2 (n * 2)

-- HashLen0to16, by its cases, each of the length n and of what is read: the first, the middle and the last byte;
unfoldable pub hash_bytes : ℕ → ℕ → ℕ → ℕ → ℕ
hash_bytes n a b c =
    let y = a + b * 2 ^ 8 in
    let z = n + c * 2 ^ 2 in
    mulw (shift_mix (bit_xor (mulw y k2) (mulw z k0))) k2

-- the first and the last four bytes;
unfoldable pub hash_halves : ℕ → ℕ → ℕ → ℕ
hash_halves n a b = hash_len16_mul (n + a * 2 ^ 3) b (mul_of n)

-- the first and the last eight
unfoldable pub hash_two : ℕ → ℕ → ℕ → ℕ
hash_two n first b =
    let m = mul_of n in
    let a = addw first k2 in
    let c = addw (mulw (rotr 37 b) m) a in
    let d = mulw (addw (rotr 25 a) b) m in
    hash_len16_mul c d m

unfoldable pub len1to3 : List ℕ → ℕ
len1to3 s = let n = length s in hash_bytes n (slice_index s 0) (slice_index s (n / 2)) (slice_index s (n - 1))

unfoldable pub len4to7 : List ℕ → ℕ
len4to7 s = let n = length s in hash_halves n (le_at 4 s 0) (le_at 4 s (n - 4))

unfoldable pub len8to16 : List ℕ → ℕ
len8to16 s = let n = length s in hash_two n (le_at 8 s 0) (le_at 8 s (n - 8))

unfoldable pub len0to16 : List ℕ → ℕ
len0to16 s = cond (nat_le 8 (length s)) (len8to16 s) (cond (nat_le 4 (length s)) (len4to7 s) (cond (nat_lt 0 (length s)) (len1to3 s) k2))

-- HashLen17to32: what is done with the four words read, the first two, the last and the one before it
unfoldable pub mix4 : ℕ → ℕ → ℕ → ℕ → ℕ → ℕ
mix4 a b c d m = hash_len16_mul (addw (addw (rotr 43 (addw a b)) (rotr 30 c)) d) (addw (addw a (rotr 18 (addw b k2))) c) m

unfoldable pub hash_four : ℕ → ℕ → ℕ → ℕ → ℕ → ℕ
hash_four n a b c d = let m = mul_of n in mix4 (mulw a k1) b (mulw c m) (mulw d k2) m

unfoldable pub len17to32 : List ℕ → ℕ
len17to32 s = let n = length s in hash_four n (le_at 8 s 0) (le_at 8 s 8) (le_at 8 s (n - 8)) (le_at 8 s (n - 16))

-- bswap_64(x * m)
unfoldable pub swap_mul : ℕ → ℕ → ℕ
swap_mul x m = swap 8 (mulw x m)

-- HashLen33to64: what is done with the eight words read
unfoldable pub mix_u : ℕ → ℕ → ℕ → ℕ → ℕ
mix_u a b c g = addw (rotr 43 (addw a g)) (mulw (addw (rotr 30 b) c) 9)

unfoldable pub mix_v : ℕ → ℕ → ℕ → ℕ → ℕ
mix_v a d f g = addw (addw (bit_xor (addw a g) d) f) 1

-- from u and v to w and y, and from these to the hash
unfoldable pub mix_y : ℕ → ℕ → ℕ → ℕ → ℕ → ℕ
mix_y u v g h m = mulw (addw (swap_mul (addw v (addw (swap_mul (addw u v) m) h)) m) g) m

unfoldable pub mix_last : ℕ → ℕ → ℕ → ℕ → ℕ → ℕ → ℕ → ℕ
mix_last x y z b d h m =
    let a = addw (swap 8 (addw (mulw (addw x z) m) y)) b in
    addw (mulw (shift_mix (addw (addw (mulw (addw z a) m) d) h)) m) x

unfoldable pub mix8 : ℕ → ℕ → ℕ → ℕ → ℕ → ℕ → ℕ → ℕ → ℕ → ℕ
mix8 a b c d e f g h m =
    mix_last (addw (rotr 42 (addw e f)) c) (mix_y (mix_u a b c g) (mix_v a d f g) g h m) (addw (addw e f) c) b d h m

unfoldable pub len33to64 : List ℕ → ℕ
len33to64 s =
    let n = length s in
    let m = mul_of n in
    mix8 (mulw (le_at 8 s 0) k2) (le_at 8 s 8) (le_at 8 s (n - 24)) (le_at 8 s (n - 32)) (mulw (le_at 8 s 16) k2) (mulw (le_at 8 s 24) 9) (le_at 8 s (n - 8))
    (mulw (le_at 8 s (n - 16)) m) m

-- ---- more than 64 bytes

-- WeakHashLen32WithSeeds(w, x, y, z, a, b)
unfoldable pub weak32 : ℕ → ℕ → ℕ → ℕ → ℕ → ℕ → Pair
weak32 w x y z a b =
    let a1 = addw a w in
    let b1 = rotr 21 (addw (addw b a1) z) in
    let a2 = addw (addw a1 x) y in
    let b2 = addw b1 (rotr 44 a2) in
    record { first = addw a2 z; second = addw b2 a1 }

-- WeakHashLen32WithSeeds(s + i, a, b)
unfoldable pub weak_at : List ℕ → ℕ → ℕ → ℕ → Pair
weak_at s i a b = weak32 (le_at 8 s i) (le_at 8 s (i + 8)) (le_at 8 s (i + 16)) (le_at 8 s (i + 24)) a b

unfoldable pub next_x : ℕ → ℕ → ℕ → ℕ → ℕ → ℕ
next_x x y v0 w1 f = bit_xor (mulw (rotr 37 (addw (addw (addw x y) v0) f)) k1) w1

unfoldable pub next_y : ℕ → ℕ → ℕ → ℕ → ℕ → ℕ
next_y y v0 v1 f g = addw (mulw (rotr 42 (addw (addw y v1) f)) k1) (addw v0 g)

unfoldable pub next_z : ℕ → ℕ → ℕ
next_z z w0 = mulw (rotr 33 (addw z w0)) k1

unfoldable pub next_v : List ℕ → ℕ → ℕ → ℕ → Pair
next_v s v1 x w0 = weak_at s 0 (mulw v1 k1) (addw x w0)

unfoldable pub next_w : List ℕ → ℕ → ℕ → ℕ → Pair
next_w s z w1 y = weak_at s 32 (addw z w1) (addw y (le_at 8 s 16))

-- one turn of the loop, over the next 64 bytes; x and z change places
unfoldable pub turn : List ℕ → State → State
turn s t =
    let x = next_x t.x t.y t.v.first t.w.second (le_at 8 s 8) in
    let y = next_y t.y t.v.first t.v.second (le_at 8 s 48) (le_at 8 s 40) in
    let z = next_z t.z t.w.first in
    record { x = z; y = y; z = x; v = next_v s t.v.second x t.w.first; w = next_w s z t.w.second y }

unfoldable pub turns : ℕ → List ℕ → State → State
turns zero s t = t
turns (suc k) s t = turns k (drop 64 s) (turn s t)

-- before the first turn: n bytes in all, of which `last` are the last 64 and `first` is the first word
unfoldable pub start : ℕ → List ℕ → ℕ → State
start n last first =
    let x = le_at 8 last 24 in
    let y = addw (le_at 8 last 48) (le_at 8 last 8) in
    let z = hash_len16 (addw (le_at 8 last 16) n) (le_at 8 last 40) in
    record { x = addw (mulw x k1) first; y = y; z = z; v = weak_at last 0 n z; w = weak_at last 32 (addw y k1) x }

-- after the last
unfoldable pub finish : State → ℕ
finish t =
    hash_len16 (addw (addw (hash_len16 t.v.first t.w.first) (mulw (shift_mix t.y) k1)) t.z)
    (addw (hash_len16 t.v.second t.w.second) t.x)

unfoldable pub longer : List ℕ → ℕ
longer s =
    let n = length s in
    finish (turns ((n - 1) / 64) s (start n (drop (n - 64) s) (le_at 8 s 0)))

-- CityHash64
unfoldable pub city_hash64 : List ℕ → ℕ
city_hash64 s = cond (nat_le (length s) 16) (len0to16 s) (cond (nat_le (length s) 32) (len17to32 s) (cond (nat_le (length s) 64) (len33to64 s) (longer s)))
