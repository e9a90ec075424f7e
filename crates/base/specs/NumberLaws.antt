-- Laws of numbers in bytes, over the width. Assumes nothing.
use Rattle.std.specs.Prelude.{◌≡◌, refl, List, [], ◌∷◌, ◌++◌, ℕ, zero, suc, ◌+◌, ◌*◌, ◌-◌, ◌/◌, ◌%◌, ◌^◌, ◌≤◌, ◌<◌, length, take, drop, get_or}
use Rattle.std.proofs.Common.{sym, ◌∙◌, ap, ap₂, add-zero, zero-add, suc-add, add-suc, add_comm, add_assoc, mul_comm, mul_assoc, add-mul, pow-suc, zero-lt-suc, lt_of_lt_of_le, mod-lt, div-one, arith, length-append, length-drop, length-take, take-take, take-add, drop-drop, get_or-drop, length-take-le, pow-add}
use Rattle.std.proofs.Math.Nat.{pow-succ', one-le-pow, pow-le-pow_right, mod-one, div-div-eq-div-mul}
use Rattle.std.proofs.Math.Seq.{take-nil}
use Rattle.std.proofs.Math.Arith.{digits_lt, digits_div, digits_mod, mod-mul}
use Rattle.base.specs.Number.{le, be, le_at, be_at, be_bytes, le_bytes}

-- every element is a byte
abbrev pub Bytes : List ℕ → Type 0
Bytes s = (i : ℕ) → get_or s i 0 < 256

-- ---- a part of a list

-- a part after n of the first m
pub drop-take : (n m : ℕ) (b : List ℕ) → drop n (take m b) ≡ take (m - n) (drop n b)
drop-take zero m b = let e : m - 0 ≡ m = omega arith in rw e
drop-take (suc n) zero b = let e : 0 - suc n ≡ 0 = omega arith in rw e
drop-take (suc n) (suc m) [] = sym (take-nil (suc m - suc n))
drop-take (suc n) (suc m) (x ∷ b) = let e : suc m - suc n ≡ m - n = omega arith in rw e (drop-take n m b)

bytes_take : (k : ℕ) (s : List ℕ) → Bytes s → Bytes (take k s)
bytes_take zero s b i = zero-lt-suc 255
bytes_take (suc k) [] b i = zero-lt-suc 255
bytes_take (suc k) (x ∷ s) b zero = b zero
bytes_take (suc k) (x ∷ s) b (suc i) = bytes_take k s (λ j. b (suc j)) i

-- the elements of a part are bytes
pub bytes-part : (k a : ℕ) (s : List ℕ) → Bytes s → Bytes (take k (drop a s))
bytes-part k a s b = bytes_take k (drop a s) (λ i. rw (get_or-drop a s i 0) (b (a + i)))

-- ---- a read

-- the number at a place is that of the bytes from there on, as readings take them
pub le_at-is : (k : ℕ) (s : List ℕ) (at : ℕ) → le_at k s at ≡ le (take k (drop at s))
unfolding le_at
le_at-is k s at = refl

-- the same, big-endian
pub be_at-is : (k : ℕ) (s : List ℕ) (at : ℕ) → be_at k s at ≡ be (take k (drop at s))
unfolding be_at
be_at-is k s at = refl

-- only the bytes read count
pub le_at-same : (k : ℕ) (s t : List ℕ) (a b : ℕ) → take k (drop a s) ≡ take k (drop b t) → le_at k s a ≡ le_at k t b
unfolding le_at
le_at-same k s t a b e = ap le e

-- the same, big-endian
pub be_at-same : (k : ℕ) (s t : List ℕ) (a b : ℕ) → take k (drop a s) ≡ take k (drop b t) → be_at k s a ≡ be_at k t b
unfolding be_at
be_at-same k s t a b e = ap be e

part-drop : (k a : ℕ) (s : List ℕ) (i : ℕ) → take k (drop i (drop a s)) ≡ take k (drop (a + i) s)
part-drop k a s i = rw (drop-drop i a s)

part-part : (k a m : ℕ) (s : List ℕ) (i : ℕ) → i + k ≤ m → take k (drop i (take m (drop a s))) ≡ take k (drop (a + i) s)
part-part k a m s i h =
    let l : k ≤ m - i = omega arith in
    rw (drop-take i m (drop a s), take-take k (m - i) (drop i (drop a s)) l, drop-drop i a s)

-- a read in what is left after a
pub le_at-drop : (k a : ℕ) (s : List ℕ) (i : ℕ) → le_at k (drop a s) i ≡ le_at k s (a + i)
le_at-drop k a s i = le_at-same k (drop a s) s i (a + i) (part-drop k a s i)

-- the same, big-endian
pub be_at-drop : (k a : ℕ) (s : List ℕ) (i : ℕ) → be_at k (drop a s) i ≡ be_at k s (a + i)
be_at-drop k a s i = be_at-same k (drop a s) s i (a + i) (part-drop k a s i)

-- a read in a part that has an end
pub le_at-part : (k a m : ℕ) (s : List ℕ) (i : ℕ) → i + k ≤ m → le_at k (take m (drop a s)) i ≡ le_at k s (a + i)
le_at-part k a m s i h = le_at-same k (take m (drop a s)) s i (a + i) (part-part k a m s i h)

-- the same, big-endian
pub be_at-part : (k a m : ℕ) (s : List ℕ) (i : ℕ) → i + k ≤ m → be_at k (take m (drop a s)) i ≡ be_at k s (a + i)
be_at-part k a m s i h = be_at-same k (take m (drop a s)) s i (a + i) (part-part k a m s i h)

-- ---- bounds

le-lt : (l : List ℕ) → Bytes l → le l < 256 ^ length l
le-lt [] b = zero-lt-suc 0
le-lt (x ∷ l) b = rw (pow-succ' 256 (length l)) (omega (arith, b zero, le-lt l (λ i. b (suc i))))

pub be-lt : (l : List ℕ) → Bytes l → be l < 256 ^ length l
be-lt [] b = zero-lt-suc 0
be-lt (x ∷ l) b = rw (pow-succ' 256 (length l)) (digits_lt (b zero) (be-lt l (λ i. b (suc i))))

short : (k : ℕ) (l : List ℕ) → 256 ^ length (take k l) ≤ 256 ^ k
short k l = pow-le-pow_right (zero-lt-suc 255) (simp length-take (omega arith))

-- k bytes make less than 256 ^ k
pub le_at-lt : (k : ℕ) (s : List ℕ) (at : ℕ) → Bytes s → le_at k s at < 256 ^ k
unfolding le_at
le_at-lt k s at b = lt_of_lt_of_le (le-lt (take k (drop at s)) (bytes-part k at s b)) (short k (drop at s))

-- the same, big-endian
pub be_at-lt : (k : ℕ) (s : List ℕ) (at : ℕ) → Bytes s → be_at k s at < 256 ^ k
unfolding be_at
be_at-lt k s at b = lt_of_lt_of_le (be-lt (take k (drop at s)) (bytes-part k at s b)) (short k (drop at s))

-- ---- bytes and then more bytes

-- two lists, little-endian: the second counts from where the first ends
pub le_append : (l m : List ℕ) → le (l ++ m) ≡ le l + 256 ^ length l * le m
le_append [] m = omega arith
le_append (x ∷ l) m = rw (le_append l m, pow-suc 256 (length l)) (omega arith)

-- two lists, big-endian
pub be_append : (l m : List ℕ) → be (l ++ m) ≡ be l * 256 ^ length m + be m
be_append [] m = omega arith
be_append (x ∷ l) m = rw (be_append l m, length-append l m, pow-add 256 (length l) (length m)) (simp (add-mul, mul_assoc, add_assoc))

part_length : (n : ℕ) (s : List ℕ) (at : ℕ) → at + n ≤ length s → length (take n (drop at s)) ≡ n
part_length n s at h = length-take-le n (drop at s) (simp length-drop (omega arith))

-- n bytes and then m
pub le_at-add : (n m : ℕ) (s : List ℕ) (at : ℕ) → at + n ≤ length s → le_at (n + m) s at ≡ le_at n s at + 256 ^ n * le_at m s (at + n)
unfolding le_at
le_at-add n m s at h = rw (take-add n m (drop at s), drop-drop n at s, le_append, part_length n s at h)

-- the same, big-endian; here the m bytes have to be there too
pub be_at-add : (n m : ℕ) (s : List ℕ) (at : ℕ) → at + (n + m) ≤ length s → be_at (n + m) s at ≡ be_at n s at * 256 ^ m + be_at m s (at + n)
unfolding be_at
be_at-add n m s at h =
    let l : at + n + m ≤ length s = omega arith in
    rw (take-add n m (drop at s), drop-drop n at s, be_append, part_length m s (at + n) l)

first : (s : List ℕ) (at : ℕ) → get_or (drop at s) 0 0 ≡ get_or s at 0
first s at = get_or-drop at s 0 0 ∙ rw (add-zero at)

le-first : (l : List ℕ) → le (take 1 l) ≡ get_or l 0 0
le-first [] = refl
le-first (x ∷ l) = omega arith

be-first : (l : List ℕ) → be (take 1 l) ≡ get_or l 0 0
be-first [] = refl
be-first (x ∷ l) = omega arith

-- one byte
pub le_at-one : (s : List ℕ) (at : ℕ) → le_at 1 s at ≡ get_or s at 0
unfolding le_at
le_at-one s at = le-first (drop at s) ∙ first s at

-- the same, big-endian
pub be_at-one : (s : List ℕ) (at : ℕ) → be_at 1 s at ≡ get_or s at 0
unfolding be_at
be_at-one s at = be-first (drop at s) ∙ first s at

-- two bytes, written out
pub le_at_2 : (s : List ℕ) (at : ℕ) → at + 2 ≤ length s → le_at 2 s at ≡ get_or s at 0 + 256 * get_or s (at + 1) 0
le_at_2 s at h = le_at-add 1 1 s at (omega arith) ∙ rw (le_at-one s at, le_at-one s (at + 1))

-- the same, big-endian
pub be_at_2 : (s : List ℕ) (at : ℕ) → at + 2 ≤ length s → be_at 2 s at ≡ get_or s at 0 * 256 + get_or s (at + 1) 0
be_at_2 s at h = be_at-add 1 1 s at (omega arith) ∙ rw (be_at-one s at, be_at-one s (at + 1))

-- four bytes, written out
pub le_at_4 : (s : List ℕ) (at : ℕ) → at + 4 ≤ length s
    → le_at 4 s at ≡ get_or s at 0 + get_or s (at + 1) 0 * 256 + get_or s (at + 2) 0 * 256 ^ 2 + get_or s (at + 3) 0 * 256 ^ 3
le_at_4 s at h = le_at-add 2 2 s at (omega arith) ∙ rw (le_at_2 s at (omega arith), le_at_2 s (at + 2) (omega arith), add_assoc at 2 1) (omega arith)

-- the same, big-endian
pub be_at_4 : (s : List ℕ) (at : ℕ) → at + 4 ≤ length s
    → be_at 4 s at ≡ get_or s (at + 3) 0 + get_or s (at + 2) 0 * 256 + get_or s (at + 1) 0 * 256 ^ 2 + get_or s at 0 * 256 ^ 3
be_at_4 s at h = be_at-add 2 2 s at (omega arith) ∙ rw (be_at_2 s at (omega arith), be_at_2 s (at + 2) (omega arith), add_assoc at 2 1) (omega arith)

-- ---- bytes of a number

-- there are k of them
pub length-be_bytes : (k x : ℕ) → length (be_bytes k x) ≡ k
unfolding be_bytes
length-be_bytes zero x = refl
length-be_bytes (suc k) x = ap suc (length-be_bytes k x)

-- each is a byte
pub be_bytes-bytes : (k x : ℕ) → Bytes (be_bytes k x)
unfolding be_bytes
be_bytes-bytes zero x i = zero-lt-suc 255
be_bytes-bytes (suc k) x zero = mod-lt (x / 256 ^ k) (zero-lt-suc 255)
be_bytes-bytes (suc k) x (suc i) = be_bytes-bytes k x i

pow256 : (k : ℕ) → zero < 256 ^ k
pow256 k = one-le-pow k 256 (zero-lt-suc 255)

-- the bytes of x read back as x, as far as k bytes hold it
pub be-be_bytes : (k x : ℕ) → be (be_bytes k x) ≡ x % 256 ^ k
unfolding be_bytes
be-be_bytes zero x = sym (mod-one x)
be-be_bytes (suc k) x = rw (length-be_bytes k x, be-be_bytes k x, pow-succ' 256 k, mod-mul x (zero-lt-suc 255) (pow256 k))

-- the k high bytes of k + m and then the m low ones
pub be_bytes-add : (k m x : ℕ) → be_bytes (k + m) x ≡ be_bytes k (x / 256 ^ m) ++ be_bytes m x
unfolding be_bytes
be_bytes-add zero m x = ap (λ (n : ℕ). be_bytes n x) (zero-add m)
be_bytes-add (suc k) m x =
    ap (λ (n : ℕ). be_bytes n x) (suc-add k m)
    ∙ ap₂ (λ (n : ℕ) (r : List ℕ). n % 256 ∷ r)
    (ap (λ (n : ℕ). x / n) (pow-add 256 k m ∙ mul_comm (256 ^ k) (256 ^ m)) ∙ sym (div-div-eq-div-mul x (256 ^ m) (256 ^ k)))
    (be_bytes-add k m x)

-- byte k is not changed by a remainder that keeps it
digit_mod : (k e x : ℕ) → x % 256 ^ (suc k + e) / 256 ^ k % 256 ≡ x / 256 ^ k % 256
digit_mod k e x =
    ap (λ (n : ℕ). x % n / 256 ^ k % 256) (ap (λ (n : ℕ). 256 ^ n) (suc-add k e ∙ ap suc (add_comm k e) ∙ sym (suc-add e k)) ∙ pow-add 256 (suc e) k)
    ∙ ap (λ (n : ℕ). n / 256 ^ k % 256) (mod-mul x (pow256 (suc e)) (pow256 k))
    ∙ ap (λ (n : ℕ). n % 256) (digits_div (x / 256 ^ k % 256 ^ suc e) (mod-lt x (pow256 k)))
    ∙ ap (λ (n : ℕ). x / 256 ^ k % n % 256) (pow-suc 256 e)
    ∙ ap (λ (n : ℕ). n % 256) (mod-mul (x / 256 ^ k) (pow256 e) (pow256 1))
    ∙ digits_mod (x / 256 ^ k / 256 % 256 ^ e) (mod-lt (x / 256 ^ k) (pow256 1))

be_bytes_mod_add : (k e x : ℕ) → be_bytes k (x % 256 ^ (k + e)) ≡ be_bytes k x
unfolding be_bytes
be_bytes_mod_add zero e x = refl
be_bytes_mod_add (suc k) e x =
    ap₂ (λ (n : ℕ) (r : List ℕ). n ∷ r) (digit_mod k e x)
    (ap (λ (n : ℕ). be_bytes k (x % 256 ^ n)) (suc-add k e ∙ sym (add-suc k e)) ∙ be_bytes_mod_add k (suc e) x)

-- only the k low bytes count
pub be_bytes_mod : (k x : ℕ) → be_bytes k (x % 256 ^ k) ≡ be_bytes k x
be_bytes_mod k x = ap (λ (n : ℕ). be_bytes k (x % 256 ^ n)) (sym (add-zero k)) ∙ be_bytes_mod_add k 0 x

-- the bytes of the high part and then those of the low part
pub be_bytes-parts : (k m x : ℕ) → be_bytes (k + m) x ≡ be_bytes k (x / 256 ^ m) ++ be_bytes m (x % 256 ^ m)
be_bytes-parts k m x = be_bytes-add k m x ∙ rw (be_bytes_mod m x)

-- one byte
pub be_bytes-one : (x : ℕ) → be_bytes 1 x ≡ x % 256 ∷ []
unfolding be_bytes
be_bytes-one x = rw (div-one x)

-- four bytes, written out
pub be_bytes_4 : (x : ℕ) → be_bytes 4 x ≡ x / 16777216 % 256 ∷ x / 65536 % 256 ∷ x / 256 % 256 ∷ x % 256 ∷ []
unfolding be_bytes
be_bytes_4 x = rw (div-one x)

-- ---- the same, little-endian

-- there are k of them
pub length-le_bytes : (k x : ℕ) → length (le_bytes k x) ≡ k
unfolding le_bytes
length-le_bytes zero x = refl
length-le_bytes (suc k) x = ap suc (length-le_bytes k (x / 256))

-- each is a byte
pub le_bytes-bytes : (k x : ℕ) → Bytes (le_bytes k x)
unfolding le_bytes
le_bytes-bytes zero x i = zero-lt-suc 255
le_bytes-bytes (suc k) x zero = mod-lt x (zero-lt-suc 255)
le_bytes-bytes (suc k) x (suc i) = le_bytes-bytes k (x / 256) i

-- the bytes of x read back as x, as far as k bytes hold it
pub le-le_bytes : (k x : ℕ) → le (le_bytes k x) ≡ x % 256 ^ k
unfolding le_bytes
le-le_bytes zero x = sym (mod-one x)
le-le_bytes (suc k) x = rw (le-le_bytes k (x / 256), pow-suc 256 k, mod-mul x (pow256 k) (zero-lt-suc 255)) (omega arith)
