-- Laws of `Wrote`: nothing written, one byte more, a piece more through a part of the buffer. Assumes nothing.
use Rattle.std.specs.Prelude.{◌≡◌, refl, List, [], ◌∷◌, ◌++◌, ℕ, suc, ◌+◌, ◌-◌, ◌%◌, ◌^◌, ◌≤◌, ◌<◌, length, set, get_or, take, drop}
use Rattle.std.proofs.Common.{ap, sym, ◌∙◌, append_assoc, append-nil, zero-add, add-one, arith, length-append, length-drop, length-take, drop_of_length-le, take-add, take-take, take_at, drop_at, drop-drop, take_all, drop-cons, take-suc, length-take-le}
use Rattle.std.proofs.Math.Seq.{paste}
use Rattle.std.proofs.lemmas.List.{take-append-le, set_at}
use Rattle.std.proofs.lemmas.List.Edits.{sets, sets-eq}
use Rattle.base.specs.Number.{be_at, be_bytes}
use Rattle.base.specs.NumberLaws.{length-be_bytes, be-be_bytes}
use Rattle.base.specs.Output.{over, Wrote}

-- what was written is in front, and what stood after it is still there
pub take-over : (s a : List ℕ) (n : ℕ) → length a ≡ n → take n (over s a) ≡ a
unfolding over
take-over s a n e = take_at a _ n e

pub drop-over : (s a : List ℕ) (n : ℕ) → length a ≡ n → drop n (over s a) ≡ drop n s
unfolding over
drop-over s a n e = drop_at a _ n e ∙ ap (λ (k : ℕ). drop k s) e

-- to write a and b is to write a, and b to the rest
pub over_append : (s a b : List ℕ) (n : ℕ) → length a ≡ n → over s (a ++ b) ≡ a ++ over (drop n s) b
unfolding over
over_append s a b n e = rw (← e, append_assoc, length-append, drop-drop)

pub wrote_none : (s : List ℕ) → Wrote s [] s 0
unfolding over
wrote_none s = record { size = refl; fits = omega arith; is = refl }

-- the buffer keeps its length
pub wrote-length : {s a o : List ℕ} {n : ℕ} → Wrote s a o n → length o ≡ length s
unfolding over
wrote-length {s} {a} {o} {n} w = rw w.is (simp (length-append, length-drop) (omega arith))

-- the front of the buffer is what was written
pub wrote-taken : {s a o : List ℕ} {n : ℕ} → Wrote s a o n → take n o ≡ a
wrote-taken {s} {a} {o} {n} w = ap (take n) w.is ∙ take-over s a n (sym w.size)

pub taken-length : {s a o : List ℕ} {n : ℕ} → Wrote s a o n → n ≡ length (take n o)
taken-length w = w.size ∙ ap length (sym (wrote-taken w))

-- the bytes, said in another way
pub wrote_as : {s a b o : List ℕ} {n : ℕ} → Wrote s a o n → a ≡ b → Wrote s b o n
wrote_as w e = record { size = rw (← e) w.size; fits = w.fits; is = rw (← e) w.is }

-- v was stored at n
pub wrote-byte : {s a o : List ℕ} {n : ℕ} → Wrote s a o n → n < length s → (v : ℕ) → Wrote s (a ++ v ∷ []) (set o n v) (n + 1)
unfolding over
wrote-byte {s} {a} {o} {n} w h v = record {
  size = simp length-append (omega arith);
  fits = omega arith;
  is = rw (w.is, over_append s a (v ∷ []) n (sym w.size), ← w.size, drop-cons s n 0 h, set_at a (get_or s n 0) (drop (suc n) s) v n (sym w.size));
}

-- byte n of x was stored at n
pub wrote-copy : {s o : List ℕ} {n : ℕ} (x : List ℕ) → Wrote s (take n x) o n → n < length x → n < length s
    → Wrote s (take (n + 1) x) (set o n (get_or x n 0)) (n + 1)
wrote-copy {s} {o} {n} x w h l = wrote_as (wrote-byte w l (get_or x n 0)) (rw (add-one, take-suc x n 0 h))

-- bytes of x were stored from k on, over some that were
pub wrote-paste : {s o : List ℕ} {n : ℕ} (x : List ℕ) (k m : ℕ) → Wrote s (take n x) o n → k ≤ n → n ≤ k + m → k + m ≤ length x → k + m ≤ length s
    → Wrote s (take (k + m) x) (paste o k (drop k x) m) (k + m)
unfolding over
wrote-paste {s} {o} {n} x k m w h l f g =
    let e : length (take n x) ≡ n = sym w.size in
    let d : n + (k + m - n) ≡ k + m = omega arith in
    let front : take k o ≡ take k x = rw w.is (take-append-le k (take n x) _ (omega arith) ∙ take-take k n x h) in
    let rest : drop (k + m) o ≡ drop (k + m) s =
    rw (← d, ← drop-drop (k + m - n) n o, ← drop-drop (k + m - n) n s, w.is, drop-over s (take n x) n e) in
    record {
      size = sym (length-take-le (k + m) x f);
      fits = g;
      is = rw (front, rest, length-take-le (k + m) x f, take-add k m x);
    }

-- b was written to the part `&mut out[n..]`, which has come back: the list is as the borrow checker leaves it
pub wrote-rest : {s a o b p : List ℕ} {n m : ℕ} → Wrote s a o n → Wrote (take (length o - n) (drop n o)) b p m
    → Wrote s (a ++ b) (take n o ++ (p ++ drop (length o - n) (drop n o))) (n + m)
wrote-rest {s} {a} {o} {b} {p} {n} {m} w v =
    let l : length o ≡ length s = wrote-length w in
    let e : length a ≡ n = sym w.size in
    let short : length (drop n s) ≤ length o - n = simp length-drop (omega arith) in
    let room : m ≤ length (take (length o - n) (drop n o)) = v.fits in
    record {
      size = simp length-append (omega arith);
      fits = omega (arith, simp (length-take, length-drop) at room);
      is =
          rw (
            v.is,
            w.is,
            take-over s a n e,
            drop-over s a n e,
            ← w.is,
            take_all (length o - n) (drop n s) short,
            drop_of_length-le (drop n s) short,
            append-nil,
            over_append s a b n e,
          );
    }

-- the part `&mut out[n..]` has room for what the whole has room for after n
pub wrote-room : {s a o : List ℕ} {n : ℕ} → Wrote s a o n → (m : ℕ) → n + m ≤ length s → m ≤ length (take (length o - n) (drop n o))
wrote-room {s} {a} {o} {n} w m h =
    let l : length o ≡ length s = wrote-length w in
    simp (length-take, length-drop) (omega arith)

-- vs was stored byte by byte at the fixed places 0, 1, ..
pub wrote-sets : (s vs : List ℕ) → length vs ≤ length s → Wrote s vs (sets s 0 vs) (length vs)
unfolding over
wrote-sets s vs h = record { size = refl; fits = h; is = sets-eq vs s 0 (omega arith) ∙ rw zero-add }

-- the same, where the bytes are said in another way
pub wrote_stores : {s b vs : List ℕ} → b ≡ vs → length b ≤ length s → Wrote s b (sets s 0 vs) (length vs)
wrote_stores {s} {b} {vs} e h = wrote_as (wrote-sets s vs (omega (arith, ap length e))) (sym e)

-- b was written to the part `&mut out[k..]` first, and then a, of k bytes, to the front
pub wrote-front : {s a b p o : List ℕ} {k m : ℕ} → Wrote (take (length s - k) (drop k s)) b p m → k ≤ length s
    → Wrote (take k s ++ (p ++ drop (length s - k) (drop k s))) a o k → Wrote s (a ++ b) o (k + m)
unfolding over
wrote-front {s} {a} {b} {p} {o} {k} {m} v h w =
    let short : length (drop k s) ≤ length s - k = simp length-drop (omega arith) in
    let room : m ≤ length (take (length s - k) (drop k s)) = v.fits in
    let e : length (take k s) ≡ k = length-take-le k s h in
    record {
      size = simp length-append (omega arith);
      fits = omega (arith, simp (length-take, length-drop) at room);
      is =
          w.is ∙ rw (
            ← w.size,
            drop_at (take k s) (p ++ drop (length s - k) (drop k s)) k e,
            drop_of_length-le (drop k s) short,
            append-nil,
            v.is,
            take_all (length s - k) (drop k s) short,
            append_assoc,
            length-append,
            ← w.size,
            drop-drop,
          );
    }

-- the number of bytes, said in another way
pub wrote_count : {s a o : List ℕ} {n m : ℕ} → Wrote s a o n → n ≡ m → Wrote s a o m
wrote_count w e = record { size = rw (← e) w.size; fits = rw (← e) w.fits; is = w.is }

-- after a, the part `&mut out[n..]` has room for b where the buffer has room for both
pub next-room : (s a b o : List ℕ) (n : ℕ) → Wrote s a o n → length (a ++ b) ≤ length s → length b ≤ length (take (length o - n) (drop n o))
next-room s a b o n w h = wrote-room w _ (omega (arith, length-append a b))

-- what is in front of something that fits, fits
pub front_fits : (x y : List ℕ) (n : ℕ) → length (x ++ y) ≤ n → length x ≤ n
front_fits x y n h = omega (arith, length-append x y)

-- a number that was written reads back, as far as k bytes hold it
pub wrote-be : (k x : ℕ) {s o : List ℕ} {n : ℕ} → Wrote s (be_bytes k x) o n → be_at k o 0 ≡ x % 256 ^ k
unfolding be_at
wrote-be k x {s} {o} w = rw (w.is, take-over s (be_bytes k x) k (length-be_bytes k x), be-be_bytes k x)

-- b was copied to the first n bytes
pub wrote_front_copy : (s b p : List ℕ) (n : ℕ) → p ≡ b → length b ≡ n → n ≤ length s → Wrote s b (p ++ drop n s) n
unfolding over
wrote_front_copy s b p n e l h = record { size = sym l; fits = h; is = rw (e, l) }
