-- Laws of the hash: of the few bytes or words of a short text, and of a text that is read 64 bytes at a time. Assumes nothing.
use Rattle.std.specs.Prelude.{◌≡◌, ℕ, zero, suc, ◌+◌, ◌-◌, ◌*◌, ◌/◌, ◌<◌, ◌≤◌, List, ◌++◌, length, take, drop, slice_index, refl}
use Rattle.std.proofs.Common.{sym, ap, ◌∙◌, zero-add, not-suc-le-zero, sub-one, arith, lit≤, drop-drop, length-append, take_at, drop_at, take-take, length-take-le}
use borrow.Author.Tests.{le-leb, lt-leb, lt-ltb}
use Rattle.base.specs.Number.{le_at}
use Rattle.base.specs.NumberLaws.{le_at-part, drop-take}
use Rattle.city.specs.City.{k2, hash_bytes, hash_halves, hash_two, hash_four, len1to3, len4to7, len8to16, len0to16, len17to32}
use Rattle.city.specs.City.{weak_at, next_v, next_w, turn, turns, start, finish, longer, city_hash64}
use Rattle.city.specs.declared.city.State.{State}

-- ---- up to 32 bytes, of what is read of them

module _ (s : List ℕ) (n : ℕ) (e : length s ≡ n) where
  pub none_is : n ≡ 0 → city_hash64 s ≡ k2
  unfolding city_hash64 len0to16
  none_is z = rw (e, z)

  pub bytes-is : 0 < n → n < 4 → city_hash64 s ≡ hash_bytes n (slice_index s 0) (slice_index s (n / 2)) (slice_index s (n - 1))
  unfolding city_hash64 len0to16 len1to3
  bytes-is a b = rw (e, le-leb n 16 (omega arith), lt-leb 8 n (omega arith), lt-leb 4 n b, lt-ltb 0 n a)

  pub halves-is : 4 ≤ n → n < 8 → city_hash64 s ≡ hash_halves n (le_at 4 s 0) (le_at 4 s (n - 4))
  unfolding city_hash64 len0to16 len4to7
  halves-is a b = rw (e, le-leb n 16 (omega arith), lt-leb 8 n b, le-leb 4 n a)

  pub two_is : 8 ≤ n → n ≤ 16 → city_hash64 s ≡ hash_two n (le_at 8 s 0) (le_at 8 s (n - 8))
  unfolding city_hash64 len0to16 len8to16
  two_is a b = rw (e, le-leb n 16 b, le-leb 8 n a)

  pub four_is : 16 < n → n ≤ 32 → city_hash64 s ≡ hash_four n (le_at 8 s 0) (le_at 8 s 8) (le_at 8 s (n - 8)) (le_at 8 s (n - 16))
  unfolding city_hash64 len17to32
  four_is a b = rw (e, lt-leb n 16 a, le-leb n 32 b)

-- ---- 64 bytes at a time

module _ (s : List ℕ) where
  -- the words within the first 64 bytes
  word-front : (i : ℕ) → i + 8 ≤ 64 → le_at 8 (take 64 s) i ≡ le_at 8 s i
  word-front i h = le_at-part 8 0 64 s i h ∙ ap (le_at 8 s) (zero-add i)

  weak_front : (i a b : ℕ) → i + 32 ≤ 64 → weak_at (take 64 s) i a b ≡ weak_at s i a b
  unfolding weak_at
  weak_front i a b h =
      rw (
        word-front i (omega arith),
        word-front (i + 8) (omega arith),
        word-front (i + 16) (omega arith),
        word-front (i + 24) (omega arith),
      )

  -- a turn reads the first 64 bytes alone
  pub turn-front : (t : State) → turn (take 64 s) t ≡ turn s t
  unfolding turn next_v next_w
  turn-front t =
      rw (
        word-front 8 (lit≤ tt),
        word-front 16 (lit≤ tt),
        word-front 40 (lit≤ tt),
        word-front 48 (lit≤ tt),
        weak_front 0 _ _ (lit≤ tt),
        weak_front 32 _ _ (lit≤ tt),
      )

  pub start-front : (n first : ℕ) → start n (take 64 s) first ≡ start n s first
  unfolding start
  start-front n first =
      rw (
        word-front 8 (lit≤ tt),
        word-front 16 (lit≤ tt),
        word-front 24 (lit≤ tt),
        word-front 40 (lit≤ tt),
        word-front 48 (lit≤ tt),
        weak_front 0 _ _ (lit≤ tt),
        weak_front 32 _ _ (lit≤ tt),
      )

-- one turn, and the rest
pub turns-step : (k : ℕ) (s : List ℕ) (t : State) → turns (suc k) s t ≡ turns k (drop 64 s) (turn (take 64 s) t)
unfolding turns
turns-step k s t = ap (turns k (drop 64 s)) (sym (turn-front s t))

-- the same from a place on, as a loop that counts k down has it
pub turns_at : (k : ℕ) (s : List ℕ) (at : ℕ) (t : State) → 0 < k → turns k (drop at s) t ≡ turns (k - 1) (drop (at + 64) s) (turn (take 64 (drop at s)) t)
turns_at zero s at t h = absurd (not-suc-le-zero h)
turns_at (suc k) s at t h = rw (turns-step k (drop at s) t, drop-drop 64 at s, sub-one (suc k))

pub turns_end : (k : ℕ) (s : List ℕ) (t : State) → k ≤ 0 → turns k s t ≡ t
unfolding turns
turns_end zero s t h = refl
turns_end (suc k) s t h = absurd (not-suc-le-zero h)

-- the same over a text that is cut into chunks of 64 bytes: the turn over the first, and the rest
pub turns_chunk : (x s : List ℕ) (t : State) → length x ≡ 64 → turns (length (x ++ s) / 64) (x ++ s) t ≡ turns (length s / 64) s (turn x t)
turns_chunk x s t h =
    let e : length (x ++ s) / 64 ≡ suc (length s / 64) = rw (length-append x s) (omega arith) in
    rw (e, turns-step (length s / 64) (x ++ s) t, take_at x s 64 h, drop_at x s 64 h)

-- turns read no more than 64 bytes each
pub turns_take : (k m : ℕ) (s : List ℕ) (t : State) → k * 64 ≤ m → turns k (take m s) t ≡ turns k s t
turns_take zero m s t h = turns_end 0 (take m s) t (omega arith) ∙ sym (turns_end 0 s t (omega arith))
turns_take (suc k) m s t h =
    let l : 64 ≤ m = omega arith in
    rw (turns-step k (take m s) t, turns-step k s t, take-take 64 m s l, drop-take 64 m s, turns_take k (m - 64) (drop 64 s) (turn (take 64 s) t) (omega arith))

-- all turns over a text, where those over the whole chunks of all its bytes but the last are done and less than a chunk is left
pub turns_done : (s all rest : List ℕ) (t before : State) → all ≡ take (length s - 1) s → length rest < 64
    → turns (length rest / 64) rest t ≡ turns (length all / 64) all before → t ≡ turns ((length s - 1) / 64) s before
turns_done s all rest t before e l h =
    let none : length rest / 64 ≤ 0 = omega arith in
    let n : length all ≡ length s - 1 = rw e (length-take-le (length s - 1) s (omega arith)) in
    sym (turns_end (length rest / 64) rest t none) ∙ (h ∙ rw (n, e) (turns_take ((length s - 1) / 64) (length s - 1) s before (omega arith)))

-- the hash of more than 64 bytes: of its last 64, its first word and the turns
pub long-is : (s : List ℕ) → 64 < length s
    → city_hash64 s ≡ finish (turns ((length s - 1) / 64) s (start (length s) (take 64 (drop (length s - 64) s)) (le_at 8 s 0)))
unfolding city_hash64 longer
long-is s h =
    rw (
      lt-leb (length s) 16 (omega arith),
      lt-leb (length s) 32 (omega arith),
      lt-leb (length s) 64 h,
      start-front (drop (length s - 64) s) (length s) (le_at 8 s 0),
    )
