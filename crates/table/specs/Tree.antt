-- A bucket of the table is a digital search tree: its entries are the nodes, and a search goes left or right by the next bit of its
-- key, so that none takes more than 128 turns, whatever the keys. Assumes nothing.
use Rattle.std.specs.Prelude.{◌≡◌, Bool, true, cond, ℕ, zero, suc, ◌+◌, ◌-◌, ◌*◌, ◌/◌, ◌%◌, ◌^◌, ◌≤◌, ◌<◌, eqb, ltb}
use Rattle.std.specs.Int.Bits.{bit_xor}
use Rattle.city.specs.Word.{mulw}
use Rattle.table.specs.Entries.{key_is}

-- ---- turns: the bits of the key (a, b), those of b from the lowest and then those of a

-- a number halved d times
unfoldable pub halved : ℕ → ℕ → ℕ
halved zero u = u
halved (suc d) u = halved d u / 2

-- what is left after d turns of the half whose bit is next
unfoldable pub rest : ℕ → ℕ → ℕ → ℕ
unfolding halved
rest d a b = cond (ltb d 64) (halved d b) (halved (d - 64) a)

-- the same from what was left a turn before
unfoldable pub next_rest : ℕ → ℕ → ℕ → ℕ
next_rest x d a = cond (eqb d 64) a (x / 2)

-- the side to go to after d turns: 0 left, 1 right
unfoldable pub turn : ℕ → ℕ → ℕ → ℕ
turn d a b = rest d a b % 2

-- the first d turns of two keys are the same
pub record Agree (d a b x y : ℕ) : Type 0 where
  pub same : (e : ℕ) → e < d → turn e a b ≡ turn e x y

-- ---- places

-- where a link stands: the head of a bucket, or a side of an entry. A link is the number of an entry and 1, or 0.
pub data Place : Type 0 where
  head : ℕ → Place
  below : ℕ → ℕ → Place

-- the place is one of n heads, or one of the sides of k entries
abbrev pub In : ℕ → ℕ → Place → Type 0
In n k (head h) = h < n
In n k (below i s) = (i < k) × (s < 2)

-- the bucket of a key: that it is below n is all that counts
unfoldable pub bucket : ℕ → ℕ → ℕ → ℕ
bucket n a b = mulw (bit_xor b (mulw a 0x9e37_79b9_7f4a_7c15)) 0x9e37_79b9_7f4a_7c15 / 2 ^ 32 * n / 2 ^ 32

-- ---- a search for (a, b)

-- it ends at a link that is none, or whose entry has the key
unfoldable pub stops : (ℕ → ℕ) → (ℕ → ℕ) → ℕ → ℕ → ℕ → Bool
stops lo hi a b zero = true
stops lo hi a b (suc i) = key_is lo hi a b i

-- the place where it ends that is at place p after d turns and has f left
unfoldable pub walk : (Place → ℕ) → (ℕ → ℕ) → (ℕ → ℕ) → ℕ → ℕ → ℕ → ℕ → Place → Place
walk link lo hi a b zero d p = p
walk link lo hi a b (suc f) d p = cond (stops lo hi a b (link p)) p (walk link lo hi a b f (d + 1) (below (link p - 1) (turn d a b)))

unfoldable pub spot : ℕ → (Place → ℕ) → (ℕ → ℕ) → (ℕ → ℕ) → ℕ → ℕ → Place
spot n link lo hi a b = walk link lo hi a b 128 0 (head (bucket n a b))

-- it comes by a place after d turns: by a head at once, by a side of an entry one turn after the entry, with whose key its own
-- agrees in all turns before, and then turns to that side
pub data At (depth lo hi : ℕ → ℕ) (n k a b d : ℕ) : Place → Type 0 where
  top : {h : ℕ} → h < n → d ≡ 0 → At depth lo hi n k a b d (head h)
  side : {i s : ℕ} → i < k → s < 2 → d ≡ depth i + 1 → Agree (depth i) (lo i) (hi i) a b → turn (depth i) a b ≡ s → At depth lo hi n k a b d (below i s)

-- ---- a tree of k entries in n buckets

pub record Tree (depth lo hi : ℕ → ℕ) (link : Place → ℕ) (n k : ℕ) : Type 0 where
  pub some : 0 < k → 0 < n
  pub fits : (i : ℕ) → i < k → (lo i < 2 ^ 64) × (hi i < 2 ^ 64)
  -- a link leads to an entry, at a place by which a search for its own key comes after as many turns as it is deep
  pub right : (p : Place) → In n k p → 0 < link p
      → (link p ≤ k) × At depth lo hi n k (lo (link p - 1)) (hi (link p - 1)) (depth (link p - 1)) p
  -- each entry is found by its own key
  pub finds : (j : ℕ) → j < k → link (spot n link lo hi (lo j) (hi j)) ≡ j + 1
