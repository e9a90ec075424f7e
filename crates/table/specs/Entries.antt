-- Entries by number: lo i and hi i are the halves of entry i's key. What a look-up answers, and the first key that stands twice.
-- Assumes nothing.
use Rattle.std.specs.Prelude.{◌≡◌, Bool, cond, ◌&&◌, ℕ, zero, suc, ◌+◌, ◌<◌, eqb, ltb}

-- entry i has the key (a, b)
unfoldable pub key_is : (ℕ → ℕ) → (ℕ → ℕ) → ℕ → ℕ → ℕ → Bool
key_is lo hi a b i = eqb (lo i) a && eqb (hi i) b

-- one more than the number of the last of the first k entries that has the key (a, b), or 0
unfoldable pub find : (ℕ → ℕ) → (ℕ → ℕ) → ℕ → ℕ → ℕ → ℕ
find lo hi a b zero = 0
find lo hi a b (suc k) = cond (key_is lo hi a b k) (suc k) (find lo hi a b k)

-- no two of the first k entries have one key
pub record Distinct (lo hi : ℕ → ℕ) (k : ℕ) : Type 0 where
  pub apart : (i j : ℕ) → i < j → j < k → lo i ≡ lo j → hi i ≡ hi j → ⊥

-- an entry before entry i has its key
unfoldable pub repeats : (ℕ → ℕ) → (ℕ → ℕ) → ℕ → Bool
repeats lo hi i = ltb 0 (find lo hi (lo i) (hi i) i)

-- the least of the k numbers from i on that passes a test, or i + k
unfoldable pub first : (ℕ → Bool) → ℕ → ℕ → ℕ
first p i zero = i
first p i (suc k) = cond (p i) i (first p (i + 1) k)

-- the number of the first of k entries whose key an earlier one has, or k
unfoldable pub first_repeat : (ℕ → ℕ) → (ℕ → ℕ) → ℕ → ℕ
first_repeat lo hi k = first (repeats lo hi) 0 k
