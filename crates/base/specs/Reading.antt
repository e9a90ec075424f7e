-- A reading of bytes as a program of reads. What it passes over stands in it as `pass` and `part`, and nowhere else. Assumes nothing.
use Rattle.std.specs.Prelude.{List, [], ◌∷◌, Bool, true, false, ℕ, zero, suc, ◌+◌, ◌*◌, ◌-◌, ◌%◌, ◌^◌, length, take, drop, get_or, leb}
use Rattle.base.specs.Choose.{choose, pick}
use Rattle.base.specs.Number.{le}

pub data Out (A : Type 0) : Type 0 where
  refused : ℕ → Out A
  gives : A → Out A

-- by position: what is read, and where the reading stands then
pub data Got (A : Type 0) : Type 0 where
  bad : ℕ → Got A
  got : A → ℕ → Got A

pub data Reading (A : Type 0) : Type 0 where
  give : A → Reading A
  refuse : ℕ → Reading A
  -- the next n bytes
  bytes : ℕ → (List ℕ → Reading A) → Reading A
  -- the next byte, of which only the low k bits count
  part : ℕ → (ℕ → Reading A) → Reading A
  -- n bytes passed over
  pass : ℕ → Reading A → Reading A
  -- the number of bytes left
  left : (ℕ → Reading A) → Reading A
  -- the number of bytes before this place
  here : (ℕ → Reading A) → Reading A

module _ {A : Type 0} where
  -- THE MEANING: front to back, at the number of bytes before
  abbrev pub run : Reading A → ℕ → List ℕ → Out A
  run (give a) at s = gives a
  run (refuse e) at s = refused e
  run (bytes n f) at s = choose (leb n (length s)) (λ _. run (f (take n s)) (at + n) (drop n s)) (λ _. refused 3)
  run (part k f) at [] = refused 3
  run (part k f) at (x ∷ s) = run (f (x % 2 ^ k)) (at + 1) s
  run (pass n p) at s = choose (leb n (length s)) (λ _. run p (at + n) (drop n s)) (λ _. refused 3)
  run (left f) at s = run (f (length s)) at s
  run (here f) at s = run (f at) at s

  -- the same by position, for code
  abbrev pub walk : Reading A → List ℕ → ℕ → Got A
  walk (give a) s at = got a at
  walk (refuse e) s at = bad e
  walk (bytes n f) s at = pick (leb (at + n) (length s)) (walk (f (take n (drop at s))) s (at + n)) (bad 3)
  walk (part k f) s at = pick (leb (at + 1) (length s)) (walk (f (get_or s at 0 % 2 ^ k)) s (at + 1)) (bad 3)
  walk (pass n p) s at = pick (leb (at + n) (length s)) (walk p s (at + n)) (bad 3)
  walk (left f) s at = walk (f (length s - at)) s at
  walk (here f) s at = walk (f at) s at

-- one reading after another
module _ {A B : Type 0} where
  infixl 20 ◌>>=◌
  infixl 20 ◌>>◌
  abbrev pub ◌>>=◌ : Reading A → (A → Reading B) → Reading B
  ◌>>=◌ (give a) k = k a
  ◌>>=◌ (refuse e) k = refuse e
  ◌>>=◌ (bytes n f) k = bytes n (λ x. f x >>= k)
  ◌>>=◌ (part j f) k = part j (λ x. f x >>= k)
  ◌>>=◌ (pass n p) k = pass n (p >>= k)
  ◌>>=◌ (left f) k = left (λ n. f n >>= k)
  ◌>>=◌ (here f) k = here (λ n. f n >>= k)

  abbrev pub ◌>>◌ : Reading A → Reading B → Reading B
  ◌>>◌ p q = p >>= (λ a. q)

abbrev pub taken : ℕ → Reading (List ℕ)
taken n = bytes n (λ l. give l)

abbrev pub over-bytes : ℕ → Reading (Unit {0})
over-bytes n = pass n (give tt)

abbrev pub bytes_left : Reading ℕ
bytes_left = left (λ n. give n)

abbrev pub place : Reading ℕ
place = here (λ n. give n)

abbrev pub number : ℕ → Reading ℕ
number n = bytes n (λ l. give (le l))

-- a mapped name's index: 30 bits count
abbrev pub u30 : Reading ℕ
u30 = bytes 3 (λ l. part 6 (λ d. give (le l + 16777216 * d)))

-- `ask b e`: question b, refused by e where it fails
abbrev pub ask : Bool → ℕ → Reading (Unit {0})
ask true e = give tt
ask false e = refuse e

module _ {A : Type 0} where
  abbrev pub onto : List A → List A → List A
  onto [] l = l
  onto (x ∷ d) l = onto d (x ∷ l)

  -- n records, one after another (those done, the last first)
  abbrev pub rows_on : List A → ℕ → Reading A → Reading (List A)
  rows_on done zero p = give (onto done [])
  rows_on done (suc n) p = p >>= (λ x. rows_on (x ∷ done) n p)

  unfoldable pub rows : ℕ → Reading A → Reading (List A)
  rows n p = rows_on [] n p

-- a block whose start says how many of its bytes count: those behind are passed over
pub record Block (A : Type 0) : Type 0 where
  pub start : Reading ℕ
  pub rest : ℕ → Reading A

module _ {A : Type 0} where
  abbrev pub from : (ℕ → Reading A) → List ℕ → Got ℕ → Out A
  from k b (bad r) = refused r
  from k b (got size at) = run (k size) at (drop at (take size b))

  unfoldable pub run_block : Block A → List ℕ → Out A
  run_block c b = from c.rest b (walk c.start b 0)
