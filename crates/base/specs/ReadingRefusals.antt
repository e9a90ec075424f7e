-- Which numbers a reading can be refused by, shown along the reading's own steps. Assumes nothing.
use Rattle.std.specs.Prelude.{◌≡◌, Bool, true, false, ◌&&◌, ℕ, zero, suc, ◌+◌, ◌-◌, ◌%◌, ◌^◌, ◌≤◌, T, leb, length, take, drop, get_or}
use Rattle.std.proofs.Math.Path.{refl}
use mathlib.Core.List.{List, [], ◌∷◌}
use Rattle.std.proofs.Common.{arith, leb-true}
use Rattle.base.specs.Choose.{choose, pick}
use Rattle.base.specs.Never.{never}
use Rattle.base.specs.Reading.{Out, refused, Got, bad, got, Reading, give, refuse, bytes, part, pass, left, here, run, walk}
use Rattle.base.specs.Reading.{◌>>=◌, ◌>>◌, number, ask, rows_on, rows, Block, from, run_block}

-- the questions from one number to another
abbrev pub Within : ℕ → ℕ → ℕ → Type 0
Within first last q = (first ≤ q) × (q ≤ last)

-- the same as a test, for numerals
pub within : (first last q : ℕ) → T (leb first q && leb q last) → Within first last q
within first last q t = go (leb first q) (leb q last) refl refl t
  where
    go : (a b : Bool) → leb first q ≡ a → leb q last ≡ b → T (a && b) → Within first last q
    go true true l h t = (leb-true first q l, leb-true q last h)
    go true false l h t = absurd t
    go false b l h t = absurd t

-- the reading asks no other questions; bytes that are not there are 3
pub data Asks {A : Type 0} (first last : ℕ) : Reading A → Type 0 where
  none : {a : A} → Asks first last (give a)
  this : {e : ℕ} → Within first last e → Asks first last (refuse e)
  after : {n : ℕ} {f : List ℕ → Reading A} → ((l : List ℕ) → Asks first last (f l)) → Asks first last (bytes n f)
  bits : {k : ℕ} {f : ℕ → Reading A} → ((x : ℕ) → Asks first last (f x)) → Asks first last (part k f)
  past : {n : ℕ} {p : Reading A} → Asks first last p → Asks first last (pass n p)
  rest : {f : ℕ → Reading A} → ((n : ℕ) → Asks first last (f n)) → Asks first last (left f)
  spot : {f : ℕ → Reading A} → ((n : ℕ) → Asks first last (f n)) → Asks first last (here f)

-- ---- so it is refused by no other number

module _ {A : Type 0} (first last : ℕ) (three : Within first last 3) where
  chosen : {x : Out A} {q : ℕ} (t : Bool) → (x ≡ refused q → Within first last q) → choose t (λ _. x) (λ _. refused 3) ≡ refused q → Within first last q
  chosen true f e = f e
  chosen {q} false f e = let z : 3 ≡ q = cc in rw z at three

  picked : {x : Got A} {q : ℕ} (t : Bool) → (x ≡ bad q → Within first last q) → pick t x (bad 3) ≡ bad q → Within first last q
  picked true f e = f e
  picked {q} false f e = let z : 3 ≡ q = cc in rw z at three

  pub asks-run : {p : Reading A} → Asks first last p → (at : ℕ) (s : List ℕ) {q : ℕ} → run p at s ≡ refused q → Within first last q
  asks-run none at s e = never (cc)
  asks-run (this {e} k) at s {q} h = let z : e ≡ q = cc in rw z at k
  asks-run (after {n} h) at s e = chosen (leb n (length s)) (asks-run (h (take n s)) (at + n) (drop n s)) e
  asks-run (bits h) at [] {q} e = let z : 3 ≡ q = cc in rw z at three
  asks-run (bits {k} h) at (x ∷ s) e = asks-run (h (x % 2 ^ k)) (at + 1) s e
  asks-run (past {n} h) at s e = chosen (leb n (length s)) (asks-run h (at + n) (drop n s)) e
  asks-run (rest h) at s e = asks-run (h (length s)) at s e
  asks-run (spot h) at s e = asks-run (h at) at s e

  pub asks-walk : {p : Reading A} → Asks first last p → (s : List ℕ) (at : ℕ) {q : ℕ} → walk p s at ≡ bad q → Within first last q
  asks-walk none s at e = never (cc)
  asks-walk (this {e} k) s at {q} h = let z : e ≡ q = cc in rw z at k
  asks-walk (after {n} h) s at e = picked (leb (at + n) (length s)) (asks-walk (h (take n (drop at s))) s (at + n)) e
  asks-walk (bits {k} h) s at e = picked (leb (at + 1) (length s)) (asks-walk (h (get_or s at 0 % 2 ^ k)) s (at + 1)) e
  asks-walk (past {n} h) s at e = picked (leb (at + n) (length s)) (asks-walk h s (at + n)) e
  asks-walk (rest h) s at e = asks-walk (h (length s - at)) s at e
  asks-walk (spot h) s at e = asks-walk (h at) s at e

-- nor is a block whose start and rest ask so
module _ {A : Type 0} (first last : ℕ) (three : Within first last 3) (c : Block A) where
  pub asks-block : Asks first last c.start → ((size : ℕ) → Asks first last (c.rest size)) → (b : List ℕ) {q : ℕ} → run_block c b ≡ refused q
      → Within first last q
  unfolding run_block
  asks-block start more b {q} e = go (walk c.start b 0) refl e
    where
      go : (g : Got ℕ) → walk c.start b 0 ≡ g → from c.rest b g ≡ refused q → Within first last q
      go (bad r) w e = let z : r ≡ q = cc in rw z at (asks-walk first last three start b 0 w)
      go (got size at) w e = asks-run first last three (more size) at (drop at (take size b)) e

-- ---- step by step

module _ {A : Type 0} {first last : ℕ} where
  pub asks-question : (t : Bool) (e : ℕ) {k : Reading A} → T (leb first e && leb e last) → Asks first last k → Asks first last (ask t e >> k)
  asks-question true e h j = j
  asks-question false e h j = this (within first last e h)

  pub asks-choose : (t : Bool) {p q : Reading A} → Asks first last p → Asks first last q → Asks first last (choose t (λ _. p) (λ _. q))
  asks-choose true h j = h
  asks-choose false h j = j

  -- among more
  pub asks-more : {more : ℕ} {p : Reading A} → last ≤ more → Asks first last p → Asks first more p
  asks-more l none = none
  asks-more l (this h) = this (h.0, omega arith)
  asks-more l (after h) = after (λ x. asks-more l (h x))
  asks-more l (bits h) = bits (λ x. asks-more l (h x))
  asks-more l (past h) = past (asks-more l h)
  asks-more l (rest h) = rest (λ n. asks-more l (h n))
  asks-more l (spot h) = spot (λ n. asks-more l (h n))

-- a question that is the last; a number
module _ {first last : ℕ} where
  pub asks-last : (t : Bool) (e : ℕ) → T (leb first e && leb e last) → Asks first last (ask t e)
  asks-last true e h = none
  asks-last false e h = this (within first last e h)

  pub asks-number : (n : ℕ) → Asks first last (number n)
  asks-number n = after (λ l. none)

-- one reading after another
module _ {A B : Type 0} {first last : ℕ} where
  pub asks_bind : {p : Reading A} (k : A → Reading B) → Asks first last p → ((a : A) → Asks first last (k a)) → Asks first last (p >>= k)
  asks_bind k (none {a}) j = j a
  asks_bind k (this h) j = this h
  asks_bind k (after h) j = after (λ l. asks_bind k (h l) j)
  asks_bind k (bits h) j = bits (λ x. asks_bind k (h x) j)
  asks_bind k (past h) j = past (asks_bind k h j)
  asks_bind k (rest h) j = rest (λ n. asks_bind k (h n) j)
  asks_bind k (spot h) j = spot (λ n. asks_bind k (h n) j)

module _ {A : Type 0} {first last : ℕ} {p : Reading A} (h : Asks first last p) where
  asks-rows_on : (done : List A) (n : ℕ) → Asks first last (rows_on done n p)
  asks-rows_on done zero = none
  asks-rows_on done (suc n) = asks_bind _ h (λ x. asks-rows_on (x ∷ done) n)

  pub asks-rows : (n : ℕ) → Asks first last (rows n p)
  unfolding rows
  asks-rows n = asks-rows_on [] n
