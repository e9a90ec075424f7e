-- What holds of whatever a reading gives, shown along the reading's own steps. Assumes nothing.
use Rattle.std.specs.Prelude.{◌≡◌, refl, Bool, true, false, ℕ, zero, suc, ◌+◌, ◌%◌, ◌^◌, leb, take, drop}
use mathlib.Core.List.{List, [], ◌∷◌}
use Rattle.std.proofs.Common.{arith}
use Rattle.std.proofs.Math.ListN.{length}
use Rattle.base.specs.Never.{never}
use Rattle.base.specs.Choose.{choose}
use Rattle.base.specs.Reading.{Out, refused, gives, Reading, give, refuse, bytes, part, pass, left, here, run, ◌>>=◌, ◌>>◌, ask, onto, rows, rows_on}

-- refused is not given
pub refused-gives : {A B : Type 0} {a : A} {q : ℕ} → refused q ≡ gives a → B
refused-gives e = never (cc)

module _ {A : Type 0} (P : A → Type 0) where
  -- P holds of each value that the reading can give, whatever the bytes are
  abbrev pub Gives : Reading A → Type 0
  Gives (give a) = P a
  Gives (refuse e) = Unit {0}
  Gives (bytes n f) = (l : List ℕ) → Gives (f l)
  Gives (part k f) = (x : ℕ) → Gives (f x)
  Gives (pass n p) = Gives p
  Gives (left f) = (n : ℕ) → Gives (f n)
  Gives (here f) = (n : ℕ) → Gives (f n)

  choose-gives : (b : Bool) (o : Out A) {a : A} → (o ≡ gives a → P a) → choose b (λ _. o) (λ _. refused 3) ≡ gives a → P a
  choose-gives true o f e = f e
  choose-gives false o f e = refused-gives e

  -- so it holds of what a run gives
  pub gives-run : (p : Reading A) → Gives p → (at : ℕ) (s : List ℕ) {a : A} → run p at s ≡ gives a → P a
  gives-run (give b) g at s {a} e = let h : b ≡ a = cc in rw h at g
  gives-run (refuse n) g at s e = refused-gives e
  gives-run (bytes n f) g at s e =
      choose-gives (leb n (length s)) (run (f (take n s)) (at + n) (drop n s)) (gives-run (f (take n s)) (g (take n s)) (at + n) (drop n s)) e
  gives-run (part k f) g at [] e = refused-gives e
  gives-run (part k f) g at (x ∷ s) e = gives-run (f (x % 2 ^ k)) (g (x % 2 ^ k)) (at + 1) s e
  gives-run (pass n p) g at s e = choose-gives (leb n (length s)) (run p (at + n) (drop n s)) (gives-run p g (at + n) (drop n s)) e
  gives-run (left f) g at s e = gives-run (f (length s)) (g (length s)) at s e
  gives-run (here f) g at s e = gives-run (f at) (g at) at s e

  -- behind a question that was answered yes
  pub gives-ask : (b : Bool) (q : ℕ) (k : Reading A) → (b ≡ true → Gives k) → Gives (ask b q >> k)
  gives-ask true q k h = h refl
  gives-ask false q k h = tt

-- one reading after another: what the first gives holds in the second
module _ {A B : Type 0} (P : A → Type 0) (Q : B → Type 0) where
  pub gives_bind : (p : Reading A) (k : A → Reading B) → Gives P p → ((a : A) → P a → Gives Q (k a)) → Gives Q (p >>= k)
  gives_bind (give a) k g h = h a g
  gives_bind (refuse e) k g h = tt
  gives_bind (bytes n f) k g h = λ l. gives_bind (f l) k (g l) h
  gives_bind (part j f) k g h = λ x. gives_bind (f x) k (g x) h
  gives_bind (pass n p) k g h = gives_bind p k g h
  gives_bind (left f) k g h = λ n. gives_bind (f n) k (g n) h
  gives_bind (here f) k g h = λ n. gives_bind (f n) k (g n) h

-- what follows from it
module _ {A : Type 0} (P Q : A → Type 0) where
  pub gives_weaken : (p : Reading A) → ((a : A) → P a → Q a) → Gives P p → Gives Q p
  gives_weaken (give a) f g = f a g
  gives_weaken (refuse e) f g = tt
  gives_weaken (bytes n k) f g = λ l. gives_weaken (k l) f (g l)
  gives_weaken (part j k) f g = λ x. gives_weaken (k x) f (g x)
  gives_weaken (pass n p) f g = gives_weaken p f g
  gives_weaken (left k) f g = λ n. gives_weaken (k n) f (g n)
  gives_weaken (here k) f g = λ n. gives_weaken (k n) f (g n)

module _ {A : Type 0} where
  -- of any reading
  pub gives_any : (p : Reading A) → Gives (λ a. Unit {0}) p
  gives_any (give a) = tt
  gives_any (refuse e) = tt
  gives_any (bytes n f) = λ l. gives_any (f l)
  gives_any (part k f) = λ x. gives_any (f x)
  gives_any (pass n p) = gives_any p
  gives_any (left f) = λ n. gives_any (f n)
  gives_any (here f) = λ n. gives_any (f n)

  pub length-onto : (d l : List A) → length (onto d l) ≡ length d + length l
  length-onto [] l = omega arith
  length-onto (x ∷ d) l = rw (length-onto d (x ∷ l)) (omega arith)

  rows_on-length : (p : Reading A) (n : ℕ) (done : List A) → Gives (λ l. length l ≡ length done + n) (rows_on done n p)
  rows_on-length p zero done = length-onto done []
  rows_on-length p (suc n) done = gives_bind (λ a. Unit {0}) (λ l. length l ≡ length done + suc n) p (λ x. rows_on (x ∷ done) n p) (gives_any p)
      (λ x u. gives_weaken (λ l. length l ≡ length (x ∷ done) + n) (λ l. length l ≡ length done + suc n) (rows_on (x ∷ done) n p) (λ l e. omega arith)
      (rows_on-length p n (x ∷ done)))

  -- n records are n
  pub rows-length : (p : Reading A) (n : ℕ) → Gives (λ l. length l ≡ n) (rows n p)
  unfolding rows
  rows-length p n = gives_weaken (λ l. length l ≡ 0 + n) (λ l. length l ≡ n) (rows_on [] n p) (λ l e. omega arith) (rows_on-length p n [])
