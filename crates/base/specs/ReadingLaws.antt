-- Laws of readings: by position and front to back are one; one reading after another.
use Rattle.std.specs.Prelude.{◌≡◌, refl, List, Bool, true, false, ℕ, ◌+◌, ◌-◌, ◌%◌, ◌^◌, ◌≤◌, ◌<◌, leb, length, take, drop, get_or}
use Rattle.std.proofs.Common.{◌∙◌, ap, arith, add-one, le-leb, leb-true, length-drop, drop_of_length-le, drop-drop, drop-cons}
use Rattle.std.proofs.Math.Path.{fun_ext}
use Rattle.std.proofs.Math.Decide.{dec_le}
use Rattle.std.proofs.lemmas.Bool.{lt-leb}
use Rattle.base.specs.Never.{never}
use Rattle.base.specs.Choose.{pick}
use Rattle.base.specs.Number.{le_at}
use Rattle.base.specs.Reading.{Out, refused, gives, Got, bad, got, Reading, give, refuse, bytes, part, pass, left, here, run, walk, ◌>>=◌, ◌>>◌, number, ask, Block, run_block}

module _ {A B : Type 0} where
  abbrev pub chain : Got A → (A → ℕ → Got B) → Got B
  chain (bad r) k = bad r
  chain (got a n) k = k a n

  chain-pick : (b : Bool) (x y : Got A) (k : A → ℕ → Got B) → pick b (chain x k) (chain y k) ≡ chain (pick b x y) k
  chain-pick true x y k = refl
  chain-pick false x y k = refl

  pub walk_bind : (p : Reading A) (k : A → Reading B) (s : List ℕ) (at : ℕ) → walk (p >>= k) s at ≡ chain (walk p s at) (λ a n. walk (k a) s n)
  walk_bind (give a) k s at = refl
  walk_bind (refuse e) k s at = refl
  walk_bind (bytes n f) k s at =
      rw (walk_bind (f (take n (drop at s))) k s (at + n))
      (chain-pick (leb (at + n) (length s)) (walk (f (take n (drop at s))) s (at + n)) (bad 3) (λ a n. walk (k a) s n))
  walk_bind (part j f) k s at =
      rw (walk_bind (f (get_or s at 0 % 2 ^ j)) k s (at + 1))
      (chain-pick (leb (at + 1) (length s)) (walk (f (get_or s at 0 % 2 ^ j)) s (at + 1)) (bad 3) (λ a n. walk (k a) s n))
  walk_bind (pass n p) k s at = rw (walk_bind p k s (at + n)) (chain-pick (leb (at + n) (length s)) (walk p s (at + n)) (bad 3) (λ a n. walk (k a) s n))
  walk_bind (left f) k s at = walk_bind (f (length s - at)) k s at
  walk_bind (here f) k s at = walk_bind (f at) k s at

  -- one reading that is done, or refused, and then another
  pub then-walk : (p : Reading A) (k : A → Reading B) (s : List ℕ) (at : ℕ) {n : ℕ} {a : A} → walk p s at ≡ got a n → walk (p >>= k) s at ≡ walk (k a) s n
  then-walk p k s at q = walk_bind p k s at ∙ rw q

  pub then-bad : (p : Reading A) (k : A → Reading B) (s : List ℕ) (at : ℕ) {r : ℕ} → walk p s at ≡ bad r → walk (p >>= k) s at ≡ bad r
  then-bad p k s at q = walk_bind p k s at ∙ rw q

module _ {A B C : Type 0} where
  -- three readings, one after another
  pub bind_assoc : (p : Reading A) (f : A → Reading B) (k : B → Reading C) → p >>= f >>= k ≡ p >>= (λ a. f a >>= k)
  bind_assoc (give a) f k = refl
  bind_assoc (refuse e) f k = refl
  bind_assoc (bytes n g) f k = ap (bytes n) (fun_ext (λ l. bind_assoc (g l) f k))
  bind_assoc (part j g) f k = ap (part j) (fun_ext (λ x. bind_assoc (g x) f k))
  bind_assoc (pass n p) f k = ap (pass n) (bind_assoc p f k)
  bind_assoc (left g) f k = ap left (fun_ext (λ n. bind_assoc (g n) f k))
  bind_assoc (here g) f k = ap here (fun_ext (λ n. bind_assoc (g n) f k))

module _ {A : Type 0} where
  abbrev pub out : Got A → Out A
  out (bad r) = refused r
  out (got a n) = gives a

module _ {A : Type 0} where
  -- THE TIE: front to back from a place of s is by position there
  pub run-walk : (p : Reading A) (s : List ℕ) (at : ℕ) → at ≤ length s → run p at (drop at s) ≡ out (walk p s at)
  run-walk (give a) s at h = refl
  run-walk (refuse e) s at h = refl
  run-walk (bytes n f) s at h = go (dec_le (at + n) (length s)) (run-walk (f (take n (drop at s))) s (at + n))
    where
      go : Dec (at + n ≤ length s)
          → (at + n ≤ length s → run (f (take n (drop at s))) (at + n) (drop (at + n) s) ≡ out (walk (f (take n (drop at s))) s (at + n)))
          → run (bytes n f) at (drop at s) ≡ out (walk (bytes n f) s at)
      go (yes y) ih = rw (le-leb (at + n) (length s) y, le-leb n (length (drop at s)) (simp length-drop (omega arith)), drop-drop n at s) (ih y)
      go (no y) ih = rw (lt-leb (at + n) (length s) (omega arith), lt-leb n (length (drop at s)) (simp length-drop (omega arith)))
  run-walk (part k f) s at h = go (dec_le (at + 1) (length s)) (run-walk (f (get_or s at 0 % 2 ^ k)) s (at + 1))
    where
      go : Dec (at + 1 ≤ length s)
          → (at + 1 ≤ length s → run (f (get_or s at 0 % 2 ^ k)) (at + 1) (drop (at + 1) s) ≡ out (walk (f (get_or s at 0 % 2 ^ k)) s (at + 1)))
          → run (part k f) at (drop at s) ≡ out (walk (part k f) s at)
      go (yes y) ih = rw (le-leb (at + 1) (length s) y, drop-cons s at 0 (omega arith), ← add-one at) (ih y)
      go (no y) ih = rw (lt-leb (at + 1) (length s) (omega arith), drop_of_length-le s {i = at} (omega arith))
  run-walk (pass n p) s at h = go (dec_le (at + n) (length s)) (run-walk p s (at + n))
    where
      go : Dec (at + n ≤ length s) → (at + n ≤ length s → run p (at + n) (drop (at + n) s) ≡ out (walk p s (at + n)))
          → run (pass n p) at (drop at s) ≡ out (walk (pass n p) s at)
      go (yes y) ih = rw (le-leb (at + n) (length s) y, le-leb n (length (drop at s)) (simp length-drop (omega arith)), drop-drop n at s) (ih y)
      go (no y) ih = rw (lt-leb (at + n) (length s) (omega arith), lt-leb n (length (drop at s)) (simp length-drop (omega arith)))
  run-walk (left f) s at h = rw (length-drop at s) (run-walk (f (length s - at)) s at h)
  run-walk (here f) s at h = run-walk (f at) s at h

-- what an accepted reading says of its first part, and of the rest
pub bad-got : {A B : Type 0} {a : A} {n r : ℕ} → bad r ≡ got a n → B
bad-got q = never (cc)

module _ {P A B : Type 0} {b : B} {n : ℕ} where
  pub chain_by : (g : Got A) (k : A → ℕ → Got B) → chain g k ≡ got b n → ((a : A) (m : ℕ) → g ≡ got a m → k a m ≡ got b n → P) → P
  chain_by (got a m) k q f = f a m refl q
  chain_by (bad r) k q f = bad-got q

module _ {P B : Type 0} {b : B} {n : ℕ} where
  pub pick-by : (t : Bool) (x : Got B) (r : ℕ) → pick t x (bad r) ≡ got b n → (t ≡ true → x ≡ got b n → P) → P
  pick-by true x r q f = f refl q
  pick-by false x r q f = bad-got q

  pub ask-by : (t : Bool) (r : ℕ) (k : Reading B) (s : List ℕ) (at : ℕ) → walk (ask t r >> k) s at ≡ got b n → (t ≡ true → walk k s at ≡ got b n → P) → P
  ask-by true r k s at q f = f refl q
  ask-by false r k s at q f = bad-got q

module _ {B : Type 0} where
  pub ask-yes : {t : Bool} (r : ℕ) (k : Reading B) (s : List ℕ) (at : ℕ) → t ≡ true → walk (ask t r >> k) s at ≡ walk k s at
  ask-yes r k s at q = rw q

  pub ask_no : {t : Bool} (r : ℕ) (k : Reading B) (s : List ℕ) (at : ℕ) → t ≡ false → walk (ask t r >> k) s at ≡ bad r
  ask_no r k s at q = rw q

module _ {A : Type 0} where
  -- a reading stays within the bytes
  pub walk-within : (p : Reading A) (s : List ℕ) (at : ℕ) {a : A} {m : ℕ} → at ≤ length s → walk p s at ≡ got a m → m ≤ length s
  walk-within (give b) s at {a} {m} h q = let z : at ≡ m = cc in omega arith
  walk-within (refuse e) s at h q = bad-got q
  walk-within (bytes n f) s at h q =
      pick-by (leb (at + n) (length s)) (walk (f (take n (drop at s))) s (at + n)) 3 q λ l r. walk-within (f (take n (drop at s))) s (at + n) (leb-true _ _ l) r
  walk-within (part k f) s at h q =
      pick-by (leb (at + 1) (length s)) (walk (f (get_or s at 0 % 2 ^ k)) s (at + 1)) 3 q λ l r.
      walk-within (f (get_or s at 0 % 2 ^ k)) s (at + 1) (leb-true _ _ l) r
  walk-within (pass n p) s at h q = pick-by (leb (at + n) (length s)) (walk p s (at + n)) 3 q λ l r. walk-within p s (at + n) (leb-true _ _ l) r
  walk-within (left f) s at h q = walk-within (f (length s - at)) s at h q
  walk-within (here f) s at h q = walk-within (f at) s at h q

module _ {A : Type 0} where
  pub ask-is : (t : Bool) (r : ℕ) (k : Reading A) (s : List ℕ) (at : ℕ) → walk (ask t r >> k) s at ≡ pick t (walk k s at) (bad r)
  ask-is true r k s at = refl
  ask-is false r k s at = refl

-- a question that is the last
pub last-is : (t : Bool) (r : ℕ) (s : List ℕ) (at : ℕ) → walk (ask t r) s at ≡ pick t (got tt at) (bad r)
last-is true r s at = refl
last-is false r s at = refl

module _ {B : Type 0} where
  pub pick_cong : (t : Bool) (z : B) {x y : B} → (t ≡ true → x ≡ y) → pick t x z ≡ pick t y z
  pick_cong true z f = f refl
  pick_cong false z f = refl

module _ {A : Type 0} where
  -- what is not there, now or further on
  pub pick-short : (t : Bool) (x : Got A) (r : ℕ) → (t ≡ true → x ≡ bad r) → pick t x (bad r) ≡ bad r
  pick-short true x r f = f refl
  pick-short false x r f = refl

-- a number that is there, or is not
module _ (k : ℕ) (s : List ℕ) (at : ℕ) where
  pub number-there : at + k ≤ length s → walk (number k) s at ≡ got (le_at k s at) (at + k)
  unfolding le_at
  number-there h = rw (le-leb (at + k) (length s) h)

  pub number_short : length s < at + k → walk (number k) s at ≡ bad 3
  number_short h = rw (lt-leb (at + k) (length s) h)

-- a block by its start: what is read behind it, within the size that it says, or its refusal
module _ {A : Type 0} (c : Block A) (b : List ℕ) where
  pub block_read : {size at : ℕ} → walk c.start b 0 ≡ got size at → run_block c b ≡ run (c.rest size) at (drop at (take size b))
  unfolding run_block
  block_read q = rw q

  pub block_refused : {r : ℕ} → walk c.start b 0 ≡ bad r → run_block c b ≡ refused r
  unfolding run_block
  block_refused q = rw q
