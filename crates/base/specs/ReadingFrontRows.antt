-- Front to back, over what stands in front, on: little-endian numbers, bytes passed over, questions, records one after another. Assumes nothing.
use Rattle.std.specs.Prelude.{◌≡◌, refl, Bool, true, false, ℕ, zero, suc, ◌+◌, ◌*◌, ◌/◌, ◌%◌, ◌^◌, ◌<◌, length}
use Rattle.std.proofs.Common.{sym, ◌∙◌, ap, mod-eq_of_lt, le-leb, length-append, drop_at}
use mathlib.Core.List.{List, [], ◌∷◌, ◌++◌, map, append_assoc}
use native.Mathlib.Omega.{arith}
use Rattle.base.specs.Find.{flat}
use Rattle.base.specs.Number.{le, le_bytes}
use Rattle.base.specs.NumberLaws.{Bytes, length-le_bytes, le-le_bytes}
use Rattle.base.specs.Perm.{All}
use Rattle.base.specs.Reading.{gives, Reading, give, bytes, pass, run, ◌>>=◌, ◌>>◌, u30, ask, onto, rows_on, rows}
use Rattle.base.specs.ReadingFront.{run_bytes_lem}
use Rattle.base.specs.ReadingLaws.{bind_assoc}

module _ {A : Type 0} where
  -- a little-endian number, where its bytes stand in front
  pub run-le : (k x : ℕ) (g : ℕ → Reading A) (at : ℕ) (r : List ℕ) → x < 256 ^ k → run (bytes k (λ l. g (le l))) at (le_bytes k x ++ r) ≡ run (g x) (at + k) r
  run-le k x g at r h = run_bytes_lem k (λ l. g (le l)) at (le_bytes k x) r (length-le_bytes k x) ∙ rw (le-le_bytes k x, mod-eq_of_lt h)

  -- bytes that are passed over
  pub run-pass : (n : ℕ) (p : Reading A) (at : ℕ) (l r : List ℕ) → length l ≡ n → run (pass n p) at (l ++ r) ≡ run p (at + n) r
  run-pass n p at l r e = rw (le-leb n (length (l ++ r)) (simp length-append (omega arith)), drop_at l r n e)

  -- 30 bits of four bytes
  pub run-u30 : (x : ℕ) (g : ℕ → Reading A) (at : ℕ) (r : List ℕ) → x < 2 ^ 30 → run (u30 >>= g) at (le_bytes 4 x ++ r) ≡ run (g x) (at + 4) r
  unfolding le_bytes
  run-u30 x g at r h =
      let a = x % 256 in
      let b = x / 256 % 256 in
      let c = x / 256 / 256 % 256 in
      let d = x / 256 / 256 / 256 % 256 in
      let e : a + 256 * (b + 256 * (c + 256 * 0)) + 16777216 * (d % 2 ^ 6) ≡ x = omega arith in
      let n : at + 3 + 1 ≡ at + 4 = omega arith in
      rw (le-leb 3 (length (a ∷ b ∷ c ∷ d ∷ r)) (omega arith), e, n)

-- a question that is passed
module _ {X A : Type 0} where
  pub ask-yes : {t : Bool} (q : ℕ) (p : Reading X) (k : X → Reading A) → t ≡ true → (ask t q >> p) >>= k ≡ p >>= k
  ask-yes q p k e = rw e

  -- and a value that is given behind it
  pub ask-give : (t : Bool) (q : ℕ) (x : X) (k : X → Reading A) → (ask t q >> give x) >>= k ≡ ask t q >> k x
  ask-give true q x k = refl
  ask-give false q x k = refl

-- records, one after another: those of some values, whose bytes stand in front
module _ {X Y A : Type 0} (p : Reading Y) (f : X → List ℕ) (v : X → Y) (Ok : X → Type 0)
    (one : (x : X) → Ok x → (k : Y → Reading A) (at : ℕ) (r : List ℕ) → run (p >>= k) at (f x ++ r) ≡ run (k (v x)) (at + length (f x)) r) where
  rows_on-front : (xs : List X) (done : List Y) → All Ok xs → (k : List Y → Reading A) (at : ℕ) (r : List ℕ)
      → run (rows_on done (length xs) p >>= k) at (flat f xs ++ r) ≡ run (k (onto done (map v xs))) (at + length (flat f xs)) r
  rows_on-front [] done ok k at r = ap (λ n. run (k (onto done [])) n r) (omega arith)
  rows_on-front (x ∷ xs) done ok k at r =
      let e : at + length (f x) + length (flat f xs) ≡ at + length (f x ++ flat f xs) = omega (arith, length-append (f x) (flat f xs)) in
      ap (λ q. run q at (f x ++ flat f xs ++ r)) (bind_assoc p (λ y. rows_on (y ∷ done) (length xs) p) k)
      ∙ rw (append_assoc (f x) (flat f xs) r)
      (one x ok.0 (λ y. rows_on (y ∷ done) (length xs) p >>= k) at (flat f xs ++ r)
      ∙ (rows_on-front xs (v x ∷ done) ok.1 k (at + length (f x)) r ∙ ap (λ n. run (k (onto done (v x ∷ map v xs))) n r) e))

  pub rows-front : (xs : List X) → All Ok xs → (k : List Y → Reading A) (at : ℕ) (r : List ℕ)
      → run (rows (length xs) p >>= k) at (flat f xs ++ r) ≡ run (k (map v xs)) (at + length (flat f xs)) r
  unfolding rows
  rows-front xs ok k at r = rows_on-front xs [] ok k at r

pub map_same : {A : Type 0} (l : List A) → map (λ x. x) l ≡ l
map_same [] = refl
map_same (x ∷ l) = ap (λ r. x ∷ r) (map_same l)

-- the values being the records themselves
module _ {X A : Type 0} (p : Reading X) (f : X → List ℕ) (Ok : X → Type 0)
    (one : (x : X) → Ok x → (k : X → Reading A) (at : ℕ) (r : List ℕ) → run (p >>= k) at (f x ++ r) ≡ run (k x) (at + length (f x)) r) where
  pub rows_same : (xs : List X) → All Ok xs → (k : List X → Reading A) (at : ℕ) (r : List ℕ)
      → run (rows (length xs) p >>= k) at (flat f xs ++ r) ≡ run (k xs) (at + length (flat f xs)) r
  rows_same xs ok k at r = rows-front p f (λ x. x) Ok one xs ok k at r ∙ ap (λ l. run (k l) (at + length (flat f xs)) r) (map_same xs)

-- what a reading that gives a value has read: the bytes f of a value, and the rest is read on
pub record Took {X A : Type 0} (f : X → List ℕ) (Ok : X → Type 0) (k : X → Reading A) (s : List ℕ) (a : A) : Type 0 where
  pub value : X
  pub at : ℕ
  pub rest : List ℕ
  pub ok : Ok value
  pub is : s ≡ f value ++ rest
  pub bytes : Bytes rest
  pub on : run (k value) at rest ≡ gives a

-- so of records, one after another
module _ {X A : Type 0} {a : A} (p : Reading X) (f : X → List ℕ) (Ok : X → Type 0)
    (one : (k : X → Reading A) (at : ℕ) (s : List ℕ) → Bytes s → run (p >>= k) at s ≡ gives a → Took f Ok k s a) where
  rows_on_took : (n : ℕ) (done : List X) (k : List X → Reading A) (at : ℕ) (s : List ℕ) → Bytes s → run (rows_on done n p >>= k) at s ≡ gives a
      → Took (flat f) (λ xs. (length xs ≡ n) × All Ok xs) (λ xs. k (onto done xs)) s a
  rows_on_took zero done k at s b e = record { value = []; at = at; rest = s; ok = (refl, tt); is = refl; bytes = b; on = e }
  rows_on_took (suc n) done k at s b e =
      let t = one (λ x. rows_on (x ∷ done) n p >>= k) at s b (ap (λ q. run q at s) (sym (bind_assoc p (λ x. rows_on (x ∷ done) n p) k)) ∙ e) in
      let u = rows_on_took n (t.value ∷ done) k t.at t.rest t.bytes t.on in
      record {
        value = t.value ∷ u.value;
        at = u.at;
        rest = u.rest;
        ok = (ap suc u.ok.0, (t.ok, u.ok.1));
        is = t.is ∙ (ap (λ r. f t.value ++ r) u.is ∙ sym (append_assoc (f t.value) (flat f u.value) u.rest));
        bytes = u.bytes;
        on = u.on;
      }

  pub rows_took : (n : ℕ) (k : List X → Reading A) (at : ℕ) (s : List ℕ) → Bytes s → run (rows n p >>= k) at s ≡ gives a
      → Took (flat f) (λ xs. (length xs ≡ n) × All Ok xs) k s a
  unfolding rows
  rows_took n k at s b e = rows_on_took n [] k at s b e
