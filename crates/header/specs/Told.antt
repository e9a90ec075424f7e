-- A reading at a place, by a test: it gives a value and says where it ends, or it refuses. Assumes nothing.
use Rattle.std.specs.Prelude.{◌≡◌, refl, Bool, true, false, ◌&&◌, List, [], ◌∷◌, ℕ, zero, suc, ◌+◌, ◌*◌, ◌-◌, ◌≤◌, leb, length, take, drop}
use Rattle.std.proofs.Common.{sym, ◌∙◌, mul-suc, arith, le-leb, leb-true}
use Rattle.base.specs.House.{be_number}
use Rattle.base.specs.Never.{never}
use Rattle.base.specs.Number.{be_at}
use Rattle.base.specs.Reading.{bad, got, Reading, give, walk, ◌>>=◌, ◌>>◌, taken, bytes_left, ask, rows}
use Rattle.base.specs.ReadingLaws.{then-walk, then-bad}
use Rattle.base.specs.ReadingRows.{cells, rows_none, rows_step}

pub record Told {A : Type 0} (p : Reading A) (s : List ℕ) (at : ℕ) (t : Bool) (a : A) (stop : ℕ) : Type 0 where
  pub there : t ≡ true → walk p s at ≡ got a stop
  pub broken : t ≡ false → (q : ℕ) × (walk p s at ≡ bad q)

pub told_as : {A : Type 0} {p : Reading A} {s : List ℕ} {at : ℕ} {t u : Bool} {a : A} {stop : ℕ} → t ≡ u → Told p s at t a stop → Told p s at u a stop
told_as e x = rw (← e) x

module _ {A B : Type 0} (p : Reading A) (k : A → Reading B) (s : List ℕ) (at : ℕ) {u : Bool} {a : A} {b : B} {m n : ℕ} where
  pub told_bind : (t : Bool) → Told p s at t a m → (t ≡ true → Told (k a) s m u b n) → Told (p >>= k) s at (t && u) b n
  told_bind true x y = record {
    there = λ e. then-walk p k s at (x.there refl) ∙ (y refl).there e;
    broken = λ e. let (q, h) = (y refl).broken e in (q, then-walk p k s at (x.there refl) ∙ h);
  }
  told_bind false x y = record { there = λ e. never (cc); broken = λ e. let (q, h) = x.broken refl in (q, then-bad p k s at h) }

module _ (s : List ℕ) (at : ℕ) where
  pub told-number : (k : ℕ) → Told (be_number k) s at (leb (at + k) (length s)) (be_at k s at) (at + k)
  unfolding be_at
  told-number k = record { there = λ e. rw e; broken = λ e. (3, rw e) }

  pub told-taken : (n : ℕ) → Told (taken n) s at (leb (at + n) (length s)) (take n (drop at s)) (at + n)
  told-taken n = record { there = λ e. rw e; broken = λ e. (3, rw e) }

  -- a question, and a value that is given behind it
  pub told-asked : {A : Type 0} (t : Bool) (q : ℕ) (a : A) → Told (ask t q >> give a) s at t a at
  told-asked true q a = record { there = λ e. refl; broken = λ e. never (cc) }
  told-asked false q a = record { there = λ e. never (cc); broken = λ e. (q, refl) }

  pub told-ask : (t : Bool) (q : ℕ) → Told (ask t q) s at t tt at
  told-ask true q = record { there = λ e. refl; broken = λ e. never (cc) }
  told-ask false q = record { there = λ e. never (cc); broken = λ e. (q, refl) }

  pub told-left : Told bytes_left s at true (length s - at) at
  told-left = record { there = λ e. refl; broken = λ e. never (cc) }

  pub told-give : {A : Type 0} (a : A) → Told (give a) s at true a at
  told-give a = record { there = λ e. refl; broken = λ e. never (cc) }

module _ {A B : Type 0} (f : A → B) (p : Reading A) (s : List ℕ) (at : ℕ) {t : Bool} {a : A} {m : ℕ} where
  pub told-map : Told p s at t a m → Told (p >>= λ a. give (f a)) s at t (f a) m
  told-map x = record {
    there = λ e. then-walk p (λ a. give (f a)) s at (x.there e);
    broken = λ e. let (q, h) = x.broken e in (q, then-bad p (λ a. give (f a)) s at h);
  }

-- ---- tests

pub regroup : (a b c : Bool) → a && (b && c) ≡ a && b && c
regroup true b c = refl
regroup false b c = refl

pub and-false : (a : Bool) → a && false ≡ false
and-false true = refl
and-false false = refl

-- of two bounds the higher one
pub absorb : (a b n : ℕ) → a ≤ b → leb a n && leb b n ≡ leb b n
absorb a b n h = go (leb b n) refl
  where
    go : (t : Bool) → leb b n ≡ t → leb a n && leb b n ≡ leb b n
    go true e = rw (le-leb a n (omega (arith, leb-true b n e)))
    go false e = rw e (and-false (leb a n))

-- ---- records of one size

module _ {A : Type 0} (s : List ℕ) (p : Reading A) (f : ℕ → A) (size : ℕ) (one : (at : ℕ) → Told p s at (leb (at + size) (length s)) (f at) (at + size)) where
  pub cells_told : (n at : ℕ) → at ≤ length s → Told (rows n p) s at (leb (at + size * n) (length s)) (cells f size at n) (at + size * n)
  cells_told zero at h =
      let e : at + size * 0 ≡ at = omega arith in
      rw (rows_none p, e) (told_as (sym (le-leb at (length s) h)) (told-give s at []))
  cells_told (suc n) at h =
      let e : at + size * suc n ≡ at + size + size * n = rw (mul-suc size n) (omega arith) in
      rw (rows_step p n, e)
      (told_as (absorb (at + size) (at + size + size * n) (length s) (omega arith))
      (told_bind p (λ x. rows n p >>= λ xs. give (x ∷ xs)) s at (leb (at + size) (length s)) (one at) λ t.
      told-map (λ xs. f at ∷ xs) (rows n p) s (at + size) (cells_told n (at + size) (leb-true (at + size) (length s) t))))
