-- Records of one size, one after another: the i-th is read at its place.
use Rattle.std.specs.Prelude.{◌≡◌, List, [], ◌∷◌, Bool, true, false, ℕ, zero, suc, ◌+◌, ◌*◌, ◌≤◌, ◌<◌, length, get_or}
use Rattle.std.proofs.Math.Path.{refl, ap, fun_ext}
use Rattle.std.proofs.Common.{sym, ◌∙◌, arith, mul-suc}
use Rattle.std.proofs.Math.Decide.{dec_le}
use Rattle.base.specs.Choose.{pick}
use Rattle.base.specs.Reading.{Got, bad, got, Reading, give, walk, ◌>>=◌, onto, rows_on, rows}
use Rattle.base.specs.ReadingLaws.{chain, walk_bind, bind_assoc, chain_by, bad-got}

-- f at n places, size apart
module _ {A : Type 0} where
  abbrev pub cells : (ℕ → A) → ℕ → ℕ → ℕ → List A
  cells f size at zero = []
  cells f size at (suc n) = f at ∷ cells f size (at + size) n

  pub cells-length : (f : ℕ → A) (size at n : ℕ) → length (cells f size at n) ≡ n
  cells-length f size at zero = refl
  cells-length f size at (suc n) = ap suc (cells-length f size (at + size) n)

  pub cells_at : (f : ℕ → A) (size at n i : ℕ) (d : A) → i < n → get_or (cells f size at n) i d ≡ f (at + size * i)
  cells_at f size at zero i d h = absurd (omega arith)
  cells_at f size at (suc n) zero d h = ap f (omega arith)
  cells_at f size at (suc n) (suc i) d h = cells_at f size (at + size) n i d (omega arith) ∙ ap f (rw (mul-suc size i) (omega arith))

module _ {A B : Type 0} where
  abbrev pub map_got : (A → B) → Got A → Got B
  map_got g (bad r) = bad r
  map_got g (got a n) = got (g a) n

  pub map-pick : (g : A → B) (t : Bool) (x : Got A) (r : ℕ) → map_got g (pick t x (bad r)) ≡ pick t (map_got g x) (bad r)
  map-pick g true x r = refl
  map-pick g false x r = refl

module _ {P A B : Type 0} {b : B} {n : ℕ} where
  pub map-by : (g : A → B) (x : Got A) → map_got g x ≡ got b n → ((a : A) → x ≡ got a n → g a ≡ b → P) → P
  map-by g (bad r) q f = bad-got q
  map-by g (got a m) q f = f a (let z : m ≡ n = cc in rw z) (cc)

-- a value that is made of what a reading gives
walk-map : {A B : Type 0} (g : A → B) (p : Reading A) (s : List ℕ) (at : ℕ) → walk (p >>= (λ a. give (g a))) s at ≡ map_got g (walk p s at)
walk-map {A} {B} g p s at = walk_bind p (λ a. give (g a)) s at ∙ go (walk p s at)
  where
    go : (w : Got A) → chain w (λ a n. walk (give (g a)) s n) ≡ map_got g w
    go (bad r) = refl
    go (got a n) = refl

module _ {A : Type 0} (p : Reading A) where
  rows_on-onto : (n : ℕ) (done : List A) → rows_on done n p ≡ rows_on [] n p >>= (λ xs. give (onto done xs))
  rows_on-onto zero done = refl
  rows_on-onto (suc n) done =
      ap (λ (k : A → Reading (List A)). p >>= k)
      (fun_ext (λ x. rows_on-onto n (x ∷ done) ∙ sym (ap (λ r. r >>= (λ xs. give (onto done xs))) (rows_on-onto n (x ∷ []))
      ∙ bind_assoc (rows_on [] n p) (λ xs. give (x ∷ xs)) (λ xs. give (onto done xs)))))
      ∙ sym (bind_assoc p (λ x. rows_on (x ∷ []) n p) (λ xs. give (onto done xs)))

  -- the definition: those done stand aside, or a record at a time
  pub rows_on_lem : (n : ℕ) → rows n p ≡ rows_on [] n p
  unfolding rows
  rows_on_lem n = refl

  pub rows_none : rows 0 p ≡ give []
  rows_none = rows_on_lem 0

  pub rows_step : (n : ℕ) → rows (suc n) p ≡ p >>= (λ x. rows n p >>= (λ xs. give (x ∷ xs)))
  unfolding rows
  rows_step n = ap (λ (k : A → Reading (List A)). p >>= k) (fun_ext (λ x. rows_on-onto n (x ∷ [])))

module _ {A : Type 0} where
  pub rows-zero : (p : Reading A) (s : List ℕ) (at : ℕ) → walk (rows 0 p) s at ≡ got [] at
  rows-zero p s at = ap (λ r. walk r s at) (rows_none p)

  pub rows-suc : (p : Reading A) (n : ℕ) (s : List ℕ) (at : ℕ)
      → walk (rows (suc n) p) s at ≡ chain (walk p s at) (λ x m. map_got (λ xs. x ∷ xs) (walk (rows n p) s m))
  rows-suc p n s at =
      ap (λ r. walk r s at) (rows_step p n) ∙ walk_bind p (λ x. rows n p >>= (λ xs. give (x ∷ xs))) s at
      ∙ ap (chain (walk p s at)) (fun_ext (λ x. fun_ext (λ m. walk-map (λ xs. x ∷ xs) (rows n p) s m)))

  -- records that are there: the list is what stands at the places
  pub rows-there : (p : Reading A) (s : List ℕ) (f : ℕ → A) (size : ℕ) → ((at : ℕ) → at + size ≤ length s → walk p s at ≡ got (f at) (at + size))
      → (n at : ℕ) → at + size * n ≤ length s → walk (rows n p) s at ≡ got (cells f size at n) (at + size * n)
  rows-there p s f size one zero at h = rows-zero p s at ∙ ap (got []) (omega arith)
  rows-there p s f size one (suc n) at h =
      let m : size * suc n ≡ size * n + size = mul-suc size n in
      rows-suc p n s at ∙ rw (one at (omega arith), rows-there p s f size one n (at + size) (omega arith))
      (ap (got (f at ∷ cells f size (at + size) n)) (omega arith))

  -- records that are not all there
  pub rows_short : (p : Reading A) (s : List ℕ) (f : ℕ → A) (size : ℕ) → ((at : ℕ) → at + size ≤ length s → walk p s at ≡ got (f at) (at + size))
      → ((at : ℕ) → length s < at + size → walk p s at ≡ bad 3)
      → (n at : ℕ) → at ≤ length s → length s < at + size * n → walk (rows n p) s at ≡ bad 3
  rows_short p s f size one short zero at h l = absurd (omega arith)
  rows_short p s f size one short (suc n) at h l = rows-suc p n s at ∙ go (dec_le (at + size) (length s)) (rows_short p s f size one short n (at + size))
    where
      go : Dec (at + size ≤ length s) → (at + size ≤ length s → length s < at + size + size * n → walk (rows n p) s (at + size) ≡ bad 3)
          → chain (walk p s at) (λ x m. map_got (λ xs. x ∷ xs) (walk (rows n p) s m)) ≡ bad 3
      go (yes y) ih = let m : size * suc n ≡ size * n + size = mul-suc size n in rw (one at y, ih y (omega arith))
      go (no y) ih = rw (short at (omega arith))

  -- records that were read: the list is what stands at the places
  pub rows-got : (p : Reading A) (s : List ℕ) (f : ℕ → A) (size : ℕ) → ((at : ℕ) (a : A) (m : ℕ) → walk p s at ≡ got a m → (a ≡ f at) × (m ≡ at + size))
      → (n at : ℕ) (xs : List A) (m : ℕ) → walk (rows n p) s at ≡ got xs m → (xs ≡ cells f size at n) × (m ≡ at + size * n)
  rows-got p s f size one zero at xs m q =
      let e : got [] at ≡ got xs m = sym (rows-zero p s at) ∙ q in
      (cc, let z : at ≡ m = cc in omega arith)
  rows-got p s f size one (suc n) at xs m q =
      chain_by (walk p s at) (λ x m. map_got (λ xs. x ∷ xs) (walk (rows n p) s m)) (sym (rows-suc p n s at) ∙ q) λ x k e r.
      go (walk (rows n p) s k) x k e refl r (λ ys j. rows-got p s f size one n k ys j)
    where
      go : (g : Got (List A)) (x : A) (k : ℕ) → walk p s at ≡ got x k → walk (rows n p) s k ≡ g → map_got (λ xs. x ∷ xs) g ≡ got xs m
          → ((ys : List A) (j : ℕ) → walk (rows n p) s k ≡ got ys j → (ys ≡ cells f size k n) × (j ≡ k + size * n))
          → (xs ≡ cells f size at (suc n)) × (m ≡ at + size * suc n)
      go (bad r) x k e g q ih = bad-got q
      go (got ys j) x k e g q ih =
          let o = one at x k e in
          let i = ih ys j g in
          let a : (x ∷ ys) ≡ xs = cc in
          let b : j ≡ m = cc in
          (sym a ∙ rw (o.0, i.0, o.1), rw (mul-suc size n) (omega (arith, o.1, i.1)))
