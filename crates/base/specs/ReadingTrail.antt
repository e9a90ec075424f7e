-- The marks of the bytes that a reading goes over, by position: what a reader can hold against a list of fields.
use Rattle.std.specs.Prelude.{◌≡◌, refl, Bool, true, ℕ, zero, suc, ◌+◌, ◌*◌, ◌-◌, ◌%◌, ◌^◌, ◌≤◌, leb, length, take, drop, get_or, replicate}
use Rattle.std.proofs.Common.{sym, ◌∙◌, ap, arith, mul-suc, add_comm, add-one, le-leb, leb-true, length-drop, drop-drop, drop-cons}
use mathlib.Core.List.{List, [], ◌∷◌, ◌++◌, append_assoc}
use Rattle.std.proofs.lemmas.List.{replicate-append-replicate}
use Rattle.base.specs.Reading.{gives, Got, bad, got, Reading, give, refuse, bytes, part, pass, left, here, run, walk, ◌>>=◌, ◌>>◌, ask, rows_on, rows}
use Rattle.base.specs.ReadingLaws.{out, run-walk, walk_bind, chain_by, pick-by, bad-got}
use Rattle.base.specs.ReadingGives.{refused-gives}
use Rattle.base.specs.ReadingMarks.{Mark, whole, low, none, marks}

module _ {A : Type 0} where
  abbrev pub trail : Reading A → List ℕ → ℕ → List Mark
  trail (give a) s at = []
  trail (refuse e) s at = []
  trail (bytes n f) s at = replicate n whole ++ trail (f (take n (drop at s))) s (at + n)
  trail (part k f) s at = low k ∷ trail (f (get_or s at 0 % 2 ^ k)) s (at + 1)
  trail (pass n p) s at = replicate n none ++ trail p s (at + n)
  trail (left f) s at = trail (f (length s - at)) s at
  trail (here f) s at = trail (f at) s at

  -- n times the same
  abbrev pub copies : ℕ → List A → List A
  copies zero l = []
  copies (suc n) l = l ++ copies n l

  pub copies-replicate : (n k : ℕ) (a : A) → copies n (replicate k a) ≡ replicate (k * n) a
  copies-replicate zero k a = let e : k * 0 ≡ 0 = omega arith in rw e
  copies-replicate (suc n) k a = rw (copies-replicate n k a, mul-suc k n, add_comm (k * n) k) (replicate-append-replicate k (k * n) a)

module _ {A : Type 0} where
  out-got : (g : Got A) {a : A} → out g ≡ gives a → (m : ℕ) × (g ≡ got a m)
  out-got (bad r) q = refused-gives q
  out-got (got b m) {a} q = let z : b ≡ a = cc in (m, rw z refl)

  -- a reading that gives a value ends somewhere
  pub run-got : (p : Reading A) (s : List ℕ) (at : ℕ) {a : A} → at ≤ length s → run p at (drop at s) ≡ gives a → (m : ℕ) × (walk p s at ≡ got a m)
  run-got p s at h q = out-got (walk p s at) (sym (run-walk p s at h) ∙ q)

  -- where a reading ends, its marks are its trail; what lies behind doesn't count
  pub trail-marks : (p : Reading A) (s : List ℕ) (at : ℕ) {a : A} {m : ℕ} → walk p s at ≡ got a m
      → marks p at (drop at s) ≡ trail p s at ++ replicate (length s - m) none
  trail-marks (give b) s at {a} {m} q = let e : at ≡ m = cc in rw (length-drop at s, e)
  trail-marks (refuse r) s at q = bad-got q
  trail-marks (bytes n f) s at {a} {m} q =
      pick-by (leb (at + n) (length s)) (walk (f (take n (drop at s))) s (at + n)) 3 q λ l r.
      let h = leb-true (at + n) (length s) l in
      rw (le-leb n (length (drop at s)) (simp length-drop (omega arith)), drop-drop n at s, trail-marks (f (take n (drop at s))) s (at + n) r)
      (sym (append_assoc (replicate n whole) (trail (f (take n (drop at s))) s (at + n)) (replicate (length s - m) none)))
  trail-marks (part k f) s at q =
      pick-by (leb (at + 1) (length s)) (walk (f (get_or s at 0 % 2 ^ k)) s (at + 1)) 3 q λ l r.
      let h = leb-true (at + 1) (length s) l in
      rw (drop-cons s at 0 (omega arith), ← add-one at, trail-marks (f (get_or s at 0 % 2 ^ k)) s (at + 1) r)
  trail-marks (pass n p) s at {a} {m} q =
      pick-by (leb (at + n) (length s)) (walk p s (at + n)) 3 q λ l r.
      let h = leb-true (at + n) (length s) l in
      rw (le-leb n (length (drop at s)) (simp length-drop (omega arith)), drop-drop n at s, trail-marks p s (at + n) r)
      (sym (append_assoc (replicate n none) (trail p s (at + n)) (replicate (length s - m) none)))
  trail-marks (left f) s at q = rw (length-drop at s) (trail-marks (f (length s - at)) s at q)
  trail-marks (here f) s at q = trail-marks (f at) s at q

module _ {A B : Type 0} where
  -- one reading after another
  pub trail_bind : (p : Reading A) (k : A → Reading B) (s : List ℕ) (at : ℕ) {a : A} {m : ℕ} → walk p s at ≡ got a m
      → trail (p >>= k) s at ≡ trail p s at ++ trail (k a) s m
  trail_bind (give b) k s at {a} {m} q =
      let e : at ≡ m = cc in
      let f : b ≡ a = cc in
      rw (e, f)
  trail_bind (refuse e) k s at q = bad-got q
  trail_bind (bytes n f) k s at {a} {m} q =
      pick-by (leb (at + n) (length s)) (walk (f (take n (drop at s))) s (at + n)) 3 q λ l r.
      rw (trail_bind (f (take n (drop at s))) k s (at + n) r)
      (sym (append_assoc (replicate n whole) (trail (f (take n (drop at s))) s (at + n)) (trail (k a) s m)))
  trail_bind (part j f) k s at q =
      pick-by (leb (at + 1) (length s)) (walk (f (get_or s at 0 % 2 ^ j)) s (at + 1)) 3 q λ l r.
      ap (λ ms. low j ∷ ms) (trail_bind (f (get_or s at 0 % 2 ^ j)) k s (at + 1) r)
  trail_bind (pass n p) k s at {a} {m} q =
      pick-by (leb (at + n) (length s)) (walk p s (at + n)) 3 q λ l r.
      rw (trail_bind p k s (at + n) r) (sym (append_assoc (replicate n none) (trail p s (at + n)) (trail (k a) s m)))
  trail_bind (left f) k s at q = trail_bind (f (length s - at)) k s at q
  trail_bind (here f) k s at q = trail_bind (f at) k s at q

module _ {A : Type 0} where
  -- a question that is met
  pub trail-ask : {t : Bool} (r : ℕ) (k : Reading A) (s : List ℕ) (at : ℕ) → t ≡ true → trail (ask t r >> k) s at ≡ trail k s at
  trail-ask r k s at q = rw q

  -- records of one shape, one after another
  module _ (p : Reading A) (s : List ℕ) (ms : List Mark) (one : (at : ℕ) (a : A) (m : ℕ) → walk p s at ≡ got a m → trail p s at ≡ ms) where
    rows_on-trail : (n : ℕ) (done : List A) (at : ℕ) {xs : List A} {m : ℕ} → walk (rows_on done n p) s at ≡ got xs m → trail (rows_on done n p) s at ≡ copies n ms
    rows_on-trail zero done at q = refl
    rows_on-trail (suc n) done at q =
        chain_by (walk p s at) _ (sym (walk_bind p (λ x. rows_on (x ∷ done) n p) s at) ∙ q) λ a m e r.
        trail_bind p (λ x. rows_on (x ∷ done) n p) s at e ∙ rw (one at a m e, rows_on-trail n (a ∷ done) m r)

    pub trail-rows : (n at : ℕ) {xs : List A} {m : ℕ} → walk (rows n p) s at ≡ got xs m → trail (rows n p) s at ≡ copies n ms
    unfolding rows
    trail-rows n at q = rows_on-trail n [] at q
