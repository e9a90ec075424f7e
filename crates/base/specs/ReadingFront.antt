-- Front to back: bytes that stand in front are read and the rest is read on; and what a reading that gives a value has read.
use Rattle.std.specs.Prelude.{◌≡◌, refl, List, [], ◌∷◌, ◌++◌, Bool, true, false, ℕ, zero, suc, ◌+◌, ◌*◌, ◌%◌, ◌^◌, ◌<◌, leb, length, take, drop}
use Rattle.std.proofs.Common.{sym, ◌∙◌, ap, ap₂, mod-eq_of_lt, arith, le-leb, leb-true, length-append, take-append-drop, take_at, drop_at, get_or-drop, length-take-le}
use Rattle.std.proofs.Math.Arith.{digits_div, digits_mod}
use Rattle.base.specs.Choose.{choose}
use Rattle.base.specs.Number.{be, be_bytes}
use Rattle.base.specs.NumberLaws.{Bytes, bytes-part, be-lt, be-be_bytes, length-be_bytes, be_bytes_mod}
use Rattle.base.specs.Reading.{refused, gives, Reading, bytes, run, ◌>>◌, ask}
use Rattle.base.specs.ReadingGives.{refused-gives}

-- bytes, as the number that they make, and back
pub be_bytes-be : (l : List ℕ) → Bytes l → be_bytes (length l) (be l) ≡ l
unfolding be_bytes
be_bytes-be [] b = refl
be_bytes-be (x ∷ l) b =
    let h : be l < 256 ^ length l = be-lt l (λ i. b (suc i)) in
    let low : be_bytes (length l) (x * 256 ^ length l + be l) ≡ l =
    sym (be_bytes_mod (length l) (x * 256 ^ length l + be l)) ∙ (ap (be_bytes (length l)) (digits_mod x h) ∙ be_bytes-be l (λ i. b (suc i))) in
    ap₂ (λ y r. y ∷ r) (ap (λ n. n % 256) (digits_div x h) ∙ mod-eq_of_lt (b zero)) low

module _ {A : Type 0} where
  -- the next n bytes, where they stand in front
  pub run_bytes_lem : (n : ℕ) (f : List ℕ → Reading A) (at : ℕ) (l r : List ℕ) → length l ≡ n → run (bytes n f) at (l ++ r) ≡ run (f l) (at + n) r
  run_bytes_lem n f at l r e = rw (le-leb n (length (l ++ r)) (simp length-append (omega arith)), take_at l r n e, drop_at l r n e)

  -- a big-endian number, where its bytes stand in front
  pub run-be : (k x : ℕ) (g : ℕ → Reading A) (at : ℕ) (r : List ℕ) → x < 256 ^ k → run (bytes k (λ l. g (be l))) at (be_bytes k x ++ r) ≡ run (g x) (at + k) r
  run-be k x g at r h = run_bytes_lem k (λ l. g (be l)) at (be_bytes k x) r (length-be_bytes k x) ∙ rw (be-be_bytes k x, mod-eq_of_lt h)

module _ {P A : Type 0} {a : A} where
  -- what a reading that gives a value has read: n bytes
  pub bytes-by : (n : ℕ) (f : List ℕ → Reading A) (at : ℕ) (s : List ℕ) → Bytes s → run (bytes n f) at s ≡ gives a
      → ((l r : List ℕ) → length l ≡ n → s ≡ l ++ r → Bytes l → Bytes r → run (f l) (at + n) r ≡ gives a → P) → P
  bytes-by n f at s b e k = go (leb n (length s)) refl e
    where
      go : (t : Bool) → leb n (length s) ≡ t → choose t (λ _. run (f (take n s)) (at + n) (drop n s)) (λ _. refused 3) ≡ gives a → P
      go true q e =
          k (take n s) (drop n s) (length-take-le n s (leb-true n (length s) q)) (sym (take-append-drop n s)) (bytes-part n 0 s b)
          (λ i. rw (get_or-drop n s i 0) (b (n + i))) e
      go false q e = refused-gives e

  -- a big-endian number
  pub be-by : (k : ℕ) (g : ℕ → Reading A) (at : ℕ) (s : List ℕ) → Bytes s → run (bytes k (λ l. g (be l))) at s ≡ gives a
      → ((x : ℕ) (r : List ℕ) → x < 256 ^ k → s ≡ be_bytes k x ++ r → Bytes r → run (g x) (at + k) r ≡ gives a → P) → P
  be-by k g at s b e f =
      bytes-by k (λ l. g (be l)) at s b e λ l r n q bl br e'.
      f (be l) r (rw n at (be-lt l bl)) (q ∙ ap (λ y. y ++ r) (sym (be_bytes-be l bl) ∙ ap (λ j. be_bytes j (be l)) n)) br e'

  -- a question that was passed
  pub asked_by : (t : Bool) (q : ℕ) (k : Reading A) (at : ℕ) (s : List ℕ) → run (ask t q >> k) at s ≡ gives a → (t ≡ true → run k at s ≡ gives a → P) → P
  asked_by true q k at s e f = f refl e
  asked_by false q k at s e f = refused-gives e
