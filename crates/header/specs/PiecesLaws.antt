-- Laws of pieces written one behind another: one piece more, and lists as pieces. Assumes nothing.
use Rattle.std.specs.Prelude.{◌≡◌, refl, List, [], ◌∷◌, ◌++◌, ℕ, zero, suc, ◌+◌, ◌*◌, ◌-◌, ◌≤◌, ◌<◌, length, get_or, drop}
use Rattle.std.proofs.Math.Path.{fun_ext}
use Rattle.std.proofs.Common.{ap, sym, ◌∙◌, div-one, add-one, mul-suc, append_assoc, append-nil, arith, length-append}
use Rattle.std.proofs.Math.Nat.{div-div-eq-div-mul}
use Rattle.std.specs.Int.{w16, w32, w64, to_le_bytes, to_be_bytes}
use Rattle.base.specs.Find.{flat}
use Rattle.base.specs.Number.{be_bytes, le_bytes}
use Rattle.base.specs.Output.{over, Wrote}
use Rattle.base.specs.ReadingRows.{cells}
use Rattle.header.specs.Pieces.{pieces}

-- b was copied to the front
pub wrote_start : {s b x : List ℕ} {n : ℕ} → x ≡ b → n ≡ length b → n ≤ length s → Wrote s b (x ++ drop n s) n
unfolding over
wrote_start e l h = record { size = l; fits = h; is = rw (e, l) }

-- the library's bytes of a number
pub be-bytes_2 : (n : ℕ) → to_be_bytes w16 n ≡ be_bytes 2 n
unfolding be_bytes
be-bytes_2 n = rw (div-one n)

pub le-bytes_4 : (n : ℕ) → to_le_bytes w32 n ≡ le_bytes 4 n
unfolding le_bytes
le-bytes_4 n = simp div-div-eq-div-mul

pub le-bytes_8 : (n : ℕ) → to_le_bytes w64 n ≡ le_bytes 8 n
unfolding le_bytes
le-bytes_8 n = simp div-div-eq-div-mul

-- one piece more
module _ (b : ℕ → List ℕ) where
  pub piece-next : (i : ℕ) → pieces b (i + 1) ≡ pieces b i ++ b i
  unfolding pieces
  piece-next i = rw (add-one i)

  more : (i d : ℕ) → length (pieces b i) ≤ length (pieces b (i + d))
  more i zero = let e : i + 0 ≡ i = omega arith in rw e (omega arith)
  more i (suc d) =
      let e : i + suc d ≡ i + d + 1 = omega arith in
      rw (e, piece-next (i + d)) (omega (arith, more i d, length-append (pieces b (i + d)) (b (i + d))))

  -- the buffer that has room for all has room for each
  pub piece-room : (i n : ℕ) → i < n → length (pieces b i) + length (b i) ≤ length (pieces b n)
  piece-room i n h =
      let e : i + 1 + (n - (i + 1)) ≡ n = omega arith in
      omega (arith, rw e at (more (i + 1) (n - (i + 1))), ap length (piece-next i), length-append (pieces b i) (b i))

-- the first piece, and those behind it
pieces-front : (b : ℕ → List ℕ) (n : ℕ) → pieces b (suc n) ≡ b 0 ++ pieces (λ i. b (suc i)) n
unfolding pieces
pieces-front b zero = sym (append-nil (b 0))
pieces-front b (suc n) = ap (λ (x : List ℕ). x ++ b (suc n)) (pieces-front b n) ∙ append_assoc (b 0) (pieces (λ i. b (suc i)) n) (b (suc n))

-- records of one size
pub pieces-cells : {A : Type 0} (g : A → List ℕ) (f : ℕ → A) (size at n : ℕ) → pieces (λ i. g (f (at + size * i))) n ≡ flat g (cells f size at n)
unfolding pieces
pieces-cells g f size at zero = refl
pieces-cells g f size at (suc n) =
    let first : at + size * 0 ≡ at = omega arith in
    let place : (i : ℕ) → at + size * suc i ≡ at + size + size * i = λ i. rw (mul-suc size i) (omega arith) in
    pieces-front (λ i. g (f (at + size * i))) n
    ∙ rw first
    (ap (λ (x : List ℕ). g (f at) ++ x)
    (ap (λ (b : ℕ → List ℕ). pieces b n) (fun_ext (λ i. ap (λ (k : ℕ). g (f k)) (place i))) ∙ pieces-cells g f size (at + size) n))

-- the numbers of a list
pub pieces-list : (g : ℕ → List ℕ) (xs : List ℕ) → pieces (λ i. g (get_or xs i 0)) (length xs) ≡ flat g xs
unfolding pieces
pieces-list g [] = refl
pieces-list g (x ∷ xs) = pieces-front (λ i. g (get_or (x ∷ xs) i 0)) (length xs) ∙ ap (λ (y : List ℕ). g x ++ y) (pieces-list g xs)
