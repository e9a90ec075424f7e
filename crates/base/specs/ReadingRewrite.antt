-- Rewriting what is passed over: new values where no mark stands, and nothing else. It is the same as to agree on the marks.
use Rattle.std.specs.Prelude.{◌≡◌, List, [], ◌∷◌, ◌++◌, ◌↔◌, take, drop}
use Rattle.std.proofs.Math.Path.{refl}
use Rattle.std.proofs.Common.{sym, ◌∙◌, ap, ap₂, arith, zero-lt-suc, lt_of_lt_of_le, mod-lt, mod-eq_of_lt, div-lt_iff_lt-mul, div-add-mod', pow-add}
use Prim.Native.Nat.{ℕ, zero, suc, ◌+◌, ◌*◌, ◌-◌, ◌/◌, ◌%◌, ◌^◌, ◌≤◌, ◌<◌, min}
use Rattle.std.proofs.Math.Decide.{dec_le}
use Rattle.std.proofs.Math.Nat.{one-le-pow, pow-le-pow_right, div-eq_of_lt}
use Rattle.std.proofs.Math.Arith.{digits_lt, digits_mod}
use Rattle.std.proofs.Math.ListN.{length, replicate, length-append, length-replicate, length-drop, length-take}
use Rattle.base.specs.NumberLaws.{Bytes, drop-take}
use Rattle.base.specs.Reading.{Got, bad, got, Reading, run, walk, Block, run_block}
use Rattle.base.specs.ReadingLaws.{walk-within}
use Rattle.base.specs.ReadingMarks.{Mark, whole, low, none, Same, Agree, marks, marks-length, agree-length, agree_same, marks_from, marks_block, block_same}

-- a byte with a new value for the bits that don't count
abbrev pub put : Mark → ℕ → ℕ → ℕ
put whole x v = x
put (low k) x v = v / 2 ^ k * 2 ^ k + x % 2 ^ k
put none x v = v

-- bytes with new values for the bits that don't count; nothing is moved
abbrev pub rewrite : List Mark → List ℕ → List ℕ → List ℕ
rewrite [] s v = s
rewrite (m ∷ ms) [] v = []
rewrite (m ∷ ms) (x ∷ s) [] = x ∷ s
rewrite (m ∷ ms) (x ∷ s) (y ∷ v) = put m x y ∷ rewrite ms s v

-- t is s with new values for the bits that don't count
pub record Rewritten (ms : List Mark) (s t : List ℕ) : Type 0 where
  pub values : List ℕ
  pub bytes : Bytes values
  pub size : length values ≡ length s
  pub is : t ≡ rewrite ms s values

pub rewrite-length : (ms : List Mark) (s v : List ℕ) → length (rewrite ms s v) ≡ length s
rewrite-length [] s v = refl
rewrite-length (m ∷ ms) [] v = refl
rewrite-length (m ∷ ms) (x ∷ s) [] = refl
rewrite-length (m ∷ ms) (x ∷ s) (y ∷ v) = ap suc (rewrite-length ms s v)

positive : (k : ℕ) → 0 < 2 ^ k
positive k = one-le-pow k 2 (zero-lt-suc 1)

put_same : (m : Mark) (x v : ℕ) → Same m x (put m x v)
put_same whole x v = refl
put_same (low k) x v = sym (digits_mod (v / 2 ^ k) (mod-lt x (positive k)))
put_same none x v = tt

put_back : (m : Mark) (x y : ℕ) → Same m x y → put m x y ≡ y
put_back whole x y a = a
put_back (low k) x y a = rw a (div-add-mod' y (2 ^ k))
put_back none x y a = refl

put_byte : (m : Mark) (x v : ℕ) → x < 256 → v < 256 → put m x v < 256
put_byte whole x v h l = h
put_byte none x v h l = l
put_byte (low k) x v h l = go (dec_le k 8)
  where
    go : Dec (k ≤ 8) → v / 2 ^ k * 2 ^ k + x % 2 ^ k < 256
    go (yes y) =
        let e : 2 ^ (8 - k) * 2 ^ k ≡ 256 = sym (pow-add 2 (8 - k) k) ∙ ap (λ n. 2 ^ n) (let z : 8 - k + k ≡ 8 = omega arith in z) in
        let a : v / 2 ^ k < 2 ^ (8 - k) = (div-lt_iff_lt-mul (positive k)).1 (rw e l) in
        rw e at (digits_lt a (mod-lt x (positive k)))
    go (no y) =
        let z : 8 ≤ k = omega arith in
        let b : 256 ≤ 2 ^ k = pow-le-pow_right (zero-lt-suc 1) z in
        rw (div-eq_of_lt (lt_of_lt_of_le l b), mod-eq_of_lt (lt_of_lt_of_le h b)) (omega arith)

same_self : (m : Mark) (x : ℕ) → Same m x x
same_self whole x = refl
same_self (low k) x = refl
same_self none x = tt

pub agree_self : (ms : List Mark) (s : List ℕ) → length ms ≡ length s → Agree ms s s
agree_self [] [] e = tt
agree_self [] (x ∷ s) e = absurd (omega (arith, e))
agree_self (m ∷ ms) [] e = absurd (omega (arith, e))
agree_self (m ∷ ms) (x ∷ s) e = (same_self m x, agree_self ms s (omega (arith, e)))

-- rewriting keeps every bit that counts
pub rewrite-agrees : (ms : List Mark) (s v : List ℕ) → length ms ≡ length s → Agree ms s (rewrite ms s v)
rewrite-agrees [] [] v e = tt
rewrite-agrees [] (x ∷ s) v e = absurd (omega (arith, e))
rewrite-agrees (m ∷ ms) [] v e = absurd (omega (arith, e))
rewrite-agrees (m ∷ ms) (x ∷ s) [] e = agree_self (m ∷ ms) (x ∷ s) e
rewrite-agrees (m ∷ ms) (x ∷ s) (y ∷ v) e = (put_same m x y, rewrite-agrees ms s v (omega (arith, e)))

-- what agrees is a rewriting by its own values
pub agree_rewrites : (ms : List Mark) (s t : List ℕ) → Agree ms s t → rewrite ms s t ≡ t
agree_rewrites [] [] [] a = refl
agree_rewrites [] [] (y ∷ t) a = absurd a
agree_rewrites [] (x ∷ s) t a = absurd a
agree_rewrites (m ∷ ms) [] t a = absurd a
agree_rewrites (m ∷ ms) (x ∷ s) [] a = absurd a
agree_rewrites (m ∷ ms) (x ∷ s) (y ∷ t) a = ap₂ (λ x l. x ∷ l) (put_back m x y a.0) (agree_rewrites ms s t a.1)

-- bytes stay bytes
pub rewrite-bytes : (ms : List Mark) (s v : List ℕ) → Bytes s → Bytes v → Bytes (rewrite ms s v)
rewrite-bytes [] s v b c i = b i
rewrite-bytes (m ∷ ms) [] v b c i = b i
rewrite-bytes (m ∷ ms) (x ∷ s) [] b c i = b i
rewrite-bytes (m ∷ ms) (x ∷ s) (y ∷ v) b c zero = put_byte m x y (b zero) (c zero)
rewrite-bytes (m ∷ ms) (x ∷ s) (y ∷ v) b c (suc i) = rewrite-bytes ms s v (λ j. b (suc j)) (λ j. c (suc j)) i

-- THE TIE: to agree wherever a bit counts is to be a rewriting
pub rewriting : (ms : List Mark) (s t : List ℕ) → length ms ≡ length s → Bytes t → Agree ms s t ↔ Rewritten ms s t
rewriting ms s t e b = (
  λ a. record { values = t; bytes = b; size = sym (agree-length ms s t a); is = sym (agree_rewrites ms s t a) },
  λ r. rw r.is (rewrite-agrees ms s r.values e),
)

module _ {A : Type 0} where
  -- whatever is put in, the reading is the same
  pub run-rewrite : (p : Reading A) (at : ℕ) (s v : List ℕ) → run p at (rewrite (marks p at s) s v) ≡ run p at s
  run-rewrite p at s v = agree_same p at s (rewrite (marks p at s) s v) (rewrite-agrees (marks p at s) s v (marks-length p at s))

module _ {A : Type 0} (c : Block A) (b : List ℕ) where
  -- a mark for each byte of a block
  pub block-length : length (marks_block c b) ≡ length b
  unfolding marks_block
  block-length = go (walk c.start b 0) refl
    where
      go : (w : Got ℕ) → walk c.start b 0 ≡ w → length (marks_from c b w) ≡ length b
      go (bad r) e = marks-length c.start 0 b
      go (got size at) e =
          let p = marks (c.rest size) at (drop at (take size b)) in
          let n : length p ≡ min (size - at) (length b - at) =
          marks-length (c.rest size) at (drop at (take size b)) ∙ rw (drop-take at size b, length-take (size - at) (drop at b), length-drop at b) in
          let h = walk-within c.start b 0 (omega arith) e in
          rw (
            length-append (replicate at whole) (p ++ replicate (length b - at - (size - at)) none),
            length-append p (replicate (length b - at - (size - at)) none),
            length-replicate at whole,
            length-replicate (length b - at - (size - at)) none,
            n,
          ) (omega arith)

  pub block-rewrite : (v : List ℕ) → run_block c (rewrite (marks_block c b) b v) ≡ run_block c b
  block-rewrite v = block_same c b (rewrite (marks_block c b) b v) (rewrite-agrees (marks_block c b) b v block-length)
