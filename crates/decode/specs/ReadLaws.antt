-- Decoding UTF-8 (RFC 3629) is the inverse of encoding: what decodes to a text is that text's bytes, so each text has one form in
-- bytes. The other way round is `utf8_decode` of text. Assumes nothing.
use Rattle.std.specs.Prelude.{◌≡◌, refl, Bool, true, false, ◌&&◌, ◌||◌, List, [], ◌∷◌, ◌++◌, ◌⊎◌, ℕ, zero, suc, ◌+◌, ◌*◌, ◌-◌, ◌/◌, ◌%◌, ◌≤◌, ◌<◌, leb, ltb, length}
use Rattle.std.proofs.Common.{sym, ap, ◌∙◌, inl, inr, length-append}
use Rattle.std.proofs.Math.Bool.{and-eq-true_iff}
use native.Mathlib.Omega.{arith}
use borrow.Author.Tests.{lt-ltb, le-ltb, ltb-true, leb-true}
use Rattle.base.specs.Never.{never}
use Rattle.base.specs.Choose.{lt_or_le}
use Rattle.text.specs.Utf16.{Decoded, well, ill, is_well, scalars, more, Scalar, Scalars}
use Rattle.text.specs.Utf8.{utf8_one, utf8, from_utf8_on, from_utf8}
use Rattle.text.specs.Utf8Laws.{utf8_1, utf8_2, utf8_3, utf8_4, Sized, one, two, three, four, sized, utf8-read, utf8_decode}

-- both parts of a test
pub both : (t u : Bool) → (t && u) ≡ true → (t ≡ true) × (u ≡ true)
both t u = (and-eq-true_iff t u).0

no_surrogate : (d : ℕ) → d ≤ 0x10FFFF → (ltb d 0xD800 || leb 0xE000 d) ≡ true → Scalar d
no_surrogate d h e = go (ltb d 0xD800) refl e
  where
    go : (t : Bool) → ltb d 0xD800 ≡ t → (t || leb 0xE000 d) ≡ true → Scalar d
    go true q e = inl (ltb-true _ _ q)
    go false q e = inr (leb-true _ _ e, h)

-- after some bits c, n more bytes are to come: s starts with them, as the scalar value d is written with them (`tails`; the bits
-- above them are `top`), or is ill-formed
data Rest (n least c : ℕ) (tails : ℕ → List ℕ) (top : ℕ → ℕ) (s : List ℕ) : Type 0 where
  bad : from_utf8_on n least c s ≡ ill → Rest n least c tails top s
  good : (d : ℕ) (r : List ℕ) → tails d ++ r ≡ s → top d ≡ c → least ≤ d → Scalar d → Rest n least c tails top s

abbrev Rest1 : ℕ → ℕ → List ℕ → Type 0
Rest1 least c s = Rest 1 least c (λ d. (128 + d % 64) ∷ []) (λ d. d / 64) s

abbrev Rest2 : ℕ → ℕ → List ℕ → Type 0
Rest2 least c s = Rest 2 least c (λ d. (128 + d / 64 % 64) ∷ (128 + d % 64) ∷ []) (λ d. d / 64 / 64) s

abbrev Rest3 : ℕ → ℕ → List ℕ → Type 0
Rest3 least c s = Rest 3 least c (λ d. (128 + d / 64 / 64 % 64) ∷ (128 + d / 64 % 64) ∷ (128 + d % 64) ∷ []) (λ d. d / 64 / 64 / 64) s

-- the last byte
module _ (least c b : ℕ) (s : List ℕ) where
  abbrev value : ℕ
  value = c * 64 + (b - 0x80)

  abbrev fits : Bool
  fits = leb 0x80 b && ltb b 0xC0 && leb least value && leb value 0x10FFFF && (ltb value 0xD800 || leb 0xE000 value)

  last-bad : fits ≡ false → from_utf8_on 1 least c (b ∷ s) ≡ ill
  unfolding from_utf8_on
  last-bad e = rw e

  last-good : fits ≡ true → Rest1 least c (b ∷ s)
  last-good e =
      let p = both (leb 0x80 b && ltb b 0xC0 && leb least value && leb value 0x10FFFF) _ e in
      let q = both (leb 0x80 b && ltb b 0xC0 && leb least value) _ p.0 in
      let r = both (leb 0x80 b && ltb b 0xC0) _ q.0 in
      let t = both (leb 0x80 b) _ r.0 in
      let low = leb-true 0x80 b t.0 in
      let high = ltb-true b 0xC0 t.1 in
      let h : 128 + value % 64 ≡ b = omega arith in
      good value s (rw h) (omega arith) (leb-true least value r.1) (no_surrogate value (leb-true value 0x10FFFF q.1) p.1)

  last : Rest1 least c (b ∷ s)
  last = go fits refl
    where
      go : (t : Bool) → fits ≡ t → Rest1 least c (b ∷ s)
      go true e = last-good e
      go false e = bad (last-bad e)

rest_1 : (least c : ℕ) (s : List ℕ) → Rest1 least c s
unfolding from_utf8_on
rest_1 least c [] = bad refl
rest_1 least c (b ∷ s) = last least c b s

-- one byte more, before those that are known
module _ (n least c b : ℕ) (s : List ℕ) (tails : ℕ → List ℕ) (top : ℕ → ℕ) where
  next-skip : (leb 0x80 b && ltb b 0xC0) ≡ false → from_utf8_on (suc (suc n)) least c (b ∷ s) ≡ ill
  unfolding from_utf8_on
  next-skip e = rw e

  next-on : (leb 0x80 b && ltb b 0xC0) ≡ true → from_utf8_on (suc (suc n)) least c (b ∷ s) ≡ from_utf8_on (suc n) least (c * 64 + (b - 0x80)) s
  unfolding from_utf8_on
  next-on e = rw e

  next : Rest (suc n) least (c * 64 + (b - 0x80)) tails top s
      → Rest (suc (suc n)) least c (λ d. (128 + top d % 64) ∷ tails d) (λ d. top d / 64) (b ∷ s)
  next k = go _ refl k
    where
      go : (t : Bool) → (leb 0x80 b && ltb b 0xC0) ≡ t → Rest (suc n) least (c * 64 + (b - 0x80)) tails top s
          → Rest (suc (suc n)) least c (λ d. (128 + top d % 64) ∷ tails d) (λ d. top d / 64) (b ∷ s)
      go false e k = bad (next-skip e)
      go true e (bad q) = bad (next-on e ∙ q)
      go true e (good d r q t l z) =
          let p = both _ _ e in
          let low = leb-true 0x80 b p.0 in
          let high = ltb-true b 0xC0 p.1 in
          let h : 128 + top d % 64 ≡ b = omega arith in
          good d r (rw (h, q)) (omega arith) l z

rest_2 : (least c : ℕ) (s : List ℕ) → Rest2 least c s
unfolding from_utf8_on
rest_2 least c [] = bad refl
rest_2 least c (b ∷ s) = next 0 least c b s _ _ (rest_1 least (c * 64 + (b - 0x80)) s)

rest_3 : (least c : ℕ) (s : List ℕ) → Rest3 least c s
unfolding from_utf8_on
rest_3 least c [] = bad refl
rest_3 least c (b ∷ s) = next 1 least c b s _ _ (rest_2 least (c * 64 + (b - 0x80)) s)

-- bytes are none, or start with a scalar value, or are ill-formed
pub data First (s : List ℕ) : Type 0 where
  empty : s ≡ [] → First s
  starts : (c : ℕ) (r : List ℕ) → utf8_one c ++ r ≡ s → Scalar c → First s
  broken : from_utf8 s ≡ ill → First s

module _ (b : ℕ) (s : List ℕ) where
  by_1 : b < 0x80 → First (b ∷ s)
  by_1 h = starts b s (rw (utf8_1 h)) (inl (omega arith))

  by-none : 0x80 ≤ b → b < 0xC0 → First (b ∷ s)
  unfolding from_utf8 from_utf8_on
  by-none l h = broken (rw (le-ltb _ _ l, lt-ltb _ _ h))

  on_2 : 0xC0 ≤ b → b < 0xE0 → from_utf8 (b ∷ s) ≡ from_utf8_on 1 0x80 (b - 0xC0) s
  unfolding from_utf8 from_utf8_on
  on_2 l h = let k : 0x80 ≤ b = omega arith in rw (le-ltb _ _ k, le-ltb _ _ l, lt-ltb _ _ h)

  on_3 : 0xE0 ≤ b → b < 0xF0 → from_utf8 (b ∷ s) ≡ from_utf8_on 2 0x800 (b - 0xE0) s
  unfolding from_utf8 from_utf8_on
  on_3 l h =
      let k : 0x80 ≤ b = omega arith in
      let j : 0xC0 ≤ b = omega arith in
      rw (le-ltb _ _ k, le-ltb _ _ j, le-ltb _ _ l, lt-ltb _ _ h)

  on_4 : 0xF0 ≤ b → b < 0xF8 → from_utf8 (b ∷ s) ≡ from_utf8_on 3 0x10000 (b - 0xF0) s
  unfolding from_utf8 from_utf8_on
  on_4 l h =
      let k : 0x80 ≤ b = omega arith in
      let j : 0xC0 ≤ b = omega arith in
      let i : 0xE0 ≤ b = omega arith in
      rw (le-ltb _ _ k, le-ltb _ _ j, le-ltb _ _ i, le-ltb _ _ l, lt-ltb _ _ h)

  by-above : 0xF8 ≤ b → First (b ∷ s)
  unfolding from_utf8 from_utf8_on
  by-above l =
      let k : 0x80 ≤ b = omega arith in
      let j : 0xC0 ≤ b = omega arith in
      let i : 0xE0 ≤ b = omega arith in
      let h : 0xF0 ≤ b = omega arith in
      broken (rw (le-ltb _ _ k, le-ltb _ _ j, le-ltb _ _ i, le-ltb _ _ h, le-ltb _ _ l))

  by_2 : 0xC0 ≤ b → b < 0xE0 → Rest1 0x80 (b - 0xC0) s → First (b ∷ s)
  by_2 l h (bad e) = broken (on_2 l h ∙ e)
  by_2 l h (good d r e t m z) = starts d r (rw (utf8_2 m (omega arith)) (let q : 192 + d / 64 ≡ b = omega arith in rw (q, e))) z

  by_3 : 0xE0 ≤ b → b < 0xF0 → Rest2 0x800 (b - 0xE0) s → First (b ∷ s)
  by_3 l h (bad e) = broken (on_3 l h ∙ e)
  by_3 l h (good d r e t m z) = starts d r (rw (utf8_3 m (omega arith)) (let q : 224 + d / 4096 ≡ b = omega arith in rw (q, e))) z

  by_4 : 0xF0 ≤ b → b < 0xF8 → Rest3 0x10000 (b - 0xF0) s → First (b ∷ s)
  by_4 l h (bad e) = broken (on_4 l h ∙ e)
  by_4 l h (good d r e t m z) =
      let q : 240 + d / 262144 ≡ b = omega arith in
      let j : 128 + d / 4096 % 64 ≡ 128 + d / 64 / 64 % 64 = omega arith in
      starts d r (rw (utf8_4 m) (rw (q, j, e))) z

pub first : (s : List ℕ) → First s
first [] = empty refl
first (b ∷ s) = go (lt_or_le b 0x80) (lt_or_le b 0xC0) (lt_or_le b 0xE0) (lt_or_le b 0xF0) (lt_or_le b 0xF8)
  where
    go : (b < 0x80) ⊎ (0x80 ≤ b) → (b < 0xC0) ⊎ (0xC0 ≤ b) → (b < 0xE0) ⊎ (0xE0 ≤ b) → (b < 0xF0) ⊎ (0xF0 ≤ b) → (b < 0xF8) ⊎ (0xF8 ≤ b)
        → First (b ∷ s)
    go (inl p) q r t u = by_1 b s p
    go (inr p) (inl q) r t u = by-none b s p q
    go (inr p) (inr q) (inl r) t u = by_2 b s q r (rest_1 _ _ s)
    go (inr p) (inr q) (inr r) (inl t) u = by_3 b s r t (rest_2 _ _ s)
    go (inr p) (inr q) (inr r) (inr t) (inl u) = by_4 b s t u (rest_3 _ _ s)
    go (inr p) (inr q) (inr r) (inr t) (inr u) = by-above b s u

-- what bytes mean is what they encode
abbrev Means : List ℕ → Decoded → Type 0
Means s (well t) = (utf8 t ≡ s) × Scalars t
Means s ill = Unit {0}

means-more : (c : ℕ) (r s : List ℕ) (d : Decoded) → utf8_one c ++ r ≡ s → Scalar c → Means r d → Means s (more c d)
means-more c r s (well t) e z m = (rw m.0 e, (z, m.1))
means-more c r s ill e z m = tt

pub utf8_one-some : (c : ℕ) → 1 ≤ length (utf8_one c)
utf8_one-some c = go (sized c)
  where
    go : Sized c → 1 ≤ length (utf8_one c)
    go (one h) = omega (arith, ap length (utf8_1 h))
    go (two l h) = omega (arith, ap length (utf8_2 l h))
    go (three l h) = omega (arith, ap length (utf8_3 l h))
    go (four l) = omega (arith, ap length (utf8_4 l))

means : (n : ℕ) (s : List ℕ) → length s ≤ n → Means s (from_utf8 s)
unfolding from_utf8 from_utf8_on
means zero [] h = (refl, tt)
means zero (b ∷ s) h = absurd (omega arith)
means (suc n) s h = go (first s) (means n)
  where
    go : First s → ((r : List ℕ) → length r ≤ n → Means r (from_utf8 r)) → Means s (from_utf8 s)
    go (empty e) m = rw e (m [] (omega arith))
    go (starts c r e z) m =
        let l : length r ≤ n = omega (arith, utf8_one-some c, length-append (utf8_one c) r, ap length e) in
        rw (← e, utf8-read c r z) (means-more c r (utf8_one c ++ r) (from_utf8 r) refl z (m r l))
    go (broken e) m = rw e tt

-- well-formed bytes are the encoding of what they mean, which are scalar values
pub utf8_encode : (s : List ℕ) → is_well (from_utf8 s) ≡ true → (utf8 (scalars (from_utf8 s)) ≡ s) × Scalars (scalars (from_utf8 s))
utf8_encode s e = go (from_utf8 s) e (means (length s) s (omega arith))
  where
    go : (d : Decoded) → is_well d ≡ true → Means s d → (utf8 (scalars d) ≡ s) × Scalars (scalars d)
    go (well t) e m = m
    go ill e m = never (cc)

-- bytes that decode to the same text are the same bytes
pub from_utf8-injective : (s r : List ℕ) → is_well (from_utf8 s) ≡ true → from_utf8 s ≡ from_utf8 r → s ≡ r
from_utf8-injective s r e q =
    let a = utf8_encode s e in
    let b = utf8_encode r (ap is_well (sym q) ∙ e) in
    sym a.0 ∙ ap (λ (d : Decoded). utf8 (scalars d)) q ∙ b.0

-- bytes that are no encoding are ill-formed, and ill-formed bytes are no encoding
pub no_utf8 : (s : List ℕ) → ((t : List ℕ) → Scalars t → utf8 t ≡ s → ⊥) → from_utf8 s ≡ ill
no_utf8 s f = go (from_utf8 s) (means (length s) s (omega arith))
  where
    go : (d : Decoded) → Means s d → d ≡ ill
    go (well t) m = absurd (f t m.1 m.0)
    go ill m = refl

pub ill-utf8 : (s : List ℕ) → from_utf8 s ≡ ill → (t : List ℕ) → Scalars t → utf8 t ≡ s → ⊥
ill-utf8 s e t z q =
    let d = utf8_decode t z in
    let n : ◌≡◌ {A = ℕ} 0 1 = cc in
    omega arith
