-- Laws of UTF-8: the bytes of a scalar value by cases, and that decoding gives back what was encoded. Assumes nothing.
use Rattle.std.specs.Prelude.{◌≡◌, refl, true, ◌||◌, List, [], ◌∷◌, ◌++◌, ℕ, suc, ◌+◌, ◌*◌, ◌-◌, ◌/◌, ◌%◌, ◌≤◌, ◌<◌, leb, ltb, length}
use Rattle.std.proofs.Common.{◌∙◌, ap, append_assoc, inl, inr}
use Rattle.std.proofs.Math.Bool.{and-eq-true_iff}
use Rattle.std.proofs.Math.Logic.{⊎_elim}
use native.Mathlib.Omega.{arith}
use borrow.Author.Tests.{lt-ltb, le-ltb, le-leb, ltb-true}
use Rattle.base.specs.Choose.{lt_or_le}
use Rattle.text.specs.Affix.{all_ascii}
use Rattle.text.specs.Utf16.{well, more, Scalar, Scalars}
use Rattle.text.specs.Utf8.{utf8_one, utf8, from_utf8_on, from_utf8}

-- the bytes of a scalar value
module _ {c : ℕ} where
  pub utf8_1 : c < 0x80 → utf8_one c ≡ c ∷ []
  unfolding utf8_one
  utf8_1 h = rw (lt-ltb _ _ h)

  pub utf8_2 : 0x80 ≤ c → c < 0x800 → utf8_one c ≡ (192 + c / 64) ∷ (128 + c % 64) ∷ []
  unfolding utf8_one
  utf8_2 l h = rw (le-ltb _ _ l, lt-ltb _ _ h)

  pub utf8_3 : 0x800 ≤ c → c < 0x10000 → utf8_one c ≡ (224 + c / 4096) ∷ (128 + c / 64 % 64) ∷ (128 + c % 64) ∷ []
  unfolding utf8_one
  utf8_3 l h =
      let k : 0x80 ≤ c = omega arith in
      rw (le-ltb _ _ k, le-ltb _ _ l, lt-ltb _ _ h)

  pub utf8_4 : 0x10000 ≤ c → utf8_one c ≡ (240 + c / 262144) ∷ (128 + c / 4096 % 64) ∷ (128 + c / 64 % 64) ∷ (128 + c % 64) ∷ []
  unfolding utf8_one
  utf8_4 l =
      let k : 0x80 ≤ c = omega arith in
      let j : 0x800 ≤ c = omega arith in
      rw (le-ltb _ _ k, le-ltb _ _ j, le-ltb _ _ l)

-- every number is in one of the four cases
pub data Sized : ℕ → Type 0 where
  one : {c : ℕ} → c < 0x80 → Sized c
  two : {c : ℕ} → 0x80 ≤ c → c < 0x800 → Sized c
  three : {c : ℕ} → 0x800 ≤ c → c < 0x10000 → Sized c
  four : {c : ℕ} → 0x10000 ≤ c → Sized c

pub sized : (c : ℕ) → Sized c
sized c =
    ⊎_elim one
    (λ l. ⊎_elim (two l) (λ m. ⊎_elim (three m) four (lt_or_le c 0x10000)) (lt_or_le c 0x800))
    (lt_or_le c 0x80)

pub utf8_one-length : (c : ℕ) → length (utf8_one c) ≤ 4
utf8_one-length c = go (sized c)
  where
    go : Sized c → length (utf8_one c) ≤ 4
    go (one h) = omega (arith, ap length (utf8_1 h))
    go (two l h) = omega (arith, ap length (utf8_2 l h))
    go (three l h) = omega (arith, ap length (utf8_3 l h))
    go (four l) = omega (arith, ap length (utf8_4 l))

pub utf8_append : (t u : List ℕ) → utf8 (t ++ u) ≡ utf8 t ++ utf8 u
utf8_append [] u = refl
utf8_append (c ∷ t) u = rw (utf8_append t u, append_assoc)

no_surrogate : (d : ℕ) → Scalar d → (ltb d 0xD800 || leb 0xE000 d) ≡ true
no_surrogate d (inl h) = rw (lt-ltb _ _ h)
no_surrogate d (inr h) =
    let a : 0xD800 ≤ d = omega arith in
    rw (le-ltb _ _ a, le-leb _ _ h.0)

-- the reading of the first byte of a scalar value, and of a further one
module _ (s : List ℕ) where
  first_1 : (b : ℕ) → b < 0x80 → from_utf8_on 0 0 0 (b ∷ s) ≡ more b (from_utf8_on 0 0 0 s)
  unfolding from_utf8_on
  first_1 b h = rw (lt-ltb _ _ h)

  first_2 : (x : ℕ) → x < 32 → from_utf8_on 0 0 0 ((192 + x) ∷ s) ≡ from_utf8_on 1 0x80 x s
  unfolding from_utf8_on
  first_2 x h =
      let a : 0x80 ≤ 192 + x = omega arith in
      let b : 0xC0 ≤ 192 + x = omega arith in
      let d : 192 + x < 0xE0 = omega arith in
      let e : 192 + x - 0xC0 ≡ x = omega arith in
      rw (le-ltb _ _ a, le-ltb _ _ b, lt-ltb _ _ d, e)

  first_3 : (x : ℕ) → x < 16 → from_utf8_on 0 0 0 ((224 + x) ∷ s) ≡ from_utf8_on 2 0x800 x s
  unfolding from_utf8_on
  first_3 x h =
      let a : 0x80 ≤ 224 + x = omega arith in
      let b : 0xC0 ≤ 224 + x = omega arith in
      let d : 0xE0 ≤ 224 + x = omega arith in
      let f : 224 + x < 0xF0 = omega arith in
      let e : 224 + x - 0xE0 ≡ x = omega arith in
      rw (le-ltb _ _ a, le-ltb _ _ b, le-ltb _ _ d, lt-ltb _ _ f, e)

  first_4 : (x : ℕ) → x < 8 → from_utf8_on 0 0 0 ((240 + x) ∷ s) ≡ from_utf8_on 3 0x10000 x s
  unfolding from_utf8_on
  first_4 x h =
      let a : 0x80 ≤ 240 + x = omega arith in
      let b : 0xC0 ≤ 240 + x = omega arith in
      let d : 0xE0 ≤ 240 + x = omega arith in
      let f : 0xF0 ≤ 240 + x = omega arith in
      let g : 240 + x < 0xF8 = omega arith in
      let e : 240 + x - 0xF0 ≡ x = omega arith in
      rw (le-ltb _ _ a, le-ltb _ _ b, le-ltb _ _ d, le-ltb _ _ f, lt-ltb _ _ g, e)

  next : (n least c x : ℕ) → x < 64 → from_utf8_on (suc (suc n)) least c ((128 + x) ∷ s) ≡ from_utf8_on (suc n) least (c * 64 + x) s
  unfolding from_utf8_on
  next n least c x h =
      let a : 0x80 ≤ 128 + x = omega arith in
      let b : 128 + x < 0xC0 = omega arith in
      let e : 128 + x - 0x80 ≡ x = omega arith in
      rw (le-leb _ _ a, lt-ltb _ _ b, e)

  last : (least c x d : ℕ) → x < 64 → c * 64 + x ≡ d → least ≤ d → Scalar d → from_utf8_on 1 least c ((128 + x) ∷ s) ≡ more d (from_utf8_on 0 0 0 s)
  unfolding from_utf8_on
  last least c x d h q l k =
      let a : 0x80 ≤ 128 + x = omega arith in
      let b : 128 + x < 0xC0 = omega arith in
      let e : 128 + x - 0x80 ≡ x = omega arith in
      let g : d ≤ 0x10FFFF = ⊎_elim (λ w. omega arith) (λ w. omega arith) k in
      rw (le-leb _ _ a, lt-ltb _ _ b, e, q, le-leb _ _ l, le-leb _ _ g, no_surrogate d k)

-- the bytes of a scalar value are read as that value
read_one : (c : ℕ) (s : List ℕ) → Scalar c → from_utf8_on 0 0 0 (utf8_one c ++ s) ≡ more c (from_utf8_on 0 0 0 s)
read_one c s k = go (sized c)
  where
    go : Sized c → from_utf8_on 0 0 0 (utf8_one c ++ s) ≡ more c (from_utf8_on 0 0 0 s)
    go (one h) = rw (utf8_1 h) (first_1 s c h)
    go (two l h) = rw (utf8_2 l h) (first_2 _ (c / 64) (omega arith) ∙ last s 0x80 (c / 64) (c % 64) c (omega arith) (omega arith) l k)
    go (three l h) =
        rw (utf8_3 l h)
        (first_3 _ (c / 4096) (omega arith) ∙ next _ 0 0x800 (c / 4096) (c / 64 % 64) (omega arith)
        ∙ last s 0x800 _ (c % 64) c (omega arith) (omega arith) l k)
    go (four l) =
        let top : c ≤ 0x10FFFF = ⊎_elim (λ w. omega arith) (λ w. omega arith) k in
        rw (utf8_4 l)
        (first_4 _ (c / 262144) (omega arith) ∙ next _ 1 0x10000 (c / 262144) (c / 4096 % 64) (omega arith)
        ∙ next _ 0 0x10000 _ (c / 64 % 64) (omega arith) ∙ last s 0x10000 _ (c % 64) c (omega arith) (omega arith) l k)

pub utf8-read : (c : ℕ) (s : List ℕ) → Scalar c → from_utf8 (utf8_one c ++ s) ≡ more c (from_utf8 s)
unfolding from_utf8
utf8-read c s k = read_one c s k

-- RFC 3629: decoding gives back the scalar values
pub utf8_decode : (t : List ℕ) → Scalars t → from_utf8 (utf8 t) ≡ well t
unfolding from_utf8 from_utf8_on
utf8_decode [] k = refl
utf8_decode (c ∷ t) k = read_one c (utf8 t) k.0 ∙ ap (more c) (utf8_decode t k.1)

pub utf8-injective : (t u : List ℕ) → Scalars t → Scalars u → utf8 t ≡ utf8 u → t ≡ u
utf8-injective t u k l e =
    let a = utf8_decode t k in
    let b = utf8_decode u l in
    let f = ap from_utf8 e in
    cc

-- ASCII is its own encoding
pub utf8-ascii : (t : List ℕ) → all_ascii t ≡ true → utf8 t ≡ t
utf8-ascii [] e = refl
utf8-ascii (c ∷ t) e =
    let p = (and-eq-true_iff (ltb c 128) (all_ascii t)).0 e in
    rw (utf8_1 (ltb-true c 128 p.0), utf8-ascii t p.1)
