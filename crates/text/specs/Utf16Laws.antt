-- Laws of UTF-16 (the Unicode Standard, D91): decoding and encoding are inverse, and ill-formed is what is no encoding. Assumes nothing.
use Rattle.std.specs.Prelude.{◌≡◌, refl, Bool, true, false, List, [], ◌∷◌, ◌++◌, ℕ, suc, ◌+◌, ◌-◌, ◌/◌, ◌%◌, ◌≤◌, ◌<◌, ltb, length}
use Rattle.std.proofs.Common.{◌∙◌, ap, append_assoc, inl, inr, arith, lt-ltb, le-ltb, ltb-true, ltb-false}
use Rattle.std.proofs.Math.Bool.{and-eq-true_iff}
use Rattle.base.specs.Never.{never}
use Rattle.text.specs.Utf16.{Decoded, well, ill, is_well, scalars, more, of_pair, utf16, encode_one, encode16, Scalar, Scalars}
use Rattle.text.specs.Affix.{all_ascii}
use Rattle.text.specs.Utf16Cases.{Words, High, Low, Single, Cases, none, single, pair, stray, lone, cases, utf16-none, utf16-single, utf16-pair, utf16-stray, utf16-lone}

-- the encoding of one scalar value
one_unit : (c : ℕ) (us : List ℕ) → c < 0x10000 → encode_one c ++ us ≡ c ∷ us
unfolding encode_one
one_unit c us l = rw (lt-ltb _ _ l)

two-units : (c : ℕ) (us : List ℕ) → 0x10000 ≤ c → encode_one c ++ us ≡ (0xD800 + (c - 0x10000) / 0x400) ∷ (0xDC00 + (c - 0x10000) % 0x400) ∷ us
unfolding encode_one
two-units c us l = rw (le-ltb _ _ l)

-- the encoding of a text in parts, and of ASCII, which is its own
pub encode_append : (t u : List ℕ) → encode16 (t ++ u) ≡ encode16 t ++ encode16 u
unfolding encode16
encode_append [] u = refl
encode_append (c ∷ t) u = rw (encode_append t u, append_assoc)

pub encode_ascii : (t : List ℕ) → all_ascii t ≡ true → encode16 t ≡ t
unfolding encode16
encode_ascii [] e = refl
encode_ascii (c ∷ t) e =
    let p = (and-eq-true_iff (ltb c 128) (all_ascii t)).0 e in
    rw (one_unit c (encode16 t) (omega (arith, ltb-true c 128 p.0)), encode_ascii t p.1)

-- the example of D91
pub d91 : encode16 (0x004D ∷ 0x0430 ∷ 0x4E8C ∷ 0x10302 ∷ []) ≡ 0x004D ∷ 0x0430 ∷ 0x4E8C ∷ 0xD800 ∷ 0xDF02 ∷ []
unfolding encode16 encode_one
d91 = refl

-- the meaning of an encoding is what was encoded
decode_one : (c : ℕ) (us : List ℕ) → Scalar c → utf16 (encode_one c ++ us) ≡ more c (utf16 us)
decode_one c us (inl p) = rw (one_unit c us (omega arith)) (utf16-single c us (inl p))
decode_one c us (inr p) = go (ltb c 0x10000) refl
  where
    go : (b : Bool) → ltb c 0x10000 ≡ b → utf16 (encode_one c ++ us) ≡ more c (utf16 us)
    go true l = rw (one_unit c us (ltb-true _ _ l)) (utf16-single c us (inr p.0))
    go false l =
        let h = ltb-false c 0x10000 l in
        let u = 0xD800 + (c - 0x10000) / 0x400 in
        let v = 0xDC00 + (c - 0x10000) % 0x400 in
        let e : of_pair u v ≡ c = omega arith in
        rw (two-units c us h) (utf16-pair u v us (omega arith, omega arith) (omega arith, omega arith) ∙ ap (λ (x : ℕ). more x (utf16 us)) e)

pub decode_encode : (t : List ℕ) → Scalars t → utf16 (encode16 t) ≡ well t
unfolding encode16
decode_encode [] s = utf16-none
decode_encode (c ∷ t) s = decode_one c (encode16 t) s.0 ∙ ap (more c) (decode_encode t s.1)

-- ill-formed units are no encoding
pub ill_formed : (us : List ℕ) → utf16 us ≡ ill → (t : List ℕ) → Scalars t → encode16 t ≡ us → ⊥
ill_formed us e t s q =
    let d = decode_encode t s in
    let z : ◌≡◌ {A = ℕ} 0 1 = cc in
    omega arith

-- what units mean is what they encode
abbrev Means : List ℕ → Decoded → Type 0
Means us (well t) = (encode16 t ≡ us) × Scalars t
Means us ill = Unit {0}

means-single : (u : ℕ) (us : List ℕ) (d : Decoded) → u < 0x10000 → Single u → Means us d → Means (u ∷ us) (more u d)
unfolding encode16
means-single u us (well t) l (inl p) m = (one_unit u (encode16 t) l ∙ ap (◌∷◌ u) m.0, (inl p, m.1))
means-single u us (well t) l (inr p) m = (one_unit u (encode16 t) l ∙ ap (◌∷◌ u) m.0, (inr (p, omega arith), m.1))
means-single u us ill l p m = tt

means-pair : (u v : ℕ) (us : List ℕ) (d : Decoded) → High u → Low v → Means us d → Means (u ∷ v ∷ us) (more (of_pair u v) d)
unfolding encode16
means-pair u v us (well t) p q m =
    let x : 0xD800 + (of_pair u v - 0x10000) / 0x400 ≡ u = omega arith in
    let y : 0xDC00 + (of_pair u v - 0x10000) % 0x400 ≡ v = omega arith in
    (two-units (of_pair u v) (encode16 t) (omega arith) ∙ rw (x, y, m.0), (inr (omega arith, omega arith), m.1))
means-pair u v us ill p q m = tt

means : {us : List ℕ} → Cases us → Words us → Means us (utf16 us)
unfolding encode16
means none w = rw utf16-none (refl, tt)
means (single {u} {us} p r) w = rw (utf16-single u us p) (means-single u us (utf16 us) (w 0) p (means r (λ i. w (suc i))))
means (pair {u} {v} {us} p q r) w = rw (utf16-pair u v us p q) (means-pair u v us (utf16 us) p q (means r (λ i. w (suc (suc i)))))
means (stray {u} {us} p) w = rw (utf16-stray u us p) tt
means (lone {u} {us} p q) w = rw (utf16-lone u us p q) tt

-- well-formed units are the encoding of what they mean, which are scalar values
pub encode_decode : (us : List ℕ) → Words us → is_well (utf16 us) ≡ true → (encode16 (scalars (utf16 us)) ≡ us) × Scalars (scalars (utf16 us))
encode_decode us w e = go (utf16 us) e (means (cases us) w)
  where
    go : (d : Decoded) → is_well d ≡ true → Means us d → (encode16 (scalars d) ≡ us) × Scalars (scalars d)
    go (well t) e m = m
    go ill e m = never (cc)

-- units that are no encoding are ill-formed
pub no_encoding : (us : List ℕ) → Words us → ((t : List ℕ) → Scalars t → encode16 t ≡ us → ⊥) → utf16 us ≡ ill
no_encoding us w f = go (utf16 us) (means (cases us) w)
  where
    go : (d : Decoded) → Means us d → d ≡ ill
    go (well t) m = absurd (f t m.1 m.0)
    go ill m = refl

-- a text has no more scalar values than units
fewer : (c n : ℕ) (d : Decoded) → length (scalars d) ≤ n → length (scalars (more c d)) ≤ suc n
fewer c n (well t) l = omega arith
fewer c n ill l = omega arith

pub decode_length : (us : List ℕ) → length (scalars (utf16 us)) ≤ length us
decode_length us = go (cases us)
  where
    go : {us : List ℕ} → Cases us → length (scalars (utf16 us)) ≤ length us
    go none = rw utf16-none (omega arith)
    go (single {u} {us} p r) = rw (utf16-single u us p) (fewer u (length us) (utf16 us) (go r))
    go (pair {u} {v} {us} p q r) = rw (utf16-pair u v us p q) (let l = fewer (of_pair u v) (length us) (utf16 us) (go r) in omega arith)
    go (stray {u} {us} p) = rw (utf16-stray u us p) (omega arith)
    go (lone {u} {us} p q) = rw (utf16-lone u us p q) (omega arith)
