-- UTF-16 read from the front: what the first units decide. Assumes nothing.
use Rattle.std.specs.Prelude.{◌≡◌, refl, Bool, true, false, ◌&&◌, List, [], ◌∷◌, ◌⊎◌, ℕ, ◌+◌, ◌≤◌, ◌<◌, leb, ltb, drop, get_or}
use Rattle.std.proofs.Common.{inl, inr, arith, get_or-drop, lt-ltb, le-ltb, le-leb}
use Rattle.std.proofs.lemmas.Bool.{lt-leb}
use Rattle.base.specs.Never.{never}
use Rattle.base.specs.Choose.{lt_or_le}
use Rattle.text.specs.Utf16.{Decoded, well, ill, is_well, scalars, more, is_high, is_low, of_pair, utf16}

-- every element is a unit of 16 bits
abbrev pub Words : List ℕ → Type 0
Words us = (i : ℕ) → get_or us i 0 < 65536

pub words-drop : (i : ℕ) (us : List ℕ) → Words us → Words (drop i us)
words-drop i us w j = rw get_or-drop (w (i + j))

-- a unit is a leading surrogate, a trailing one, or a scalar value by itself
abbrev pub High : ℕ → Type 0
High u = (0xD800 ≤ u) × (u < 0xDC00)

abbrev pub Low : ℕ → Type 0
Low u = (0xDC00 ≤ u) × (u < 0xE000)

abbrev pub Single : ℕ → Type 0
Single u = (u < 0xD800) ⊎ (0xE000 ≤ u)

-- no trailing surrogate comes first
abbrev pub NoLow : List ℕ → Type 0
NoLow [] = Unit {0}
NoLow (u ∷ us) = (u < 0xDC00) ⊎ (0xE000 ≤ u)

inside : (a b u : ℕ) → a ≤ u → u < b → (leb a u && ltb u b) ≡ true
inside a b u p q = rw (le-leb a u p, lt-ltb u b q)

outside : (a b u : ℕ) → (u < a) ⊎ (b ≤ u) → (leb a u && ltb u b) ≡ false
outside a b u (inl p) = rw (lt-leb a u p)
outside a b u (inr p) = rw (le-ltb u b p) (go (leb a u))
  where
    go : (t : Bool) → (t && false) ≡ false
    go true = refl
    go false = refl

pub high : {u : ℕ} → High u → is_high u ≡ true
high {u} p = inside 0xD800 0xDC00 u p.0 p.1

pub low : {u : ℕ} → Low u → is_low u ≡ true
low {u} p = inside 0xDC00 0xE000 u p.0 p.1

pub low-high : {u : ℕ} → Low u → is_high u ≡ false
low-high {u} p = outside 0xD800 0xDC00 u (inr p.0)

pub single-high : {u : ℕ} → Single u → is_high u ≡ false
single-high {u} (inl p) = outside 0xD800 0xDC00 u (inl p)
single-high {u} (inr p) = outside 0xD800 0xDC00 u (inr (omega arith))

pub single-low : {u : ℕ} → Single u → is_low u ≡ false
single-low {u} (inl p) = outside 0xDC00 0xE000 u (inl (omega arith))
single-low {u} (inr p) = outside 0xDC00 0xE000 u (inr p)

pub no_low : {u : ℕ} → (u < 0xDC00) ⊎ (0xE000 ≤ u) → is_low u ≡ false
no_low {u} p = outside 0xDC00 0xE000 u p

-- utf16, by the units that come first
pub utf16-none : utf16 [] ≡ well []
unfolding utf16
utf16-none = refl

pub utf16-single : (u : ℕ) (us : List ℕ) → Single u → utf16 (u ∷ us) ≡ more u (utf16 us)
unfolding utf16
utf16-single u [] p = simp (single-high p, single-low p)
utf16-single u (v ∷ us) p = simp (single-high p, single-low p)

pub utf16-pair : (u v : ℕ) (us : List ℕ) → High u → Low v → utf16 (u ∷ v ∷ us) ≡ more (of_pair u v) (utf16 us)
unfolding utf16
utf16-pair u v us p q = simp (high p, low q)

pub utf16-stray : (u : ℕ) (us : List ℕ) → Low u → utf16 (u ∷ us) ≡ ill
unfolding utf16
utf16-stray u [] p = simp (low-high p, low p)
utf16-stray u (v ∷ us) p = simp (low-high p, low p)

pub utf16-lone : (u : ℕ) (us : List ℕ) → High u → NoLow us → utf16 (u ∷ us) ≡ ill
unfolding utf16
utf16-lone u [] p q = simp (high p)
utf16-lone u (v ∷ us) p q = simp (high p, no_low q)

-- units read from the front, up to a surrogate without partner
pub data Cases : List ℕ → Type 0 where
  none : Cases []
  single : {u : ℕ} {us : List ℕ} → Single u → Cases us → Cases (u ∷ us)
  pair : {u v : ℕ} {us : List ℕ} → High u → Low v → Cases us → Cases (u ∷ v ∷ us)
  stray : {u : ℕ} {us : List ℕ} → Low u → Cases (u ∷ us)
  lone : {u : ℕ} {us : List ℕ} → High u → NoLow us → Cases (u ∷ us)

kind : (u : ℕ) → Single u ⊎ (High u ⊎ Low u)
kind u = go (lt_or_le u 0xD800) (lt_or_le u 0xDC00) (lt_or_le u 0xE000)
  where
    go : (u < 0xD800) ⊎ (0xD800 ≤ u) → (u < 0xDC00) ⊎ (0xDC00 ≤ u) → (u < 0xE000) ⊎ (0xE000 ≤ u) → Single u ⊎ (High u ⊎ Low u)
    go (inl p) q r = inl (inl p)
    go (inr p) (inl q) r = inr (inl (p, q))
    go (inr p) (inr q) (inl r) = inr (inr (q, r))
    go (inr p) (inr q) (inr r) = inl (inr r)

pub cases : (us : List ℕ) → Cases us
cases [] = none
cases (u ∷ []) = go (kind u)
  where
    go : Single u ⊎ (High u ⊎ Low u) → Cases (u ∷ [])
    go (inl p) = single p none
    go (inr (inl p)) = lone p tt
    go (inr (inr p)) = stray p
cases (u ∷ v ∷ us) = go (kind u) (kind v) (cases us) (cases (v ∷ us))
  where
    go : Single u ⊎ (High u ⊎ Low u) → Single v ⊎ (High v ⊎ Low v) → Cases us → Cases (v ∷ us) → Cases (u ∷ v ∷ us)
    go (inl p) k r r' = single p r'
    go (inr (inr p)) k r r' = stray p
    go (inr (inl p)) (inr (inr q)) r r' = pair p q r
    go (inr (inl p)) (inr (inl q)) r r' = lone p (inl q.1)
    go (inr (inl p)) (inl (inl q)) r r' = lone {us = v ∷ us} p (inl (omega arith))
    go (inr (inl p)) (inl (inr q)) r r' = lone p (inr q)

pub is_well-more : (c : ℕ) (d : Decoded) → is_well (more c d) ≡ is_well d
is_well-more c (well t) = refl
is_well-more c ill = refl

pub scalars-more : (c : ℕ) (d : Decoded) → is_well d ≡ true → scalars (more c d) ≡ c ∷ scalars d
scalars-more c (well t) e = refl
scalars-more c ill e = never (cc)
