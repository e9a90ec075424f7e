-- Laws of units: what they mean, one scalar value at a time. Assumes nothing.
use Rattle.std.specs.Prelude.{◌≡◌, refl, Bool, true, false, List, [], ◌∷◌, ℕ, zero, suc, ◌+◌, ◌*◌, ◌/◌, ◌≤◌, ◌<◌, length, drop, get_or, Option, Some, None}
use Rattle.std.proofs.Common.{sym, ◌∙◌, ap, inl, arith}
use Rattle.base.specs.Never.{never}
use Rattle.base.specs.NumberLaws.{Bytes}
use Rattle.base.specs.Number.{le_at}
use Rattle.text.specs.Utf16.{Decoded, well, ill, is_well, more, of_pair, utf16, units, encode16, Scalars}
use Rattle.text.specs.Name.{decoded, base}
use Rattle.text.specs.Units.{units_of, of_units, scalar_of}
use Rattle.text.specs.declared.utf16.Scalar.{Scalar}
use Rattle.text.specs.Utf16Cases.{High, Low, Single, NoLow, Cases, none, single, pair, stray, lone, cases, high, low, low-high, single-high, single-low, no_low, utf16-single, utf16-pair, utf16-stray, utf16-lone}
use Rattle.text.specs.Utf16Laws.{decode_length}
pub use Rattle.text.specs.Utf16Cases.{Words, words-drop, utf16-none, is_well-more, scalars-more}
pub use Rattle.text.specs.Utf16Laws.{decode_encode, encode_decode, ill_formed, no_encoding}

-- the units of bytes are words
units-words : (part : List ℕ) → Bytes part → Words (units part)
unfolding units
units-words [] b i = omega arith
units-words (x ∷ []) b i = omega arith
units-words (x ∷ y ∷ part) b zero = omega (arith, b 0, b 1)
units-words (x ∷ y ∷ part) b (suc i) = units-words part (λ j. b (suc (suc j))) i

pub units_of-words : (wide : Bool) (part : List ℕ) → Bytes part → Words (units_of wide part)
unfolding units_of
units_of-words false part b i = omega (arith, b i)
units_of-words true part b i = units-words part b i

-- one-byte text and wide text are what their units mean
latin1 : (part : List ℕ) → Bytes part → utf16 part ≡ well part
latin1 [] b = utf16-none
latin1 (x ∷ part) b = utf16-single x part (inl (omega (arith, b 0))) ∙ ap (more x) (latin1 part (λ i. b (suc i)))

pub decoded-units : (wide : Bool) (part : List ℕ) → Bytes part → decoded wide part ≡ utf16 (units_of wide part)
unfolding decoded units_of
decoded-units false part b = sym (latin1 part b)
decoded-units true part b = refl

-- the units of a text encode it, and it is of scalar values
pub base-units : (wide : Bool) (part : List ℕ) → Bytes part → is_well (decoded wide part) ≡ true
    → (encode16 (base wide part) ≡ units_of wide part) × Scalars (base wide part)
base-units wide part b e =
    let q = decoded-units wide part b in
    rw q (encode_decode (units_of wide part) (units_of-words wide part b) (rw q at e))

-- Latin-1 is always a text; a text has no more scalar values than units
pub latin1-well : (part : List ℕ) → is_well (decoded false part) ≡ true
unfolding decoded
latin1-well part = refl

pub base-length : (wide : Bool) (part : List ℕ) → length (base wide part) ≤ length (units_of wide part)
unfolding decoded units_of
base-length false part = omega arith
base-length true part = decode_length (units part)

-- how many units there are, and which bytes each has
pub units_of-narrow : (part : List ℕ) → units_of false part ≡ part
unfolding units_of
units_of-narrow part = refl

pub units_of-length : (part : List ℕ) → length (units_of true part) ≡ length part / 2
unfolding units_of units
units_of-length [] = omega arith
units_of-length (x ∷ []) = omega arith
units_of-length (x ∷ y ∷ part) = let e = units_of-length part in omega arith

pub units_of_bound : (wide : Bool) (part : List ℕ) → length (units_of wide part) ≤ length part
units_of_bound false part = rw units_of-narrow (omega arith)
units_of_bound true part = omega (arith, units_of-length part)

pub units_of-at : (part : List ℕ) (i : ℕ) → 2 * i + 2 ≤ length part → get_or (units_of true part) i 0 ≡ le_at 2 part (2 * i)
unfolding units_of units le_at
units_of-at [] i h = absurd (omega arith)
units_of-at (x ∷ []) i h = absurd (omega arith)
units_of-at (x ∷ y ∷ part) zero h = omega arith
units_of-at (x ∷ y ∷ part) (suc i) h = let e : 2 * suc i ≡ suc (suc (2 * i)) = omega arith in rw e (units_of-at part i (omega arith))

-- scalar_of by the first units
pub scalar-single : (u : ℕ) (us : List ℕ) → Single u → scalar_of (u ∷ us) ≡ of_units 1 u
unfolding scalar_of
scalar-single u [] p = simp (single-high p, single-low p)
scalar-single u (v ∷ us) p = simp (single-high p, single-low p)

pub scalar-pair : (u v : ℕ) (us : List ℕ) → High u → Low v → scalar_of (u ∷ v ∷ us) ≡ of_units 2 (of_pair u v)
unfolding scalar_of
scalar-pair u v us p q = simp (high p, low q)

pub scalar-stray : (u : ℕ) (us : List ℕ) → Low u → scalar_of (u ∷ us) ≡ None
unfolding scalar_of
scalar-stray u [] p = simp (low-high p, low p)
scalar-stray u (v ∷ us) p = simp (low-high p, low p)

pub scalar-lone : (u : ℕ) (us : List ℕ) → High u → NoLow us → scalar_of (u ∷ us) ≡ None
unfolding scalar_of
scalar-lone u [] p q = simp (high p)
scalar-lone u (v ∷ us) p q = simp (high p, no_low q)

-- the first scalar value, and the rest
abbrev after : Option Scalar → List ℕ → Decoded
after (Some s) us = more s.value (utf16 (drop s.units us))
after None us = ill

first : {u : ℕ} {us : List ℕ} → Cases (u ∷ us) → utf16 (u ∷ us) ≡ after (scalar_of (u ∷ us)) (u ∷ us)
first (single {u} {us} p r) = rw (utf16-single u us p, scalar-single u us p)
first (pair {u} {v} {us} p q r) = rw (utf16-pair u v us p q, scalar-pair u v us p q)
first (stray {u} {us} p) = rw (utf16-stray u us p, scalar-stray u us p)
first (lone {u} {us} p q) = rw (utf16-lone u us p q, scalar-lone u us p q)

scalar-first : (us : List ℕ) (s : Option Scalar) → 0 < length us → scalar_of us ≡ s → utf16 us ≡ after s us
scalar-first [] s l e = absurd (omega arith)
scalar-first (u ∷ us) s l e = first (cases (u ∷ us)) ∙ ap (λ (s : Option Scalar). after s (u ∷ us)) e

pub scalar-some : (us : List ℕ) {s : Scalar} → scalar_of us ≡ Some s → utf16 us ≡ more s.value (utf16 (drop s.units us))
unfolding scalar_of
scalar-some [] e = never (cc)
scalar-some (u ∷ us) {s} e = scalar-first (u ∷ us) (Some s) (omega arith) e

pub scalar-one : (us : List ℕ) {c : ℕ} → scalar_of us ≡ of_units 1 c → utf16 us ≡ more c (utf16 (drop 1 us))
scalar-one us e = scalar-some us e

pub scalar-two : (us : List ℕ) {c : ℕ} → scalar_of us ≡ of_units 2 c → utf16 us ≡ more c (utf16 (drop 2 us))
scalar-two us e = scalar-some us e

pub scalar-ill : (us : List ℕ) → 0 < length us → scalar_of us ≡ None → utf16 us ≡ ill
scalar-ill us l e = scalar-first us None l e

-- how many units it takes, and how large it is
abbrev Fits : Option Scalar → List ℕ → Type 0
Fits (Some s) us = (0 < s.units) × (s.units ≤ length us) × (s.units ≡ 1 → s.value < 0x10000) × (s.value < 0x110000)
Fits None us = Unit {0}

fits : {us : List ℕ} → Cases us → Words us → Fits (scalar_of us) us
unfolding scalar_of
fits none w = tt
fits (single {u} {us} p r) w = rw (scalar-single u us p) (omega arith, omega arith, λ _. w 0, omega (arith, w 0))
fits (pair {u} {v} {us} p q r) w = rw (scalar-pair u v us p q) (omega arith, omega arith, λ e. absurd (omega arith), omega arith)
fits (stray {u} {us} p) w = rw (scalar-stray u us p) tt
fits (lone {u} {us} p q) w = rw (scalar-lone u us p q) tt

pub some-fits : (us : List ℕ) {s : Scalar} → Words us → scalar_of us ≡ Some s → (0 < s.units) × (s.units ≤ length us) × (s.units ≡ 1 → s.value < 0x10000) × (s.value < 0x110000)
some-fits us w e = rw e at (fits (cases us) w)

pub one-fits : (us : List ℕ) {c : ℕ} → Words us → scalar_of us ≡ of_units 1 c → (1 ≤ length us) × (c < 0x10000)
one-fits us w e = let f = some-fits us w e in (f.1, f.2 refl)

pub two_fits : (us : List ℕ) {c : ℕ} → Words us → scalar_of us ≡ of_units 2 c → (2 ≤ length us) × (c < 0x110000)
two_fits us w e = let f = some-fits us w e in (f.1, f.3)
