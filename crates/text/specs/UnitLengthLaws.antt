-- Laws of text by its units alone: it is one where no unit is a surrogate, and takes the bytes of UTF-8 that its units take. Assumes nothing.
use Rattle.std.specs.Prelude.{◌≡◌, refl, Bool, true, false, cond, ◌&&◌, List, [], ◌∷◌, ◌⊎◌, ℕ, suc, ◌+◌, ◌≤◌, ◌<◌, ltb, length, drop, get_or}
use Rattle.std.proofs.Common.{sym, ◌∙◌, ap, inl, inr, ⊎_elim, add-one, arith, length-append, drop-cons, lt-ltb, le-ltb, le-leb}
use Rattle.std.proofs.Math.Bool.{and-eq-true_iff, and_assoc, or-true}
use Rattle.std.proofs.lemmas.Bool.{lt-leb}
use Rattle.base.specs.Never.{never}
use Rattle.base.specs.NumberLaws.{Bytes}
use Rattle.base.specs.Choose.{lt_or_le}
use Rattle.text.specs.Utf16.{is_well, scalars, of_pair, utf16, units}
use Rattle.text.specs.Utf16Cases.{Words, High, Low, Single, Cases, none, single, pair, stray, lone, cases, utf16-none, utf16-single, utf16-pair, utf16-stray, utf16-lone, is_well-more, scalars-more}
use Rattle.text.specs.Utf8.{utf8_one, utf8}
use Rattle.text.specs.Utf8Laws.{Sized, one, two, three, four, sized, utf8_1, utf8_2, utf8_3, utf8_4}
use Rattle.text.specs.Name.{decoded, base}
use Rattle.text.specs.Units.{units_of}
use Rattle.text.specs.UnitsLaws.{decoded-units, units_of-words}
use Rattle.text.specs.UnitLength.{is_single, all_single, unit_length, units_length}

-- ---- surrogates

-- the test of a unit, by where it stands
single-is : {u : ℕ} → Single u → is_single u ≡ true
single-is {u} (inl p) = rw (lt-ltb u 0xD800 p)
single-is {u} (inr p) = rw (le-leb 0xE000 u p) (or-true (ltb u 0xD800))

surrogate-is : (u : ℕ) → 0xD800 ≤ u → u < 0xE000 → is_single u ≡ false
surrogate-is u p q = rw (le-ltb u 0xD800 p, lt-leb 0xE000 u q)

pub is_single_lem : (u : ℕ) → is_single u ≡ true → Single u
is_single_lem u e = go (lt_or_le u 0xD800) (lt_or_le u 0xE000)
  where
    go : (u < 0xD800) ⊎ (0xD800 ≤ u) → (u < 0xE000) ⊎ (0xE000 ≤ u) → Single u
    go (inl p) q = inl p
    go (inr p) (inl q) = let f = surrogate-is u p q in never (cc)
    go (inr p) (inr q) = inr q

pub not_single_lem : (u : ℕ) → is_single u ≡ false → (0xD800 ≤ u) × (u < 0xE000)
not_single_lem u e = go (lt_or_le u 0xD800) (lt_or_le u 0xE000)
  where
    go : (u < 0xD800) ⊎ (0xD800 ≤ u) → (u < 0xE000) ⊎ (0xE000 ≤ u) → (0xD800 ≤ u) × (u < 0xE000)
    go (inl p) q = let f = single-is {u = u} (inl p) in never (cc)
    go (inr p) (inl q) = (p, q)
    go (inr p) (inr q) = let f = single-is {u = u} (inr q) in never (cc)

-- units of which none is a surrogate are a text
single-well : (us : List ℕ) → all_single us ≡ true → is_well (utf16 us) ≡ true
single-well [] e = rw utf16-none
single-well (u ∷ us) e =
    let p = (and-eq-true_iff (is_single u) (all_single us)).0 e in
    rw (utf16-single u us (is_single_lem u p.0), is_well-more) (single-well us p.1)

pub single-text : (part : List ℕ) → all_single (units_of true part) ≡ true → is_well (decoded true part) ≡ true
unfolding decoded units_of
single-text part e = single-well (units part) e

-- ---- bytes

-- how far a unit falls short of three bytes
large-short : (b : Bool) → 0 + cond b 0 1 + cond b 3 2 ≡ 3
large-short true = refl
large-short false = refl

pub unit-short : (u : ℕ) → cond (ltb u 0x80) 1 0 + cond (ltb u 0x800) 1 0 + cond (is_single u) 0 1 + unit_length u ≡ 3
unfolding unit_length
unit-short u =
    ⊎_elim
    (λ (h : u < 0x80).
    let k : u < 0x800 = omega arith in
    rw (lt-ltb _ _ h, lt-ltb _ _ k, single-is {u = u} (inl (omega arith))))
    (λ (l : 0x80 ≤ u). ⊎_elim
    (λ (h : u < 0x800). rw (le-ltb _ _ l, lt-ltb _ _ h, single-is {u = u} (inl (omega arith))))
    (λ (k : 0x800 ≤ u). rw (le-ltb _ _ l, le-ltb _ _ k) (large-short (is_single u)))
    (lt_or_le u 0x800))
    (lt_or_le u 0x80)

-- what a scalar value of one unit takes, and one of two
single-length : (u : ℕ) → Single u → u < 0x10000 → Sized u → length (utf8_one u) ≡ unit_length u
unfolding unit_length
single-length u p h (one l) = rw (utf8_1 l, lt-ltb _ _ l)
single-length u p h (two k l) = rw (utf8_2 k l, le-ltb _ _ k, lt-ltb _ _ l)
single-length u p h (three k l) = let j : 0x80 ≤ u = omega arith in rw (utf8_3 k l, le-ltb _ _ j, le-ltb _ _ k, single-is p)
single-length u p h (four k) = absurd (omega arith)

surrogate-length : (u : ℕ) → 0xD800 ≤ u → u < 0xE000 → unit_length u ≡ 2
unfolding unit_length
surrogate-length u p q =
    let a : 0x80 ≤ u = omega arith in
    let b : 0x800 ≤ u = omega arith in
    rw (le-ltb _ _ a, le-ltb _ _ b, surrogate-is u p q)

pair-length : (u v : ℕ) → High u → Low v → length (utf8_one (of_pair u v)) ≡ unit_length u + unit_length v
pair-length u v p q =
    rw (utf8_4 {c = of_pair u v} (omega arith), surrogate-length u p.0 (omega arith), surrogate-length v (omega arith) q.1)

-- what units mean takes what they take
measure : {us : List ℕ} → Cases us → Words us → is_well (utf16 us) ≡ true → length (utf8 (scalars (utf16 us))) ≡ units_length us
measure none w e = rw utf16-none
measure (single {u} {us} p r) w e =
    let f : is_well (utf16 us) ≡ true = sym (is_well-more u (utf16 us)) ∙ ap is_well (sym (utf16-single u us p)) ∙ e in
    rw (utf16-single u us p, scalars-more u (utf16 us) f, length-append, single-length u p (w 0) (sized u), measure r (λ i. w (suc i)) f)
measure (pair {u} {v} {us} p q r) w e =
    let f : is_well (utf16 us) ≡ true = sym (is_well-more (of_pair u v) (utf16 us)) ∙ ap is_well (sym (utf16-pair u v us p q)) ∙ e in
    rw (utf16-pair u v us p q, scalars-more (of_pair u v) (utf16 us) f, length-append, pair-length u v p q, measure r (λ i. w (suc (suc i))) f) (omega arith)
measure (stray {u} {us} p) w e = let f = utf16-stray u us p in never (cc)
measure (lone {u} {us} p q) w e = let f = utf16-lone u us p q in never (cc)

pub base-bytes : (wide : Bool) (part : List ℕ) → Bytes part → is_well (decoded wide part) ≡ true → length (utf8 (base wide part)) ≡ units_length (units_of wide part)
base-bytes wide part b e =
    let q = decoded-units wide part b in
    rw q (measure (cases (units_of wide part)) (units_of-words wide part b) (rw q at e))

-- at least a byte for each unit
unit-least : (a b c : Bool) → 1 ≤ cond a 1 (cond b 2 (cond c 3 2))
unit-least true b c = omega arith
unit-least false true c = omega arith
unit-least false false true = omega arith
unit-least false false false = omega arith

units-many : (us : List ℕ) → length us ≤ units_length us
unfolding unit_length
units-many [] = omega arith
units-many (u ∷ us) = omega (arith, unit-least (ltb u 0x80) (ltb u 0x800) (is_single u), units-many us)

pub units-least : (us : List ℕ) → Words us → is_well (utf16 us) ≡ true → length us ≤ length (utf8 (scalars (utf16 us)))
units-least us w e = omega (arith, measure (cases us) w e, units-many us)

-- ---- the units from a place on, one by one

pub single-from : (us : List ℕ) (i : ℕ) (all : Bool) → i < length us
    → (all && all_single (drop i us)) ≡ ((all && is_single (get_or us i 0)) && all_single (drop (i + 1) us))
single-from us i all h = rw (drop-cons us i 0 h, add-one i) (sym (and_assoc all (is_single (get_or us i 0)) (all_single (drop (suc i) us))))

pub length_from : (us : List ℕ) (i : ℕ) → i < length us → units_length (drop i us) ≡ unit_length (get_or us i 0) + units_length (drop (i + 1) us)
length_from us i h = rw (drop-cons us i 0 h, add-one i)
