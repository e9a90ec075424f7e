-- The units that a path's hash is of (document 02, Q-2), name by name: each separator is `/`, a name's base is slashed and lowered, and its number
-- stands as it is; slashing is unit by unit. So the hash says nothing of separators, and a path's units can be made without its text.
use Rattle.std.specs.Prelude.{◌≡◌, refl, Bool, true, false, cond, ◌||◌, List, [], ◌∷◌, ◌++◌, map, ℕ, zero, suc, ◌+◌, ◌-◌, ◌/◌, ◌%◌, ◌<◌, eqb}
use Rattle.std.proofs.Math.Logic.{by_cases}
use Rattle.std.proofs.Common.{inl, arith, lt-ltb, le-ltb, ne_eqb}
use Rattle.std.proofs.lemmas.List.{map-append}
use Rattle.std.proofs.Math.Decide.{dec_lt}
use Rattle.city.specs.City.{city_hash64}
use Rattle.text.specs.Digits.{digits, decimal}
use Rattle.ids.specs.Id.{id_of}
use Rattle.ids.specs.IdLaws.{name_units_lem}
use Rattle.ids.specs.LowerLaws.{lowered_append}
use Rattle.text.specs.Name.{suffix}
use Rattle.ids.specs.LoweredUnits.{name_units}
use Rattle.text.specs.Utf16.{Scalar, Scalars, encode_one, encode16, unit_bytes}
use Rattle.text.specs.Utf16Laws.{encode_append}
use Rattle.lower.specs.Lower.{lower}
use Rattle.lower.proofs.AsciiLaws.{ascii-below}
use Rattle.rules.specs.LatinLaws.{lower_ascii_lem}
use Rattle.meaning.specs.Path.{Path, separator}
use Rattle.meaning.specs.Verify.{slash, slashed, path_hash}
pub use Rattle.meaning.specs.PathUnits.{path_units, slash_after}

pub hash-units : (text : List ℕ) → path_hash text ≡ city_hash64 (unit_bytes (path_units text))
unfolding path_hash id_of
hash-units text = refl

-- ---- in parts

pub units_append : (t u : List ℕ) → path_units (t ++ u) ≡ path_units t ++ path_units u
units_append t u = rw (map-append slash t u, lowered_append, encode_append)

slash-unit : encode16 (lower 0x2F ∷ []) ≡ 0x2F ∷ []
unfolding encode16 encode_one
slash-unit = rw (lower_ascii_lem 0x2F (omega arith), ascii-below 0x2F (omega arith))

pub units-separator : (depth : ℕ) → path_units (separator depth) ≡ slash_after depth
unfolding encode16
units-separator zero = refl
units-separator (suc zero) = slash-unit
units-separator (suc (suc zero)) = slash-unit
units-separator (suc (suc (suc n))) = slash-unit

-- one name more
pub units-more : (p : Path) (name : List ℕ) → path_units (p.text ++ separator p.depth ++ name) ≡ path_units p.text ++ slash_after p.depth ++ path_units name
units-more p name =
    rw (units_append (p.text ++ separator p.depth) name, units_append p.text (separator p.depth), units-separator p.depth)

-- ---- a name

slash-other : (c : ℕ) → (c ≡ 0x2E → ⊥) → (c ≡ 0x3A → ⊥) → slash c ≡ c
slash-other c dot colon = rw (ne_eqb c 0x2E dot, ne_eqb c 0x3A colon)

-- an instance number has no `.` and no `:`
digits-slashed : (f n : ℕ) → slashed (digits f n) ≡ digits f n
unfolding digits
digits-slashed zero n = refl
digits-slashed (suc f) n =
    by_cases (dec_lt n 10)
    (λ (h : n < 10). rw (lt-ltb n 10 h, slash-other (48 + n) (λ e. omega arith) (λ e. omega arith)))
    (λ (h : ¬ (n < 10)).
    rw (
      le-ltb n 10 (omega arith),
      map-append slash (digits f (n / 10)) ((48 + n % 10) ∷ []),
      digits-slashed f (n / 10),
      slash-other (48 + n % 10) (λ e. omega arith) (λ e. omega arith),
    ))

pub suffix-slashed : (n : ℕ) → slashed (suffix n) ≡ suffix n
unfolding decimal
suffix-slashed zero = refl
suffix-slashed (suc n) = rw (digits-slashed 20 n)

-- the units of a rendered name
pub units-name : (base : List ℕ) (number : ℕ) → path_units (base ++ suffix number) ≡ name_units (slashed base) (suffix number)
units-name base number = rw (map-append slash base (suffix number), suffix-slashed number) (name_units_lem (slashed base) number)

-- ---- unit by unit

slash-scalar : (c : ℕ) → Scalar c → Scalar (slash c)
slash-scalar c h = go (eqb c 0x2E || eqb c 0x3A)
  where
    go : (b : Bool) → Scalar (cond b 0x2F c)
    go true = inl (omega arith)
    go false = h

-- a slashed text is of scalar values ..
pub slashed-scalars : (t : List ℕ) → Scalars t → Scalars (slashed t)
slashed-scalars [] h = tt
slashed-scalars (c ∷ t) h = (slash-scalar c h.0, slashed-scalars t h.1)

slash-below : (c : ℕ) → c < 0x10000 → slash c < 0x10000
slash-below c h = go (eqb c 0x2E || eqb c 0x3A)
  where
    go : (b : Bool) → cond b 0x2F c < 0x10000
    go true = omega arith
    go false = h

-- .. and its units are the text's, slashed: no surrogate is `.` or `:`
slashed-one : (c : ℕ) → encode_one (slash c) ≡ map slash (encode_one c)
unfolding encode_one
slashed-one c =
    by_cases (dec_lt c 0x10000)
    (λ (h : c < 0x10000). rw (lt-ltb c 0x10000 h, lt-ltb (slash c) 0x10000 (slash-below c h)))
    (λ (h : ¬ (c < 0x10000)).
    let high = 0xD800 + (c - 0x10000) / 0x400 in
    let low = 0xDC00 + (c - 0x10000) % 0x400 in
    rw (
      slash-other c (λ e. omega arith) (λ e. omega arith),
      le-ltb c 0x10000 (omega arith),
      slash-other high (λ e. omega arith) (λ e. omega arith),
      slash-other low (λ e. omega arith) (λ e. omega arith),
    ))

pub slashed-units : (t : List ℕ) → encode16 (slashed t) ≡ map slash (encode16 t)
unfolding encode16
slashed-units [] = refl
slashed-units (c ∷ t) = rw (slashed-one c, slashed-units t, map-append slash (encode_one c) (encode16 t))
