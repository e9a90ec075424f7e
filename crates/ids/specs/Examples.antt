-- Lowered names and their ids, computed at their edges: each value here is another one where a definition is off by a bit, a byte or a case. Assumes
-- nothing.
use Rattle.std.specs.Prelude.{◌≡◌, refl, [], ◌∷◌}
use Rattle.base.specs.Number.{le_at}
use Rattle.base.specs.Literal.{quoted as text}
use Rattle.city.specs.Word.{addw, mulw, rotr}
use Rattle.city.specs.City.{k2, shift_mix, hash_len16_mul, mul_of, hash_bytes, hash_halves, len1to3, len4to7, len0to16, city_hash64}
use Rattle.lower.specs.Lower.{lower, lowered}
use Rattle.text.specs.Utf16.{encode_one, encode16}
use Rattle.ids.specs.LoweredUnits.{name_units}
use Rattle.ids.specs.Id.{id_of}

-- ---- lowered

pub record Lowering : Type 0 where
  -- "follows the Unicode lowercase mappings, one character to one"
  pub scalars : lowered (text "@AZ[`az{É×ŒİΑΣ𐐀") ≡ text "@az[`az{é×œİασ𐐨"
  -- as units, and the suffix
  pub units : name_units (0x41 ∷ 0x142 ∷ []) (text "_0") ≡ 0x61 ∷ 0x0142 ∷ text "_0"

pub lowering : Lowering
unfolding encode_one encode16 lower name_units
lowering = record { scalars = refl; units = refl }

-- ---- the id of a name

pub record Hashes : Type 0 where
  -- "Id of the empty name: k2"
  pub empty : id_of [] ≡ k2
  -- CityHash64 of `61 00` and of `7A 00 E9 00`
  pub lowers : id_of (text "A") ∷ id_of (text "ZÉ") ∷ [] ≡ city_hash64 (0x61 ∷ 0x00 ∷ []) ∷ city_hash64 (0x7A ∷ 0x00 ∷ 0xE9 ∷ 0x00 ∷ []) ∷ []

pub hashes : Hashes
unfolding id_of lower encode_one encode16 city_hash64 len0to16 len1to3 len4to7 hash_bytes hash_halves le_at mul_of addw mulw rotr shift_mix hash_len16_mul
hashes = record { empty = refl; lowers = refl }
