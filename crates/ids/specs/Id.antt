-- The id of a name (document 01: "Id: CityHash64 v1.1 of the UTF-16LE text with A to Z lowered"; document 02, Q-1: by Unicode's mappings, one
-- character to one). Assumes nothing.
use Rattle.std.specs.Prelude.{List, ℕ}
use Rattle.text.specs.Utf16.{utf16le}
use Rattle.lower.specs.Lower.{lowered}
use Rattle.city.specs.City.{city_hash64}

unfoldable pub id_of : List ℕ → ℕ
id_of t = city_hash64 (utf16le (lowered t))
