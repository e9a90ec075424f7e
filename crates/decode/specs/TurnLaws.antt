-- Loops over the characters of some bytes: what a turn passes. Assumes nothing.
use Rattle.std.specs.Prelude.{◌≡◌, List, ℕ, ◌+◌, ◌≤◌, ◌<◌, length, drop}
use Rattle.text.specs.Utf16.{Decoded, more, encode_one}
use Rattle.text.specs.Utf8.{from_utf8}
use Rattle.decode.specs.Measure.{text_of}

-- what the bytes from a place on mean
abbrev pub from : List ℕ → ℕ → Decoded
from s at = from_utf8 (drop at s)

abbrev pub text_from : List ℕ → ℕ → List ℕ
text_from s at = text_of (drop at s)

-- a turn at a place passes k bytes, which are the scalar value c
pub record Turn (s : List ℕ) (at c k : ℕ) : Type 0 where
  pub within : at + k ≤ length s
  pub some : 1 ≤ k
  pub small : c < 0x110000
  pub units : length (encode_one c) ≤ k
  pub is : from s at ≡ more c (from s (at + k))
