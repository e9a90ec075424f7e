-- Laws of UTF-8 read one character at a time: the table of RFC 3629 gives what decoding gives. Assumes nothing.
use Rattle.std.specs.Prelude.{◌≡◌, List, ◌++◌, ℕ, length, drop}
use Rattle.text.specs.Utf16.{Scalar}
use Rattle.text.specs.Utf8.{utf8_one}

-- what the table takes is a scalar value's bytes
pub record Starts (s : List ℕ) (c k : ℕ) : Type 0 where
  pub scalar : Scalar c
  pub size : length (utf8_one c) ≡ k
  pub is : utf8_one c ++ drop k s ≡ s
