-- The house form (document 01: "big-endian, 4-byte length of the rest, version byte 1, then what is listed, counts in 4 bytes"): what is
-- written, and what is read. Assumes nothing.
use Rattle.std.specs.Prelude.{List, ◌++◌, ℕ, length}
use Rattle.base.specs.Number.{be, be_bytes}
use Rattle.base.specs.Reading.{Reading, bytes, give}

-- "4-byte length of the rest", and the rest
abbrev pub length_first : List ℕ → List ℕ
length_first rest = be_bytes 4 (length rest) ++ rest

-- a big-endian number of k bytes
abbrev pub be_number : ℕ → Reading ℕ
be_number k = bytes k (λ l. give (be l))

-- "An output beyond its buffer or beyond 4,294,967,299 bytes is 26": the longest output, whose length of the rest is the greatest that
-- four bytes hold
abbrev pub longest_output : ℕ
longest_output = 4294967299
