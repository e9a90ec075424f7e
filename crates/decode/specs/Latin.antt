-- Text that is known to be UTF-8, by its bytes alone, none decoded: which of them fit Latin-1. What the code tests. Assumes nothing.
use Rattle.std.specs.Prelude.{Bool, true, ◌&&◌, List, [], ◌∷◌, ℕ, ltb}

-- each byte passes a test
abbrev pub every : (ℕ → Bool) → List ℕ → Bool
every p [] = true
every p (b ∷ s) = p b && every p s

-- U+00FF is C3 BF, U+0100 is C4 80
abbrev pub low : ℕ → Bool
low b = ltb b 0xC4

-- a byte of ASCII
abbrev pub ascii : ℕ → Bool
ascii b = ltb b 0x80

abbrev pub all_low : List ℕ → Bool
all_low s = every low s
