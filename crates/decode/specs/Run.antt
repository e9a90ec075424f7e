-- Four characters of two bytes or of three in a row, which are most of the text in many scripts: how they are seen, and what they are as UTF-16LE.
-- Assumes nothing.
use Rattle.std.specs.Prelude.{Bool, ◌&&◌, List, [], ◌∷◌, ℕ, ◌+◌, ◌*◌, ◌-◌, ◌/◌, ◌%◌, leb, length, get_or}
use Rattle.decode.specs.Chars.{within, joined}

-- the first byte of a character of two, and of three
abbrev pub leads_two : ℕ → Bool
leads_two b = within 0xC0 0xDF b

abbrev pub leads_three : ℕ → Bool
leads_three b = within 0xE0 0xEF b

-- the scalar value of two bytes from a place on, and of three
unfoldable pub two_at : List ℕ → ℕ → ℕ
two_at s at = joined (get_or s at 0 - 0xC0) (get_or s (at + 1) 0)

unfoldable pub three_at : List ℕ → ℕ → ℕ
three_at s at = joined (joined (get_or s at 0 - 0xE0) (get_or s (at + 1) 0)) (get_or s (at + 2) 0)

-- and of four
unfoldable pub four_at : List ℕ → ℕ → ℕ
four_at s at = joined (joined (joined (get_or s at 0 - 0xF0) (get_or s (at + 1) 0)) (get_or s (at + 2) 0)) (get_or s (at + 3) 0)

-- the bytes of four characters of k are there from a place on, and the first of each leads
unfoldable pub four_led : (ℕ → Bool) → ℕ → List ℕ → ℕ → Bool
four_led lead k s at =
    leb (at + 4 * k) (length s)
    && (lead (get_or s at 0) && lead (get_or s (at + k) 0) && lead (get_or s (at + 2 * k) 0) && lead (get_or s (at + 3 * k) 0))

-- the values of four characters of k bytes as UTF-16LE: each is one unit
unfoldable pub four_units : (List ℕ → ℕ → ℕ) → ℕ → List ℕ → ℕ → List ℕ
four_units value k s at =
    value s at % 256 ∷ value s at / 256
    ∷ value s (at + k) % 256 ∷ value s (at + k) / 256
    ∷ value s (at + 2 * k) % 256 ∷ value s (at + 2 * k) / 256
    ∷ value s (at + 3 * k) % 256 ∷ value s (at + 3 * k) / 256 ∷ []

-- eight bytes are there from a place on, and each second leads two
abbrev pub is_twos : List ℕ → ℕ → Bool
is_twos s at = four_led leads_two 2 s at

-- twelve bytes are there from a place on, and each third leads three
abbrev pub is_run : List ℕ → ℕ → Bool
is_run s at = four_led leads_three 3 s at

-- four values of two bytes as UTF-16LE, and of three
abbrev pub twos_bytes : List ℕ → ℕ → List ℕ
twos_bytes s at = four_units two_at 2 s at

abbrev pub run_bytes : List ℕ → ℕ → List ℕ
run_bytes s at = four_units three_at 3 s at
