-- A few characters of UTF-8 passed at once: what they add to the measure of the text behind them. Assumes nothing.
use Rattle.std.specs.Prelude.{◌≡◌, Bool, ◌&&◌, List, ℕ, ◌+◌, ◌≤◌, ◌<◌, eqb, length, get_or, drop, Option, None, Some}
use Rattle.text.specs.Utf8.{from_utf8}
use Rattle.decode.specs.declared.measure.Measured.{Measured}
use Rattle.decode.specs.declared.step.Step.{Step}
use Rattle.decode.specs.Chars.{within, tail, is_common}
use Rattle.decode.specs.Measure.{measured, a_text}

-- the three bytes from a place on are a common character
abbrev pub common_at : List ℕ → ℕ → Bool
common_at s at = is_common (get_or s at 0) (get_or s (at + 1) 0) (get_or s (at + 2) 0)

-- four bytes that are a character of planes 1 to 3: "%xF0 %x90-BF 2( UTF8-tail )"
unfoldable pub is_plane : ℕ → ℕ → ℕ → ℕ → Bool
is_plane a b c d = eqb a 0xF0 && within 0x90 0xBF b && tail c && tail d

abbrev pub plane_at : List ℕ → ℕ → Bool
plane_at s at = is_plane (get_or s at 0) (get_or s (at + 1) 0) (get_or s (at + 2) 0) (get_or s (at + 3) 0)

-- the measure of a text that starts with u units, which fit Latin-1 or not, by the measure of the rest
unfoldable pub added : ℕ → Bool → Option Measured → Option Measured
added u low (Some m) = a_text (u + m.units) (low && m.latin)
added u low None = None

-- k bytes from a place on are u units, which fit Latin-1 or not
pub record Passed (s : List ℕ) (at k u : ℕ) (low : Bool) : Type 0 where
  pub some : 0 < k
  pub within : at + k ≤ length s
  pub few : u ≤ k
  pub is : measured (from_utf8 (drop at s)) ≡ added u low (measured (from_utf8 (drop (at + k) s)))

-- what a step says: which bytes it passes is left open
abbrev pub Stepped : List ℕ → ℕ → Option Step → Type 0
Stepped s at (Some p) = Passed s at p.size p.units p.latin
Stepped s at None = measured (from_utf8 (drop at s)) ≡ None
