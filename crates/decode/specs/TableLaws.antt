-- Laws of the table of RFC 3629: its tests as facts, and the first character by its bytes. Assumes nothing.
use Rattle.std.specs.Prelude.{◌≡◌, ℕ, ◌≤◌}

-- what may be second, as facts
pub record Second (a b : ℕ) : Type 0 where
  pub low : 0x80 ≤ b
  pub high : b ≤ 0xBF
  pub after_e0 : a ≡ 0xE0 → 0xA0 ≤ b
  pub after_ed : a ≡ 0xED → b ≤ 0x9F
  pub after_f0 : a ≡ 0xF0 → 0x90 ≤ b
  pub after_f4 : a ≡ 0xF4 → b ≤ 0x8F
