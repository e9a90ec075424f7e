-- Laws of lowering. Assumes nothing.
use Rattle.std.specs.Prelude.{◌≡◌, ◌⊎◌, ℕ, ◌-◌, ◌/◌, ◌≤◌, ◌<◌}

-- ---- units

-- as `alike` says it
abbrev pub Alike : ℕ → ℕ → Type 0
Alike a b =
    ((a < 0xD800) × (b < 0xD800))
    ⊎ (((0xE000 ≤ a) × (a < 0x10000) × (0xE000 ≤ b) × (b < 0x10000))
    ⊎ ((0x10000 ≤ a) × (0x10000 ≤ b) × (b ≤ 0x10FFFF) × ((a - 0x10000) / 0x400 ≡ (b - 0x10000) / 0x400)))
