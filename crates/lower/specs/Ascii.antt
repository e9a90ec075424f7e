-- Lowering one character (document 01: "with A to Z lowered"). Assumes nothing.
use Rattle.std.specs.Prelude.{cond, ◌&&◌, ℕ, ◌+◌, leb}

-- A to Z become a to z; every other value stays
unfoldable pub lower_ascii : ℕ → ℕ
lower_ascii c = cond (leb 65 c && leb c 90) (c + 32) c
