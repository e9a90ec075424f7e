-- Where the parts of an accepted package are, by position: what is read of it again without asking anything. Assumes nothing.
use Rattle.std.specs.Prelude.{◌≡◌, List, ℕ, ◌+◌, ◌*◌, ◌≤◌, eqb, length, take}
use Rattle.base.specs.Choose.{pick}
use Rattle.base.specs.Number.{le_at}
use Rattle.batch.specs.declared.names.Names.{Names}
use Rattle.zen.specs.Zen.{summary_at}
use Rattle.zen.specs.declared.zen.Layout.{Layout}

-- ---- a batch

-- the parts of a batch of n names that starts at a position, whose strings have so many bytes: a batch of none is its count alone
abbrev pub parts_of : ℕ → ℕ → ℕ → Names
parts_of at n room = record { count = n; headers = at + 16 + 8 * n; strings = at + 16 + 8 * n + 2 * n; «end» = at + 16 + 8 * n + 2 * n + room }

abbrev pub no_parts : ℕ → Names
no_parts at = record { count = 0; headers = at + 4; strings = at + 4; «end» = at + 4 }

unfoldable pub names_at : List ℕ → ℕ → Names
names_at s at = pick (eqb (le_at 4 s at) 0) (no_parts at) (parts_of at (le_at 4 s at) (le_at 4 s (at + 4)))

-- its fields are there, and so is all of it
pub record BatchAt (s : List ℕ) (at : ℕ) : Type 0 where
  pub count : at + 4 ≤ length s
  pub room : (le_at 4 s at ≡ 0 → ⊥) → at + 16 ≤ length s
  pub ends : (names_at s at).«end» ≤ length s

-- ---- the header

unfoldable pub layout_at : List ℕ → Layout
layout_at s = record { size = length s; summary = summary_at s; names = names_at s 52; imported = names_at s (summary_at s).imported }

pub record LayoutAt (s : List ℕ) : Type 0 where
  pub summary : 52 ≤ length s
  pub names : BatchAt s 52
  pub imported : BatchAt s (summary_at s).imported

-- ---- the block

-- the header of a block
abbrev pub header_of : List ℕ → List ℕ
header_of b = take (le_at 4 b 4) b

pub record Laid (b : List ℕ) (l : Layout) : Type 0 where
  pub here : 8 ≤ length b
  pub within : le_at 4 b 4 ≤ length b
  pub is : l ≡ layout_at (header_of b)
  pub parts : LayoutAt (header_of b)
