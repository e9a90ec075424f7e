-- The own chain (document 01: "A row's own chain is the longest it has within the lookup limit"): it is a chain, within the limit, and every
-- chain within the limit is a first part of it. So all chains from a reference lead to one script object.
use Rattle.std.specs.Prelude.{◌≡◌}
use mathlib.Core.List.{List, Memᴰ}
use Rattle.meaning.specs.Scan.{Class}

-- members of the table with one key are one class
abbrev pub OneEach : List Class → Type 0
OneEach t = (c d : Class) → Memᴰ c t → Memᴰ d t → c.key ≡ d.key → c ≡ d
