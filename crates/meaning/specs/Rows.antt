-- The last sentences of demand 3, of the rows as they stand in the report's bytes: for every accepted corpus, report, section by section
-- and row by row, the native byte is 1 exactly where some chain leads to a native class, and the native text is its path, else `?`. The
-- report of a corpus with its packages in another order and other values in what is passed over is the report of an accepted corpus too,
-- so this covers both reports of demand 3.
use Rattle.std.specs.Prelude.{◌≡◌, ℕ}
use mathlib.Core.List.{List, ◌++◌}

-- somewhere in the bytes stands a part of which P holds
abbrev pub Inside : (List ℕ → Type 0) → List ℕ → Type 0
Inside P bytes = (front : List ℕ) × (part : List ℕ) × (back : List ℕ) × (bytes ≡ front ++ part ++ back) × P part
