-- The class table in any order: question 24 ("no class key twice?") and the look-up by key don't see the packages' order.
use Rattle.std.specs.Prelude.{Bool, false, ◌||◌, List, [], ◌∷◌}
use Rattle.meaning.specs.Key.{Key}
use Rattle.meaning.specs.Scan.{Class}
use Rattle.meaning.specs.Call.{has_key}

-- ---- no key twice

-- whether a class has a key that one of those seen or an earlier one has
abbrev pub repeats : List Key → List Class → Bool
repeats seen [] = false
repeats seen (c ∷ cs) = has_key seen c.key || repeats (c.key ∷ seen) cs
