-- The first repeat of classes (document 01, question 24: "the first class [..] whose key an earlier one has") where one list of them stands
-- behind another. Assumes nothing.
use Rattle.std.specs.Prelude.{List, map}
use Rattle.meaning.specs.Key.{Key}
use Rattle.meaning.specs.Call.{Placed}

-- the keys of classes that have their blocks
abbrev pub keys_of : List Placed → List Key
keys_of l = map (λ (x : Placed). x.class.key) l
