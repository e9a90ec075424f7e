-- "Questions in order": "The first question that fails gives its refusal". What it is that a corpus fails question q in block j: it passes
-- every question that is asked before, and fails this one. Inside a block the order is the reading's (batch/Batch.antt, scriptblock/Script.antt, zen/Zen.antt).
use Rattle.std.specs.Prelude.{◌≡◌}
use mathlib.Core.List.{List, Memᴰ}
use Rattle.meaning.specs.Scan.{Class}
use Rattle.meaning.specs.Call.{Placed}

abbrev pub class_of : Placed → Class
class_of c = c.class

-- an earlier class has its key
abbrev pub Earlier : List Placed → Placed → Type 0
Earlier before x = (y : Placed) × Memᴰ y before × (y.class.key ≡ x.class.key)
