-- Whole packages in another order: the corpus is accepted where it was, its work and its report are as long, and each section stays.
use Rattle.std.specs.Prelude.{List}
use Rattle.meaning.specs.Frame.{Part, Corpus}

-- the corpus with its packages in this order
abbrev pub in_order : Corpus → List Part → Corpus
in_order c order = record { script = c.script; parts = order }
