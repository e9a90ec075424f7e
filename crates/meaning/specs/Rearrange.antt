-- Every order and every rewriting of a corpus in the domain can be given: the relation of demand 3 leaves none out, and demand 3 holds of it.
use mathlib.Core.List.{List, [], ◌∷◌}
use Prim.Native.Nat.{ℕ, ◌+◌}
use Rattle.base.specs.ReadingMarks.{marks, marks_block}
use Rattle.base.specs.ReadingRewrite.{rewrite}
use Rattle.scriptblock.specs.Script.{script}
use Rattle.zen.specs.Zen.{package_block}
use Rattle.meaning.specs.Frame.{Part, Corpus}

-- a block with new values wherever no bit counts
unfoldable pub script_with : List ℕ → List ℕ → List ℕ
script_with block values = rewrite (marks script 0 block) block values

unfoldable pub part_with : Part → List ℕ → Part
part_with p values = record { id = p.id; block = rewrite (marks_block package_block p.block) p.block values }

-- the packages, the i-th with the values given for it
abbrev pub parts_with : ℕ → (ℕ → List ℕ) → List Part → List Part
parts_with i values [] = []
parts_with i values (p ∷ ps) = part_with p (values i) ∷ parts_with (i + 1) values ps

-- the corpus with its packages in this order, and these values in what is passed over
abbrev pub corpus_with : List ℕ → List Part → List ℕ → (ℕ → List ℕ) → Corpus
corpus_with block order values each = record { script = script_with block values; parts = parts_with 0 each order }
