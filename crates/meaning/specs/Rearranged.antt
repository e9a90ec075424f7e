-- Two corpora, byte for byte, of which the second is the first with its packages in whatever order and whatever values in what is passed
-- over (demand 3; document 01: "Reordering moves whole packages (id, length, bytes). Rewriting gives what is listed here, in any block, any
-- values and moves nothing. All else in the corpus stays"). Assumes nothing.
use Rattle.std.specs.Prelude.{◌≡◌, List, ℕ, length}
use Rattle.base.specs.Perm.{Perm, All, Each}
use Rattle.base.specs.Reading.{gives, run, run_block}
use Rattle.base.specs.ReadingMarks.{Agree}
use Rattle.scriptblock.specs.Script.{Objects, script}
use Rattle.zen.specs.Zen.{Read, package_block}
use Rattle.zen.specs.Listed.{script_marks, package_marks}
use Rattle.meaning.specs.Frame.{Part, Corpus}
use Rattle.meaning.specs.Bytes.{corpus_bytes, IdFits}

-- a script block, and one of the same length that differs at most where document 01 lists what is passed over (`script_marks`)
pub record ScriptRewritten (s t : List ℕ) : Type 0 where
  pub says : Objects
  pub reads : run script 0 s ≡ gives says
  pub agrees : Agree (script_marks says.layout) s t

-- a package, and one with its id whose block is of the same length and differs at most where document 01 lists what is passed over
-- (`package_marks`)
pub record PartRewritten (p q : Part) : Type 0 where
  pub same_id : q.id ≡ p.id
  pub says : Read
  pub reads : run_block package_block p.block ≡ gives says
  pub agrees : Agree (package_marks says.layout (length p.block)) p.block q.block

-- d is c with its packages in another order, and then rewritten
pub record Moved (c d : Corpus) : Type 0 where
  -- the same packages, in the new order
  pub order : List Part
  pub moved : Perm c.parts order
  -- the same blocks, rewritten
  pub script_rewritten : ScriptRewritten c.script d.script
  pub parts_rewritten : Each PartRewritten order d.parts

-- and so are the bytes t of s
pub record Rearranged (s t : List ℕ) : Type 0 where
  pub old : Corpus
  pub was : s ≡ corpus_bytes old
  pub ids : All IdFits old.parts
  pub new : Corpus
  pub is : t ≡ corpus_bytes new
  pub how : Moved old new
