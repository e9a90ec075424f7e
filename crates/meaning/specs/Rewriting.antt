-- Rewriting what is passed over changes nothing that is read of a framed corpus, accepted or refused, and no section. What is passed over is
-- given here by the readings' own marks, so that it is said of refused blocks too; of an accepted block these are document 01's list.
use Rattle.std.specs.Prelude.{◌≡◌, refl, List, [], ◌∷◌, ℕ, ◌+◌, length}
use Rattle.std.proofs.Common.{sym}
use Rattle.base.specs.Perm.{Each, each_weaken}
use Rattle.base.specs.Reading.{run, run_block}
use Rattle.base.specs.ReadingMarks.{Agree, marks, marks_block, agree-length}
use Rattle.scriptblock.specs.Script.{script}
use Rattle.zen.specs.Zen.{package_block}
use Rattle.zen.proofs.PassedOver as Passed
use Rattle.meaning.specs.Frame.{Part, Corpus}
use Rattle.meaning.specs.Resolve.{Limits}
use Rattle.meaning.specs.Call.{read_from, opened_in}
use Rattle.meaning.specs.Rearranged.{ScriptRewritten, PartRewritten}
use Rattle.meaning.specs.Sections.{section_in}

-- ---- a block

-- two script blocks of one length, the same wherever a bit counts
unfoldable pub SameScript : List ℕ → List ℕ → Type 0
SameScript s t = Agree (marks script 0 s) s t

-- two packages with one id and blocks of one length, the same wherever a bit counts
unfoldable pub SamePart : Part → Part → Type 0
SamePart p q = (q.id ≡ p.id) × Agree (marks_block package_block p.block) p.block q.block

-- document 01's list is of this kind
pub listed-script : (s t : List ℕ) → ScriptRewritten s t → SameScript s t
unfolding SameScript
listed-script s t r = rw (Passed.script_marks_lem s r.reads) r.agrees

listed-part : (p q : Part) → PartRewritten p q → SamePart p q
unfolding SamePart
listed-part p q r = (r.same_id, rw (Passed.package_marks_lem p.block r.reads) r.agrees)

pub listed-parts : (ps qs : List Part) → Each PartRewritten ps qs → Each SamePart ps qs
listed-parts ps qs e = each_weaken PartRewritten SamePart listed-part ps qs e

-- what stays of it
script-same : (s t : List ℕ) → SameScript s t → run script 0 t ≡ run script 0 s
unfolding SameScript
script-same s t a = Passed.script-same s t a

pub script-length : (s t : List ℕ) → SameScript s t → length t ≡ length s
unfolding SameScript
script-length s t a = sym (agree-length (marks script 0 s) s t a)

pub part_same : (p q : Part) → SamePart p q → run_block package_block q.block ≡ run_block package_block p.block
unfolding SamePart
part_same p q a = Passed.package_same p.block q.block a.1

pub part-id : (p q : Part) → SamePart p q → q.id ≡ p.id
unfolding SamePart
part-id p q a = a.0

pub part-size : (p q : Part) → SamePart p q → length q.block ≡ length p.block
unfolding SamePart
part-size p q a = sym (agree-length (marks_block package_block p.block) p.block q.block a.1)

-- ---- packages

rewritten_read : (j : ℕ) (ps qs : List Part) → Each SamePart ps qs → read_from j qs ≡ read_from j ps
rewritten_read j [] [] a = refl
rewritten_read j [] (q ∷ qs) a = absurd a
rewritten_read j (p ∷ ps) [] a = absurd a
rewritten_read j (p ∷ ps) (q ∷ qs) a = rw (part-id p q a.0, part_same p q a.0, rewritten_read (j + 1) ps qs a.1)

-- ---- the corpus

-- two framed corpora, the same wherever a bit counts
pub record Same (c d : Corpus) : Type 0 where
  pub scripts : SameScript c.script d.script
  pub parts : Each SamePart c.parts d.parts

module _ (m : Limits) (c d : Corpus) (a : Same c d) where
  -- what is read of it stays, a refusal and its block included
  pub rewritten_opened : opened_in m d ≡ opened_in m c
  unfolding opened_in
  rewritten_opened = rw (script-same c.script d.script a.scripts, rewritten_read 2 c.parts d.parts a.parts)

  -- and so does each section
  pub section-same : (p q : Part) → SamePart p q → section_in m d q ≡ section_in m c p
  unfolding section_in
  section-same p q b = rw (rewritten_opened, part-id p q b, part_same p q b)
