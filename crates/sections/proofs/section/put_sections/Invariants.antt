-- `section::put_sections` meets its contract. The loop's invariant: the sections of the first i packages are written, and the rows have their marks. Assumes nothing.
use mathlib.Core.Path.{◌≡◌}
use mathlib.Core.List.{List}
use Prim.Native.Nat.{ℕ}
use lib.ListN.{length, take}
use Rattle.base.specs.Find.{flat}
use Rattle.meaning.specs.Reference.{Package}
use Rattle.packages.specs.Walk.{place_of, packages_at}
use Rattle.resolve.specs.Marks.{marks_in}
use Rattle.sections.specs.Sections.{How, section_of, refs_of, Filled, SectionsRoom}
use Rattle.sections.specs.declared.section.Section.{Section}
use Rattle.sections.proofs.section.put_sections.Given as goal

abbrev pub Upto : ℕ → How → List Package → ℕ → List ℕ → List ℕ → Section → Type 0
Upto objects h ps i old new z = Filled (flat refs_of (take i ps)) (flat (section_of objects h) (take i ps)) old new z

pub record Sofar (c s : List ℕ) (n : ℕ) (w : List ℕ) (objects from count : ℕ) (old : List ℕ) (i at : ℕ) (new : List ℕ) (z : Section) : Type 0 where
  pub place : at ≡ place_of c from i
  pub marks : z.rows ≡ length (marks_in c from i)
  pub filled : (h : How) → SectionsRoom c s n w objects from count old h → Upto objects h (packages_at c from count) i old new z

abbrev pub invariant-loop : goal.invariant-loop
invariant-loop l =
    Sofar l.src.packages.corpus.now l.src.script.now l.src.objects l.src.work.now l.src.limit l.src.packages.at l.src.packages.count l.initial.out l.counter l.at
    l.out (record { size = l.size; rows = l.rows })
