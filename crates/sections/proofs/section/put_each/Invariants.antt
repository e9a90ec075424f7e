-- `section::put_each` meets its contract. The loop's invariant: the rows of the first candidates are written. Assumes nothing.
use mathlib.Core.List.{List}
use Prim.Native.Nat.{ℕ, ◌-◌, ◌≤◌}
use lib.ListN.{length, take}
use Rattle.base.specs.Find.{flat}
use Rattle.meaning.specs.Scan.{candidates}
use Rattle.packages.specs.Package.{read_in, package_in}
use Rattle.sections.specs.Sections.{How, export_row, export_refs, Filled, EachRoom}
use Rattle.sections.specs.declared.section.Section.{Section}
use Rattle.sections.proofs.section.put_each.Given as goal

abbrev pub Upto : ℕ → ℕ → List ℕ → How → ℕ → List ℕ → List ℕ → Section → Type 0
Upto objects id b h k old new z =
    Filled (flat (export_refs (package_in id b)) (take k (candidates (read_in b)))) (flat (export_row objects h (package_in id b)) (take k (candidates (read_in b)))) old new z

abbrev pub invariant-loop-r : goal.invariant-loop-r
invariant-loop-r l =
    (l.r - l.first ≤ length (candidates (read_in l.p.block.bytes.now)))
    × ((id : ℕ) (h : How) → EachRoom l.src.packages.corpus.now l.src.script.now l.src.objects l.src.work.now l.src.limit l.first id l.p.block.bytes.now l.initial.out h
    → Upto l.src.limit id l.p.block.bytes.now h (l.r - l.first) l.initial.out l.out (record { size = l.size; rows = l.r - l.first }))
