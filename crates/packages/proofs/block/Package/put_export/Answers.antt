-- `packages::block::Package::put_export` meets its contract. Assumes nothing.
use mathlib.Core.Path.{◌≡◌, ap}
use mathlib.Core.List.{List, [], ◌++◌}
use Prim.Native.Nat.{ℕ, ◌≤◌}
use lib.ListN.{length, get_or}
use Rattle.base.specs.Literal.{quoted}
use Rattle.text.specs.Utf8.{utf8}
use Rattle.base.specs.Output.{Wrote}
use Rattle.batch.specs.Holds.{Holds, name_at, holds-own}
use Rattle.batch.specs.declared.places.Name.{Name}
use Rattle.batch.specs.declared.places.Place.{Place}
use Rattle.zen.specs.Zen.{no_export}
use Rattle.zen.specs.declared.tables.Export.{Export}
use Rattle.packages.specs.Package.{read_in}
use Rattle.packages.specs.RefBytes.{export_bytes}
use Rattle.packages.proofs.RowMade.{named}
use Rattle.packages.proofs.block.Package.put_export.Goals as goal

module _ (b : List ℕ) (i : ℕ) (e : Export) (place : Place) (q : e ≡ get_or (read_in b).exports i no_export) (d : Holds b place (get_or (read_in b).names e.index [])) where
  is : export_bytes (read_in b) i ≡ quoted "export:" ++ utf8 (name_at b place e.number)
  unfolding export_bytes
  is = rw (d.text, ← q)

  fits : (n : ℕ) → length (export_bytes (read_in b) i) ≤ n → length (quoted "export:" ++ utf8 (name_at b place e.number)) ≤ n
  fits n h = rw is at h

  done : (s o : List ℕ) (n : ℕ) → Wrote s (quoted "export:" ++ utf8 (name_at b place e.number)) o n → Wrote s (export_bytes (read_in b) i) o n
  done s o n w = rw is w

pub name_of-requires : goal.name_of-requires
name_of-requires c = named _ _ c.args.self.now.block.accepted c.args.i _ c.export-e.ensures c.requires.0

pub put_behind-requires : goal.put_behind-requires
put_behind-requires c =
    let q = c.export-e.ensures in
    let d = c.name_of.ensures.1 in
    (holds-own d, rw (ap (λ (n : Name). n.number) c.name_of.ensures.0) (fits _ _ _ _ q d _ c.requires.1))

pub returns : goal.returns
returns c =
    let q = c.export-e.ensures in
    let d = c.name_of.ensures.1 in
    done _ _ _ _ q d _ _ _ (rw (ap (λ (n : Name). n.number) c.name_of.ensures.0) at c.put_behind.ensures)
