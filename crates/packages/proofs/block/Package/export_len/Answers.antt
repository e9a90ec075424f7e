-- `packages::block::Package::export_len` meets its contract. Assumes nothing.
use mathlib.Core.Path.{◌≡◌, ap}
use mathlib.Core.List.{List, []}
use Prim.Native.Nat.{ℕ, ◌+◌, ◌≤◌}
use native.Mathlib.Omega.{arith}
use borrow.Author.Rules.{rules}
use lib.ListN.{length, get_or, length-append}
use Rattle.base.specs.Literal.{quoted}
use Rattle.text.specs.Utf8.{utf8}
use Rattle.batch.specs.Holds.{Holds, name_at}
use Rattle.batch.specs.declared.places.Name.{Name}
use Rattle.batch.specs.declared.places.Place.{Place}
use Rattle.zen.specs.Zen.{no_export, export_name}
use Rattle.zen.specs.declared.tables.Export.{Export}
use Rattle.packages.specs.Package.{read_in}
use Rattle.packages.specs.RefBytes.{export_bytes}
use Rattle.packages.proofs.RowMade.{named}
use Rattle.packages.proofs.block.Package.export_len.Goals as goal

size : (b : List ℕ) (i n : ℕ) (e : Export) (place : Place) → e ≡ get_or (read_in b).exports i no_export → Holds b place (get_or (read_in b).names e.index [])
    → (n ≡ length (utf8 (name_at b place e.number))) × (n ≤ 131089) → 7 + n ≡ length (export_bytes (read_in b) i)
unfolding export_bytes
size b i n e place q d g =
    let u = get_or (read_in b).exports i no_export in
    let name : export_name (read_in b) u ≡ name_at b place e.number = rw (d.text, ← q) in
    let all : length (export_bytes (read_in b) i) ≡ 7 + length (utf8 (export_name (read_in b) u)) = length-append (quoted "export:") (utf8 (export_name (read_in b) u)) in
    omega (arith, all, ap (λ (t : List ℕ). length (utf8 t)) name, g.0)

pub name_of-requires : goal.name_of-requires
name_of-requires c = named _ _ c.args.self.now.block.accepted c.args.i _ c.export-e.ensures c.requires

pub returns : goal.returns
returns c =
    let q = c.export-e.ensures in
    let d = c.name_of.ensures.1 in
    (size _ _ _ _ _ q d (rw (ap (λ (n : Name). n.number) c.name_of.ensures.0) at c.place_len.ensures), search rules)
