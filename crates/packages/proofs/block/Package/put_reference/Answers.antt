-- `packages::block::Package::put_reference` meets its contract, kind by kind. Assumes nothing.
use mathlib.Core.Path.{◌≡◌, sym}
use mathlib.Core.List.{List}
use Prim.Native.Nat.{ℕ, ◌≤◌, ◌<◌}
use lib.ListN.{length}
use Rattle.base.specs.Index.{import_name, import_hash}
use Rattle.base.specs.OutputLaws.{wrote_as}
use Rattle.packages.specs.Package.{PackageIn}
use Rattle.packages.specs.Meaning.{kind_by}
use Rattle.packages.specs.MeaningLaws.{kind-says}
use Rattle.packages.specs.RefBytesLaws.{bytes-script, bytes-import, bytes-export, bytes-null, bytes-bad}
use Rattle.packages.specs.declared.package.Parts.{Parts}
use Rattle.packages.proofs.block.Package.put_reference.Goals as goal

module _ (b : List ℕ) (p : Parts) (x : ℕ) (a : PackageIn b p) where
  imported : 2 ≡ kind_by p x → (import_name x < p.imported.count) × (import_hash x < p.publics)
  imported f = let (e, h, g) = (kind-says p x).import (sym f) in (h, g)

  exported : 4 ≡ kind_by p x → x < p.count
  exported f = ((kind-says p x).export (sym f)).1

fits : {a b : List ℕ} (n : ℕ) → a ≡ b → length b ≤ n → length a ≤ n
fits n e h = rw e h

pub put_index-requires : goal.put_index-requires
put_index-requires c =
    fits _ (bytes-script c.args.self.now.block.accepted _ (sym (rw c.in-Script.is at c.requires.0))) c.requires.1

pub returns-in-Script : goal.returns-in-Script
returns-in-Script c =
    wrote_as c.put_index.ensures (bytes-script c.args.self.now.block.accepted _ (sym (rw c.in-Script.is at c.requires.0)))

pub put_import-requires : goal.put_import-requires
put_import-requires c =
    let a = c.args.self.now.block.accepted in
    let k = rw c.in-Import.is at c.requires.0 in
    let i = imported _ _ _ a k in
    (i.0, i.1, fits _ (bytes-import a _ (sym k)) c.requires.1)

pub returns-in-Import : goal.returns-in-Import
returns-in-Import c =
    wrote_as c.put_import.ensures (bytes-import c.args.self.now.block.accepted _ (sym (rw c.in-Import.is at c.requires.0)))

pub put_export-requires : goal.put_export-requires
put_export-requires c =
    let a = c.args.self.now.block.accepted in
    let k = rw c.in-Export.is at c.requires.0 in
    (exported _ _ _ a k, fits _ (bytes-export a _ (sym k)) c.requires.1)

pub returns-in-Export : goal.returns-in-Export
returns-in-Export c =
    wrote_as c.put_export.ensures (bytes-export c.args.self.now.block.accepted _ (sym (rw c.in-Export.is at c.requires.0)))

pub put_bytes-requires : goal.put_bytes-requires
put_bytes-requires c =
    fits _ (bytes-null c.args.self.now.block.accepted _ (sym (rw c.in-Null.is at c.requires.0))) c.requires.1

pub returns-in-Null : goal.returns-in-Null
returns-in-Null c =
    wrote_as c.put_bytes.ensures (bytes-null c.args.self.now.block.accepted _ (sym (rw c.in-Null.is at c.requires.0)))

pub put_bad-requires : goal.put_bad-requires
put_bad-requires c =
    fits _ (bytes-bad c.args.self.now.block.accepted _ (sym (rw c.in-Bad.is at c.requires.0))) c.requires.1

pub returns-in-Bad : goal.returns-in-Bad
returns-in-Bad c =
    wrote_as c.put_bad.ensures (bytes-bad c.args.self.now.block.accepted _ (sym (rw c.in-Bad.is at c.requires.0)))
