-- `packages::block::Package::reference_len` meets its contract, kind by kind. Assumes nothing.
use mathlib.Core.Path.{◌≡◌, sym, ◌∙◌, ap}
use mathlib.Core.List.{List}
use Prim.Native.Nat.{ℕ, ◌≤◌, ◌<◌}
use native.Mathlib.Omega.{arith}
use borrow.Author.Rules.{rules}
use lib.ListN.{length, length-append}
use Rattle.text.specs.Digits.{hex}
use Rattle.text.specs.DigitsLaws.{length-hex}
use Rattle.base.specs.Index.{import_name}
use Rattle.base.specs.Literal.{quoted}
use Rattle.packages.specs.Package.{read_in, PackageIn}
use Rattle.packages.specs.Meaning.{kind_by}
use Rattle.packages.specs.MeaningLaws.{kind-says}
use Rattle.packages.specs.RefBytes.{ref_bytes, import_bytes, export_bytes, bad_by}
use Rattle.packages.specs.RefBytesLaws.{bytes-script, bytes-import, bytes-export, bytes-null, bytes-bad}
use Rattle.packages.specs.declared.package.Parts.{Parts}
use Rattle.packages.proofs.block.Package.reference_len.Goals as goal

module _ (b : List ℕ) (p : Parts) (x : ℕ) (a : PackageIn b p) where
  script-size : 0 ≡ kind_by p x → 25 ≡ length (ref_bytes b x)
  script-size f = omega (arith, ap length (bytes-script a x (sym f)), length-append (quoted "script:0x") (hex 16 x), length-hex 16 x)

  imported : 2 ≡ kind_by p x → import_name x < p.imported.count
  imported f = ((kind-says p x).import (sym f)).1

  import-size : (s : ℕ) → 2 ≡ kind_by p x → (s ≡ length (import_bytes (read_in b) x)) × (s ≤ 131116) → s ≡ length (ref_bytes b x)
  import-size s f e = e.0 ∙ ap length (bytes-import a x (sym f))

  exported : 4 ≡ kind_by p x → x < p.count
  exported f = ((kind-says p x).export (sym f)).1

  export-size : (s : ℕ) → 4 ≡ kind_by p x → (s ≡ length (export_bytes (read_in b) x)) × (s ≤ 131096) → s ≡ length (ref_bytes b x)
  export-size s f e = e.0 ∙ ap length (bytes-export a x (sym f))

  null_size : 6 ≡ kind_by p x → 4 ≡ length (ref_bytes b x)
  null_size f = ap length (bytes-null a x (sym f))

  bad-size : (s : ℕ) → 7 ≡ kind_by p x → (s ≡ length (bad_by p x)) × (s ≤ 124) → s ≡ length (ref_bytes b x)
  bad-size s f e = e.0 ∙ ap length (bytes-bad a x (sym f))

pub returns-in-Script : goal.returns-in-Script
returns-in-Script c = (script-size _ _ _ c.args.self.now.block.accepted (rw c.in-Script.is at c.requires), search rules)

pub import_len-requires : goal.import_len-requires
import_len-requires c = imported _ _ _ c.args.self.now.block.accepted (rw c.in-Import.is at c.requires)

pub returns-in-Import : goal.returns-in-Import
returns-in-Import c =
    (import-size _ _ _ c.args.self.now.block.accepted _ (rw c.in-Import.is at c.requires) c.import_len.ensures, search rules)

pub export_len-requires : goal.export_len-requires
export_len-requires c = exported _ _ _ c.args.self.now.block.accepted (rw c.in-Export.is at c.requires)

pub returns-in-Export : goal.returns-in-Export
returns-in-Export c =
    (export-size _ _ _ c.args.self.now.block.accepted _ (rw c.in-Export.is at c.requires) c.export_len.ensures, search rules)

pub returns-in-Null : goal.returns-in-Null
returns-in-Null c = (null_size _ _ _ c.args.self.now.block.accepted (rw c.in-Null.is at c.requires), search rules)

pub returns-in-Bad : goal.returns-in-Bad
returns-in-Bad c = (bad-size _ _ _ c.args.self.now.block.accepted _ (rw c.in-Bad.is at c.requires) c.bad_len.ensures, search rules)
