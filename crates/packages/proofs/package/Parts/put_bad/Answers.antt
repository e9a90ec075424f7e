-- `packages::package::Parts::put_bad` meets its contract, by the kind. Assumes nothing.
use mathlib.Core.Path.{◌≡◌, sym}
use Prim.Native.Nat.{ℕ}
use borrow.Author.Tests.{eq-eqb, ne_eqb}
use Rattle.base.specs.Index.{kind}
use Rattle.base.specs.OutputLaws.{wrote_as}
use Rattle.packages.specs.RefBytes.{import_bad, export_bad, bad_by}
use Rattle.packages.specs.declared.package.Parts.{Parts}
use Rattle.packages.proofs.KindNumbers.{not-import}
use Rattle.packages.proofs.package.Parts.put_bad.Goals as goal

module _ (p : Parts) (x : ℕ) where
  imports : 2 ≡ kind x → bad_by p x ≡ import_bad p x
  unfolding bad_by
  imports f = rw (eq-eqb (kind x) 2 (sym f))

  exports : (kind x ≡ 2 → ⊥) → bad_by p x ≡ export_bad p x
  unfolding bad_by
  exports f = rw (ne_eqb (kind x) 2 f)

pub put_bad_import-requires : goal.put_bad_import-requires
put_bad_import-requires c = rw (imports _ _ c.in-Import.ensures) at c.requires

pub returns-in-Import : goal.returns-in-Import
returns-in-Import c = wrote_as c.put_bad_import.ensures (sym (imports _ _ c.in-Import.ensures))

pub put_bad_export-requires : goal.put_bad_export-requires
put_bad_export-requires c = rw (exports _ _ (not-import _ _ c.index_kind.ensures c.in_default.not-Import)) at c.requires

pub returns-in_default : goal.returns-in_default
returns-in_default c = wrote_as c.put_bad_export.ensures (sym (exports _ _ (not-import _ _ c.index_kind.ensures c.in_default.not-Import)))
