-- `packages::package::Parts::kind_of` meets its contract, kind by kind. Assumes nothing.
use Rattle.std.specs.Prelude.{◌≡◌, ℕ, ◌≤◌, ◌<◌, Bool, true, false, cond}
use Rattle.std.proofs.Common.{sym, ◌∙◌, ap}
use borrow.Author.Tests.{lt-ltb, le-ltb}
use Rattle.base.specs.Index.{kind}
use Rattle.packages.specs.Meaning.{is_import, kind_on, kind_by}
use Rattle.packages.specs.declared.package.Parts.{Parts}
use Rattle.packages.proofs.package.Parts.kind_of.Goals as goal

module _ (p : Parts) (x : ℕ) where
  scripts : 1 ≡ kind x → 0 ≡ kind_by p x
  unfolding kind_by
  scripts e = ap (kind_on p x) e

  exports : 0 ≡ kind x → x < p.count → 4 ≡ kind_by p x
  unfolding kind_by
  exports e l = sym (ap (λ (t : Bool). cond t 4 7) (lt-ltb x p.count l)) ∙ ap (kind_on p x) e

  no_export_lem : 0 ≡ kind x → p.count ≤ x → 7 ≡ kind_by p x
  unfolding kind_by
  no_export_lem e l = sym (ap (λ (t : Bool). cond t 4 7) (le-ltb x p.count l)) ∙ ap (kind_on p x) e

  imports : 2 ≡ kind x → is_import p x ≡ true → 2 ≡ kind_by p x
  unfolding kind_by
  imports e h = sym (ap (λ (t : Bool). cond t 2 7) h) ∙ ap (kind_on p x) e

  no_import : 2 ≡ kind x → is_import p x ≡ false → 7 ≡ kind_by p x
  unfolding kind_by
  no_import e h = sym (ap (λ (t : Bool). cond t 2 7) h) ∙ ap (kind_on p x) e

  nulls : 3 ≡ kind x → 6 ≡ kind_by p x
  unfolding kind_by
  nulls e = ap (kind_on p x) e

pub returns-in-Script : goal.returns-in-Script
returns-in-Script c = scripts _ _ c.in-Script.ensures

pub returns-in-Export : goal.returns-in-Export
returns-in-Export c = exports _ _ c.in-Export.ensures c.if-index-self.true

pub returns-in-Import : goal.returns-in-Import
returns-in-Import c = imports _ _ c.in-Import.ensures (sym c.is_import.ensures ∙ c.if-is_import.true)

pub returns-in-Null : goal.returns-in-Null
returns-in-Null c = nulls _ _ c.in-Null.ensures

pub returns-in-Export-2 : goal.returns-in-Export-2
returns-in-Export-2 c = no_export_lem _ _ c.in-Export.ensures c.if-index-self.false

pub returns-in-Export-2-2 : goal.returns-in-Export-2-2
returns-in-Export-2-2 c = no_import _ _ c.in-Import.ensures (sym c.is_import.ensures ∙ c.if-is_import.false)
