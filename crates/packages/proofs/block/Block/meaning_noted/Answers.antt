-- `packages::block::Block::meaning_noted` meets its contract, kind by kind. Assumes nothing.
use mathlib.Core.Path.{◌≡◌, sym, ◌∙◌, ap}
use Rattle.std.specs.Prelude.{◌⊎◌}
use Rattle.std.proofs.Common.{inl, inr}
use mathlib.Core.List.{List}
use Prim.Native.Nat.{ℕ, ◌<◌}
use native.Mathlib.Decide.{ℕ_discrete}
use lib.ListN.{get_or}
use Rattle.ids.specs.Id.{id_of}
use Rattle.base.specs.Index.{kind, import_name, import_hash}
use Rattle.zen.specs.Zen.{no_export, imported_name}
use Rattle.zen.specs.declared.tables.Export.{Export}
use Rattle.meaning.specs.Reference.{ref_in}
use Rattle.packages.specs.Package.{read_in, package_in, PackageIn}
use Rattle.packages.specs.Meaning.{kind_by, nowhere, keyed, key_words, words_of}
use Rattle.packages.specs.MeaningLaws.{kind-says, in_script, in_null, in_export, in_import, in_bad_export, in_bad_import}
use Rattle.packages.specs.Kinds.{class_code}
use Rattle.packages.specs.declared.package.ClassKind.{ClassKind}
use Rattle.packages.specs.declared.package.ClassKind.TheVariants.{Null, Bad}
use Rattle.packages.specs.declared.package.Parts.{Parts}
use Rattle.packages.specs.declared.entries.Words.{Words}
use Rattle.packages.proofs.block.Block.meaning_noted.Goals as goal

module _ (b : List ℕ) (p : Parts) (id x : ℕ) (a : PackageIn b p) where
  scripts : 0 ≡ kind_by p x → ◌≡◌ {A = Words} (record { lo = x; hi = 0 }) (words_of (ref_in (package_in id b) x))
  unfolding words_of
  scripts f = sym (ap words_of (in_script a id x (sym f)))

  exported : 4 ≡ kind_by p x → x < p.count
  exported f = ((kind-says p x).export (sym f)).1

  exports : (e : Export) (w : Words) → 4 ≡ kind_by p x → e ≡ get_or (read_in b).exports x no_export → w ≡ keyed id e.hash → w ≡ words_of (ref_in (package_in id b) x)
  unfolding words_of key_words
  exports e w f g h = h ∙ (ap (λ (u : Export). keyed id u.hash) g ∙ sym (ap words_of (in_export a id x (sym f))))

  imported : 2 ≡ kind_by p x → (import_name x < p.imported.count) × (import_hash x < p.publics)
  imported f = let (e, h, g) = (kind-says p x).import (sym f) in (h, g)

  imports : (w : Words) → 2 ≡ kind_by p x → w ≡ keyed (id_of (imported_name (read_in b) (import_name x))) (get_or (read_in b).hashes (import_hash x) 0) → w ≡ words_of (ref_in (package_in id b) x)
  unfolding words_of key_words
  imports w f h = h ∙ sym (ap words_of (in_import a id x (sym f)))

  others : (k : ClassKind) → class_code k ≡ kind_by p x → (k ≡ Null) ⊎ (k ≡ Bad) → nowhere ≡ words_of (ref_in (package_in id b) x)
  unfolding words_of
  others k q (inl n) = sym (ap words_of (in_null a id x (sym q ∙ ap class_code n)))
  others k q (inr n) = go (ℕ_discrete (kind x) 2)
    where
      go : Dec (kind x ≡ 2) → nowhere ≡ words_of (ref_in (package_in id b) x)
      go (yes e) = sym (ap words_of (in_bad_import a id x (sym q ∙ ap class_code n) e))
      go (no e) = sym (ap words_of (in_bad_export a id x (sym q ∙ ap class_code n) e))

pub returns-in-Script : goal.returns-in-Script
returns-in-Script c = scripts _ _ _ _ c.args.self.now.accepted c.in-Script.ensures

pub export-requires : goal.export-requires
export-requires c = exported _ _ 0 _ c.args.self.now.accepted c.in-Export.ensures

pub returns-in-Export : goal.returns-in-Export
returns-in-Export c = exports _ _ _ _ c.args.self.now.accepted _ _ c.in-Export.ensures c.export.ensures c.keyed.ensures

pub import_key-requires : goal.import_key-requires
import_key-requires c =
    let (name, hash) = imported _ _ c.args.id _ c.args.self.now.accepted c.in-Import.ensures in
    (c.requires.0, c.requires.1, name, hash)

pub returns-in-Import : goal.returns-in-Import
returns-in-Import c = imports _ _ _ _ c.args.self.now.accepted _ c.in-Import.ensures c.import_key.ensures

pub returns-in-Null : goal.returns-in-Null
returns-in-Null c = others _ _ _ _ c.args.self.now.accepted _ c.kind_of.ensures c.in-Null.is
