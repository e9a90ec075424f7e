-- The bytes that are written are those of the reference's text. Assumes nothing.
use Rattle.std.specs.Prelude.{◌≡◌, Bool, true, List, ◌++◌, length, get_or}
use Rattle.std.proofs.Math.Path.{refl, sym, ap, ap₂}
use Rattle.std.proofs.Common.{◌∙◌, append_assoc, eq-eqb, ne_eqb}
use Rattle.std.proofs.Math.Bool.{cond}
use Rattle.std.proofs.Math.Option.{Option, none, some}
use Prim.Native.Nat.{ℕ, zero, suc}
use Rattle.std.proofs.Math.Decide.{ℕ_discrete}
use Rattle.text.specs.Affix.{all_ascii}
use Rattle.text.specs.Digits.{decimal, hex}
use Rattle.text.specs.DigitsLaws.{ascii_append, decimal-ascii, hex-ascii}
use Rattle.base.specs.Find.{get}
use Rattle.base.specs.Index.{kind, import_name, import_hash}
use Rattle.base.specs.Literal.{quoted}
use Rattle.text.specs.Utf8.{utf8}
use Rattle.text.specs.Utf8Laws.{utf8_append, utf8-ascii}
use Rattle.zen.specs.Zen.{Read, no_export, export_name, imported_name}
use Rattle.zen.specs.declared.tables.Export.{Export}
use Rattle.meaning.specs.Reference.{Package, Ref, bad_import, bad_export, export_ref, import_ref, ref_by, ref_in, ref_text}
use Rattle.packages.specs.Package.{read_in, PackageIn}
use Rattle.packages.specs.PackageLaws.{export_count_lem, public-count, imported_count_lem}
use Rattle.packages.specs.Meaning.{kind_by}
use Rattle.packages.specs.MeaningLaws.{in_script, in_null, in_export, in_import, in_bad_export, in_bad_import}
use Rattle.packages.specs.RefBytes.{ref_bytes, import_bytes, export_bytes, import_bad, export_bad, bad_by}
use Rattle.packages.specs.declared.package.Parts.{Parts}

-- ---- the text is the same whatever the id

module _ (r : Read) (id x : ℕ) where
  abbrev with_id : ℕ → Package
  with_id i = record { id = i; read = r }

  same-export : (o : Option Export) → ref_text (export_ref (with_id id) x o) ≡ ref_text (export_ref (with_id 0) x o)
  unfolding ref_text
  same-export none = refl
  same-export (some e) = refl

  same-import : (o : Option (List ℕ)) (h : Option ℕ) → ref_text (import_ref (with_id id) x o h) ≡ ref_text (import_ref (with_id 0) x o h)
  unfolding ref_text
  same-import none h = refl
  same-import (some t) none = refl
  same-import (some t) (some h) = refl

  pub text_any : ref_text (ref_in (with_id id) x) ≡ ref_text (ref_in (with_id 0) x)
  unfolding ref_in ref_text
  text_any = go (kind x)
    where
      go : (k : ℕ) → ref_text (ref_by (with_id id) x k) ≡ ref_text (ref_by (with_id 0) x k)
      go zero = same-export (get r.exports x)
      go (suc zero) = refl
      go (suc (suc zero)) = same-import (get r.imported (import_name x)) (get r.hashes (import_hash x))
      go (suc (suc (suc k))) = refl

-- ---- ASCII parts

ascii-five : (a b c d e : List ℕ) → all_ascii a ≡ true → all_ascii b ≡ true → all_ascii c ≡ true → all_ascii d ≡ true → all_ascii e ≡ true
    → all_ascii (a ++ b ++ c ++ d ++ e) ≡ true
ascii-five a b c d e i j k l m =
    ascii_append (a ++ b ++ c ++ d) e (ascii_append (a ++ b ++ c) d (ascii_append (a ++ b) c (ascii_append a b i j) k) l) m

ascii-nine : (a b c d e f g h i : List ℕ) → all_ascii (a ++ b ++ c ++ d ++ e) ≡ true → all_ascii f ≡ true → all_ascii g ≡ true → all_ascii h ≡ true → all_ascii i ≡ true
    → all_ascii (a ++ b ++ c ++ d ++ e ++ f ++ g ++ h ++ i) ≡ true
ascii-nine a b c d e f g h i p j k l m = ascii-five (a ++ b ++ c ++ d ++ e) f g h i p j k l m

regroup-five : (a b c d e : List ℕ) → ((a ++ b) ++ (c ++ d)) ++ e ≡ a ++ b ++ c ++ d ++ e
regroup-five a b c d e = simp append_assoc

regroup-nine : (a b c d e f g h i : List ℕ) → (((a ++ b) ++ (c ++ d)) ++ ((e ++ f) ++ (g ++ h))) ++ i ≡ a ++ b ++ c ++ d ++ e ++ f ++ g ++ h ++ i
regroup-nine a b c d e f g h i = simp append_assoc

utf8-two : (a n : List ℕ) → all_ascii a ≡ true → a ++ utf8 n ≡ utf8 (a ++ n)
utf8-two a n i = sym (rw (utf8_append a n, utf8-ascii a i))

utf8-four : (a n h x : List ℕ) → all_ascii a ≡ true → all_ascii h ≡ true → all_ascii x ≡ true → (a ++ utf8 n) ++ (h ++ x) ≡ utf8 (a ++ n ++ h ++ x)
utf8-four a n h x i j k =
    sym (append_assoc (a ++ utf8 n) h x)
    ∙ sym (rw (utf8_append (a ++ n ++ h) x, utf8_append (a ++ n) h, utf8_append a n, utf8-ascii a i, utf8-ascii h j, utf8-ascii x k))

-- ---- bad references

module _ (r : Read) (x : ℕ) where
  bad_import-ascii : all_ascii (bad_import r x) ≡ true
  unfolding bad_import
  bad_import-ascii =
      ascii-nine (quoted "package import ") (decimal (import_name x)) (quoted "/") (decimal (import_hash x)) (quoted " outside ") (decimal (length r.imported)) (quoted " packages / ") (decimal (length r.hashes)) (quoted " hashes")
      (ascii-five (quoted "package import ") (decimal (import_name x)) (quoted "/") (decimal (import_hash x)) (quoted " outside ") refl (decimal-ascii (import_name x)) refl (decimal-ascii (import_hash x)) refl)
      (decimal-ascii (length r.imported)) refl (decimal-ascii (length r.hashes)) refl

  bad_export-ascii : all_ascii (bad_export r x) ≡ true
  unfolding bad_export
  bad_export-ascii =
      ascii-five (quoted "local export ") (decimal x) (quoted " outside ") (decimal (length r.exports)) (quoted " exports") refl (decimal-ascii x) refl (decimal-ascii (length r.exports)) refl

module _ {b : List ℕ} {p : Parts} (a : PackageIn b p) (x : ℕ) where
  bad_import-is : import_bad p x ≡ bad_import (read_in b) x
  unfolding import_bad bad_import
  bad_import-is =
      regroup-nine (quoted "package import ") (decimal (import_name x)) (quoted "/") (decimal (import_hash x)) (quoted " outside ") (decimal p.imported.count) (quoted " packages / ") (decimal p.publics) (quoted " hashes")
      ∙ ap₂ (λ (n m : ℕ). quoted "package import " ++ decimal (import_name x) ++ quoted "/" ++ decimal (import_hash x) ++ quoted " outside " ++ decimal n ++ quoted " packages / " ++ decimal m ++ quoted " hashes")
      (imported_count_lem a) (public-count a)

  bad_export-is : export_bad p x ≡ bad_export (read_in b) x
  unfolding export_bad bad_export
  bad_export-is =
      regroup-five (quoted "local export ") (decimal x) (quoted " outside ") (decimal p.count) (quoted " exports")
      ∙ ap (λ (n : ℕ). quoted "local export " ++ decimal x ++ quoted " outside " ++ decimal n ++ quoted " exports") (export_count_lem a)

  -- ---- kind by kind

  abbrev bytes_of : Ref → List ℕ
  bytes_of t = utf8 (ref_text t)

  pub bytes-script : kind_by p x ≡ 0 → quoted "script:0x" ++ hex 16 x ≡ ref_bytes b x
  unfolding ref_bytes ref_text
  bytes-script e = sym (utf8-ascii (quoted "script:0x" ++ hex 16 x) (ascii_append (quoted "script:0x") (hex 16 x) refl (hex-ascii 16 x))) ∙ sym (ap bytes_of (in_script a 0 x e))

  pub bytes-null : kind_by p x ≡ 6 → quoted "null" ≡ ref_bytes b x
  unfolding ref_bytes ref_text
  bytes-null e = sym (utf8-ascii (quoted "null") refl) ∙ sym (ap bytes_of (in_null a 0 x e))

  pub bytes-export : kind_by p x ≡ 4 → export_bytes (read_in b) x ≡ ref_bytes b x
  unfolding ref_bytes ref_text export_bytes
  bytes-export e = utf8-two (quoted "export:") (export_name (read_in b) (get_or (read_in b).exports x no_export)) refl ∙ sym (ap bytes_of (in_export a 0 x e))

  pub bytes-import : kind_by p x ≡ 2 → import_bytes (read_in b) x ≡ ref_bytes b x
  unfolding ref_bytes ref_text import_bytes
  bytes-import e =
      utf8-four (quoted "package:") (imported_name (read_in b) (import_name x)) (quoted "#0x") (hex 16 (get_or (read_in b).hashes (import_hash x) 0)) refl refl (hex-ascii 16 (get_or (read_in b).hashes (import_hash x) 0))
      ∙ sym (ap bytes_of (in_import a 0 x e))

  bad-two : kind_by p x ≡ 7 → kind x ≡ 2 → bad_by p x ≡ ref_bytes b x
  unfolding ref_bytes ref_text bad_by
  bad-two e k =
      ap (λ (t : Bool). cond t (import_bad p x) (export_bad p x)) (eq-eqb (kind x) 2 k)
      ∙ (bad_import-is ∙ (sym (utf8-ascii (bad_import (read_in b) x) (bad_import-ascii (read_in b) x)) ∙ sym (ap bytes_of (in_bad_import a 0 x e k))))

  bad-zero : kind_by p x ≡ 7 → (kind x ≡ 2 → ⊥) → bad_by p x ≡ ref_bytes b x
  unfolding ref_bytes ref_text bad_by
  bad-zero e k =
      ap (λ (t : Bool). cond t (import_bad p x) (export_bad p x)) (ne_eqb (kind x) 2 k)
      ∙ (bad_export-is ∙ (sym (utf8-ascii (bad_export (read_in b) x) (bad_export-ascii (read_in b) x)) ∙ sym (ap bytes_of (in_bad_export a 0 x e k))))

  pub bytes-bad : kind_by p x ≡ 7 → bad_by p x ≡ ref_bytes b x
  bytes-bad e = go (ℕ_discrete (kind x) 2)
    where
      go : Dec (kind x ≡ 2) → bad_by p x ≡ ref_bytes b x
      go (yes k) = bad-two e k
      go (no k) = bad-zero e k
