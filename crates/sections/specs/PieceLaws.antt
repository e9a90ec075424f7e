-- Laws of a row's pieces: a row is its front and its texts. Assumes nothing.
use Rattle.std.specs.Prelude.{◌≡◌, Bool, true, false, cond, ◌&&◌, ℕ, ◌+◌, ◌≤◌, ◌<◌, eqb, Option as Maybe}
use Rattle.std.proofs.Math.Path.{refl, ap}
use Rattle.std.proofs.Common.{sym, ◌∙◌, length-append}
use Rattle.std.proofs.Math.Bool.{not}
use mathlib.Core.List.{List, [], ◌∷◌, ◌++◌, append_assoc}
use Rattle.std.proofs.Math.Option.{Option, none, some}
use native.Mathlib.Omega.{arith}
use Rattle.std.proofs.lemmas.Bool.{lt-leb}
use Rattle.std.proofs.Math.ListN.{length}
use Rattle.text.specs.Name.{text_bytes}
use Rattle.base.specs.Number.{be_bytes}
use Rattle.base.specs.NumberLaws.{Bytes, length-be_bytes}
use Rattle.base.specs.Output.{Wrote}
use Rattle.base.specs.OutputLaws.{wrote_as, wrote_count, wrote-front}
use Rattle.scriptblock.specs.Script.{Objects}
use Rattle.zen.specs.declared.tables.Export.{Export}
use Rattle.meaning.specs.Key.{Key}
use Rattle.meaning.specs.Path.{Path, path_of}
use Rattle.meaning.specs.Reference.{Ref, script, import, export, null, bad, ref_in, ref_text}
use Rattle.meaning.specs.Scan.{Class, outer_of, candidate_kind, numbered}
use Rattle.meaning.specs.Resolve.{Limits, look, resolve, found_or, path_text, class_text}
use Rattle.meaning.specs.Report.{Row as Said, flag, row_version, row_rest, row_bytes, row_of}
use Rattle.objects.specs.Work.{one_if}
use Rattle.packages.specs.Meaning.{kind_by, ref_kind}
use Rattle.packages.specs.MeaningLaws.{kind_by_lem}
use Rattle.packages.specs.Package.{read_in, package_in, PackageIn}
use Rattle.packages.specs.RefBytes.{ref_bytes}
use Rattle.packages.specs.RefBytesLaws.{text_any}
use Rattle.packages.specs.Row.{export_no, row_with, row_in, names_at, RowHolds}
use Rattle.packages.specs.RowLaws.{row-holds, row-names}
use Rattle.packages.specs.declared.package.Parts.{Parts}
use Rattle.packages.specs.declared.rows.Candidate.{Candidate}
use Rattle.packages.specs.declared.rows.Row.{Row}
use Rattle.resolve.specs.Rows.{limits_of}
use Rattle.sections.specs.Written.{is_some, both_texts}
use Rattle.sections.specs.WrittenLaws.{behind, again}
use Rattle.sections.specs.Pieces.{row_texts, reference_text, kind_for, row_front, row_no, RowDue, TextsPut}
use Rattle.resolve.specs.declared.rows.Led.{Led}
use Rattle.sections.specs.declared.texts.Texts.{Texts}

-- ---- a row is what stands before its texts, and they

module _ (r : Said) where
  abbrev six : List ℕ
  six = row_version ∷ r.kind ∷ r.numbered ∷ r.class_kind ∷ flag r.class ∷ flag r.native ∷ []

  rest-is : row_rest r ≡ six ++ row_texts r
  unfolding row_rest row_texts
  rest-is = simp append_assoc

  row_is : row_bytes r ≡ (be_bytes 4 (6 + length (row_texts r)) ++ six) ++ row_texts r
  unfolding row_bytes
  row_is =
      let n : length (row_rest r) ≡ 6 + length (row_texts r) = ap length rest-is ∙ omega arith in
      rw (n, rest-is) (sym (append_assoc (be_bytes 4 (6 + length (row_texts r))) six (row_texts r)))

  -- it takes ten bytes more than they
  pub row_size_lem : length (row_bytes r) ≡ 10 + length (row_texts r)
  row_size_lem = rw row_is (simp length-append (omega (arith, length-be_bytes 4 (6 + length (row_texts r)))))

-- ---- the six bytes, as code has them

flag_is : {A : Type 0} (x : Option A) → flag x ≡ one_if (is_some x)
flag_is none = refl
flag_is (some a) = refl

native-is : (x : Option Path) → flag x ≡ one_if (is_some (path_text x))
native-is none = refl
native-is (some p) = refl

kind-found : (k : ℕ) (x : Option (List ℕ)) → k < 6 → (found_or k x).kind ≡ kind_for k (is_some (found_or k x).class)
kind-found k none h = rw (lt-leb 6 k h)
kind-found k (some t) h = refl

kind-is : (m : Limits) (f : Key → Option Class) (o : Objects) (r : Ref) → (resolve m f o r).kind ≡ kind_for (ref_kind r) (is_some (resolve m f o r).class)
unfolding resolve
kind-is m f o (script g) = kind-found 0 (path_text (path_of m.objects o g)) (omega arith)
kind-is m f o (import k name hash) = kind-found 2 (class_text (f k)) (omega arith)
kind-is m f o (export k name) = kind-found 4 (class_text (f k)) (omega arith)
kind-is m f o null = refl
kind-is m f o (bad t) = refl

numbered_is : (b : Bool) → cond b 1 0 ≡ one_if b
numbered_is true = refl
numbered_is false = refl

front-size : (v : Row) (kind : ℕ) (t : Texts) → length (row_front v kind t) ≡ 10
unfolding row_front
front-size v kind t = simp length-append (omega (arith, length-be_bytes 4 (6 + t.size)))

-- what a candidate's row says of its export
module _ (b : List ℕ) (p : Parts) (k : Maybe Candidate) (i : ℕ) where
  row-kind : (row_in b p k i).kind ≡ k
  unfolding row_in
  row-kind = go (outer_of (read_in b) (export_no b i))
    where
      go : (u : Option Export) → (row_with b p k (export_no b i) u).kind ≡ k
      go none = refl
      go (some u) = refl

  row_number : (row_in b p k i).own.number ≡ (export_no b i).number
  unfolding row_in
  row_number = go (outer_of (read_in b) (export_no b i))
    where
      go : (u : Option Export) → (row_with b p k (export_no b i) u).own.number ≡ (export_no b i).number
      go none = refl
      go (some u) = refl

  row-class : (row_in b p k i).class ≡ (export_no b i).class
  unfolding row_in
  row-class = go (outer_of (read_in b) (export_no b i))
    where
      go : (u : Option Export) → (row_with b p k (export_no b i) u).class ≡ (export_no b i).class
      go none = refl
      go (some u) = refl

module _ {s b : List ℕ} {n objects : ℕ} {w d : List ℕ} {p : Parts} {v : Row} {l : Led} {o : Objects} {xs : List Class} {lookups id i : ℕ}
    (a : PackageIn d p) (due : RowDue s b n objects w d p v l o xs lookups id i) where
  abbrev said : Said
  said = row_no (limits_of lookups objects) xs o id d i

  abbrev ref : Ref
  ref = ref_in (package_in id d) (export_no d i).class

  class-is : v.class ≡ (export_no d i).class
  class-is = ap (λ (x : Row). x.class) due.row_is ∙ row-class d p _ i

  -- ---- the texts

  pub due-holds : Bytes d → RowHolds d v
  due-holds y = rw due.row_is (row-holds a y i due.inside v.kind due.kind_is)

  due-kind : {kind : ℕ} → kind ≡ kind_by p v.class → kind ≡ ref_kind ref
  due-kind e = e ∙ rw class-is (kind_by_lem a id (export_no d i).class)

  reference-is : reference_text d v.class ≡ text_bytes (ref_text ref)
  unfolding text_bytes ref_bytes
  reference-is = rw (class-is, text_any (read_in d) id (export_no d i).class)

  pub texts-are : Bytes d → row_texts said
      ≡ names_at d v ++ both_texts (limits_of lookups objects) xs o ref ++ reference_text d v.class
  unfolding row_texts row_of
  texts-are y =
      let e = row-names a y i due.inside v.kind due.kind_is in
      rw (reference-is, due.row_is, e) (simp append_assoc)

  -- ---- the front

  due-row : {old new : List ℕ} {t : Texts} {kind : ℕ} → kind ≡ kind_by p v.class → TextsPut said old new t → row_bytes said ≡ row_front v kind t ++ row_texts said
  unfolding row_front row_of numbered
  due-row {t = t} {kind = kind} e put =
      let m : v.own.number ≡ (export_no d i).number = ap (λ (x : Row). x.own.number) due.row_is ∙ row_number d p _ i in
      row_is said ∙ rw (
        put.wrote.size,
        due.kind_is,
        m,
        due-kind e,
        put.class,
        put.native,
        kind-is (limits_of lookups objects) (look xs) o ref,
        flag_is said.class,
        native-is said.native,
        numbered_is (eqb (candidate_kind (read_in d) (export_no d i)) 1 && not (eqb (export_no d i).number 0)),
      )

  -- the texts were written behind the first ten bytes, and what stands before them in these
  pub row_wrote : (out : List ℕ) {q o : List ℕ} {t : Texts} {kind k : ℕ} → kind ≡ kind_by p v.class → 10 ≤ length out → TextsPut said (behind 10 out) q t
      → Wrote (again 10 out q) (row_front v kind t) o k → Wrote out (row_bytes said) o (k + t.size)
  row_wrote out {t = t} {kind = kind} {k = k} e h put w =
      let ten : k ≡ 10 = w.size ∙ front-size v kind t in
      wrote_as (wrote_count (wrote-front put.wrote h (wrote_count w ten)) (omega arith)) (sym (due-row e put))
