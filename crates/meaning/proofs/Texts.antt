-- Every text of a report is one of the Unicode Standard (demand 2): a list of scalar values, so that its bytes are UTF-8 and say it again.
use Rattle.std.specs.Prelude.{◌≡◌, Bool, cond, ltb, eqb, take, get_or}
use Rattle.std.proofs.Math.Path.{refl}
use Rattle.std.proofs.Common.{sym, ap, subst, inl, arith, ltb-true}
use Rattle.std.proofs.Math.Bool.{true, false, and-eq-true_iff}
use Rattle.std.proofs.Math.Logic.{by_cases}
use mathlib.Core.List.{List, [], ◌∷◌, ◌++◌, append_assoc, append-nil, Memᴰ}
use Rattle.std.proofs.Math.Option.{Option, none, some}
use Prim.Native.Nat.{ℕ, zero, suc, ◌+◌, ◌-◌, ◌<◌}
use Prim.Native.String.{String}
use Rattle.std.proofs.Math.Decide.{dec_lt}
use Rattle.std.proofs.Math.ListN.{length, get_or-eq_default}
use Rattle.text.specs.Affix.{all_ascii}
use Rattle.text.specs.Digits.{decimal, hex}
use Rattle.text.specs.DigitsLaws.{decimal-ascii, hex-ascii}
use Rattle.base.specs.Find.{get, option, kept, flat}
use Rattle.base.specs.FindLaws.{find-some, flat-member, flat-some}
use Rattle.base.specs.House.{length_first}
use Rattle.base.specs.Index.{kind, import_name, import_hash}
use Rattle.base.specs.Literal.{quoted}
use Rattle.text.specs.Name.{suffix}
use Rattle.text.specs.NameLaws.{suffix-ascii}
use Rattle.base.specs.Number.{be_bytes}
use Rattle.base.specs.NumberLaws.{Bytes}
use Rattle.base.specs.Perm.{All}
use Rattle.base.specs.Reading.{gives, run, run_block}
use Rattle.text.specs.Utf16.{Scalars}
use Rattle.scriptblock.specs.Script.{Objects, script, object_name}
use Rattle.scriptblock.proofs.ScriptAccepted.{answer_of}
use Rattle.scriptblock.specs.ScriptFacts.{ScriptFacts}
use Rattle.scriptblock.proofs.ScriptFacts.{objects-facts}
use Rattle.scriptblock.specs.declared.script.Entry.{Entry}
use Rattle.zen.specs.Answers.{answer}
use Rattle.zen.specs.PackageFacts.{PackageFacts}
use Rattle.zen.proofs.PackageFacts.{read-facts}
use Rattle.zen.specs.Zen.{Read, package_block, base_of, export_name, imported_name, package_name}
use Rattle.zen.specs.declared.tables.Export.{Export}
use Rattle.meaning.specs.Frame.{Part, Corpus, framed}
use Rattle.meaning.specs.Key.{Key, same_key}
use Rattle.meaning.specs.Path.{Path, object_at, separator, added, beyond, through, path_of}
use Rattle.meaning.specs.Reference.{Package, Ref, bad_import, bad_export, export_ref, import_ref, ref_by, ref_in, ref_text}
use Rattle.meaning.specs.Reference as Reference
use Rattle.meaning.specs.Scan.{outer_of, outer_name, gen_variable, candidate_kind, instance_name}
use Rattle.meaning.specs.Scan.{Class, is_class, class_path, class_at, classes_from, classes_of, table}
use Rattle.meaning.specs.Resolve.{Limits, look, follow, native_of, found_or, path_text, class_text, resolve}
use Rattle.meaning.specs.Report.{or_unknown, class_ref, row_of}
use Rattle.meaning.specs.Bytes.{part_bytes, packages_bytes, corpus_rest, corpus_bytes}
use Rattle.meaning.specs.BytesLaws.{bytes-frame}
use Rattle.meaning.specs.Accepted.{read_of, packages_in, Opens}
use Rattle.meaning.specs.Fields.{row_texts}
use Rattle.meaning.proofs.Fields.{member-read}
pub use Rattle.meaning.specs.Texts.{TextsScalar}

-- ---- texts in parts

scalars_append : (t u : List ℕ) → Scalars t → Scalars u → Scalars (t ++ u)
scalars_append [] u a b = b
scalars_append (c ∷ t) u a b = (a.0, scalars_append t u a.1 b)

scalars-take : (n : ℕ) (t : List ℕ) → Scalars t → Scalars (take n t)
scalars-take zero t a = tt
scalars-take (suc n) [] a = tt
scalars-take (suc n) (c ∷ t) a = (a.0, scalars-take n t a.1)

scalars_ascii : (t : List ℕ) → all_ascii t ≡ true → Scalars t
scalars_ascii [] e = tt
scalars_ascii (c ∷ t) e =
    let p = (and-eq-true_iff (ltb c 128) (all_ascii t)).0 e in
    (inl (omega (arith, ltb-true c 128 p.0)), scalars_ascii t p.1)

suffix-scalars : (t : List ℕ) (n : ℕ) → Scalars t → Scalars (t ++ suffix n)
suffix-scalars t n a = scalars_append t (suffix n) a (scalars_ascii (suffix n) (suffix-ascii n))

-- a text, if there is one
abbrev Perhaps : Option (List ℕ) → Type 0
Perhaps none = Unit {0}
Perhaps (some t) = Scalars t

or_scalars : (x : Option (List ℕ)) → Perhaps x → Scalars (or_unknown x)
or_scalars none h = scalars_ascii (quoted "?") refl
or_scalars (some t) h = h

-- ---- the names of a block

abbrev Spelled : List (List ℕ) → Type 0
Spelled names = (i : ℕ) → Scalars (get_or names i [])

spelled : (names : List (List ℕ)) → ((i : ℕ) → i < length names → Scalars (get_or names i [])) → Spelled names
spelled names h i =
    by_cases (dec_lt i (length names)) (λ (l : i < length names). h i l)
    (λ (l : ¬ (i < length names)). rw (get_or-eq_default names [] {n = i} (omega arith)) tt)

package_spelled : (b : List ℕ) (r : Read) → Bytes b → run_block package_block b ≡ gives r → Spelled r.names × Spelled r.imported
unfolding answer
package_spelled b r y e =
    let f : PackageFacts b r.layout r = read-facts b r.layout (ap answer e) r e in (
      spelled r.names (λ i h. (f.name-holds y i (omega (arith, f.names))).scalars),
      spelled r.imported (λ i h. (f.imported-holds y i (omega (arith, f.imported))).scalars),
    )

script-spelled : (b : List ℕ) (o : Objects) → Bytes b → run script 0 b ≡ gives o → Spelled o.names
script-spelled b o y e =
    let f : ScriptFacts b o.layout o = objects-facts b o.layout (answer_of e) o e in
    spelled o.names (λ i h. (f.holds y i (omega (arith, f.names))).scalars)

-- ---- paths of script objects

module _ (o : Objects) (names : Spelled o.names) where
  object-scalars : (e : Entry) → Scalars (object_name o e)
  object-scalars e = suffix-scalars (get_or o.names e.index []) e.number (names e.index)

  separator-scalars : (n : ℕ) → Scalars (separator n)
  separator-scalars zero = tt
  separator-scalars (suc zero) = scalars_ascii (quoted ".") refl
  separator-scalars (suc (suc zero)) = scalars_ascii (quoted ":") refl
  separator-scalars (suc (suc (suc n))) = scalars_ascii (quoted ".") refl

  added-scalars : (name : List ℕ) → Scalars name → (x : Option Path) → Perhaps (path_text x) → Perhaps (path_text (added name x))
  added-scalars name s none h = tt
  added-scalars name s (some p) h =
      scalars_append (p.text ++ separator p.depth) name (scalars_append p.text (separator p.depth) h (separator-scalars p.depth)) s

  beyond-scalars : (b : Bool) (x : Option Path) → Perhaps (path_text x) → Perhaps (path_text (beyond b x))
  beyond-scalars true x h = tt
  beyond-scalars false x h = h

  path-scalars : (n g : ℕ) → Perhaps (path_text (path_of n o g))
  unfolding path_of
  path-scalars zero g = tt
  path-scalars (suc n) g = go (object_at o g) (path-scalars n)
    where
      go : (x : Option Entry) → ((g : ℕ) → Perhaps (path_text (path_of n o g))) → Perhaps (path_text (through (path_of n o) o x))
      go none ih = tt
      go (some u) ih =
          added-scalars (object_name o u) (object-scalars u) (beyond (eqb (kind u.outer) 3) (path_of n o u.outer))
          (beyond-scalars (eqb (kind u.outer) 3) (path_of n o u.outer) (ih u.outer))

-- ---- texts of a package

module _ (r : Read) (names : Spelled r.names) where
  export-scalars : (e : Export) → Scalars (export_name r e)
  export-scalars e = suffix-scalars (base_of r e) e.number (names e.index)

  pub name-scalars : Scalars (package_name r)
  name-scalars = suffix-scalars (get_or r.names r.layout.summary.index []) r.layout.summary.number (names r.layout.summary.index)

  outer-scalars : (e : Export) → Scalars (outer_name r e)
  outer-scalars e = go (outer_of r e)
    where
      go : (x : Option Export) → Scalars (option [] (export_name r) x)
      go none = tt
      go (some u) = export-scalars u

  class-scalars : (e : Export) → Scalars (class_path r e)
  unfolding class_path
  class-scalars e =
      let front = package_name r ++ quoted "." in
      let outer = option [] (λ (u : Export). export_name r u ++ quoted ":") (outer_of r e) in
      let named = scalars_append (package_name r) (quoted ".") name-scalars (scalars_ascii (quoted ".") refl) in
      scalars_append (front ++ outer) (export_name r e) (scalars_append front outer named (go (outer_of r e))) (export-scalars e)
    where
      go : (x : Option Export) → Scalars (option [] (λ (u : Export). export_name r u ++ quoted ":") x)
      go none = tt
      go (some u) = scalars_append (export_name r u) (quoted ":") (export-scalars u) (scalars_ascii (quoted ":") refl)

  instance-scalars : (e : Export) → Scalars (instance_name r e)
  unfolding instance_name
  instance-scalars e = go (eqb (candidate_kind r e) 1)
    where
      go : (t : Bool) → Scalars (cond t (take (length (base_of r e) - length gen_variable) (base_of r e) ++ suffix e.number) (export_name r e))
      go true =
          suffix-scalars (take (length (base_of r e) - length gen_variable) (base_of r e)) e.number
          (scalars-take (length (base_of r e) - length gen_variable) (base_of r e) (names e.index))
      go false = export-scalars e

-- ---- references

pieces : (ts : List (List ℕ)) → All Scalars ts → Scalars (flat (λ t. t) ts)
pieces [] h = tt
pieces (t ∷ ts) h = scalars_append t (flat (λ t. t) ts) h.0 (pieces ts h.1)

literal : (s : String) → all_ascii (quoted s) ≡ true → Scalars (quoted s)
literal s e = scalars_ascii (quoted s) e

number : (n : ℕ) → Scalars (decimal n)
number n = scalars_ascii (decimal n) (decimal-ascii n)

-- the reference texts of what doesn't exist, piece by piece
import_pieces : Read → ℕ → List (List ℕ)
import_pieces r x =
    quoted "package import " ∷ decimal (import_name x) ∷ quoted "/" ∷ decimal (import_hash x) ∷ quoted " outside " ∷ decimal (length r.imported)
    ∷ quoted " packages / " ∷ decimal (length r.hashes) ∷ quoted " hashes" ∷ []

import-is : (r : Read) (x : ℕ) → bad_import r x ≡ flat (λ t. t) (import_pieces r x)
unfolding bad_import import_pieces
import-is r x = simp (append_assoc, append-nil)

import_pieces_lem : (r : Read) (x : ℕ) → All Scalars (import_pieces r x)
unfolding import_pieces
import_pieces_lem r x = (
  literal "package import " refl,
  (
    number (import_name x),
    (
      literal "/" refl,
      (
        number (import_hash x),
        (
          literal " outside " refl,
          (number (length r.imported), (literal " packages / " refl, (number (length r.hashes), (literal " hashes" refl, tt)))),
        ),
      ),
    ),
  ),
)

bad_import_lem : (r : Read) (x : ℕ) → Scalars (bad_import r x)
bad_import_lem r x = subst (λ t. Scalars t) (sym (import-is r x)) (pieces (import_pieces r x) (import_pieces_lem r x))

export_pieces : Read → ℕ → List (List ℕ)
export_pieces r x = quoted "local export " ∷ decimal x ∷ quoted " outside " ∷ decimal (length r.exports) ∷ quoted " exports" ∷ []

export_is : (r : Read) (x : ℕ) → bad_export r x ≡ flat (λ t. t) (export_pieces r x)
unfolding bad_export export_pieces
export_is r x = simp (append_assoc, append-nil)

export_pieces_lem : (r : Read) (x : ℕ) → All Scalars (export_pieces r x)
unfolding export_pieces
export_pieces_lem r x =
    (literal "local export " refl, (number x, (literal " outside " refl, (number (length r.exports), (literal " exports" refl, tt)))))

bad_export_lem : (r : Read) (x : ℕ) → Scalars (bad_export r x)
bad_export_lem r x = subst (λ t. Scalars t) (sym (export_is r x)) (pieces (export_pieces r x) (export_pieces_lem r x))

module _ (p : Package) (names : Spelled p.read.names) (imported : Spelled p.read.imported) where
  imported-scalars : (i : ℕ) → Scalars (imported_name p.read i)
  imported-scalars i = suffix-scalars (get_or p.read.imported i []) (get_or p.read.numbers i 0) (imported i)

  ref-scalars : (x : ℕ) → Scalars (ref_text (ref_in p x))
  unfolding ref_in ref_text
  ref-scalars x = by (kind x)
    where
      as_export : (y : Option Export) → Scalars (ref_text (export_ref p x y))
      as_export none = bad_export_lem p.read x
      as_export (some e) = scalars_append (quoted "export:") (export_name p.read e) (literal "export:" refl) (export-scalars p.read names e)

      as_import : (y : Option (List ℕ)) (z : Option ℕ) → Scalars (ref_text (import_ref p x y z))
      as_import none z = bad_import_lem p.read x
      as_import (some t) none = bad_import_lem p.read x
      as_import (some t) (some h) =
          let name = imported_name p.read (import_name x) in
          let named = scalars_append (quoted "package:") name (literal "package:" refl) (imported-scalars (import_name x)) in
          scalars_append (quoted "package:" ++ name ++ quoted "#0x") (hex 16 h)
          (scalars_append (quoted "package:" ++ name) (quoted "#0x") named (literal "#0x" refl)) (scalars_ascii (hex 16 h) (hex-ascii 16 h))

      by : (k : ℕ) → Scalars (ref_text (ref_by p x k))
      by zero = as_export (get p.read.exports x)
      by (suc zero) = scalars_append (quoted "script:0x") (hex 16 x) (literal "script:0x" refl) (scalars_ascii (hex 16 x) (hex-ascii 16 x))
      by (suc (suc zero)) = as_import (get p.read.imported (import_name x)) (get p.read.hashes (import_hash x))
      by (suc (suc (suc k))) = literal "null" refl

-- ---- classes

class_path_lem : (limit : ℕ) (o : Objects) (p : Package) → Spelled p.read.names → (i : ℕ) (es : List Export) (c : Class)
    → Memᴰ c (classes_from limit o p i es) → Scalars c.path
unfolding class_at
class_path_lem limit o p names i [] c m = elim m [ ]
class_path_lem limit o p names i (e ∷ es) c m = go (is_class limit o e) (class_path_lem limit o p names (i + 1) es c) m
  where
    go : (b : Bool) → (Memᴰ c (classes_from limit o p (i + 1) es) → Scalars c.path)
        → Memᴰ c (kept b (class_at p i e) (classes_from limit o p (i + 1) es)) → Scalars c.path
    go true ih (Memᴰ.head q) = rw (ap (λ (c : Class). c.path) q) (class-scalars p.read names e)
    go true ih (Memᴰ.tail m) = ih m
    go false ih m = ih m

-- ---- THE THEOREM

module _ (m : Limits) (o : Objects) (ps : List Package) (objects : Spelled o.names)
    (packages : (p : Package) → Memᴰ p ps → Spelled p.read.names × Spelled p.read.imported) where
  abbrev look_in : Key → Option Class
  look_in = look (table m.objects o ps)

  looked : (k : Key) → Perhaps (class_text (look_in k))
  unfolding classes_of
  looked k = go (look_in k) refl
    where
      go : (x : Option Class) → look_in k ≡ x → Perhaps (class_text x)
      go none e = tt
      go (some c) e =
          let (member, same) = find-some (λ d. same_key d.key k) (table m.objects o ps) c e in
          let (p, in-corpus, in-package) = flat-some (classes_of m.objects o) ps member in
          class_path_lem m.objects o p (packages p in-corpus).0 0 p.read.exports c in-package

  found : (k : ℕ) (x : Option (List ℕ)) → Perhaps x → Perhaps (found_or k x).class
  found k none h = tt
  found k (some t) h = h

  resolved : (r : Ref) → Perhaps (resolve m look_in o r).class
  unfolding resolve
  resolved (Reference.script g) = found 0 (path_text (path_of m.objects o g)) (path-scalars o objects m.objects g)
  resolved (Reference.import k name hash) = found 2 (class_text (look_in k)) (looked k)
  resolved (Reference.export k name) = found 4 (class_text (look_in k)) (looked k)
  resolved Reference.null = tt
  resolved (Reference.bad t) = tt

  natively : (r : Ref) → Perhaps (path_text (native_of m look_in o r))
  unfolding native_of
  natively r = go (follow m.lookups look_in r)
    where
      go : (x : Option ℕ) → Perhaps (path_text (option none (path_of m.objects o) x))
      go none = tt
      go (some g) = path-scalars o objects m.objects g

  row-scalars : (p : Package) → Memᴰ p ps → (e : Export) → All Scalars (row_texts (row_of m look_in o p e))
  unfolding row_of
  row-scalars p i e =
      let (names, imported) = packages p i in
      let class = or_scalars (resolve m look_in o (class_ref p e)).class (resolved (class_ref p e)) in
      let own = or_scalars (path_text (native_of m look_in o (class_ref p e))) (natively (class_ref p e)) in
      let ref = ref-scalars p names imported e.class in
      (instance-scalars p.read names e, (export-scalars p.read names e, (outer-scalars p.read names e, (class, (own, (ref, tt))))))

-- ---- the blocks of a corpus of bytes are bytes

bytes_left_lem : (a b : List ℕ) → Bytes (a ++ b) → Bytes a
bytes_left_lem [] b h i = omega arith
bytes_left_lem (x ∷ a) b h zero = h zero
bytes_left_lem (x ∷ a) b h (suc i) = bytes_left_lem a b (λ j. h (suc j)) i

bytes-right : (a b : List ℕ) → Bytes (a ++ b) → Bytes b
bytes-right [] b h = h
bytes-right (x ∷ a) b h = bytes-right a b (λ j. h (suc j))

module _ (c : Corpus) (y : Bytes (corpus_bytes c)) where
  rest-bytes : Bytes (length_first c.script ++ packages_bytes c.parts)
  unfolding corpus_bytes corpus_rest
  rest-bytes = λ i. bytes-right (be_bytes 4 (length (corpus_rest c))) (corpus_rest c) y (suc i)

  script_bytes_lem : Bytes c.script
  script_bytes_lem = bytes-right (be_bytes 4 (length c.script)) c.script (bytes_left_lem (length_first c.script) (packages_bytes c.parts) rest-bytes)

  block-bytes : (p : Part) → Memᴰ p c.parts → Bytes p.block
  unfolding packages_bytes part_bytes
  block-bytes p m =
      let (front, back, is) = flat-member part_bytes m in
      let packages = bytes-right (length_first c.script) (packages_bytes c.parts) rest-bytes in
      let parts = bytes-right (be_bytes 4 (length c.parts)) (flat part_bytes c.parts) packages in
      let part = bytes-right front (part_bytes p) (bytes_left_lem (front ++ part_bytes p) back (rw is at parts)) in
      bytes-right (be_bytes 4 (length p.block)) p.block (bytes-right (be_bytes 8 p.id) (length_first p.block) part)

module _ (m : Limits) (s : List ℕ) (b : Bytes s) (c : Corpus) (f : framed s ≡ gives c) where
  pub texts-scalar : (a : Opens m c) → TextsScalar m a.objects (packages_in c)
  texts-scalar a = record {
    name = λ p i. name-scalars p.read (read p i).0;
    row = row-scalars m a.objects (packages_in c) (script-spelled c.script a.objects (script_bytes_lem c whole) a.script-is) read;
  }
    where
      whole : Bytes (corpus_bytes c)
      whole = rw (bytes-frame s c b f).is at b

      read : (p : Package) → Memᴰ p (packages_in c) → Spelled p.read.names × Spelled p.read.imported
      read p i =
          let (q, in-corpus, is) = flat-some read_of c.parts i in
          package_spelled q.block p.read (block-bytes c whole q in-corpus) (member-read q p is)
