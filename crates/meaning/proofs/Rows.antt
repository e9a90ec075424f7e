-- The last sentences of demand 3, of the rows as they stand in the report's bytes: for every accepted corpus, report, section by section
-- and row by row, the native byte is 1 exactly where some chain leads to a native class, and the native text is its path, else `?`. The
-- report of a corpus with its packages in another order and other values in what is passed over is the report of an accepted corpus too,
-- so this covers both reports of demand 3.
use Rattle.std.specs.Prelude.{◌≡◌, refl, ◌↔◌, ℕ, length}
use Rattle.std.proofs.Common.{◌∙◌, ap, arith}
use mathlib.Core.List.{List, [], ◌++◌, append_assoc, Memᴰ}
use Rattle.std.proofs.Math.Option.{Option, none, some}
use Rattle.base.specs.Find.{flat}
use Rattle.base.specs.FindLaws.{flat-member}
use Rattle.base.specs.Literal.{quoted}
use Rattle.text.specs.Name.{text_bytes}
use Rattle.base.specs.Number.{be_bytes}
use Rattle.base.specs.Perm.{all-member}
use Rattle.base.specs.Reading.{gives, run_block}
use Rattle.scriptblock.specs.Script.{Objects}
use Rattle.scriptblock.specs.ScriptGood.{Good}
use Rattle.scriptblock.proofs.ScriptGood.{script-good}
use Rattle.zen.specs.Zen.{Read, package_block, package_name}
use Rattle.zen.specs.declared.tables.Export.{Export}
use Rattle.meaning.specs.Frame.{Part, Corpus}
use Rattle.meaning.specs.Path.{Path}
use Rattle.meaning.specs.Reference.{Package, Ref}
use Rattle.meaning.specs.Scan.{Class, candidates, table}
use Rattle.meaning.specs.Resolve.{Limits, look, native_of, path_text}
use Rattle.meaning.specs.Report.{Row, flag, or_unknown, row_bytes, class_ref, row_of, section}
use Rattle.meaning.specs.Call.{holding}
use Rattle.meaning.specs.Accepted.{Good as GoodPart, packages_in, Opens, Accepted}
use Rattle.meaning.proofs.Accepted.{to-opened}
use Rattle.meaning.specs.Sections.{section_in, front_of}
use Rattle.meaning.proofs.Sections.{length_front, report-is}
use Rattle.meaning.specs.Chain.{NativeKnown, chain_path}
use Rattle.meaning.specs.OwnChain.{OneEach}
use Rattle.meaning.proofs.OwnChain.{once-each}
use Rattle.meaning.proofs.Native.{native-known, native-path, native-unknown}
pub use Rattle.meaning.specs.Rows.{Inside}

module _ (m : Limits) (t : List Class) (o : Objects) where
  -- the native byte and the native text of a row whose class reference is r
  pub record NativeAs (r : Ref) (known : ℕ) (native : List ℕ) : Type 0 where
    -- "known exactly when some chain [..] leads from the row's class reference to a script object whose outer chain [..] ends in a null index"
    pub exactly : (known ≡ 1) ↔ NativeKnown m t o r
    -- "It is then that object's path"
    pub path : (k : NativeKnown m t o r) → native ≡ (chain_path o k.objects).text
    -- "and otherwise `?`"
    pub otherwise : (NativeKnown m t o r → ⊥) → (known ≡ 0) × (native ≡ quoted "?")

  -- the bytes of the row of a candidate: `row_bytes` has the native byte and the native text of which NativeAs speaks
  pub record RowAs (p : Package) (e : Export) (bytes : List ℕ) : Type 0 where
    pub row : Row
    pub bytes-are : bytes ≡ row_bytes row
    pub row_is : row ≡ row_of m (look t) o p e
    pub native_as : NativeAs (class_ref p e) (flag row.native) (or_unknown (path_text row.native))

  -- a package's section: behind its row count stand the rows of its candidates, in order
  pub record SectionAs (p : Part) (bytes : List ℕ) : Type 0 where
    pub read : Read
    pub reads : run_block package_block p.block ≡ gives read
    pub row : Export → List ℕ
    pub bytes-are : bytes ≡
        be_bytes 8 p.id ++ text_bytes (package_name read) ++ be_bytes 4 (length read.exports) ++ be_bytes 4 (length (candidates read))
        ++ flat row (candidates read)
    pub rows_as : (e : Export) → RowAs (record { id = p.id; read = read }) e (row e)

-- the report of an accepted corpus: 9 bytes, then the sections of its packages, in order
pub record ReportAs (m : Limits) (c : Corpus) (report : List ℕ) : Type 0 where
  pub opens : Opens m c
  pub front : List ℕ
  pub nine : length front ≡ 9
  pub report-is : report ≡ front ++ flat (section_in m c) c.parts
  pub sections_as : (p : Part) → Memᴰ p c.parts
      → SectionAs m (table m.objects opens.objects (packages_in c)) opens.objects p (section_in m c p)

inside_of : (P : List ℕ → Type 0) (x inner y bytes : List ℕ) → bytes ≡ x ++ inner ++ y → Inside P inner → Inside P bytes
inside_of P x inner y bytes e (front, part, back, is, h) = (x ++ front, part, back ++ y, e ∙ rw is (simp append_assoc), h)

module _ (m : Limits) (t : List Class) (o : Objects) where
  -- the row of each candidate stands in the section
  section-row : (p : Part) (bytes : List ℕ) → SectionAs m t o p bytes → (r : Read) → run_block package_block p.block ≡ gives r
      → (e : Export) → Memᴰ e (candidates r) → Inside (RowAs m t o (record { id = p.id; read = r }) e) bytes
  section-row p bytes a r reads e in-package =
      let same : a.read ≡ r = cc in
      let (front, back, is) = flat-member a.row in-package in
      let head = be_bytes 8 p.id ++ text_bytes (package_name r) ++ be_bytes 4 (length r.exports) ++ be_bytes 4 (length (candidates r)) in
      (head ++ front, a.row e, back, (rw same at a.bytes-are) ∙ rw is (simp append_assoc), rw same at (a.rows_as e))

module _ (m : Limits) (t : List Class) (o : Objects) (one : OneEach t) (good : Good o) where
  pub native_as : (r : Ref) → NativeAs m t o r (flag (native_of m (look t) o r)) (or_unknown (path_text (native_of m (look t) o r)))
  native_as r = go (native_of m (look t) o r) refl
    where
      go : (x : Option Path) → native_of m (look t) o r ≡ x → NativeAs m t o r (flag x) (or_unknown (path_text x))
      go none e =
          let no : NativeKnown m t o r → ⊥ = (native-unknown m t o one good r).0 e in
          record { exactly = (λ z. absurd (omega arith), λ k. absurd (no k)); path = λ k. absurd (no k); otherwise = λ _. (refl, refl) }
      go (some q) e =
          let k = ((native-known m t o one good r q).0 e).0 in
          record { exactly = (λ _. k, λ _. refl); path = λ j. same (native-path m t o one good r j).0; otherwise = λ no. absurd (no k) }
        where
          same : {p : Path} → native_of m (look t) o r ≡ some p → q.text ≡ p.text
          same {p} f = let h : q ≡ p = cc in ap (λ (x : Path). x.text) h

  row_as : (p : Package) (e : Export) → RowAs m t o p e (row_bytes (row_of m (look t) o p e))
  unfolding row_of
  row_as p e = record { row = row_of m (look t) o p e; bytes-are = refl; row_is = refl; native_as = native_as (class_ref p e) }

  section_as : (p : Part) (r : Read) → run_block package_block p.block ≡ gives r → SectionAs m t o p (section m (look t) o (record { id = p.id; read = r }))
  unfolding section
  section_as p r e = record {
    read = r;
    reads = e;
    row = λ x. row_bytes (row_of m (look t) o (record { id = p.id; read = r }) x);
    bytes-are = refl;
    rows_as = row_as (record { id = p.id; read = r });
  }

module _ (m : Limits) (c : Corpus) where
  -- the section of a package of an accepted corpus
  section_in_lem : (a : Opens m c) (p : Part) → Memᴰ p c.parts
      → SectionAs m (table m.objects a.objects (packages_in c)) a.objects p (section_in m c p)
  unfolding section_in holding
  section_in_lem a p in-corpus =
      let t = table m.objects a.objects (packages_in c) in
      let (r, e) = all-member GoodPart c.parts a.good in-corpus in
      rw (to-opened m c a, e)
      (section_as m t a.objects (once-each [] t a.once) (script-good c.script a.objects a.script-is) p r e)

  -- THE THEOREM
  pub native_in_report : (work room : ℕ) (report : List ℕ) → Accepted m c work room report → ReportAs m c report
  native_in_report work room report a = record {
    opens = a.opens;
    front = front_of (length (flat (section_in m c) c.parts)) (length c.parts);
    nine = length_front (length (flat (section_in m c) c.parts)) (length c.parts);
    report-is = report-is m c work room report a;
    sections_as = section_in_lem a.opens;
  }

  -- so the row of each candidate of each package stands in the report
  module _ (report : List ℕ) (a : ReportAs m c report) where
    abbrev pub RowIn : Package → Export → List ℕ → Type 0
    RowIn p e = RowAs m (table m.objects a.opens.objects (packages_in c)) a.opens.objects p e

    pub row_in-report : (p : Part) → Memᴰ p c.parts → (r : Read) → run_block package_block p.block ≡ gives r
        → (e : Export) → Memᴰ e (candidates r) → Inside (RowIn (record { id = p.id; read = r }) e) report
    row_in-report p in-corpus r reads e in-package =
        let (x, y, is) = flat-member (section_in m c) in-corpus in
        inside_of (RowIn (record { id = p.id; read = r }) e) (a.front ++ x) (section_in m c p) y report (a.report-is ∙ rw is (simp append_assoc))
        (section-row m _ _ p (section_in m c p) (a.sections_as p in-corpus) r reads e in-package)
