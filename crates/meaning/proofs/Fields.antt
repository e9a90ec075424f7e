-- Length and count fields are right: those of the report, of each package's name, of each row and of each text in it, as they stand in the
-- bytes of every accepted report (document 01, "Report": "4-byte length of the rest", "Text: 4-byte length, UTF-8").
use Rattle.std.specs.Prelude.{◌≡◌, Bool, true, false, ℕ, ◌^◌, ◌≤◌, ◌<◌, take, drop}
use Rattle.std.proofs.Common.{sym, ◌∙◌, ap, mod-eq_of_lt, arith, take_at, drop_at}
use mathlib.Core.List.{List, [], ◌∷◌, ◌++◌, append_assoc, append-nil, Memᴰ}
use Rattle.std.proofs.Math.Option.{Option}
use Rattle.std.proofs.Math.ListN.{length, length-append}
use Rattle.base.specs.Find.{flat, filter, kept}
use Rattle.base.specs.FindLaws.{flat-member, flat-some}
use Rattle.base.specs.House.{length_first, longest_output}
use Rattle.base.specs.HouseLaws.{length_first_lem, first-is}
use Rattle.text.specs.Name.{text_bytes}
use Rattle.base.specs.Number.{be, be_bytes}
use Rattle.base.specs.NumberLaws.{Bytes, length-be_bytes, be-be_bytes}
use Rattle.base.specs.Perm.{All}
use Rattle.base.specs.Reading.{Out, gives, refused, run_block}
use Rattle.text.specs.Utf8.{utf8}
use Rattle.scriptblock.specs.Script.{Objects}
use Rattle.zen.specs.Accepted.{Parts}
use Rattle.zen.proofs.Accepted.{read-parts}
use Rattle.zen.specs.Answers.{exports_of}
use Rattle.zen.specs.Zen.{Read, package_block, package_name}
use Rattle.zen.specs.declared.tables.Export.{Export}
use Rattle.meaning.specs.Frame.{Part, Corpus, framed}
use Rattle.meaning.specs.Key.{Key}
use Rattle.meaning.specs.Reference.{Package}
use Rattle.meaning.specs.Scan.{Class, is_candidate, candidates, table}
use Rattle.meaning.specs.Resolve.{Limits, look}
use Rattle.meaning.specs.Report.{Row, flag, report_version, row_version, row_rest, row_bytes, row_of, section, report_of}
use Rattle.meaning.specs.Accepted.{package_of, read_of, packages_in, Accepted}
use Rattle.meaning.proofs.Accepted.{good_length}
use Rattle.meaning.proofs.Fits.{part-short, few-packages, short-block, accepted-short}
pub use Rattle.meaning.specs.Fields.{ReportSized, RowSized, SectionSized, Sized, row_texts}

-- ---- a part of something that is no longer than four bytes and their own four say

first-sized : (l : List ℕ) → length (length_first l) ≤ longest_output → Sized (length_first l)
first-sized l h = first-is l (omega (arith, length_first_lem l))

text-sized : (t : List ℕ) → length (text_bytes t) ≤ longest_output → Sized (text_bytes t)
unfolding text_bytes
text-sized t h = first-sized (utf8 t) h

texts-sized : (ts : List (List ℕ)) → length (flat text_bytes ts) ≤ longest_output → All (λ t. Sized (text_bytes t)) ts
texts-sized [] h = tt
texts-sized (t ∷ ts) h =
    let n = length-append (text_bytes t) (flat text_bytes ts) in
    (text-sized t (omega arith), texts-sized ts (omega arith))

counted : (n : ℕ) → n < 2 ^ 32 → be (be_bytes 4 n) ≡ n
counted n h = be-be_bytes 4 n ∙ mod-eq_of_lt h

-- ---- a row

-- its six bytes
abbrev six : Row → List ℕ
six r = row_version ∷ r.kind ∷ r.numbered ∷ r.class_kind ∷ flag r.class ∷ flag r.native ∷ []

rest-is : (r : Row) → row_rest r ≡ six r ++ flat text_bytes (row_texts r)
unfolding row_rest
rest-is r = simp (append_assoc, append-nil)

row_is : (r : Row) → row_bytes r ≡ (be_bytes 4 (length (row_rest r)) ++ six r) ++ flat text_bytes (row_texts r)
unfolding row_bytes
row_is r = ap (λ l. be_bytes 4 (length (row_rest r)) ++ l) (rest-is r) ∙ sym (append_assoc (be_bytes 4 (length (row_rest r))) (six r) (flat text_bytes (row_texts r)))

ten : (r : Row) → length (be_bytes 4 (length (row_rest r)) ++ six r) ≡ 10
ten r = length-append (be_bytes 4 (length (row_rest r))) (six r) ∙ rw (length-be_bytes 4 (length (row_rest r)))

own-sized : (r : Row) → length (row_bytes r) ≤ longest_output → Sized (row_bytes r)
unfolding row_bytes
own-sized r h = first-sized (row_rest r) h

row_sized : (r : Row) → length (row_bytes r) ≤ longest_output → RowSized r
row_sized r h = record {
  own = own-sized r h;
  texts-are = rw (row_is r) (drop_at (be_bytes 4 (length (row_rest r)) ++ six r) (flat text_bytes (row_texts r)) 10 (ten r));
  texts =
      texts-sized (row_texts r)
      (omega (arith, ap length (row_is r), length-append (be_bytes 4 (length (row_rest r)) ++ six r) (flat text_bytes (row_texts r))));
}

-- ---- a section

exports-few : (b : List ℕ) (r : Read) → run_block package_block b ≡ gives r → length r.exports ≤ length b
unfolding exports_of
exports-few b r e =
    let p : Parts b r.layout = read-parts b r e in
    let n = p.export_count_lem in
    omega (arith, p.few-exports, rw e at n)

filter-few : {A : Type 0} (f : A → Bool) (l : List A) → length (filter f l) ≤ length l
filter-few f [] = omega arith
filter-few f (x ∷ l) = go (f x) (filter-few f l)
  where
    go : (t : Bool) → length (filter f l) ≤ length l → length (kept t x (filter f l)) ≤ length (x ∷ l)
    go true h = omega arith
    go false h = omega arith

candidates-few : (r : Read) → length (candidates r) ≤ length r.exports
unfolding candidates
candidates-few r = filter-few (is_candidate r) r.exports

module _ (m : Limits) (f : Key → Option Class) (o : Objects) (p : Package) where
  section-sized : length (section m f o p) ≤ longest_output → length p.read.exports < 2 ^ 32 → SectionSized m f o p
  unfolding section
  section-sized h few =
      let fewer = candidates-few p.read in
      let lengths = simp length-append at h in
      record {
        name = text-sized (package_name p.read) (omega arith);
        exports = counted (length p.read.exports) few;
        rows = counted (length (candidates p.read)) (omega arith);
        each = λ e i. row e i (omega arith);
      }
    where
      row : (e : Export) → Memᴰ e (candidates p.read) → length (flat (λ e. row_bytes (row_of m f o p e)) (candidates p.read)) ≤ longest_output
          → RowSized (row_of m f o p e)
      row e i n =
          let (front, back, is) = flat-member (λ e. row_bytes (row_of m f o p e)) i in
          row_sized (row_of m f o p e)
          (omega (arith, part-short (flat (λ e. row_bytes (row_of m f o p e)) (candidates p.read)) front (row_bytes (row_of m f o p e)) back is))

-- ---- a report

-- behind a length field and a version stands a count
count-is : (n k : ℕ) (l : List ℕ) → k < 2 ^ 32 → be (take 4 (drop 5 (be_bytes 4 n ++ (report_version ∷ (be_bytes 4 k ++ l))))) ≡ k
count-is n k l h =
    let five : length (be_bytes 4 n ++ report_version ∷ []) ≡ 5 = length-append (be_bytes 4 n) (report_version ∷ []) ∙ rw (length-be_bytes 4 n) in
    let is = append_assoc (be_bytes 4 n) (report_version ∷ []) (be_bytes 4 k ++ l) in
    rw (← is, drop_at (be_bytes 4 n ++ report_version ∷ []) (be_bytes 4 k ++ l) 5 five, take_at (be_bytes 4 k) l 4 (length-be_bytes 4 k)) (counted k h)

module _ (m : Limits) (o : Objects) (ps : List Package) where
  report-sized : length (report_of m o ps) ≤ longest_output → length ps < 2 ^ 32 → ((p : Package) → Memᴰ p ps → length p.read.exports < 2 ^ 32)
      → ReportSized m o ps
  unfolding report_of
  report-sized h count few =
      let f = look (table m.objects o ps) in
      let rest = report_version ∷ (be_bytes 4 (length ps) ++ flat (section m f o) ps) in
      let lengths = length-append (be_bytes 4 (length ps)) (flat (section m f o) ps) in
      record {
        own = first-sized rest h;
        packages = count-is (length rest) (length ps) (flat (section m f o) ps) count;
        each = λ p i. sized p i (omega (arith, length_first_lem rest));
      }
    where
      sized : (p : Package) → Memᴰ p ps → length (flat (section m (look (table m.objects o ps)) o) ps) ≤ longest_output
          → SectionSized m (look (table m.objects o ps)) o p
      sized p i n =
          let f = look (table m.objects o ps) in
          let (front, back, is) = flat-member (section m f o) i in
          section-sized m f o p (omega (arith, part-short (flat (section m f o) ps) front (section m f o p) back is)) (few p i)

-- ---- THE THEOREM, of every accepted corpus

-- a package of a corpus is what a block of it reads as
pub member-read : (q : Part) (p : Package) → Memᴰ p (read_of q) → run_block package_block q.block ≡ gives p.read
unfolding read_of
member-read q p i = go (run_block package_block q.block) i
  where
    go : (x : Out Read) → Memᴰ p (package_of q.id x) → x ≡ gives p.read
    go (refused _) m = elim m [ ]
    go (gives r) (Memᴰ.head e) = ap gives (sym (ap (λ (p : Package). p.read) e))
    go (gives r) (Memᴰ.tail m) = elim m [ ]

module _ (m : Limits) (s : List ℕ) (b : Bytes s) (work room : ℕ) (report : List ℕ) (c : Corpus) (f : framed s ≡ gives c) where
  pub fields-right : (a : Accepted m c work room report) → ReportSized m a.opens.objects (packages_in c)
  fields-right a =
      let short = (accepted-short m c work room report a).0 in
      report-sized m a.opens.objects (packages_in c) (rw a.is at short)
      (omega (arith, few-packages s b c f, good_length c.parts a.opens.good)) few
    where
      few : (p : Package) → Memᴰ p (packages_in c) → length p.read.exports < 2 ^ 32
      few p i =
          let (q, in-corpus, is) = flat-some read_of c.parts i in
          omega (arith, exports-few q.block p.read (member-read q p is), short-block s b c f q in-corpus)
