-- The report of an accepted corpus is nine bytes and a section per package in corpus order (document 01, "Report"); what a package's section
-- is, from the framed corpus.
use Rattle.std.specs.Prelude.{◌≡◌, ℕ, suc, ◌+◌, length}
use Rattle.std.proofs.Math.Path.{refl}
use Rattle.std.proofs.Common.{◌∙◌, ap, arith, length-append}
use mathlib.Core.List.{List, [], ◌∷◌, ◌++◌, append_assoc}
use Rattle.std.proofs.Math.Option.{Option}
use Rattle.base.specs.Find.{flat}
use Rattle.base.specs.House.{length_first}
use Rattle.base.specs.Number.{be_bytes}
use Rattle.base.specs.NumberLaws.{length-be_bytes}
use Rattle.base.specs.Perm.{All}
use Rattle.meaning.specs.Frame.{Part, Corpus}
use Rattle.meaning.specs.Key.{Key}
use Rattle.meaning.specs.Scan.{Class, table}
use Rattle.meaning.specs.Resolve.{Limits, look}
use Rattle.meaning.specs.Report.{report_version, section, report_of}
use Rattle.meaning.specs.Call.{holding}
use Rattle.meaning.specs.Accepted.{Good, read_of, packages_in, Opens, Accepted}
use Rattle.meaning.proofs.Accepted.{good_length, to-opened}
pub use Rattle.meaning.specs.Sections.{front_of, section_in, written}

pub length_front : (sections count : ℕ) → length (front_of sections count) ≡ 9
unfolding front_of
length_front n k = rw (length-append (be_bytes 4 (5 + n)) (report_version ∷ be_bytes 4 k), length-be_bytes 4 (5 + n), length-be_bytes 4 k)

pub front-is : (l : List ℕ) (count : ℕ) → length_first (report_version ∷ (be_bytes 4 count ++ l)) ≡ front_of (length l) count ++ l
unfolding front_of
front-is l k =
    let e : suc (length (be_bytes 4 k ++ l)) ≡ 5 + length l = rw (length-append (be_bytes 4 k) l, length-be_bytes 4 k) (omega arith) in
    rw (e, append_assoc (be_bytes 4 (5 + length l)) (report_version ∷ be_bytes 4 k) l)

module _ (m : Limits) (c : Corpus) (a : Opens m c) where
  -- the look-up of the corpus
  abbrev pub look_in : Key → Option Class
  look_in = look (table m.objects a.objects (packages_in c))

  -- the sections of packages are those that the report holds
  pub sections-are : (l : List Part) → All Good l → flat (section_in m c) l ≡ flat (section m look_in a.objects) (flat read_of l)
  unfolding section_in read_of holding
  sections-are [] g = refl
  sections-are (p ∷ l) g =
      rw (to-opened m c a, g.0.1) (ap (λ r. section m look_in a.objects (record { id = p.id; read = g.0.0 }) ++ r) (sections-are l g.1))

module _ (m : Limits) (c : Corpus) (work room : ℕ) (report : List ℕ) (a : Accepted m c work room report) where
  -- THE REPORT of an accepted corpus: nine bytes, and a section per package in corpus order
  pub report-is : report ≡ front_of (length (flat (section_in m c) c.parts)) (length c.parts) ++ flat (section_in m c) c.parts
  unfolding report_of
  report-is =
      a.is
      ∙ rw (← sections-are m c a.opens c.parts a.opens.good, good_length c.parts a.opens.good)
      (front-is (flat (section_in m c) c.parts) (length c.parts))
