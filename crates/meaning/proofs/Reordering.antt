-- Whole packages in another order: the corpus is accepted where it was, its work and its report are as long, and each section stays.
use Rattle.std.specs.Prelude.{◌≡◌, List, [], ◌++◌, ℕ}
use Rattle.std.proofs.Math.Path.{sym}
use Rattle.std.proofs.Common.{◌∙◌, ap, length-append}
use Rattle.std.proofs.Math.ListN.{length}
use Rattle.base.specs.Find.{flat}
use Rattle.base.specs.Perm.{Perm, All, perm_length, perm_sum, perm_all, perm_flat}
use Rattle.meaning.specs.Frame.{Part, Corpus}
use Rattle.meaning.specs.Reference.{Package}
use Rattle.meaning.specs.Scan.{classes_of, candidates, table}
use Rattle.meaning.specs.Resolve.{Limits, look}
use Rattle.meaning.specs.Report.{report_of}
use Rattle.meaning.specs.Call.{accepted, holding, opened_in, work_bytes}
use Rattle.meaning.proofs.Table.{repeats_perm, look_perm}
use Rattle.meaning.specs.Accepted.{Good, read_of, packages_in, Opens, Accepted}
use Rattle.meaning.proofs.Accepted.{good_length, to-opened}
use Rattle.meaning.specs.Sections.{section_in, front_of}
use Rattle.meaning.proofs.Sections.{front-is, sections-are, report-is}
pub use Rattle.meaning.specs.Reordering.{in_order}

module _ (m : Limits) (c : Corpus) (order : List Part) (d : Perm c.parts order) (a : Opens m c) where
  good-order : All Good order
  good-order = perm_all Good d a.good

  read-order : Perm (packages_in c) (flat read_of order)
  read-order = perm_flat read_of d

  table-order : Perm (table m.objects a.objects (packages_in c)) (table m.objects a.objects (flat read_of order))
  table-order = perm_flat (classes_of m.objects a.objects) read-order

  pub reordered_opens : Opens m (in_order c order)
  reordered_opens = record { objects = a.objects; script-is = a.script-is; good = good-order; once = sym (repeats_perm [] table-order) ∙ a.once }

  -- what it holds: the packages in the new order
  pub reordered_holds : opened_in m (in_order c order) ≡ accepted (holding m a.objects (flat read_of order))
  unfolding reordered_opens
  reordered_holds = to-opened m (in_order c order) reordered_opens

  look-same : look (table m.objects a.objects (flat read_of order)) ≡ look (table m.objects a.objects (packages_in c))
  look-same = look_perm a.once table-order

  work-same : work_bytes (holding m a.objects (flat read_of order)) ≡ work_bytes (holding m a.objects (packages_in c))
  unfolding work_bytes holding
  work-same = rw (perm_length table-order, perm_sum (λ (p : Package). length (candidates p.read)) read-order)

  -- each package's section is the one it had
  pub reordered_section : (p : Part) → section_in m (in_order c order) p ≡ section_in m c p
  unfolding section_in holding reordered_opens
  reordered_section p = rw (to-opened m c a, to-opened m (in_order c order) reordered_opens, look-same)

module _ (m : Limits) (c : Corpus) (work room : ℕ) (report : List ℕ) (a : Accepted m c work room report) (order : List Part) (d : Perm c.parts order) where
  -- the report of the reordered corpus: the same nine bytes, and the same sections in the new order
  abbrev new : List ℕ
  new = front_of (length (flat (section_in m c) c.parts)) (length c.parts) ++ flat (section_in m c) order

  new-report : report_of m a.opens.objects (flat read_of order) ≡ new
  unfolding report_of
  new-report =
      let g = good-order m c order d a.opens in
      rw (look-same m c order d a.opens, ← sections-are m c a.opens order g, good_length order g, ← perm_length d)
      (front-is (flat (section_in m c) order) (length c.parts) ∙ rw (perm_length (perm_flat (section_in m c) d)))

  pub new-length : length new ≡ length report
  new-length =
      let n : ℕ = length (flat (section_in m c) c.parts) in
      length-append (front_of n (length c.parts)) (flat (section_in m c) order)
      ∙ rw (← perm_length (perm_flat (section_in m c) d), ← length-append (front_of n (length c.parts)) (flat (section_in m c) c.parts))
      (ap length (sym (report-is m c work room report a)))

  pub reordered_accepted : Accepted m (in_order c order) work room new
  unfolding reordered_opens
  reordered_accepted = record {
    opens = reordered_opens m c order d a.opens;
    works = rw (work-same m c order d a.opens) a.works;
    fits = rw new-length a.fits;
    is = sym new-report;
  }
