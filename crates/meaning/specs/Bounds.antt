-- The last two questions at every length (document 01: "Work at least 64 × (..) bytes? 25. Report at most 4,294,967,299 bytes, and within its
-- buffer? 26"), which no example can reach. Assumes nothing.
use Rattle.std.specs.Prelude.{◌≡◌, refl, Bool, true, false, ◌&&◌, List, ℕ, ◌+◌, ◌-◌, ◌^◌, ◌<◌, ◌≤◌, length}
use borrow.Author.Tests.{le-leb, lt-leb}
use Rattle.base.specs.House.{longest_output}
use Rattle.meaning.specs.Resolve.{Limits}
use Rattle.meaning.specs.Report.{report_of}
use Rattle.meaning.specs.Call.{Opened, refused_in, accepted, work_bytes, weighed}

-- the longest report: a length field, and as many bytes as the greatest number of four bytes says
pub longest-is : longest_output ≡ 4 + (2 ^ 32 - 1)
longest-is = refl

and_second : (a : Bool) → a && false ≡ false
and_second true = refl
and_second false = refl

module _ (m : Limits) (work room : ℕ) (d : Opened) where
  abbrev pub report : List ℕ
  report = report_of m d.objects d.packages

  pub work-short : work < work_bytes d → weighed m work room d ≡ refused_in 25 0
  unfolding weighed
  work-short h = rw (lt-leb (work_bytes d) work h)

  pub report-beyond : work_bytes d ≤ work → 4294967299 < length report → weighed m work room d ≡ refused_in 26 0
  unfolding weighed
  report-beyond w h = rw (le-leb (work_bytes d) work w, lt-leb (length report) 4294967299 h)

  pub report-outside : work_bytes d ≤ work → room < length report → weighed m work room d ≡ refused_in 26 0
  unfolding weighed
  report-outside w h = rw (le-leb (work_bytes d) work w, lt-leb (length report) room h, and_second)

  pub report-fits : work_bytes d ≤ work → length report ≤ 4294967299 → length report ≤ room → weighed m work room d ≡ accepted report
  unfolding weighed
  report-fits w l h = rw (le-leb (work_bytes d) work w, le-leb (length report) 4294967299 l, le-leb (length report) room h)
