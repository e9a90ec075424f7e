-- The report of an accepted corpus is nine bytes and a section per package in corpus order (document 01, "Report"); what a package's section
-- is, from the framed corpus.
use Rattle.std.specs.Prelude.{ℕ, ◌+◌}
use mathlib.Core.List.{List, [], ◌∷◌, ◌++◌}
use Rattle.base.specs.Number.{be_bytes}
use Rattle.base.specs.Reading.{run_block}
use Rattle.zen.specs.Zen.{package_block}
use Rattle.meaning.specs.Frame.{Part, Corpus}
use Rattle.meaning.specs.Scan.{table}
use Rattle.meaning.specs.Resolve.{Limits, look}
use Rattle.meaning.specs.Report.{report_version, section}
use Rattle.meaning.specs.Call.{Answer, refused_in, accepted, ◌>>=◌, in_block, opened_in}

-- the bytes of an accepted answer
abbrev pub written : Answer (List ℕ) → List ℕ
written (refused_in q j) = []
written (accepted l) = l

-- THE SECTION of a package in a corpus's report: the package as its block reads, with the look-up over all of the corpus's packages
unfoldable pub section_in : Limits → Corpus → Part → List ℕ
section_in m c p = written (do
  d ← opened_in m c
  r ← in_block 0 (run_block package_block p.block)
  accepted (section m (look (table m.objects d.objects d.packages)) d.objects (record { id = p.id; read = r })))

-- length of the rest, version, package count
unfoldable pub front_of : ℕ → ℕ → List ℕ
front_of sections count = be_bytes 4 (5 + sections) ++ (report_version ∷ be_bytes 4 count)
