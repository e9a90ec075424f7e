-- Programs that the definition shuts out (document 01, clause c): no program that does what the definition says writes one fixed report,
-- refuses each corpus, or returns a length and writes no byte; and 25 and 26 are said exactly where the sums are too large.
use Rattle.std.specs.Prelude.{◌≡◌, List, ℕ}
use Rattle.base.specs.NumberLaws.{Bytes}
use Rattle.meaning.specs.Resolve.{Limits}
use Rattle.meaning.specs.Call.{Outcome}
use Rattle.meaning.specs.Limited.{outcome_within}

-- a program takes corpus, work buffer and report buffer; it does what the definition says within these limits, whatever bytes the corpus is
abbrev pub Program : Type 0
Program = List ℕ → List ℕ → List ℕ → Outcome

abbrev pub Meets : Limits → Program → Type 0
Meets m P = (corpus work buffer : List ℕ) → Bytes corpus → P corpus work buffer ≡ outcome_within m corpus work buffer
