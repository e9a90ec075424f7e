-- What the steps of `verify` know of the corpus, and what they answer. Assumes nothing.
use Rattle.std.specs.Prelude.{◌≡◌, List, ℕ, ◌+◌, length}
use Rattle.base.specs.Reading.{gives, run}
use Rattle.scriptblock.specs.Script.{Objects, script}
use Rattle.meaning.specs.Call.{accepted, holding, opened, number_of, buffer_after, limits}
use Rattle.meaning.specs.Verify.{verify_answer}
use Rattle.packages.specs.Walk.{packages_at}
use Rattle.packages.specs.declared.frame.Frame.{Frame}
use Rattle.walk.specs.OpenSteps.{Begun, Packages}
use Rattle.verify.specs.Tallies.{tally_of}
use Rattle.verify.specs.declared.counts.Tally.{Tally}

-- t says how many objects of the block s are resolved and match
pub record Tallied (s : List ℕ) (t : Tally) : Type 0 where
  pub is : (o : Objects) → run script 0 s ≡ gives o → t ≡ tally_of limits.objects o

-- all questions but 26 are passed: the corpus c holds n objects, of which t says how many are resolved and match
pub record Passed (c : List ℕ) (f : Frame) (n : ℕ) (t : Tally) : Type 0 where
  pub block : List ℕ
  pub begun : Begun c f block
  pub objects : Objects
  pub read : run script 0 block ≡ gives objects
  pub packages : Packages c f
  pub opens : opened limits c ≡ accepted (holding limits objects (packages_at c (f.«end» + 4) f.count))
  pub count : n ≡ objects.layout.count
  pub tally : t ≡ tally_of limits.objects objects

-- r is the call's number, and it leaves `new` where `old` stood
pub record Answered (c old new : List ℕ) (r : ℕ) : Type 0 where
  pub number : r ≡ number_of (verify_answer c (length old))
  pub output : new ≡ buffer_after (verify_answer c (length old)) old
