-- Question 29 at its edges, computed (document 02, Q-5: "It refuses with 29, before the corpus is looked at, a lookup limit of 0 or above 64 or an
-- object limit of 0 or above 65"). Assumes nothing.
use Rattle.std.specs.Prelude.{refl}
use Rattle.base.specs.Output.{over}
use Rattle.meaning.specs.Call.{buffer_after}
use Rattle.meaning.specs.Limited.{outcome_within}
use Rattle.meaning.specs.Bytes.{part_bytes, packages_bytes, corpus_rest, corpus_bytes}
use Rattle.meaning.specs.Computed.{asked}
pub use Rattle.meaning.specs.RangeExamples.{RangeExamples, least_report, two_classes}

pub range-examples : RangeExamples
unfolding asked corpus_bytes corpus_rest packages_bytes part_bytes outcome_within buffer_after over
range-examples = record {
  lookups_0 = refl;
  lookups_1 = refl;
  lookups_64 = refl;
  lookups_65 = refl;
  lookups-most = refl;
  objects_0 = refl;
  objects_1 = refl;
  objects_66 = refl;
  objects-most = refl;
  one-one = refl;
  no_corpus = refl;
  no_corpus_1 = refl;
  version_29 = refl;
  version_2 = refl;
  refused-outcome = refl;
}
