-- The call computed: the framing's questions, the order of blocks and questions, 24's block, 25's sum, the returned number and the report
-- buffer. Each field quotes the sentence of document 01 that it shows. Assumes nothing.
use Rattle.std.specs.Prelude.{refl}
use Rattle.base.specs.Output.{over}
use Rattle.meaning.specs.Call.{buffer_after}
use Rattle.meaning.specs.Limited.{outcome_within}
use Rattle.meaning.specs.Bytes.{part_bytes, packages_bytes, corpus_rest, corpus_bytes}
use Rattle.meaning.specs.Computed.{asked}
pub use Rattle.meaning.specs.CallExamples.{CallExamples, both, bytes, class, four_objects, holds, no_class, one_package, script_part, short, weighty}

pub call-examples : CallExamples
unfolding asked corpus_bytes corpus_rest packages_bytes part_bytes outcome_within buffer_after over
call-examples = record {
  no_bytes = refl;
  three-bytes = refl;
  no_version = refl;
  first-length-less = refl;
  first-length-more = refl;
  version-later = refl;
  version_0 = refl;
  no_script = refl;
  script-outside = refl;
  no_count = refl;
  no_package = refl;
  package_outside = refl;
  byte-over = refl;
  one_package_lem = refl;
  corpus-first = refl;
  script-block = refl;
  first_of-two = refl;
  third_package = refl;
  blocks-before_24 = refl;
  key_twice-within = refl;
  key_twice-first = refl;
  key_of-no_class = refl;
  work_575 = refl;
  work_576 = refl;
  accepted-outcome = refl;
  refused-outcome = refl;
  refused-block = refl;
  work-counts = refl;
}
