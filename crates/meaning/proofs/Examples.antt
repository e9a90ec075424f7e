-- Document 01's "Table of proved examples" and "Mistaken readings": one theorem about the definitions, by computation. Assumes nothing.
use Rattle.std.specs.Prelude.{refl}
use Rattle.meaning.specs.Bytes.{part_bytes, packages_bytes, corpus_rest, corpus_bytes}
use Rattle.meaning.specs.Computed.{asked}
pub use Rattle.meaning.specs.Examples.{Examples, booth, class_with, derived, four_objects, innermost, last_of, least, named_a, nested, no_objects, plain, question_mark, rendered-alike, section_a, times, tone_report, tone_row, two_objects, with_tone}

pub examples : Examples
unfolding asked corpus_bytes corpus_rest packages_bytes part_bytes
examples = record {
  least_report_lem = refl;
  least-number = refl;
  version_2 = refl;
  version_2_number = refl;
  header_91 = refl;
  section-length = refl;
  header_92 = refl;
  header-length = refl;
  path = refl;
  objects-65 = refl;
  objects_66 = refl;
  lookups_64 = refl;
  lookups_65 = refl;
  number_1 = refl;
  empty_name = refl;
  row-tone = refl;
  batch_of_0 = refl;
  batch_of_0_with_version = refl;
  path-question-mark = refl;
  path-unknown = refl;
  hash_0 = refl;
  hash_1 = refl;
  suffix-on-base = refl;
}
