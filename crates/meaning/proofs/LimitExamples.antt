-- The two limits computed where they are small and differ: 1 lookup and 2 objects. Each field quotes the sentence of document 01 that it
-- shows. Assumes nothing.
use Rattle.std.specs.Prelude.{refl}
use Rattle.meaning.specs.Bytes.{part_bytes, packages_bytes, corpus_rest, corpus_bytes}
use Rattle.meaning.specs.Computed.{asked}
pub use Rattle.meaning.specs.LimitExamples.{LimitExamples, derived, holding, small}

pub limit_examples : LimitExamples
unfolding asked corpus_bytes corpus_rest packages_bytes part_bytes
limit_examples = record { lookups-and-objects = refl; key_twice = refl; work-short = refl; no_class_lem = refl; no_class-short = refl }
