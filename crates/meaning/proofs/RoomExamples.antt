-- One corpus within two limits, computed (document 02, Q-5: "The teaching rooms show short chains only and want 8 lookups and 4 outer objects").
-- Assumes nothing.
use Rattle.std.specs.Prelude.{refl}
use Rattle.meaning.specs.Bytes.{part_bytes, packages_bytes, corpus_rest, corpus_bytes}
use Rattle.meaning.specs.Computed.{asked}
pub use Rattle.meaning.specs.RoomExamples.{RoomExamples, deep, five_objects, hash_one, holding, nine_classes, two_class, two_of_one_hash, within}

pub room-examples : RoomExamples
unfolding asked corpus_bytes corpus_rest packages_bytes part_bytes
room-examples = record {
  lookups-8 = refl;
  lookups-9 = refl;
  objects-4 = refl;
  objects-5 = refl;
  no_class_4 = refl;
  class_5 = refl;
  one-class_4 = refl;
  key_twice_5 = refl;
}
