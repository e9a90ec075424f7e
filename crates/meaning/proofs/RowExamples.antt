-- Rows computed: which exports are candidates and classes, what each kind of reference means, what a chain leads to. Each field quotes
-- the sentence of document 01 that it shows. Assumes nothing.
use Rattle.std.specs.Prelude.{refl}
use Rattle.meaning.specs.Bytes.{part_bytes, packages_bytes, corpus_rest, corpus_bytes}
use Rattle.meaning.specs.Computed.{asked}
pub use Rattle.meaning.specs.RowExamples.{RowExamples, accented, accented_objects, asks, candidates, class, engine, has, home, home-section, importing, null_row, numbered, references, supers, tone}

pub row-examples : RowExamples
unfolding asked corpus_bytes corpus_rest packages_bytes part_bytes
row-examples = record {
  kinds = refl;
  class-kinds = refl;
  chains = refl;
  key-not-export = refl;
  two_bytes = refl;
  utf_8 = refl;
  after_colon = refl;
  after_dot = refl;
  no_separator = refl;
}
