-- What document 01 says and its table doesn't show, computed: a package import's halves, 24's block, 25 before 26. Assumes nothing.
use Rattle.std.specs.Prelude.{refl}
use Rattle.meaning.specs.Bytes.{part_bytes, packages_bytes, corpus_rest, corpus_bytes}
use Rattle.meaning.specs.Computed.{asked}
pub use Rattle.meaning.specs.Edges.{Edges, home, importer, importer-section, with_id}

pub edges : Edges
unfolding asked corpus_bytes corpus_rest packages_bytes part_bytes
edges = record {
  import-found = refl;
  import-found-backwards = refl;
  key_twice = refl;
  work-short = refl;
  report-short = refl;
  just_enough = refl;
}
