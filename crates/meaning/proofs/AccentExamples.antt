-- Package names beyond ASCII, computed (document 02, Q-1: "A reordered corpus with such names must keep its sections too"): an import of `/É` finds
-- the package `/é`, and one of `/Ÿ`, which is wide text, the package `/ÿ`, which is Latin-1, whichever of the two comes first. Assumes nothing.
use Rattle.std.specs.Prelude.{refl}
use Rattle.meaning.specs.Bytes.{part_bytes, packages_bytes, corpus_rest, corpus_bytes}
use Rattle.meaning.specs.Computed.{asked}
pub use Rattle.meaning.specs.AccentExamples.{Found, home, home-section, importer, importer-section}

pub latin : Found "/é" "/É"
unfolding asked corpus_bytes corpus_rest packages_bytes part_bytes
latin = record { one-id = refl; found = refl; backwards = refl }

pub wide : Found "/ÿ" "/Ÿ"
unfolding asked corpus_bytes corpus_rest packages_bytes part_bytes
wide = record { one-id = refl; found = refl; backwards = refl }
