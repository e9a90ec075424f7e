-- A corpus as its bytes (document 01: "Corpus, big-endian: 4-byte length of what follows, version byte 1, 4-byte length and bytes of the
-- script block, 4-byte package count, then per package an 8-byte id, a 4-byte length and bytes"). Assumes nothing.
use Rattle.std.specs.Prelude.{List, ◌∷◌, ◌++◌, ℕ, ◌^◌, ◌<◌, length}
use Rattle.base.specs.Find.{flat}
use Rattle.base.specs.House.{length_first}
use Rattle.base.specs.Number.{be_bytes}
use Rattle.meaning.specs.Frame.{Part, Corpus, corpus_version}

-- "an 8-byte id, a 4-byte length and bytes"
unfoldable pub part_bytes : Part → List ℕ
part_bytes p = be_bytes 8 p.id ++ length_first p.block

-- "4-byte package count, then per package .."
unfoldable pub packages_bytes : List Part → List ℕ
packages_bytes parts = be_bytes 4 (length parts) ++ flat part_bytes parts

-- version byte, script block, packages
unfoldable pub corpus_rest : Corpus → List ℕ
corpus_rest c = corpus_version ∷ (length_first c.script ++ packages_bytes c.parts)

unfoldable pub corpus_bytes : Corpus → List ℕ
corpus_bytes c = length_first (corpus_rest c)

-- an id that eight bytes hold
abbrev pub IdFits : Part → Type 0
IdFits p = p.id < 2 ^ 64
