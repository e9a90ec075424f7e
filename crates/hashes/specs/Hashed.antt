-- What is answered of a path: its hash (document 02, Q-2), or that it is unknown. Assumes nothing.
use Rattle.std.specs.Prelude.{ℕ, Option, Some, None}
use Rattle.std.proofs.Math.Option.{Option as Maybe, none, some}
use Rattle.meaning.specs.Path.{Path}
use Rattle.meaning.specs.Verify.{path_hash}

abbrev pub hashed_as : Maybe Path → Option ℕ
hashed_as none = None
hashed_as (some p) = Some (path_hash p.text)
