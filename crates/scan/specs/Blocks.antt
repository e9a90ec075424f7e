-- What `check_packages` answers, as a function of what reading the packages gives. Assumes nothing.
use Rattle.std.specs.Prelude.{List, ℕ, Result, Ok, Err}
use Rattle.meaning.specs.Reference.{Package}
use Rattle.meaning.specs.Call.{Answer, refused_in, accepted}

-- the question and the block of the first that is refused, or that all are accepted
unfoldable pub blocks_as : Answer (List Package) → Result (Unit {0}) (ℕ × ℕ)
blocks_as (refused_in q j) = Err (q, j)
blocks_as (accepted ps) = Ok tt
