-- The call `class_header` (document 02, Q-4): the number that it returns and the header buffer after it, for every description and buffer. Assumes
-- nothing.
use Rattle.std.specs.Prelude.{List, ℕ, leb, length}
use Rattle.base.specs.Reading.{Out, refused, gives, run}
use Rattle.written.specs.HeaderBytes.{Description, header_of, writable}
use Rattle.meaning.specs.Call.{Answer, refused_in, accepted, ◌>>=◌, ◌>>◌, need, number_of, buffer_after}
use Rattle.description.specs.Form.{description}

-- "It refuses with 27, asked first, a description that is malformed": whatever its reading refuses; the block is 0, as none is named
abbrev pub well_formed : Out Description → Answer Description
well_formed (refused q) = refused_in 27 0
well_formed (gives d) = accepted d

-- what is described: 27 too where a text number is "outside the list", a name is too long or the header would be
unfoldable pub as_described : List ℕ → Answer Description
as_described s = do
  d ← well_formed (run description 0 s)
  need (writable d) 27 0
  accepted d

-- "and with 28 a buffer shorter than the header"
unfoldable pub header_answer : List ℕ → ℕ → Answer (List ℕ)
header_answer s room = do
  d ← as_described s
  need (leb (length (header_of d)) room) 28 0
  accepted (header_of d)

-- THE CALL: the number that it returns and what the header buffer then holds: "the buffer is then unchanged" where it refuses, and bytes past the
-- header stay
pub record Made : Type 0 where
  pub number : ℕ
  pub buffer : List ℕ

unfoldable pub made : List ℕ → List ℕ → Made
made s old = record { number = number_of (header_answer s (length old)); buffer = buffer_after (header_answer s (length old)) old }
