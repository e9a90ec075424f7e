-- The framing by position: where the packages of a corpus are (document 01: "per package an 8-byte id, a 4-byte length and bytes"), and the
-- code's answer as a function of what the framing gives. Assumes nothing.
use Rattle.std.specs.Prelude.{Bool, cond, ◌&&◌, List, [], ◌∷◌, ℕ, zero, suc, ◌+◌, leb, length, take, drop, Result, Ok, Err}
use Rattle.base.specs.House.{be_number}
use Rattle.base.specs.Number.{be_at}
use Rattle.base.specs.Reading.{Out, refused, gives, walk, ◌>>=◌}
use Rattle.base.specs.ReadingLaws.{out}
use Rattle.meaning.specs.Frame.{Part, Corpus, frame_answer}
use Rattle.meaning.specs.BytesLaws.{sized}
use Rattle.packages.specs.declared.frame.Frame.{Frame}

-- the package at a place, and where the next one starts
unfoldable pub part_at : List ℕ → ℕ → Part
part_at s at = record { id = be_at 8 s at; block = take (be_at 4 s (at + 8)) (drop (at + 12) s) }

unfoldable pub next_at : List ℕ → ℕ → ℕ
next_at s at = at + 12 + be_at 4 s (at + 8)

-- n packages from a place on
unfoldable pub parts_at : List ℕ → ℕ → ℕ → List Part
parts_at s at zero = []
parts_at s at (suc n) = part_at s at ∷ parts_at s (next_at s at) n

-- "Does every further part lie inside": a package does
unfoldable pub inside : List ℕ → ℕ → Bool
inside s at = leb (at + 12) (length s) && leb (next_at s at) (length s)

-- where the package at a place ends, and n packages from it on; 0 where one doesn't lie inside
unfoldable pub package_end : List ℕ → ℕ → ℕ
package_end s at = cond (inside s at) (next_at s at) 0

unfoldable pub packages_end : List ℕ → ℕ → ℕ → ℕ
packages_end s at zero = at
packages_end s at (suc n) = cond (inside s at) (packages_end s (next_at s at) n) 0

-- the code's answer: where the script block ends, and how many packages there are
unfoldable pub frame_of : Corpus → Frame
frame_of c = record { «end» = 9 + length c.script; count = length c.parts }

unfoldable pub framed_as : Out Corpus → Result Frame ℕ
framed_as (refused q) = Err q
framed_as (gives c) = Ok (frame_of c)

-- the same behind the version
unfoldable pub parts_answer : List ℕ → Result Frame ℕ
parts_answer s = framed_as (frame_answer (out (walk (be_number 4 >>= sized) s 5)))
