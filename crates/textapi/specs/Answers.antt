-- What the exported functions answer for any input: layer 1's definitions, behind the tests that its contracts ask for. Assumes nothing.
use Rattle.std.specs.Prelude.{Bool, cond, ◌&&◌, List, ℕ, ◌-◌, ◌^◌, leb, ltb, length}
use Rattle.text.specs.Utf16.{is_well}
use Rattle.text.specs.Utf8.{utf8}
use Rattle.text.specs.Name.{decoded, rendered}
use Rattle.base.specs.Output.{over}
use Rattle.ids.specs.Id.{id_of}

-- a text, of fewer than 2 ^ 32 bytes
unfoldable pub fine : Bool → List ℕ → Bool
fine wide part = is_well (decoded wide part) && ltb (length part) (2 ^ 32)

-- the id of a name, or 0
unfoldable pub id_answer : Bool → List ℕ → ℕ → ℕ
id_answer wide part number = cond (fine wide part) (id_of (rendered wide part number)) 0

unfoldable pub fits : ℕ → Bool → List ℕ → ℕ → Bool
fits room wide part number = fine wide part && leb (length (utf8 (rendered wide part number))) room

-- how long the rendered name is, or 2 ^ 64 - 1 where it is no text or has no room
unfoldable pub name_answer : ℕ → Bool → List ℕ → ℕ → ℕ
name_answer room wide part number = cond (fits room wide part number) (length (utf8 (rendered wide part number))) (2 ^ 64 - 1)

-- the buffer after it
unfoldable pub name_after : List ℕ → Bool → List ℕ → ℕ → List ℕ
name_after old wide part number = cond (fits (length old) wide part number) (over old (utf8 (rendered wide part number))) old
