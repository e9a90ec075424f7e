-- A name batch (document 01, "Name batch"; questions 3 to 7). Assumes nothing.
use Rattle.std.specs.Prelude.{List, [], ◌∷◌, true, false, ℕ, ◌+◌, ◌*◌, ◌-◌, ◌%◌, get_or, leb, eqb}
use Rattle.base.specs.Choose.{choose, pick}
use Rattle.text.specs.Utf16.{is_well}
use Rattle.base.specs.Reading.{Reading, give, bytes, ◌>>=◌, ◌>>◌, taken, over-bytes, bytes_left, place, number, ask, onto, rows}
use Rattle.text.specs.Name.{decoded, base}
use Rattle.batch.specs.declared.names.Names.{Names}
use Rattle.batch.specs.declared.names.Head.{Head}

abbrev pub u32 : Reading ℕ
u32 = number 4

abbrev pub u64 : Reading ℕ
u64 = number 8

-- byte 0, bit 7: UTF-16; its low 7 bits times 256 plus byte 1: length in units
unfoldable pub head_of : ℕ → ℕ → Head
head_of a b = pick (leb 128 a) (record { wide = true; size = 2 * (a % 128 * 256 + b) }) (record { wide = false; size = a % 128 * 256 + b })

unfoldable pub head_at : List ℕ → ℕ → Head
head_at s h = head_of (get_or s h 0) (get_or s (h + 1) 0)

unfoldable pub head : Reading Head
head = bytes 2 (λ l. give (head_of (get_or l 0 0) (get_or l 1 0)))

-- name by name: within the strings? 5; valid UTF-16? 6; strings used up? 7; room: the string bytes that are left
abbrev pub strings_on : List (List ℕ) → List Head → ℕ → Reading (List (List ℕ))
strings_on done [] room = ask (eqb room 0) 7 >> give (onto done [])
strings_on done (h ∷ hs) room = do
  ask (leb h.size room) 5
  t ← taken h.size
  ask (is_well (decoded h.wide t)) 6
  strings_on (base h.wide t ∷ done) hs (room - h.size)

unfoldable pub strings : List Head → ℕ → Reading (List (List ℕ))
strings hs room = strings_on [] hs room

-- the names' texts, and where the batch's parts are
pub record Batch : Type 0 where
  pub place : Names
  pub texts : List (List ℕ)

unfoldable pub no_names : Reading Batch
no_names = do
  p ← place
  give (record { place = record { count = 0; headers = p; strings = p; «end» = p }; texts = [] })

-- past the version: the hashes, the headers, the strings
unfoldable pub body : ℕ → ℕ → Reading Batch
body n room = do
  over-bytes (8 * n)
  h ← place
  hs ← rows n head
  p ← place
  l ← bytes_left
  ask (leb room l) 3
  ts ← strings hs room
  e ← place
  give (record { place = record { count = n; headers = h; strings = p; «end» = e }; texts = ts })

-- string bytes, hash version 0xC1640000
unfoldable pub some_names : ℕ → Reading Batch
some_names n = do
  room ← u32
  v ← u64
  ask (eqb v 0xC1640000) 4
  body n room

-- count n; if 0 nothing more is read
unfoldable pub batch : Reading Batch
batch = do
  n ← u32
  choose (eqb n 0) (λ _. no_names) (λ _. some_names n)
