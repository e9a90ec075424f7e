-- What the call accepts and what it refuses: 27 and 28, exactly.
use Rattle.std.specs.Prelude.{◌≡◌, List, ℕ, ◌≤◌, ◌<◌, length}
use Rattle.std.proofs.Math.Bool.{true}
use Rattle.written.specs.HeaderBytes.{Description, imported_texts, header_size, header_of, longest_header, short, writable}
use Rattle.zen.specs.Zen.{named}
use Rattle.meaning.specs.Call.{accepted}
use Rattle.description.specs.FormBytes.{description_bytes}
use Rattle.description.specs.Call.{as_described}
use Rattle.description.specs.FormLaws.{Housed}

-- ---- a description that can be written

pub record Writable (d : Description) : Type 0 where
  pub name : d.name < length d.texts
  pub exports : named (length d.texts) d.exports ≡ true
  pub texts : short d.texts ≡ true
  pub imported : short (imported_texts d.imported) ≡ true
  pub size : header_size d ≤ longest_header

-- ---- 27

-- what is described, from its bytes
pub record Described (s : List ℕ) (d : Description) : Type 0 where
  pub is : s ≡ description_bytes d
  pub housed : Housed d
  pub writable_too : writable d ≡ true

-- ---- 27, then 28

-- accepted: a description whose header fits the buffer
pub record Fitting (s : List ℕ) (room : ℕ) (header : List ℕ) : Type 0 where
  pub what : Description
  pub described : as_described s ≡ accepted what
  pub fits : length (header_of what) ≤ room
  pub is : header ≡ header_of what

-- refused: by 27 whatever the buffer, or by 28
pub record Short (s : List ℕ) (room : ℕ) : Type 0 where
  pub what : Description
  pub described : as_described s ≡ accepted what
  pub short : room < length (header_of what)
