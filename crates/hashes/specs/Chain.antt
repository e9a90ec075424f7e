-- An object and those outside it, the innermost first: for each where its name is in the block, and its instance number. And the units of the
-- path that they make. Assumes nothing.
use Rattle.std.specs.Prelude.{◌≡◌, cond, false, List, [], ◌∷◌, ◌++◌, map, ℕ, zero, suc, ◌+◌, ◌/◌, ◌^◌, ◌≤◌, ◌<◌, length, get_or, drop}
use Rattle.std.proofs.Math.Option.{Option as Maybe, none, some}
use Rattle.text.specs.Name.{suffix}
use Rattle.ids.specs.LoweredUnits.{name_units}
use Rattle.batch.specs.Holds.{text_at, Holds}
use Rattle.batch.specs.declared.places.Place.{Place}
use Rattle.meaning.specs.Path.{Path}
use Rattle.meaning.specs.PathUnits.{path_units}
use Rattle.meaning.specs.Verify.{slash}
use Rattle.batch.specs.declared.places.Name.{Name}

-- ---- objects by their names

-- none
abbrev pub no_name : Name
no_name = record { place = record { start = 0; size = 0; wide = false }; number = 0 }

-- object k: where its name is, and its instance number
abbrev pub place_no : List Name → ℕ → Place
place_no c k = (get_or c k no_name).place

abbrev pub number_no : List Name → ℕ → ℕ
number_no c k = (get_or c k no_name).number

-- ---- units

-- what a name brings to a path's units: the separator before it, as `/`, and its own, lowered
unfoldable pub piece : List ℕ → Place → ℕ → List ℕ
piece b p number = 0x2F ∷ name_units (text_at b p) (suffix number)

-- what the k innermost objects bring, the outermost of them first
unfoldable pub pieces : List ℕ → List Name → ℕ → List ℕ
pieces b c zero = []
pieces b c (suc k) = piece b (place_no c k) (number_no c k) ++ pieces b c k

-- the units of a path: no separator stands before the first name, and `.` and `:` in names are `/` too
unfoldable pub chain_units : List ℕ → List Name → List ℕ
chain_units b c = drop 1 (map slash (pieces b c (length c)))

-- how many units a name brings, by its place
unfoldable pub piece_count : Place → ℕ → ℕ
piece_count p number = cond p.wide (p.size / 2) p.size + (1 + length (suffix number))

-- ---- what is known of a chain

-- objects, each with the place of a name
pub record Named (b : List ℕ) (c : List Name) : Type 0 where
  pub few : length c ≤ 65
  pub holds : (k : ℕ) → k < length c → Holds b (place_no c k) (text_at b (place_no c k))

-- whose path has n units
pub record Sized (b : List ℕ) (c : List Name) (n : ℕ) : Type 0 where
  pub named : Named b c
  pub count : length (pieces b c (length c)) ≡ n + 1
  pub fits : n < 2 ^ 40

-- the units of the path, which is known
abbrev pub Says : List ℕ → List Name → Maybe Path → Type 0
Says b c none = ⊥
Says b c (some p) = chain_units b c ≡ path_units p.text

-- objects, each with the place of a name, at most so many, with the units of the path
pub record Tells (b : List ℕ) (c : List Name) (limit : ℕ) (x : Maybe Path) : Type 0 where
  pub some : 0 < length c
  pub few : length c ≤ limit
  pub holds : (k : ℕ) → k < length c → Holds b (place_no c k) (text_at b (place_no c k))
  pub says : Says b c x
