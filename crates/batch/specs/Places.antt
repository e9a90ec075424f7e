-- Names by number: where each starts, and the text there. Assumes nothing.
use Rattle.std.specs.Prelude.{◌≡◌, List, [], ◌∷◌, true, ℕ, zero, suc, ◌+◌, ◌*◌, ◌-◌, ◌≤◌, ◌<◌, length, take, drop}
use Rattle.text.specs.Utf16.{is_well}
use Rattle.text.specs.Name.{decoded, base}
use Rattle.batch.specs.Batch.{head_at}
use Rattle.batch.specs.declared.names.Names.{Names}
use Rattle.batch.specs.declared.places.Place.{Place}

-- where name i starts, of those with headers from h and strings from p
unfoldable pub name_start : List ℕ → ℕ → ℕ → ℕ → ℕ
name_start s h p zero = p
name_start s h p (suc i) = name_start s (h + 2) (p + (head_at s h).size) i

-- the texts of k names with headers from h and strings from p
unfoldable pub texts_at : List ℕ → ℕ → ℕ → ℕ → List (List ℕ)
texts_at s h p zero = []
texts_at s h p (suc k) = base (head_at s h).wide (take (head_at s h).size (drop p s)) ∷ texts_at s (h + 2) (p + (head_at s h).size) k

-- where name i of a batch is
unfoldable pub place_at : List ℕ → Names → ℕ → Place
place_at s n i = record { start = name_start s n.headers n.strings i; size = (head_at s (n.headers + 2 * i)).size; wide = (head_at s (n.headers + 2 * i)).wide }

-- the bytes at a place
abbrev pub part_at : List ℕ → Place → List ℕ
part_at s p = take p.size (drop p.start s)

-- a place whose names were accepted
pub record Held (s : List ℕ) (n : Names) : Type 0 where
  pub heads : n.headers + 2 * n.count ≤ length s
  pub inside : name_start s n.headers n.strings n.count ≤ n.«end»
  pub ends : n.«end» ≤ length s
  pub span : n.«end» - n.strings < 4294967296
  pub well : (i : ℕ) → i < n.count → is_well (decoded (place_at s n i).wide (part_at s (place_at s n i))) ≡ true
