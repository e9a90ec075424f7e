-- All that a caller needs of an accepted package, in one place: what was read of it, how much of each there is, what its names' places
-- hold. With it the accessors' promises are about what was read, and nothing of the reading is opened. Assumes nothing.
use Rattle.std.specs.Prelude.{◌≡◌, ℕ, ◌*◌, ◌≤◌, ◌<◌, take, Ok}
use mathlib.Core.List.{List, [], ◌++◌}
use Rattle.std.proofs.Math.ListN.{length, get_or}
use Rattle.text.specs.Name.{suffix}
use Rattle.base.specs.NumberLaws.{Bytes}
use Rattle.base.specs.Reading.{gives, run_block}
use Rattle.batch.specs.Places.{place_at}
use Rattle.batch.specs.Holds.{Holds}
use Rattle.batch.specs.declared.places.Place.{Place}
use Rattle.zen.specs.Zen.{Read, package_block, no_export, imported_name, package_name}
use Rattle.zen.specs.Answers.{answer, exports_of, hashes_of, names_of, imported_of, numbers_of, imported_name_of, package_name_of, export_count, hash_count}
use Rattle.zen.specs.declared.zen.Layout.{Layout}

-- where name i and imported name i are: what `PackageNames::place` gives of either list
abbrev pub name_place : List ℕ → Layout → ℕ → Place
name_place b l i = place_at (take l.size b) l.names i

abbrev pub imported_place : List ℕ → Layout → ℕ → Place
imported_place b l i = place_at (take l.size b) l.imported i

-- block b is accepted with layout l, and r is what was read of it
pub record PackageFacts (b : List ℕ) (l : Layout) (r : Read) : Type 0 where
  pub accepted : answer (run_block package_block b) ≡ Ok l
  pub is : run_block package_block b ≡ gives r
  pub layout : r.layout ≡ l
  -- what the accessors speak of
  pub exports_of_lem : exports_of (run_block package_block b) ≡ r.exports
  pub hashes_of_lem : hashes_of (run_block package_block b) ≡ r.hashes
  pub names_of_lem : names_of (run_block package_block b) ≡ r.names
  pub imported_of_lem : imported_of (run_block package_block b) ≡ r.imported
  pub numbers_of_lem : numbers_of (run_block package_block b) ≡ r.numbers
  pub imported_name_of_lem : (i : ℕ) → imported_name_of (run_block package_block b) i ≡ imported_name r i
  pub package_name_of_lem : package_name_of (run_block package_block b) ≡ package_name r
  -- the package's name, by the layout
  pub package_name_lem : package_name r ≡ get_or r.names l.summary.index [] ++ suffix l.summary.number
  -- how much of each there is
  pub exports : length r.exports ≡ export_count l
  pub hashes : length r.hashes ≡ hash_count l
  pub names : length r.names ≡ l.names.count
  pub imported : length r.imported ≡ l.imported.count
  pub numbers : length r.numbers ≡ l.imported.count
  -- and that it is there
  pub size : l.size ≤ length b
  pub few-exports : 72 * export_count l ≤ length b
  pub few-hashes : 8 * hash_count l ≤ length b
  pub few-names : 10 * l.names.count ≤ length b
  pub few-imported : 10 * l.imported.count ≤ length b
  -- an export's name and the package's are in the batch
  pub named : (i : ℕ) → i < export_count l → (get_or r.exports i no_export).index < l.names.count
  pub index : l.summary.index < l.names.count
  -- what the places hold
  pub name-holds : Bytes b → (i : ℕ) → i < l.names.count → Holds b (name_place b l i) (get_or r.names i [])
  pub imported-holds : Bytes b → (i : ℕ) → i < l.imported.count → Holds b (imported_place b l i) (get_or r.imported i [])
