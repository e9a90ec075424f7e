-- What an accepted block holds, and where: the tie of a reading to its layout.
use Rattle.std.specs.Prelude.{◌≡◌, List, true, ℕ, ◌+◌, ◌*◌, ◌^◌, ◌≤◌, ◌<◌, length, take}
use Rattle.base.specs.Reading.{run_block}
use Rattle.base.specs.ReadingRows.{cells}
use Rattle.base.specs.Number.{le_at}
use Rattle.base.specs.NumberLaws.{Bytes}
use Rattle.batch.specs.Places.{texts_at, Held}
use Rattle.zen.specs.Zen.{package_block, named}
use Rattle.zen.specs.Answers.{Order, hashes_of, exports_of, names_of, imported_of, numbers_of, hash_count, export_count}
use Rattle.zen.specs.TableLaws.{hashes_in, exports_in}
use Rattle.zen.specs.declared.zen.Layout.{Layout}

-- ---- an accepted block and its layout

pub record Parts (b : List ℕ) (l : Layout) : Type 0 where
  pub size : l.size ≤ length b
  pub header : l.size ≡ le_at 4 b 4
  pub small : Bytes b → l.size < 256 ^ 4
  pub order : Order l.summary l.size
  -- what is read, by position
  pub names : names_of (run_block package_block b) ≡ texts_at (take l.size b) l.names.headers l.names.strings l.names.count
  pub hashes : hashes_of (run_block package_block b) ≡ hashes_in (take l.size b) l.summary
  pub exports : exports_of (run_block package_block b) ≡ exports_in (take l.size b) l.summary
  pub imported : imported_of (run_block package_block b) ≡ texts_at (take l.size b) l.imported.headers l.imported.strings l.imported.count
  pub numbers : numbers_of (run_block package_block b) ≡ cells (le_at 4 (take l.size b)) 4 l.imported.«end» l.imported.count
  -- the batches
  pub names-held : Bytes b → Held (take l.size b) l.names
  pub imported-held : Bytes b → Held (take l.size b) l.imported
  -- question 10, of the package and of its exports
  pub index : l.summary.index < l.names.count
  pub named : named l.names.count (exports_of (run_block package_block b)) ≡ true
  -- question 22
  pub ends : l.imported.«end» + 4 * l.imported.count ≡ l.size
  -- how many there are
  pub hash_count_lem : length (hashes_of (run_block package_block b)) ≡ hash_count l
  pub export_count_lem : length (exports_of (run_block package_block b)) ≡ export_count l
  pub few-names : 10 * l.names.count ≤ length b
  pub few-hashes : 8 * hash_count l ≤ length b
  pub few-exports : 72 * export_count l ≤ length b
  pub few-imported : 10 * l.imported.count ≤ length b
