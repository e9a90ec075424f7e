-- The code's answers about a package, as functions of what a reading gives.
use Rattle.batch.specs.declared.names.Names.{Names}
use Rattle.std.specs.Prelude.{List, [], ℕ, ◌-◌, ◌/◌, ◌≤◌, Result, Ok, Err}
use Rattle.base.specs.Reading.{Out, refused, gives, Got, bad, got}
use Rattle.zen.specs.Zen.{Read, Imports, imported_name, package_name}
use Rattle.zen.specs.declared.summary.Summary.{Summary}
use Rattle.zen.specs.declared.tables.Export.{Export}
use Rattle.zen.specs.declared.zen.Layout.{Layout}

unfoldable pub led : Got ℕ → (Result ℕ ℕ)
led (bad e) = Err e
led (got size n) = Ok size

unfoldable pub summed : Got Summary → Result Summary ℕ
summed (bad e) = Err e
summed (got m n) = Ok m

unfoldable pub imported : Got Imports → Result Names ℕ
imported (bad e) = Err e
imported (got i n) = Ok i.batch.place

unfoldable pub answer : Out Read → Result Layout ℕ
answer (refused e) = Err e
answer (gives r) = Ok r.layout

unfoldable pub exports_of : Out Read → List Export
exports_of (refused e) = []
exports_of (gives r) = r.exports

unfoldable pub hashes_of : Out Read → List ℕ
hashes_of (refused e) = []
hashes_of (gives r) = r.hashes

unfoldable pub names_of : Out Read → List (List ℕ)
names_of (refused e) = []
names_of (gives r) = r.names

unfoldable pub imported_of : Out Read → List (List ℕ)
imported_of (refused e) = []
imported_of (gives r) = r.imported

unfoldable pub numbers_of : Out Read → List ℕ
numbers_of (refused e) = []
numbers_of (gives r) = r.numbers

-- imported name i and the package's name, rendered
unfoldable pub imported_name_of : Out Read → ℕ → List ℕ
imported_name_of (refused e) i = []
imported_name_of (gives r) i = imported_name r i

unfoldable pub package_name_of : Out Read → List ℕ
package_name_of (refused e) = []
package_name_of (gives r) = package_name r

-- how many exports and public hashes there are
abbrev pub export_count : Layout → ℕ
export_count l = (l.summary.bundles - l.summary.exports) / 72

abbrev pub hash_count : Layout → ℕ
hash_count l = (l.summary.imports - l.summary.hashes) / 8

-- question 17, as facts
pub record Order (m : Summary) (size : ℕ) : Type 0 where
  pub low : 52 ≤ m.hashes
  pub imports : m.hashes ≤ m.imports
  pub exports : m.imports ≤ m.exports
  pub bundles : m.exports ≤ m.bundles
  pub imported : m.bundles ≤ m.imported
  pub high : m.imported ≤ size
