-- What the part of the work buffer behind the script objects holds of the classes: a look-up table whose record k, of 64 bytes, is class k. Its
-- key is the class's; bytes 24 to 63 are: what its super means, in words or as a link (24, 32), the length of its path in UTF-8 (40), the place of
-- its package in the corpus (44), its number among the package's exports (48), where the package's name, its own and its outer's start in the
-- package's block (52, 56, 60). Assumes nothing.
use Rattle.std.specs.Prelude.{◌≡◌, List, [], ◌∷◌, ◌++◌, ℕ, ◌+◌, ◌^◌, ◌≤◌, ◌<◌, length, get_or, None}
use Rattle.std.proofs.Math.Option.{some}
use Rattle.base.specs.Number.{le_at}
use Rattle.base.specs.Reading.{gives, run_block}
use Rattle.text.specs.Utf8.{utf8}
use Rattle.zen.specs.Zen.{package_block}
use Rattle.meaning.specs.Key.{public}
use Rattle.meaning.specs.Reference.{Ref, null, meant}
use Rattle.meaning.specs.Scan.{Class, class_at}
use Rattle.table.specs.Words.{stored, Kept}
use Rattle.table.specs.Table.{record_at, Holds}
use Rattle.packages.specs.Meaning.{key_words, words_of}
use Rattle.packages.specs.Package.{read_in, parts_of}
use Rattle.packages.specs.Row.{export_no, home_in, row_in, outer_start}
use Rattle.packages.specs.Walk.{block_at, package_at, Site}
use Rattle.batch.specs.declared.places.Name.{Name}
use Rattle.packages.specs.declared.entries.Words.{Words}
use Rattle.packages.specs.declared.rows.Row.{Row}

abbrev pub no_class : Class
no_class = record { key = public 0 0; path = []; super = null; export = 0 }

-- class k of some
abbrev pub class_no : List Class → ℕ → Class
class_no cs k = get_or cs k no_class

-- export i of the package at a place, as a class, and where its names are
abbrev pub class_from : List ℕ → ℕ → ℕ → Class
class_from s at i = class_at (package_at s at) i (export_no (block_at s at) i)

abbrev pub home_of : List ℕ → Name
home_of b = home_in b (parts_of (read_in b))

abbrev pub names_of : List ℕ → ℕ → Row
names_of b i = row_in b (parts_of (read_in b)) None i

-- the record at a place describes class x, of the corpus s
pub record ClassIn (s : List ℕ) (x : Class) (w : List ℕ) (at : ℕ) : Type 0 where
  -- the package's place, and the number among its exports
  pub place : ℕ
  pub export : ℕ
  pub site : Site s place (block_at s place)
  pub read : run_block package_block (block_at s place) ≡ gives (read_in (block_at s place))
  pub there : export < length (read_in (block_at s place)).exports
  pub hashed : (export_no (block_at s place) export).hash ≡ 0 → ⊥
  pub is : x ≡ class_from s place export
  pub short : length (utf8 x.path) ≤ 393269
  -- the columns
  pub size_in_lem : le_at 4 w (at + 40) ≡ length (utf8 x.path)
  pub place_in : le_at 4 w (at + 44) ≡ place
  pub export_in_lem : le_at 4 w (at + 48) ≡ export
  pub home_in_lem : le_at 4 w (at + 52) ≡ (home_of (block_at s place)).place.start
  pub own_in : le_at 4 w (at + 56) ≡ (names_of (block_at s place) export).own.place.start
  pub outer_in : le_at 4 w (at + 60) ≡ outer_start (names_of (block_at s place) export)

-- what the super r of a class is kept as: its two words; or, once it is linked, 2^63 and the number of the class that it means, and 0
pub data SuperIn (xs : List Class) (r : Ref) (lo hi : ℕ) : Type 0 where
  words : lo ≡ (words_of r).lo → hi ≡ (words_of r).hi → SuperIn xs r lo hi
  link : (k : ℕ) → k < length xs → meant r ≡ some (class_no xs k).key → lo ≡ 2 ^ 63 + k → hi ≡ 0 → SuperIn xs r lo hi

-- classes xs of the corpus s are entered, in n buckets
pub record ClassesIn (s : List ℕ) (n : ℕ) (xs : List Class) (w : List ℕ) : Type 0 where
  pub keys : Holds n 64 (length xs) (λ i. (key_words (class_no xs i).key).lo) (λ i. (key_words (class_no xs i).key).hi) w
  pub columns : (i : ℕ) → i < length xs → ClassIn s (class_no xs i) w (record_at n 64 i)
  pub supers : (i : ℕ) → i < length xs → SuperIn xs (class_no xs i).super (le_at 8 w (record_at n 64 i + 24)) (le_at 8 w (record_at n 64 i + 32))

-- k classes of some corpus are
pub record Classes (n k : ℕ) (w : List ℕ) : Type 0 where
  pub corpus : List ℕ
  pub classes : List Class
  pub count : length classes ≡ k
  pub holds : ClassesIn corpus n classes w

-- the record at a place filled in
unfoldable pub described : ℕ → ℕ → ℕ → ℕ → ℕ → ℕ → Words → ℕ → List ℕ → List ℕ
described r at i home own outer m len w =
    stored 4
    (stored 4
    (stored 4 (stored 4 (stored 4 (stored 4 (stored 8 (stored 8 w (r + 24) m.lo) (r + 32) m.hi) (r + 40) len) (r + 44) at) (r + 48) i) (r + 52) home)
    (r + 56)
    own)
    (r + 60)
    outer

-- class k of the corpus s is entered, and the buffer has room for its path
pub record PathRoom (s : List ℕ) (n k : ℕ) (w out : List ℕ) : Type 0 where
  pub classes : List Class
  pub holds : ClassesIn s n classes w
  pub inside : k < length classes
  pub room : length (utf8 (class_no classes k).path) ≤ length out

-- class x was to be entered behind the classes xs of the corpus s: it was (r), and nothing is changed but the table; or one of them has its key
pub record Entered (s : List ℕ) (n : ℕ) (xs : List Class) (x : Class) (w w' : List ℕ) : Type 0 where
  pub holds : ClassesIn s n (xs ++ (x ∷ [])) w'
  pub kept : Kept 0 (record_at n 64 (length xs + 1)) w w'

pub record Stands (xs : List Class) (x : Class) : Type 0 where
  pub number : ℕ
  pub inside : number < length xs
  pub same : (class_no xs number).key ≡ x.key
