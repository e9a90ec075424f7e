-- What the end of the work buffer holds of the rows: row r has 32 bytes, from the end on. First the two words that its class index means (0, 8);
-- once it is resolved one more than the number of its class, or 0 (0), and the columns of the script object that its chain leads to (4, 8, 12, 16),
-- all 0 where there is none; where that object's text stands, and its size (20, 24: crates/pool); its mark (28: Marks). Then the whole work buffer, and
-- what linking changes in it. Assumes nothing.
use Rattle.std.specs.Prelude.{◌≡◌, ◌⊎◌, List, ℕ, zero, suc, ◌+◌, ◌*◌, ◌-◌, ◌^◌, ◌≤◌, ◌<◌, length, take, drop, get_or}
use Rattle.std.proofs.Math.Option.{Option, none}
use Rattle.base.specs.Find.{option, sum}
use Rattle.base.specs.Number.{le_at}
use Rattle.base.specs.NumberLaws.{Bytes}
use Rattle.base.specs.Seek.{seek}
use Rattle.scriptblock.specs.Script.{Objects}
use Rattle.meaning.specs.Key.{Key, same_key}
use Rattle.meaning.specs.Path.{Path}
use Rattle.meaning.specs.Reference.{Package, Ref, null, ref_in, meant}
use Rattle.meaning.specs.Scan.{Class}
pub use Rattle.meaning.specs.Resolve.{limits_of}
use Rattle.meaning.specs.Resolve.{Limits, look, follow, native_of, resolve, path_text}
use Rattle.meaning.specs.Report.{or_unknown, size}
use Rattle.table.specs.Words.{stored, Kept as KeptWords}
use Rattle.table.specs.Table.{record_at}
use Rattle.objects.specs.Numbers.{number_of, path_no}
use Rattle.objects.specs.Work.{ObjectsIn, object_no}
use Rattle.objects.specs.declared.object.Object.{Object}
use Rattle.packages.specs.Meaning.{words_of}
use Rattle.packages.specs.declared.entries.Words.{Words}
use Rattle.resolve.specs.Classes.{class_no, SuperIn, ClassesIn}
use Rattle.resolve.specs.declared.rows.Led.{Led}

-- ---- where a reference leads, by number

-- one more than the number of the class that has the key it means, or 0
unfoldable pub class_number : List Class → Ref → ℕ
class_number xs r = option 0 (λ (k : Key). seek (λ (c : Class). same_key c.key k) xs) (meant r)

-- one more than the number of the script object that its chain leads to, or 0
unfoldable pub object_number : ℕ → List Class → Objects → Ref → ℕ
object_number lookups xs o r = option 0 (number_of o.entries) (follow lookups (look xs) r)

-- an object by that number: its columns and its path
abbrev pub no_object : Object
no_object = record { outer = 0; start = 0; size = 0; number = 0 }

abbrev pub columns_of : List ℕ → Objects → ℕ → Object
columns_of b o zero = no_object
columns_of b o (suc i) = object_no b o i

abbrev pub path_by : ℕ → Objects → ℕ → Option Path
path_by limit o zero = none
path_by limit o (suc i) = path_no limit o i

-- ---- the rows' bytes

-- where row r is
abbrev pub row_at : List ℕ → ℕ → ℕ
row_at w r = length w - 32 * (r + 1)

-- a reference is one that an index means in a package
pub record Read (r : Ref) : Type 0 where
  pub home : Package
  pub index : ℕ
  pub is : r ≡ ref_in home index

-- (x, y) are the words of a reference that was read
pub record Means (x y : ℕ) (r : Ref) : Type 0 where
  pub lo : x ≡ (words_of r).lo
  pub hi : y ≡ (words_of r).hi
  pub read : Read r

-- (x, y) are what such a reference is kept as in a class's record
pub record Keeps (xs : List Class) (x y : ℕ) (r : Ref) : Type 0 where
  pub super : SuperIn xs r x y
  pub read : Read r

-- with what its class index means, and its mark
unfoldable pub worded : ℕ → Words → ℕ → List ℕ → List ℕ
worded at m mark w = stored 4 (stored 8 (stored 8 w at m.lo) (at + 8) m.hi) (at + 28) mark

pub record WordsIn (w : List ℕ) (at : ℕ) (r : Ref) : Type 0 where
  pub lo : le_at 8 w at ≡ (words_of r).lo
  pub hi : le_at 8 w (at + 8) ≡ (words_of r).hi

-- resolved
pub record TargetIn (b : List ℕ) (o : Objects) (xs : List Class) (lookups : ℕ) (w : List ℕ) (at : ℕ) (r : Ref) : Type 0 where
  pub class : le_at 4 w at ≡ class_number xs r
  pub outer : le_at 4 w (at + 4) ≡ (columns_of b o (object_number lookups xs o r)).outer
  pub start : le_at 4 w (at + 8) ≡ (columns_of b o (object_number lookups xs o r)).start
  pub size : le_at 4 w (at + 12) ≡ (columns_of b o (object_number lookups xs o r)).size
  pub number : le_at 4 w (at + 16) ≡ (columns_of b o (object_number lookups xs o r)).number

-- the same, as code reads it
abbrev pub led_at : List ℕ → ℕ → Led
led_at w at = record {
  class = le_at 4 w at;
  object = record { outer = le_at 4 w (at + 4); start = le_at 4 w (at + 8); size = le_at 4 w (at + 12); number = le_at 4 w (at + 16) };
  text = le_at 4 w (at + 20);
  size = le_at 4 w (at + 24);
}

-- the rows whose class indices mean refs are kept; they are resolved
pub record RowsIn (refs : List Ref) (w : List ℕ) : Type 0 where
  pub room : 32 * length refs ≤ length w
  pub words : (r : ℕ) → r < length refs → WordsIn w (row_at w r) (get_or refs r null)
  pub read : (r : ℕ) → r < length refs → Read (get_or refs r null)

pub record TargetsIn (b : List ℕ) (o : Objects) (xs : List Class) (lookups : ℕ) (refs : List Ref) (w : List ℕ) : Type 0 where
  pub room : 32 * length refs ≤ length w
  pub targets : (r : ℕ) → r < length refs → TargetIn b o xs lookups w (row_at w r) (get_or refs r null)

-- ---- the whole work buffer

-- the n script objects o of the block b in front, classes xs of the corpus s behind them, in 2 n buckets
pub record Tables (s b : List ℕ) (o : Objects) (n : ℕ) (xs : List Class) (w : List ℕ) : Type 0 where
  pub bytes : Bytes b
  pub count : n ≡ o.layout.count
  pub room : 56 * n ≤ length w
  pub objects : ObjectsIn b o (take (56 * n) w)
  pub classes : ClassesIn s (2 * n) xs (drop (56 * n) w)

-- and rows at the end, apart from the classes
pub record Kept (s b : List ℕ) (o : Objects) (n : ℕ) (xs : List Class) (refs : List Ref) (w : List ℕ) : Type 0 where
  pub tables : Tables s b o n xs w
  pub rows : RowsIn refs (drop (56 * n) w)
  pub apart : record_at (2 * n) 64 (length xs) + 32 * length refs ≤ length (drop (56 * n) w)

pub record Resolved (s b : List ℕ) (o : Objects) (n : ℕ) (xs : List Class) (lookups : ℕ) (refs : List Ref) (w : List ℕ) : Type 0 where
  pub tables : Tables s b o n xs w
  pub targets : TargetsIn b o xs lookups refs (drop (56 * n) w)

-- some corpus's
pub record SomeTables (n : ℕ) (w : List ℕ) : Type 0 where
  pub corpus : List ℕ
  pub block : List ℕ
  pub objects : Objects
  pub classes : List Class
  pub holds : Tables corpus block objects n classes w

-- with k classes or more
pub record SomeClasses (n k : ℕ) (w : List ℕ) : Type 0 where
  pub some : SomeTables n w
  pub inside : k ≤ length some.classes

pub record SomeKept (n rows : ℕ) (w : List ℕ) : Type 0 where
  pub corpus : List ℕ
  pub block : List ℕ
  pub objects : Objects
  pub classes : List Class
  pub refs : List Ref
  pub count : length refs ≡ rows
  pub holds : Kept corpus block objects n classes refs w

-- ---- classes linked to their supers' classes, behind n script objects

-- where the two numbers are that class i's super is kept in
abbrev pub super_at : ℕ → ℕ → ℕ
super_at n i = 56 * n + record_at (2 * n) 64 i + 24

-- a super r that is kept in (x, y) is then kept in (x', y'): as a link to its class, or as it was where it has none
pub record LinkedAs (xs : List Class) (r : Ref) (x y x' y' : ℕ) : Type 0 where
  pub found : (k : ℕ) → class_number xs r ≡ k + 1 → (x' ≡ 2 ^ 63 + k) × (y' ≡ 0)
  pub none : class_number xs r ≡ 0 → (x' ≡ x) × (y' ≡ y)

-- class i's super is
abbrev pub ClassLinked : ℕ → List Class → ℕ → List ℕ → List ℕ → Type 0
ClassLinked n xs i w w' =
    LinkedAs xs (class_no xs i).super (le_at 8 w (super_at n i)) (le_at 8 w (super_at n i + 8)) (le_at 8 w' (super_at n i)) (le_at 8 w' (super_at n i + 8))

-- the first k classes are, and all that stands outside their supers is as it was
pub record LinkedTo (n : ℕ) (xs : List Class) (k : ℕ) (w w' : List ℕ) : Type 0 where
  pub linked : (i : ℕ) → i < k → ClassLinked n xs i w w'
  pub others : (a m : ℕ) → ((i : ℕ) → i < k → (a + m ≤ super_at n i) ⊎ (super_at n i + 16 ≤ a)) → le_at m w' a ≡ le_at m w a

-- nothing changed but what class i's super is kept in
pub record SuperOnly (n i : ℕ) (w w' : List ℕ) : Type 0 where
  pub kept : KeptWords (super_at n i) (super_at n i + 16) w w'

-- ---- how many bytes class and native class of a row take

unfoldable pub target_size : Limits → List Class → Objects → Ref → ℕ
target_size m xs o r = size (or_unknown (resolve m (look xs) o r).class) + size (or_unknown (path_text (native_of m (look xs) o r)))

-- where a row leads: one more than the number of its class, and of its script object
pub record Leads (xs : List Class) (o : Objects) (lookups : ℕ) (r : Ref) (class object : ℕ) : Type 0 where
  pub class-is : class ≡ class_number xs r
  pub object-is : object ≡ object_number lookups xs o r

-- all rows were resolved, and their classes and native classes take `total` bytes
pub record Resolution (m : Limits) (s b : List ℕ) (o : Objects) (n : ℕ) (xs : List Class) (refs : List Ref) (w w' : List ℕ) (total : ℕ) : Type 0 where
  pub length-is : length w' ≡ length w
  pub holds : Resolved s b o n xs m.lookups refs w'
  pub size : total ≡ sum (target_size m xs o) refs
