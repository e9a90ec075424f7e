-- The texts that rows lead to, kept once between the classes and the rows of a resolved work buffer: 64 bytes are there for each row, and a row takes
-- 32 of them. Row numbers stand first, by which a class or an object that came before is found again, then texts, each with its length in front: of a
-- row with a class of the table that class's and, behind it, that of its native class, where it leads to an object; of a row without one its object's
-- alone. A row keeps where they stand (20), and how many bytes they take (24), 0 where they aren't kept; its mark (28) stays. Assumes nothing.
use Rattle.std.specs.Prelude.{◌≡◌, List, [], ◌++◌, ℕ, zero, suc, ◌+◌, ◌*◌, ◌-◌, ◌^◌, ◌≤◌, ◌<◌, length, take, drop, Option, Some, None, IfSome, ⊤}
use Rattle.std.proofs.Math.Option.{Option as Maybe, none, some}
use Rattle.base.specs.Output.{Wrote}
use Rattle.text.specs.Name.{text_bytes}
use Rattle.scriptblock.specs.Script.{Objects}
use Rattle.meaning.specs.Path.{Path}
use Rattle.meaning.specs.Reference.{Ref}
use Rattle.meaning.specs.Scan.{Class}
use Rattle.table.specs.Words.{mid, stored, Kept}
use Rattle.objects.specs.Numbers.{path_no}
use Rattle.objects.specs.Work.{Stands}
use Rattle.objects.specs.declared.object.Object.{Object}
use Rattle.resolve.specs.Classes.{class_no, ClassesIn}
use Rattle.resolve.specs.Rows.{row_at, led_at, Resolved}
use Rattle.resolve.specs.declared.rows.Led.{Led}

-- ---- a text

-- the columns u are those of an object
pub record Stood (b w : List ℕ) (u : Object) : Type 0 where
  pub objects : Objects
  pub number : ℕ
  pub stands : Stands b objects w number u

-- the path is known, and its text was written
pub record TextWrote (x : Maybe Path) (old new : List ℕ) (size : ℕ) : Type 0 where
  pub path : Path
  pub known : x ≡ some path
  pub wrote : Wrote old (text_bytes path.text) new size

-- the path is unknown, or its text with its four bytes of length takes more than 256 bytes: what may be left out
abbrev pub NoShort : Maybe Path → Type 0
NoShort none = ⊤
NoShort (some p) = 256 < length (text_bytes p.text)

-- what stands in front of an object's text: that of class k of xs, where `class` is k + 1, or nothing, where it is 0
abbrev pub class_front : List Class → ℕ → List ℕ
class_front xs zero = []
class_front xs (suc k) = text_bytes (class_no xs k).path

-- the path is known, and these bytes are the class's text and its text
pub record TextsOf (xs : List Class) (class : ℕ) (x : Maybe Path) (bytes : List ℕ) : Type 0 where
  pub path : Path
  pub known : x ≡ some path
  pub is : bytes ≡ class_front xs class ++ text_bytes path.text

-- the buffer w has classes xs of the corpus c behind n script objects, so many, and the columns u are those of object i of o
pub record Leading (c b : List ℕ) (n classes : ℕ) (w : List ℕ) (u : Object) (o : Objects) (i : ℕ) (xs : List Class) : Type 0 where
  pub stands : Stands b o (take (56 * n) w) i u
  pub holds : ClassesIn c (2 * n) xs (drop (56 * n) w)
  pub count : length xs ≡ classes

-- these bytes are the texts of `class` and of each object that has the columns u, or where u is no object's the text of `class` alone
pub record Texts (c b : List ℕ) (n classes objects : ℕ) (w : List ℕ) (class : ℕ) (u : Object) (bytes : List ℕ) : Type 0 where
  pub both : (u.outer ≡ 0 → ⊥) → (o : Objects) (i : ℕ) (xs : List Class) → Leading c b n classes w u o i xs → TextsOf xs class (path_no objects o i) bytes
  pub alone : u.outer ≡ 0 → (xs : List Class) → ClassesIn c (2 * n) xs (drop (56 * n) w) → length xs ≡ classes → bytes ≡ class_front xs class

-- they are the `size` bytes at `text`, between lo and hi
pub record TextAt (c b : List ℕ) (n classes objects lo hi : ℕ) (w : List ℕ) (class : ℕ) (u : Object) (text size : ℕ) : Type 0 where
  pub after : lo ≤ text
  pub before : text + size ≤ hi
  pub is : Texts c b n classes objects w class u (mid text size w)

-- what a row keeps, if it keeps texts
pub record TextIn (c b : List ℕ) (n classes objects lo hi : ℕ) (w : List ℕ) (l : Led) : Type 0 where
  pub kept : (l.size ≡ 0 → ⊥) → TextAt c b n classes objects lo hi w l.class l.object l.text l.size

-- ---- the work buffer while rows are gone through

-- all but the gap is as it was, and all but where its text stands of each row
pub record Left (gap rows : ℕ) (w w' : List ℕ) : Type 0 where
  pub kept : Kept gap (length w) w w'
  pub columns : (r : ℕ) → r < rows → mid (row_at w r) 20 w' ≡ mid (row_at w r) 20 w
  pub marks : (r : ℕ) → r < rows → mid (row_at w r + 28) 4 w' ≡ mid (row_at w r + 28) 4 w

-- the first k rows keep texts between lo and hi
pub record Done (c b : List ℕ) (n classes objects lo hi k : ℕ) (w : List ℕ) : Type 0 where
  pub texts : (r : ℕ) → r < k → TextIn c b n classes objects lo hi w (led_at w (row_at w r))

-- the buffer was w, and is now w'
pub record State (c b : List ℕ) (n classes objects gap rows lo hi k : ℕ) (w w' : List ℕ) : Type 0 where
  pub left : Left gap rows w w'
  pub done : Done c b n classes objects lo hi k w'

-- row k is before row r and leads to this class and to the object u
pub record Earlier (w : List ℕ) (r class : ℕ) (u : Object) (k : ℕ) : Type 0 where
  pub small : k < r
  pub class-same : (led_at w (row_at w k)).class ≡ class
  pub same : (led_at w (row_at w k)).object ≡ u

-- the row that was found, if any
abbrev pub Before : List ℕ → ℕ → ℕ → Object → Option ℕ → Type 0
Before w r class u found = IfSome found (Earlier w r class u)

-- the row at a place keeps texts
unfoldable pub noted : ℕ → ℕ → ℕ → List ℕ → List ℕ
noted at text size w = stored 4 (stored 4 w (at + 20) text) (at + 24) size

-- the texts of `class` and of the object u were put at `free`, before the rows, with so many bytes
pub record Put (c b : List ℕ) (n classes objects rows free class : ℕ) (u : Object) (w w' : List ℕ) (size : ℕ) : Type 0 where
  pub kept : Kept free (free + size) w w'
  pub within : free + size ≤ length w - 32 * rows
  pub small : free < 2 ^ 32
  pub few : size ≤ 512
  pub is : Texts c b n classes objects w class u (mid free size w')

-- the first `size` bytes are these texts, if they were composed
abbrev pub TextsPut : List ℕ → List ℕ → ℕ → ℕ → ℕ → ℕ → Object → List ℕ → List ℕ → Option ℕ → Type 0
TextsPut c b n classes objects class u w new found = IfSome found (λ size. (size ≤ 512) × Texts c b n classes objects w class u (take size new))

-- they were, or nothing is changed
abbrev pub TextPut : List ℕ → List ℕ → ℕ → ℕ → ℕ → ℕ → ℕ → ℕ → Object → List ℕ → List ℕ → Option ℕ → Type 0
TextPut c b n classes objects rows free class u w w' None = w' ≡ w
TextPut c b n classes objects rows free class u w w' (Some size) = Put c b n classes objects rows free class u w w' size

-- where the gap is, behind the classes, and that there is room for the rows behind it
pub record Gap (n classes gap slots rows r free : ℕ) (w : List ℕ) : Type 0 where
  pub front : 64 * (n + classes) ≤ gap
  pub some : 0 < slots
  pub texts : gap + 4 * slots ≤ free
  pub room : free + 32 * rows ≤ length w
  pub inside : r < rows

-- so many classes of the corpus are in the table behind n script objects
pub record Classed (c : List ℕ) (n classes : ℕ) (w : List ℕ) : Type 0 where
  pub table : List Class
  pub holds : ClassesIn c (2 * n) table (drop (56 * n) w)
  pub count : length table ≡ classes

-- the class with this number, if there is one, is in a table of the corpus, with n buckets
pub record ClassTable (c : List ℕ) (n class : ℕ) (w : List ℕ) : Type 0 where
  pub table : List Class
  pub holds : ClassesIn c n table w
  pub inside : class ≤ length table

-- row r leads to no class or to one of the table, and to no object or to one of the block
pub record RowStood (c b : List ℕ) (n classes r : ℕ) (w : List ℕ) : Type 0 where
  pub classed : Classed c n classes w
  pub class-inside : (led_at w (row_at w r)).class ≤ classes
  pub stood : ((led_at w (row_at w r)).object.outer ≡ 0 → ⊥) → Stood b (take (56 * n) w) (led_at w (row_at w r)).object

-- ---- all rows

-- the rows are resolved, and 64 bytes are there for each script object, class and row
pub record Roomy (c b : List ℕ) (n classes rows : ℕ) (w : List ℕ) : Type 0 where
  pub objects : Objects
  pub table : List Class
  pub lookups : ℕ
  pub refs : List Ref
  pub holds : Resolved c b objects n table lookups refs w
  pub classes-are : length table ≡ classes
  pub rows_are : length refs ≡ rows
  pub room : 64 * (n + classes + rows) ≤ length w

-- they are resolved, and what they keep of texts is right
pub record Pooled (s b : List ℕ) (o : Objects) (n : ℕ) (xs : List Class) (lookups objects : ℕ) (refs : List Ref) (w : List ℕ) : Type 0 where
  pub resolved : Resolved s b o n xs lookups refs w
  pub texts : Done s b n (length xs) objects 0 (length w) (length refs) w
