-- What the part of `work` that is lent for S script objects holds, 56 S bytes: a look-up table of 3 S buckets, whose record i, of 44 bytes, is
-- object i. Its key is 0 and the object's global index; bytes 24 to 43 are: where its outer leads (24), its name's start in the block
-- (28), twice the name's size, and 1 if it is UTF-16 (32), its instance number (36), the length of its rendered name in UTF-8 (40).
-- Assumes nothing.
use Rattle.std.specs.Prelude.{◌≡◌, Bool, true, false, List, ℕ, suc, ◌+◌, ◌*◌, ◌/◌, ◌%◌, ◌<◌, eqb, length}
use Rattle.base.specs.Number.{le_at}
use Rattle.base.specs.Reading.{gives, run}
use Rattle.text.specs.Utf8.{utf8}
use Rattle.batch.specs.Places.{place_at}
use Rattle.batch.specs.Holds.{name_at}
use Rattle.batch.specs.declared.names.Names.{Names}
use Rattle.batch.specs.declared.places.Place.{Place}
use Rattle.scriptblock.specs.Script.{Objects, script}
use Rattle.scriptblock.specs.ScriptFaults.{entry_of}
use Rattle.scriptblock.specs.declared.script.Entry.{Entry}
use Rattle.scriptblock.specs.declared.script.Layout.{Layout}
use Rattle.table.specs.Words.{stored}
use Rattle.table.specs.Table.{record_at, Holds}
use Rattle.objects.specs.Numbers.{entry_no, link_of}
use Rattle.objects.specs.declared.object.Object.{Object}
use Rattle.objects.specs.declared.object.Outer.{Outer}
use Rattle.objects.specs.declared.object.Outer.TheVariants.{Missing, Nothing, Object as OuterObject}

-- the halves of a key: the second is asked first, and tells all
abbrev pub first_of : ℕ → ℕ
first_of g = 0

abbrev pub second_of : ℕ → ℕ
second_of g = g

abbrev pub one_if : Bool → ℕ
one_if true = 1
one_if false = 0

-- twice the size, and 1 if it is UTF-16
abbrev pub packed : Place → ℕ
packed p = 2 * p.size + one_if p.wide

-- the record at a place, described: the name's place, its instance number, its length
unfoldable pub described : ℕ → Place → ℕ → ℕ → List ℕ → List ℕ
described at p number len w = stored 4 (stored 4 (stored 4 (stored 4 w (at + 28) p.start) (at + 32) (packed p)) (at + 36) number) (at + 40) len

-- the record at a place describes the entry e, whose name is one of the batch n
pub record Columns (b : List ℕ) (n : Names) (e : Entry) (w : List ℕ) (at : ℕ) : Type 0 where
  pub start : le_at 4 w (at + 28) ≡ (place_at b n e.index).start
  pub size : le_at 4 w (at + 32) ≡ packed (place_at b n e.index)
  pub number : le_at 4 w (at + 36) ≡ e.number
  pub rendered : le_at 4 w (at + 40) ≡ length (utf8 (name_at b (place_at b n e.index) e.number))

-- the first k objects of the block b are entered
pub record Entered (b : List ℕ) (l : Layout) (k : ℕ) (w : List ℕ) : Type 0 where
  pub size : length w ≡ 56 * l.count
  pub keys : Holds (3 * l.count) 44 k (λ i. first_of (entry_of b l i).global) (λ i. second_of (entry_of b l i).global) w
  pub columns : (i : ℕ) → i < k → Columns b l.names (entry_of b l i) w (record_at (3 * l.count) 44 i)

-- all objects o of the block b, which was read, are entered
pub record AllIn (b : List ℕ) (o : Objects) (w : List ℕ) : Type 0 where
  pub read : run script 0 b ≡ gives o
  pub entered : Entered b o.layout o.layout.count w

-- and each is linked to its outer
pub record ObjectsIn (b : List ℕ) (o : Objects) (w : List ℕ) : Type 0 where
  pub all : AllIn b o w
  pub links : (i : ℕ) → i < o.layout.count → le_at 4 w (record_at (3 * o.layout.count) 44 i + 24) ≡ link_of o (entry_no o i).outer

-- some block's objects are entered; some block's are linked; those of the block b are linked
pub record Keyed (w : List ℕ) : Type 0 where
  pub block : List ℕ
  pub objects : Objects
  pub holds : AllIn block objects w

pub record Linked (w : List ℕ) : Type 0 where
  pub block : List ℕ
  pub objects : Objects
  pub holds : ObjectsIn block objects w

pub record LinkedOf (b w : List ℕ) : Type 0 where
  pub objects : Objects
  pub holds : ObjectsIn b objects w

-- where an outer leads, by its number in the buffer: as `link_of` says
abbrev pub outer_number : Outer → ℕ
outer_number Missing = 0
outer_number Nothing = 1
outer_number (OuterObject i) = suc (suc i)

-- the columns that stand from a place on
abbrev pub columns_at : List ℕ → ℕ → Object
columns_at w at = record { outer = le_at 4 w at; start = le_at 4 w (at + 4); size = le_at 4 w (at + 8); number = le_at 4 w (at + 12) }

-- object i by its columns
unfoldable pub object_no : List ℕ → Objects → ℕ → Object
object_no b o i = record {
  outer = link_of o (entry_no o i).outer;
  start = (place_at b o.layout.names (entry_no o i).index).start;
  size = packed (place_at b o.layout.names (entry_no o i).index);
  number = (entry_no o i).number;
}

-- the place of its name
abbrev pub place_of : Object → Place
place_of u = record { start = u.start; size = u.size / 2; wide = eqb (u.size % 2) 1 }

-- the columns u are those of object i of the block b
pub record Stands (b : List ℕ) (o : Objects) (w : List ℕ) (i : ℕ) (u : Object) : Type 0 where
  pub holds : ObjectsIn b o w
  pub inside : i < o.layout.count
  pub is : u ≡ object_no b o i
