-- One row resolved. Assumes nothing.
use Rattle.std.specs.Prelude.{◌≡◌, List, ℕ, ◌+◌, ◌*◌, ◌≤◌, length, drop}
use Rattle.scriptblock.specs.Script.{Objects}
use Rattle.meaning.specs.Reference.{Ref}
use Rattle.meaning.specs.Scan.{Class}
use Rattle.meaning.specs.Resolve.{Limits}
use Rattle.table.specs.Words.{stored, Kept}
use Rattle.table.specs.Table.{record_at}
use Rattle.objects.specs.declared.object.Object.{Object}
use Rattle.resolve.specs.Rows.{row_at, Read, WordsIn, TargetIn, Tables, Leads, target_size}

-- some reference leads there
pub record SomeTarget (n class object : ℕ) (w : List ℕ) : Type 0 where
  pub corpus : List ℕ
  pub block : List ℕ
  pub objects : Objects
  pub classes : List Class
  pub lookups : ℕ
  pub ref : Ref
  pub tables : Tables corpus block objects n classes w
  pub leads : Leads classes objects lookups ref class object

-- where a row leads, kept at its place
unfoldable pub targeted : ℕ → ℕ → Object → List ℕ → List ℕ
targeted at class u w =
    stored 4 (stored 4 (stored 4 (stored 4 (stored 4 w at class) (at + 4) u.outer) (at + 8) u.start) (at + 12) u.size) (at + 16) u.number

-- row r still has the words of the reference ref, apart from the classes
pub record RowIn (s b : List ℕ) (o : Objects) (n : ℕ) (xs : List Class) (r : ℕ) (ref : Ref) (w : List ℕ) : Type 0 where
  pub tables : Tables s b o n xs w
  pub apart : record_at (2 * n) 64 (length xs) + 32 * (r + 1) ≤ length (drop (56 * n) w)
  pub words : WordsIn (drop (56 * n) w) (row_at (drop (56 * n) w) r) ref
  pub read : Read ref

-- some corpus's
pub record SomeRow (n r : ℕ) (w : List ℕ) : Type 0 where
  pub corpus : List ℕ
  pub block : List ℕ
  pub objects : Objects
  pub classes : List Class
  pub ref : Ref
  pub holds : RowIn corpus block objects n classes r ref w

-- it was resolved: only the first 20 of its bytes are written, and its class and native class take `total` bytes
pub record RowResolved (m : Limits) (b : List ℕ) (o : Objects) (n : ℕ) (xs : List Class) (r : ℕ) (ref : Ref) (w w' : List ℕ) (total : ℕ) : Type 0 where
  pub change : Kept (row_at w r) (row_at w r + 20) w w'
  pub target : TargetIn b o xs m.lookups (drop (56 * n) w') (row_at (drop (56 * n) w') r) ref
  pub size : total ≡ target_size m xs o ref
