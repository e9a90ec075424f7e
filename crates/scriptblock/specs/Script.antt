-- The script block (document 01, "script.rs"; questions 3 to 13). Assumes nothing.
use Rattle.std.specs.Prelude.{List, [], ◌∷◌, ◌++◌, Bool, true, not, ◌&&◌, ℕ, zero, suc, ◌*◌, leb, ltb, eqb, get_or}
use Rattle.std.specs.Int.Signed.{non_neg}
use Rattle.base.specs.Index.{kind}
use Rattle.base.specs.Signed.{twos}
use Rattle.text.specs.Name.{suffix}
use Rattle.base.specs.Reading.{Reading, give, ◌>>=◌, ◌>>◌, over-bytes, bytes_left, place, u30, ask, onto}
use Rattle.batch.specs.Batch.{u32, u64, batch}
use Rattle.scriptblock.specs.declared.script.Entry.{Entry}
use Rattle.scriptblock.specs.declared.script.Layout.{Layout}

-- 32 bytes: mapped name, global index, outer, class default object (passed over)
unfoldable pub entry : Reading Entry
entry = do
  i ← u30
  n ← u32
  g ← u64
  o ← u64
  over-bytes 8
  give (record { index = i; number = n; global = g; outer = o })

-- no entry of a list has this global index
abbrev pub fresh : ℕ → List Entry → Bool
fresh g [] = true
fresh g (e ∷ es) = not (eqb g e.global) && fresh g es

-- each entry: name index in batch? 10; kind 1? 11; index new? 12 (those done, the last first)
abbrev pub entries_on : List Entry → ℕ → ℕ → Reading (List Entry)
entries_on done names zero = give (onto done [])
entries_on done names (suc n) = do
  e ← entry
  ask (ltb e.index names) 10
  ask (eqb (kind e.global) 1) 11
  ask (fresh e.global done) 12
  entries_on (e ∷ done) names n

unfoldable pub entries : ℕ → ℕ → Reading (List Entry)
entries names n = entries_on [] names n

-- what stands before the entries, and where
pub record Start : Type 0 where
  pub layout : Layout
  pub names : List (List ℕ)

-- name batch; count not negative? 8; 32 times count left? 9
unfoldable pub opening : Reading Start
opening = do
  b ← batch
  n ← u32
  ask (non_neg (twos 32 n)) 8
  l ← bytes_left
  ask (leb (32 * n) l) 9
  p ← place
  give (record { layout = record { names = b.place; count = n; entries = p }; names = b.texts })

-- what a script block says, and where
pub record Objects : Type 0 where
  pub layout : Layout
  pub names : List (List ℕ)
  pub entries : List Entry

-- the whole block: each entry; nothing left? 13
unfoldable pub script : Reading Objects
script = do
  o ← opening
  es ← entries o.layout.names.count o.layout.count
  left ← bytes_left
  ask (eqb left 0) 13
  give (record { layout = o.layout; names = o.names; entries = es })

-- an object's rendered name
abbrev pub object_name : Objects → Entry → List ℕ
object_name o e = get_or o.names e.index [] ++ suffix e.number
