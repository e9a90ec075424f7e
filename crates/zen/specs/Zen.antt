-- A package block (document 01, "zen.rs"; questions 3 to 7, 10, 14 to 22).
use Rattle.std.specs.Prelude.{List, [], ◌∷◌, ◌++◌, Bool, true, ◌&&◌, ℕ, ◌+◌, ◌-◌, ◌/◌, ◌%◌, get_or, leb, ltb, eqb}
use Rattle.base.specs.Reading.{Reading, give, ◌>>=◌, ◌>>◌, over-bytes, bytes_left, place, Block, u30, ask, rows}
use Rattle.std.specs.Int.Signed.{non_neg}
use Rattle.base.specs.Signed.{twos}
use Rattle.text.specs.Name.{suffix}
use Rattle.base.specs.Number.{le_at}
use Rattle.batch.specs.Field.{low30}
use Rattle.batch.specs.Batch.{u32, u64, Batch, batch}
use Rattle.zen.specs.declared.summary.Summary.{Summary}
use Rattle.zen.specs.declared.tables.Export.{Export}
use Rattle.zen.specs.declared.zen.Layout.{Layout}

-- an offset, as it is read: not negative? 16
unfoldable pub offset : Reading ℕ
offset = do
  x ← u32
  ask (non_neg (twos 32 x)) 16
  give x

-- mapped name, package flags and cooked size passed over, seven offsets
unfoldable pub summary : Reading Summary
summary = do
  i ← u30
  n ← u32
  over-bytes 4
  over-bytes 4
  os ← rows 7 offset
  give
      (record {
        index = i;
        number = n;
        hashes = get_or os 0 0;
        imports = get_or os 1 0;
        exports = get_or os 2 0;
        bundles = get_or os 3 0;
        headers = get_or os 4 0;
        entries = get_or os 5 0;
        imported = get_or os 6 0;
      })

-- the same by position
unfoldable pub summary_at : List ℕ → Summary
summary_at s = record {
  index = low30 s 8;
  number = le_at 4 s 12;
  hashes = le_at 4 s 24;
  imports = le_at 4 s 28;
  exports = le_at 4 s 32;
  bundles = le_at 4 s 36;
  headers = le_at 4 s 40;
  entries = le_at 4 s 44;
  imported = le_at 4 s 48;
}

-- each at least its predecessor (first: 52), and at most the header size
unfoldable pub ordered : Summary → ℕ → Bool
ordered m size =
    leb 52 m.hashes && leb m.hashes m.imports && leb m.imports m.exports && leb m.exports m.bundles && leb m.bundles
    m.headers && leb m.headers m.entries && leb m.entries m.imported && leb m.imported size

-- bulk size, bulk bytes passed over: not negative? 18; do they end at the public hashes? 19
unfoldable pub bulk : ℕ → Reading (Unit {0})
bulk stop = do
  z ← u64
  ask (non_neg (twos 64 z)) 18
  over-bytes z
  p ← place
  ask (eqb p stop) 19

-- serial fields passed over, mapped name, outer, class, super, template passed over, hash, flags and filter passed over
unfoldable pub export : Reading Export
export = do
  over-bytes 16
  i ← u30
  n ← u32
  o ← u64
  c ← u64
  p ← u64
  over-bytes 8
  h ← u64
  over-bytes 8
  give (record { index = i; number = n; outer = o; class = c; parent = p; hash = h })

-- the same by position
unfoldable pub export_at : List ℕ → ℕ → Export
export_at s at = record {
  index = low30 s (at + 16);
  number = le_at 4 s (at + 20);
  outer = le_at 8 s (at + 24);
  class = le_at 8 s (at + 32);
  parent = le_at 8 s (at + 40);
  hash = le_at 8 s (at + 56);
}

abbrev pub no_export : Export
no_export = record { index = 0; number = 0; outer = 0; class = 0; parent = 0; hash = 0 }

-- each export's name is in the batch
abbrev pub named : ℕ → List Export → Bool
named n [] = true
named n (e ∷ es) = ltb e.index n && named n es

pub record Tables : Type 0 where
  pub hashes : List ℕ
  pub exports : List Export

-- hashes and import map in eights? 20; exports in 72s? 21; each export's name? 10; what lies before the imported names is passed over
unfoldable pub tables : Summary → ℕ → Reading Tables
tables m n = do
  ask (eqb ((m.imports - m.hashes) % 8) 0) 20
  hs ← rows ((m.imports - m.hashes) / 8) u64
  ask (eqb ((m.exports - m.imports) % 8) 0) 20
  over-bytes (m.exports - m.imports)
  ask (eqb ((m.bundles - m.exports) % 72) 0) 21
  es ← rows ((m.bundles - m.exports) / 72) export
  ask (named n es) 10
  over-bytes (m.imported - m.bundles)
  give (record { hashes = hs; exports = es })

pub record Imports : Type 0 where
  pub batch : Batch
  pub numbers : List ℕ

-- imported names: a batch, then a number per name; nothing left? 22; package name? 10
unfoldable pub imports : ℕ → ℕ → Reading Imports
imports index count = do
  is ← batch
  ks ← rows is.place.count u32
  l ← bytes_left
  ask (eqb l 0) 22
  ask (ltb index count) 10
  give (record { batch = is; numbers = ks })

-- what a package says, and where
pub record Read : Type 0 where
  pub layout : Layout
  pub names : List (List ℕ)
  pub hashes : List ℕ
  pub exports : List Export
  pub imported : List (List ℕ)
  pub numbers : List ℕ

-- behind the summary
unfoldable pub content : ℕ → Summary → Reading Read
content size m = do
  ns ← batch
  bulk m.hashes
  t ← tables m ns.place.count
  is ← imports m.index ns.place.count
  give
      (record {
        layout = record { size = size; summary = m; names = ns.place; imported = is.batch.place };
        names = ns.texts;
        hashes = t.hashes;
        exports = t.exports;
        imported = is.batch.texts;
        numbers = is.numbers;
      })

-- within the header size
unfoldable pub header : ℕ → Reading Read
header size = do
  m ← summary
  ask (ordered m size) 17
  content size m

-- flag 0? 14; header size within the block? 15
unfoldable pub lead : Reading ℕ
lead = do
  f ← u32
  ask (eqb f 0) 14
  size ← u32
  l ← bytes_left
  ask (leb size (8 + l)) 15
  give size

-- only the header counts
abbrev pub package_block : Block Read
package_block = record { start = lead; rest = header }

-- an export's base, and its rendered name
abbrev pub base_of : Read → Export → List ℕ
base_of r e = get_or r.names e.index []

abbrev pub export_name : Read → Export → List ℕ
export_name r e = base_of r e ++ suffix e.number

-- imported name p, rendered
abbrev pub imported_name : Read → ℕ → List ℕ
imported_name r p = get_or r.imported p [] ++ suffix (get_or r.numbers p 0)

-- the package's name, rendered
abbrev pub package_name : Read → List ℕ
package_name r = get_or r.names r.layout.summary.index [] ++ suffix r.layout.summary.number
