-- `class_ref` (document 01): what an index means in a package, and the reference text. Assumes nothing.
use Rattle.std.specs.Prelude.{List, ◌++◌, ℕ, zero, suc, length}
use Rattle.std.proofs.Math.Option.{Option, none, some}
use Rattle.text.specs.Digits.{decimal, hex}
use Rattle.base.specs.Find.{get}
use Rattle.ids.specs.Id.{id_of}
use Rattle.base.specs.Index.{kind, import_name, import_hash}
use Rattle.base.specs.Literal.{quoted}
use Rattle.zen.specs.Zen.{Read, export_name, imported_name}
use Rattle.zen.specs.declared.tables.Export.{Export}
use Rattle.meaning.specs.Key.{Key, public}

-- a package that was read: its id in the corpus, and what its block says
pub record Package : Type 0 where
  pub id : ℕ
  pub read : Read

pub data Ref : Type 0 where
  -- a script object's global index
  script : ℕ → Ref
  -- the key that a package import means, the imported name and the hash
  import : Key → List ℕ → ℕ → Ref
  -- the key that an export of the same package means, and its name
  export : Key → List ℕ → Ref
  null : Ref
  -- "the reference is bad", with its text
  bad : List ℕ → Ref

-- "`package import P/H outside N packages / M hashes` (p, h, imported names, hashes)"
unfoldable pub bad_import : Read → ℕ → List ℕ
bad_import r x =
    quoted "package import " ++ decimal (import_name x) ++ quoted "/" ++ decimal (import_hash x) ++ quoted " outside " ++ decimal (length r.imported)
    ++ quoted " packages / " ++ decimal (length r.hashes) ++ quoted " hashes"

-- "`local export I outside N exports` (index, exports of the package)"
unfoldable pub bad_export : Read → ℕ → List ℕ
bad_export r x = quoted "local export " ++ decimal x ++ quoted " outside " ++ decimal (length r.exports) ++ quoted " exports"

-- "Kind 0 means the same package's export, numbered from 0: key (own id, its hash)"
abbrev pub export_ref : Package → ℕ → Option Export → Ref
export_ref p x none = bad (bad_export p.read x)
export_ref p x (some e) = export (public p.id e.hash) (export_name p.read e)

-- "key (id of imported name p, hash h)"; "Where name p, hash h or that export doesn't exist, the reference is bad"
abbrev pub import_ref : Package → ℕ → Option (List ℕ) → Option ℕ → Ref
import_ref p x none h = bad (bad_import p.read x)
import_ref p x (some t) none = bad (bad_import p.read x)
import_ref p x (some t) (some h) = import (public (id_of (imported_name p.read (import_name x))) h) (imported_name p.read (import_name x)) h

abbrev pub ref_by : Package → ℕ → ℕ → Ref
ref_by p x zero = export_ref p x (get p.read.exports x)
ref_by p x (suc zero) = script x
ref_by p x (suc (suc zero)) = import_ref p x (get p.read.imported (import_name x)) (get p.read.hashes (import_hash x))
ref_by p x (suc (suc (suc k))) = null

-- what an index means in a package
unfoldable pub ref_in : Package → ℕ → Ref
ref_in p x = ref_by p x (kind x)

-- "`script:0x` and the whole index in 16 hex digits (lower case); `package:NAME#0x` and the hash in 16; `export:NAME`; `null`"
unfoldable pub ref_text : Ref → List ℕ
ref_text (script g) = quoted "script:0x" ++ hex 16 g
ref_text (import k name hash) = quoted "package:" ++ name ++ quoted "#0x" ++ hex 16 hash
ref_text (export k name) = quoted "export:" ++ name
ref_text null = quoted "null"
ref_text (bad t) = t

-- the key that a reference means, if it means one
abbrev pub meant : Ref → Option Key
meant (script g) = none
meant (import k name hash) = some k
meant (export k name) = some k
meant null = none
meant (bad t) = none
