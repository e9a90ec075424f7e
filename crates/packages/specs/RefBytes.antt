-- The bytes of a reference's text, part by part as they are written. Assumes nothing.
use Rattle.std.specs.Prelude.{cond, List, ◌++◌, ℕ, eqb, get_or}
use Rattle.text.specs.Digits.{decimal, hex}
use Rattle.base.specs.Index.{kind, import_name, import_hash}
use Rattle.base.specs.Literal.{quoted}
use Rattle.text.specs.Utf8.{utf8}
use Rattle.zen.specs.Zen.{Read, no_export, export_name, imported_name}
use Rattle.meaning.specs.Reference.{ref_in, ref_text}
use Rattle.packages.specs.Package.{package_in}
use Rattle.packages.specs.declared.package.Parts.{Parts}

-- the text of an index's reference; whatever the package's id, `text_any`
unfoldable pub ref_bytes : List ℕ → ℕ → List ℕ
ref_bytes b x = utf8 (ref_text (ref_in (package_in 0 b) x))

-- "`package:NAME#0x` and the hash in 16"
unfoldable pub import_bytes : Read → ℕ → List ℕ
import_bytes r x =
    (quoted "package:" ++ utf8 (imported_name r (import_name x))) ++ (quoted "#0x" ++ hex 16 (get_or r.hashes (import_hash x) 0))

-- "`export:NAME`"
unfoldable pub export_bytes : Read → ℕ → List ℕ
export_bytes r i = quoted "export:" ++ utf8 (export_name r (get_or r.exports i no_export))

-- "`package import P/H outside N packages / M hashes` (p, h, imported names, hashes)", with the counts that the parts have
unfoldable pub import_bad : Parts → ℕ → List ℕ
import_bad p x =
    (((quoted "package import " ++ decimal (import_name x)) ++ (quoted "/" ++ decimal (import_hash x)))
    ++ ((quoted " outside " ++ decimal p.imported.count) ++ (quoted " packages / " ++ decimal p.publics)))
    ++ quoted " hashes"

-- "`local export I outside N exports` (index, exports of the package)"
unfoldable pub export_bad : Parts → ℕ → List ℕ
export_bad p x = ((quoted "local export " ++ decimal x) ++ (quoted " outside " ++ decimal p.count)) ++ quoted " exports"

unfoldable pub bad_by : Parts → ℕ → List ℕ
bad_by p x = cond (eqb (kind x) 2) (import_bad p x) (export_bad p x)
