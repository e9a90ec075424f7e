-- `packages::block::Package::import_len` meets its contract. Assumes nothing.
use mathlib.Core.Path.{◌≡◌, ap}
use mathlib.Core.List.{List, [], ◌++◌}
use Prim.Native.Nat.{ℕ, ◌+◌, ◌≤◌}
use native.Mathlib.Omega.{arith}
use borrow.Author.Rules.{rules}
use lib.ListN.{length, get_or, length-append}
use Rattle.text.specs.Digits.{hex}
use Rattle.text.specs.DigitsLaws.{length-hex}
use Rattle.base.specs.Index.{import_name, import_hash}
use Rattle.base.specs.Literal.{quoted}
use Rattle.text.specs.Utf8.{utf8}
use Rattle.batch.specs.Holds.{Holds, name_at}
use Rattle.batch.specs.declared.places.Place.{Place}
use Rattle.zen.specs.Zen.{imported_name}
use Rattle.packages.specs.Package.{read_in}
use Rattle.packages.specs.RefBytes.{import_bytes}
use Rattle.packages.proofs.block.Package.import_len.Goals as goal

four-length : (a n h x : List ℕ) → length ((a ++ n) ++ (h ++ x)) ≡ length a + length n + (length h + length x)
four-length a n h x = rw (length-append (a ++ n) (h ++ x), length-append a n, length-append h x)

size : (b : List ℕ) (x i n number : ℕ) (place : Place) → i ≡ import_name x → Holds b place (get_or (read_in b).imported i []) → number ≡ get_or (read_in b).numbers i 0
    → (n ≡ length (utf8 (name_at b place number))) × (n ≤ 131089) → 27 + n ≡ length (import_bytes (read_in b) x)
unfolding import_bytes
size b x i n number place e d f g =
    let name : imported_name (read_in b) (import_name x) ≡ name_at b place number = rw (f, d.text, ← e) in
    let h = hex 16 (get_or (read_in b).hashes (import_hash x) 0) in
    let all : length (import_bytes (read_in b) x) ≡ 8 + length (utf8 (imported_name (read_in b) (import_name x))) + (3 + length h) =
    four-length (quoted "package:") (utf8 (imported_name (read_in b) (import_name x))) (quoted "#0x") h in
    omega (arith, all, ap (λ (t : List ℕ). length (utf8 t)) name, length-hex 16 (get_or (read_in b).hashes (import_hash x) 0), g.0)

pub returns : goal.returns
returns c =
    let d = c.imported_name.ensures.1 in
    let n = c.imported_name.ensures.2 in
    (size _ _ _ _ _ _ c.import_name-i.ensures d n c.place_len.ensures, search rules)
