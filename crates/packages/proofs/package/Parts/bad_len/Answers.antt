-- `packages::package::Parts::bad_len` meets its contract, by the kind. Assumes nothing.
use mathlib.Core.Path.{◌≡◌, sym, ap}
use mathlib.Core.Bool.{Bool, cond}
use mathlib.Core.List.{List, ◌++◌}
use Prim.Native.Nat.{ℕ, ◌+◌, ◌≤◌}
use native.Mathlib.Omega.{arith}
use borrow.Author.Rules.{rules}
use borrow.Author.Tests.{eq-eqb, ne_eqb}
use lib.ListN.{length, length-append}
use Rattle.text.specs.Digits.{decimal}
use Rattle.base.specs.Index.{kind, import_name, import_hash}
use Rattle.base.specs.Literal.{quoted}
use Rattle.packages.specs.RefBytes.{import_bad, export_bad, bad_by}
use Rattle.packages.specs.declared.package.Parts.{Parts}
use Rattle.packages.proofs.KindNumbers.{not-import}
use Rattle.packages.proofs.package.Parts.bad_len.Goals as goal

nine-length : (a b c d e f g h i : List ℕ) → length ((((a ++ b) ++ (c ++ d)) ++ ((e ++ f) ++ (g ++ h))) ++ i)
    ≡ length a + length b + (length c + length d) + (length e + length f + (length g + length h)) + length i
nine-length a b c d e f g h i = simp length-append

five-length : (a b c d e : List ℕ) → length (((a ++ b) ++ (c ++ d)) ++ e) ≡ length a + length b + (length c + length d) + length e
five-length a b c d e = simp length-append

module _ (p : Parts) (x : ℕ) where
  imports : (n h a b c d : ℕ) → 2 ≡ kind x → n ≡ import_name x → h ≡ import_hash x → (a ≡ length (decimal n)) × (a ≤ 20) → (b ≡ length (decimal h)) × (b ≤ 20)
      → (c ≡ length (decimal p.imported.count)) × (c ≤ 20) → (d ≡ length (decimal p.publics)) × (d ≤ 20)
      → 44 + a + b + c + d ≡ length (bad_by p x)
  unfolding bad_by import_bad
  imports n h a b c d f e g i j k l =
      let all : length (import_bad p x) ≡ 15 + length (decimal (import_name x)) + (1 + length (decimal (import_hash x))) + (9 + length (decimal p.imported.count) + (12 + length (decimal p.publics))) + 7 =
      nine-length (quoted "package import ") (decimal (import_name x)) (quoted "/") (decimal (import_hash x)) (quoted " outside ") (decimal p.imported.count) (quoted " packages / ") (decimal p.publics) (quoted " hashes") in
      let t : length (bad_by p x) ≡ length (import_bad p x) = ap (λ (t : Bool). length (cond t (import_bad p x) (export_bad p x))) (eq-eqb (kind x) 2 (sym f)) in
      omega (arith, all, t, ap (λ (m : ℕ). length (decimal m)) e, ap (λ (m : ℕ). length (decimal m)) g, i.0, j.0, k.0, l.0)

  exports : (a b : ℕ) → (kind x ≡ 2 → ⊥) → (a ≡ length (decimal x)) × (a ≤ 20) → (b ≡ length (decimal p.count)) × (b ≤ 20)
      → 30 + a + b ≡ length (bad_by p x)
  unfolding bad_by export_bad
  exports a b f i j =
      let all : length (export_bad p x) ≡ 13 + length (decimal x) + (9 + length (decimal p.count)) + 8 =
      five-length (quoted "local export ") (decimal x) (quoted " outside ") (decimal p.count) (quoted " exports") in
      let t : length (bad_by p x) ≡ length (export_bad p x) = ap (λ (t : Bool). length (cond t (import_bad p x) (export_bad p x))) (ne_eqb (kind x) 2 f) in
      omega (arith, all, t, i.0, j.0)

pub returns-in-Import : goal.returns-in-Import
returns-in-Import c =
    let k : 2 ≡ kind c.args.index = c.in-Import.ensures in
    (search imports, search rules)

pub returns-in_default : goal.returns-in_default
returns-in_default c =
    let k = not-import _ _ c.index_kind.ensures c.in_default.not-Import in
    (search exports, search rules)
