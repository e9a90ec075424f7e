-- Laws of an index's fields: how large each is, and that they make up the index. Assumes nothing.
use Rattle.std.specs.Prelude.{◌≡◌, ℕ, ◌+◌, ◌*◌, ◌^◌, ◌<◌}
use Rattle.std.proofs.Common.{arith}
use Rattle.base.specs.Index.{kind, value, name_index, import_name, import_hash}

-- one of four kinds
pub kind-lt : (x : ℕ) → x < 2 ^ 64 → kind x < 4
kind-lt x h = omega arith

-- 62 bits
pub value-lt : (x : ℕ) → value x < 2 ^ 62
value-lt x = omega arith

-- 30 bits
pub name_index-lt : (x : ℕ) → name_index x < 2 ^ 30
name_index-lt x = omega arith

-- 30 bits
pub import_name-lt : (x : ℕ) → import_name x < 2 ^ 30
import_name-lt x = omega arith

-- 32 bits
pub import_hash-lt : (x : ℕ) → import_hash x < 2 ^ 32
import_hash-lt x = omega arith

-- kind and value make up the index
pub kind-value : (x : ℕ) → x ≡ kind x * 2 ^ 62 + value x
kind-value x = omega arith

-- a name number and a hash number make up the value
pub import-value : (x : ℕ) → value x ≡ import_name x * 2 ^ 32 + import_hash x
import-value x = omega arith

-- a package import: kind 2, its name number and its hash number make up the index
pub import-fields : (x : ℕ) → kind x ≡ 2 → x ≡ 2 * 2 ^ 62 + import_name x * 2 ^ 32 + import_hash x
import-fields x h = omega arith
