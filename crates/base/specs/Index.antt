-- The fields of an object index and of a mapped name's index (document 01: "An index's kind is its top two bits", "low 30
-- bits index the batch", "kind 2 holds bits 32 to 61 as name number p and bits 0 to 31 as hash number h"). Assumes nothing.
use Rattle.std.specs.Prelude.{ℕ, ◌/◌, ◌%◌, ◌^◌}

-- 0 export, 1 script, 2 package import, 3 null
abbrev pub kind : ℕ → ℕ
kind x = x / 2 ^ 62

-- the 62 bits below the kind
abbrev pub value : ℕ → ℕ
value x = x % 2 ^ 62

-- a mapped name's index into its batch
abbrev pub name_index : ℕ → ℕ
name_index x = x % 2 ^ 30

-- a package import's name number and hash number
abbrev pub import_name : ℕ → ℕ
import_name x = x / 2 ^ 32 % 2 ^ 30

abbrev pub import_hash : ℕ → ℕ
import_hash x = x % 2 ^ 32
