-- Numbers, indices and answers, computed at their edges: each value here is another one where a definition is off by a bit, a byte or a case.
-- Assumes nothing.
use Rattle.std.specs.Prelude.{◌≡◌, refl, true, false, [], ◌∷◌, map, pos, negsuc}
use Rattle.base.specs.Number.{le, be, le_at, be_at, be_bytes}
use Rattle.base.specs.Signed.{twos}
use Rattle.base.specs.SignedSize.{size_of, size_in}
use Rattle.base.specs.Index.{kind, value, name_index, import_name, import_hash}
use Rattle.base.specs.Answer.{refusal, is_refusal, question_of, block_of}
use Rattle.base.specs.Output.{over}
use Rattle.std.specs.Prelude.{Some, None}

-- ---- numbers

pub record Numbers : Type 0 where
  pub little : le (1 ∷ 2 ∷ 3 ∷ []) ≡ 0x030201
  pub big : be (1 ∷ 2 ∷ 3 ∷ []) ≡ 0x010203
  pub little-at : le_at 2 (1 ∷ 2 ∷ 3 ∷ 4 ∷ []) 1 ≡ 0x0302
  pub big-at : be_at 2 (1 ∷ 2 ∷ 3 ∷ 4 ∷ []) 1 ≡ 0x0203
  pub bytes : be_bytes 3 0x01020304 ≡ 2 ∷ 3 ∷ 4 ∷ []
  -- "An offset is a signed number": the sign's edge, and -1
  pub signed : map (twos 32) (0 ∷ 0x7FFFFFFF ∷ 0x80000000 ∷ 0xFFFFFFFF ∷ []) ≡ pos 0 ∷ pos 0x7FFFFFFF ∷ negsuc 0x7FFFFFFF ∷ negsuc 0 ∷ []
  pub sizes : map (size_in 32) (0x7FFFFFFF ∷ 0x80000000 ∷ []) ≡ Some 0x7FFFFFFF ∷ None ∷ []
  pub sizes_of : map size_of (pos 7 ∷ negsuc 7 ∷ []) ≡ Some 7 ∷ None ∷ []
  -- a buffer of four bytes whose first two are new
  pub front : over (1 ∷ 2 ∷ 3 ∷ 4 ∷ []) (8 ∷ 9 ∷ []) ≡ 8 ∷ 9 ∷ 3 ∷ 4 ∷ []

pub numbers : Numbers
unfolding le_at be_at be_bytes twos size_in over
numbers = record {
  little = refl;
  big = refl;
  little-at = refl;
  big-at = refl;
  bytes = refl;
  signed = refl;
  sizes = refl;
  sizes_of = refl;
  front = refl;
}

-- ---- indices and answers

pub record Fields : Type 0 where
  -- "An index's kind is its top two bits"
  pub kinds : map kind (0x3FFFFFFFFFFFFFFF ∷ 0x4000000000000000 ∷ 0x8000000000000000 ∷ 0xFFFFFFFFFFFFFFFF ∷ []) ≡ 0 ∷ 1 ∷ 2 ∷ 3 ∷ []
  -- the 62 bits below it
  pub low_62 : value 0xF345678BABCDEF01 ≡ 0x3345678BABCDEF01
  -- "kind 2 holds bits 32 to 61 as name number p and bits 0 to 31 as hash number h"
  pub name-half : import_name 0xF345678BABCDEF01 ≡ 0x3345678B
  pub hash-half : import_hash 0xF345678BABCDEF01 ≡ 0xABCDEF01
  -- "low 30 bits index the batch"
  pub low_30 : name_index 0xF345678B ≡ 0x3345678B
  -- "bit 63 set, the refusal in bits 32 to 39, the block in bits 0 to 31"
  pub packed : refusal 26 7 ≡ 0x8000001A00000007
  pub question : question_of 0x8000035B80000007 ≡ 0x5B
  pub block : block_of 0x8000035B80000007 ≡ 0x80000007
  pub refused : map is_refusal (0x7FFFFFFFFFFFFFFF ∷ 0x8000000000000000 ∷ []) ≡ false ∷ true ∷ []

pub fields : Fields
fields = record {
  kinds = refl;
  low_62 = refl;
  name-half = refl;
  hash-half = refl;
  low_30 = refl;
  packed = refl;
  question = refl;
  block = refl;
  refused = refl;
}
