-- Laws of a header's sizes: those that the code adds up are those of what is described. Assumes nothing.
use Rattle.std.specs.Prelude.{◌≡◌, List, [], ◌∷◌, length}
use Rattle.std.proofs.Math.Path.{refl, ap}
use Rattle.std.proofs.Common.{◌∙◌, arith, ne_eqb}
use Prim.Native.Nat.{ℕ, zero, suc, ◌+◌, ◌*◌}
use Rattle.std.proofs.Math.ListN.{length-append}
use Rattle.base.specs.Find.{flat}
use Rattle.base.specs.Number.{be_at}
use Rattle.base.specs.NumberLaws.{length-le_bytes}
use Rattle.base.specs.ReadingRows.{cells-length}
use Rattle.written.specs.BatchBytes.{le4, string_bytes, batch_bytes}
use Rattle.written.specs.HeaderBytes.{ImportedName, Description, imported_texts, imported_bytes, hashes_start, exports_start, imported_start, header_size}
use Rattle.header.specs.Places.{next_text, texts_from, imported_from, export_in}
use Rattle.header.specs.Places.{text_count, exports_place, export_count, hashes_place, hash_count, imported_place, imported_count, description_at}
use Rattle.header.specs.TextLoops.{texts-count, imported_texts_lem}
use Rattle.header.specs.Parts.{strings_from, parts_of}
use Rattle.header.specs.Parts.{batch_of, hashes_from, exports_from, imported_on, regions_of}
use Rattle.base.specs.FindLaws.{length-each}
use Rattle.description.specs.BatchFront.{batch_size, length-batch}
use Rattle.header.specs.declared.check.Parts.{Parts}

module _ (s : List ℕ) where
  pub imported-length : (at n : ℕ) → length (imported_from s at n) ≡ n
  unfolding imported_from
  imported-length at zero = refl
  imported-length at (suc n) = ap suc (imported-length (next_text 4 s at) n)

batch_size_lem : (ts : List (List ℕ)) → batch_size ts ≡ batch_of (length ts) (length (flat string_bytes ts))
unfolding batch_of
batch_size_lem [] = refl
batch_size_lem (t ∷ ts) = rw (ne_eqb (length (t ∷ ts)) 0 (λ e. omega arith)) (omega arith)

pub batch-length : (ts : List (List ℕ)) → length (batch_bytes ts) ≡ batch_of (length ts) (length (flat string_bytes ts))
batch-length ts = length-batch ts ∙ batch_size_lem ts

-- a batch by position
pub texts-batch : (more : ℕ) (s : List ℕ) (at n : ℕ) → length (batch_bytes (texts_from more s at n)) ≡ batch_of n (strings_from more s at n)
unfolding strings_from
texts-batch more s at n = batch-length (texts_from more s at n) ∙ rw (texts-count more s n at)

abbrev pub number_bytes : ImportedName → List ℕ
number_bytes i = le4 i.number

pub numbers-length : (is : List ImportedName) → length (flat number_bytes is) ≡ 4 * length is
numbers-length is = length-each number_bytes 4 (λ (i : ImportedName). length-le_bytes 4 i.number) is

-- where the regions start
pub record Starts (s : List ℕ) : Type 0 where
  pub hashes : (regions_of (parts_of s)).hashes ≡ hashes_start (description_at s)
  pub exports : (regions_of (parts_of s)).exports ≡ exports_start (description_at s)
  pub imported : (regions_of (parts_of s)).imported ≡ imported_start (description_at s)
  pub size : (regions_of (parts_of s)).size ≡ header_size (description_at s)

module _ (s : List ℕ) where
  abbrev d : Description
  d = description_at s

  abbrev p : Parts
  p = parts_of s

  hashes-is : hashes_from p ≡ hashes_start d
  unfolding hashes_start description_at parts_of
  hashes-is = rw (texts-batch 0 s 17 (text_count s))

  exports-is : exports_from p ≡ exports_start d
  unfolding exports_start description_at parts_of
  exports-is = rw (hashes-is, cells-length (be_at 8 s) 8 (hashes_place s + 4) (hash_count s))

  imported-is : imported_on p ≡ imported_start d
  unfolding imported_start description_at parts_of
  imported-is = rw (exports-is, cells-length (export_in s) 40 (exports_place s + 4) (export_count s))

  names-length : length (imported_bytes d.imported) ≡ batch_of p.names p.spelt + 4 * p.names
  unfolding imported_bytes description_at parts_of
  names-length =
      let at = imported_place s + 4 in
      let n = imported_count s in
      rw (
        length-append (batch_bytes (imported_texts (imported_from s at n))) (flat number_bytes (imported_from s at n)),
        imported_texts_lem s n at,
        texts-batch 4 s at n,
        numbers-length (imported_from s at n),
        imported-length s at n,
      )

  size_is : imported_on p + batch_of p.names p.spelt + 4 * p.names ≡ header_size d
  unfolding header_size
  size_is = rw (← imported-is, names-length) (omega arith)

  pub starts : Starts s
  unfolding regions_of
  starts = record { hashes = hashes-is; exports = exports-is; imported = imported-is; size = size_is }
