-- What a checked description leaves to be written, part by part: numbers that fit, bytes that are there, and room for each part. Assumes nothing.
use mathlib.Core.Path.{◌≡◌, refl, sym}
use mathlib.Core.Bool.{Bool, true, false, cond}
use mathlib.Core.List.{List, ◌++◌}
use Prim.Native.Nat.{ℕ, ◌+◌, ◌*◌, ◌^◌, ◌≤◌, ◌<◌}
use native.Mathlib.Omega.{arith}
use borrow.Author.Tests.{eqb-true}
use lib.Dec.{eqb}
use lib.ListN.{length}
use Rattle.base.specs.Find.{flat}
use Rattle.base.specs.Number.{be_at, le_bytes}
use Rattle.base.specs.ReadingRows.{cells}
use Rattle.written.specs.BatchBytes.{batch_bytes}
use Rattle.written.specs.HeaderBytes.{export_bytes, imported_bytes, content_bytes, header_with, header_of, longest_header}
use Rattle.header.specs.Places.{texts_from, export_in, imported_from, text_count, hashes_place, imported_place, imported_count, description_at}
use Rattle.header.specs.Parts.{texts_fit, strings_from, Whole, parts_of, batch_of, regions_of, Small, summary_words, tables_bytes}
use Rattle.header.specs.PartsLaws.{strings_bound}
use Rattle.header.specs.RegionLaws.{number_bytes, starts}
use Rattle.header.specs.WritingLaws.{content-parts, summary-is, imported-parts}
use Rattle.header.specs.declared.check.Parts.{Parts}
use Rattle.header.specs.declared.check.Regions.{Regions}

texts-is : (s : List ℕ) → texts_from 0 s 17 (parts_of s).texts ≡ (description_at s).texts
unfolding parts_of description_at
texts-is s = refl

-- a batch is no shorter than it has names and bytes in strings
batch-least : (count strings : ℕ) → strings ≤ 65534 * count → (count ≤ batch_of count strings) × (strings ≤ batch_of count strings)
unfolding batch_of
batch-least count strings h = go (eqb count 0) refl
  where
    go : (b : Bool) → eqb count 0 ≡ b → (count ≤ cond b 4 (16 + 10 * count + strings)) × (strings ≤ cond b 4 (16 + 10 * count + strings))
    go true e = let z = eqb-true count 0 e in (omega arith, omega arith)
    go false e = (omega arith, omega arith)

-- what a batch of texts asks for
pub record Batch (s : List ℕ) (more from count strings : ℕ) : Type 0 where
  pub fits : texts_fit more s from count ≡ true
  pub few : count < 2 ^ 32
  pub short : strings < 2 ^ 32
  pub is : strings ≡ strings_from more s from count

module _ (s : List ℕ) (w : Whole s) where
  -- each number is within the longest header
  pub record Within (g : Regions) (p : Parts) : Type 0 where
    pub hashes : g.hashes ≤ longest_header
    pub exports : g.exports ≤ longest_header
    pub imported : g.imported ≤ longest_header
    pub size : g.size ≤ longest_header
    pub texts : p.texts ≤ longest_header
    pub strings : p.strings ≤ longest_header
    pub entries : p.entries ≤ longest_header
    pub keys : p.keys ≤ longest_header
    pub names : p.names ≤ longest_header
    pub spelt : p.spelt ≤ longest_header

  string_bounds : ((parts_of s).strings ≤ 65534 * (parts_of s).texts) × ((parts_of s).spelt ≤ 65534 * (parts_of s).names)
  unfolding parts_of
  string_bounds = (strings_bound 0 s 17 (text_count s) w.texts, strings_bound 4 s (imported_place s + 4) (imported_count s) w.names)

  whole-within : Within (regions_of (parts_of s)) (parts_of s)
  unfolding regions_of
  whole-within =
      let p = parts_of s in
      let z : (regions_of p).size ≤ longest_header = omega (arith, (starts s).size, w.size) in
      let (a, b) = batch-least p.texts p.strings string_bounds.0 in
      let (c, d) = batch-least p.names p.spelt string_bounds.1 in
      record {
        hashes = omega arith;
        exports = omega arith;
        imported = omega arith;
        size = omega arith;
        texts = omega arith;
        strings = omega arith;
        entries = omega arith;
        keys = omega arith;
        names = omega arith;
        spelt = omega arith;
      }

  pub within : (g : Regions) → g ≡ regions_of (parts_of s) → Within g (parts_of s)
  within g e = rw e whole-within

  module _ (p : Parts) (e : p ≡ parts_of s) where
    pub small : Small p
    small =
        let k = whole-within in
        rw e (record {
          texts = omega (arith, k.texts);
          strings = string_bounds.0;
          exports = omega (arith, k.entries);
          hashes = omega (arith, k.keys);
          imported = omega (arith, k.names);
          spelt = string_bounds.1;
        })

    -- ---- the batches

    pub texts-batch : Batch s 0 17 p.texts p.strings
    unfolding parts_of
    texts-batch =
        let k = whole-within in
        rw e (record { fits = w.texts; few = omega (arith, k.texts); short = omega (arith, k.strings); is = refl })

    pub names-batch : Batch s 4 p.imported p.names p.spelt
    unfolding parts_of
    names-batch =
        let k = whole-within in
        rw e (record { fits = w.names; few = omega (arith, k.names); short = omega (arith, k.spelt); is = refl })

    -- ---- what is there

    pub hashes-there : p.hashes + 8 * p.keys ≤ length s
    unfolding parts_of imported_place
    hashes-there = rw e (omega (arith, w.imported))

    pub exports-there : p.exports + 40 * p.entries ≤ length s
    unfolding parts_of hashes_place
    exports-there = rw e (omega (arith, w.hashes))

    -- ---- the parts together

    pub tables-made : le_bytes 8 0 ++ flat (le_bytes 8) (cells (be_at 8 s) 8 p.hashes p.keys) ++ flat export_bytes (cells (export_in s) 40 p.exports
        p.entries)
        ≡ tables_bytes (description_at s)
    unfolding tables_bytes description_at parts_of
    tables-made = rw e

    pub imported-made : batch_bytes (texts_from 4 s p.imported p.names) ++ flat number_bytes (imported_from s p.imported p.names)
        ≡ imported_bytes (description_at s).imported
    unfolding parts_of
    imported-made = rw e (sym (imported-parts s))

    pub content-made : batch_bytes (texts_from 0 s 17 p.texts) ++ tables_bytes (description_at s) ++ imported_bytes (description_at s).imported
        ≡ content_bytes (description_at s)
    content-made = rw texts-are (sym (content-parts (description_at s)))
      where
        texts-are : texts_from 0 s 17 p.texts ≡ (description_at s).texts
        texts-are = rw e (texts-is s)

pub header_made : (s : List ℕ) (g : Regions) → g ≡ regions_of (parts_of s)
    → flat (le_bytes 4) (summary_words s g) ++ content_bytes (description_at s) ≡ header_of (description_at s)
unfolding header_of header_with
header_made s g e = rw (e, summary-is s)
