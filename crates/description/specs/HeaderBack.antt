-- The whole header that was written is read back: what describes it comes out again.
use Rattle.std.specs.Prelude.{◌≡◌, true, ltb, eqb, take, drop}
use Rattle.std.proofs.Math.Path.{refl, ap}
use Rattle.std.proofs.Common.{sym, ◌∙◌, mod-eq_of_lt, arith, length-append, take_all, take_at, drop_at}
use mathlib.Core.List.{List, [], ◌∷◌, ◌++◌, map, append_assoc, append-nil}
use Prim.Native.Nat.{ℕ, ◌+◌, ◌*◌, ◌-◌, ◌^◌, ◌≤◌, ◌<◌}
use borrow.Author.Tests.{le-leb, lt-ltb}
use Rattle.std.proofs.Math.ListN.{length, length-map}
use Rattle.base.specs.Find.{flat}
use Rattle.base.specs.FindLaws.{length-each}
use Rattle.base.specs.Number.{le_at, le_bytes}
use Rattle.base.specs.NumberLaws.{length-le_bytes, le-le_bytes, le_at-is}
use Rattle.base.specs.Perm.{All}
use Rattle.base.specs.Reading.{gives, got, Reading, give, run, walk, run_block, ◌>>=◌, ◌>>◌, bytes_left, ask, rows}
use Rattle.base.specs.ReadingLaws.{bind_assoc, block_read}
use Rattle.base.specs.ReadingFrontRows.{ask-yes, rows-front}
use Rattle.batch.specs.Batch.{u32, Batch, batch}
use Rattle.written.specs.BatchBytes.{le4, le8, string_bytes, batch_bytes}
use Rattle.zen.proofs.BlockLaws.{lead_is}
use Rattle.written.specs.HeaderBytes.{ImportedName, Description, imported_texts, export_bytes, imported_bytes, hashes_start, exports_start, imported_start, header_size}
use Rattle.written.specs.HeaderBytes.{offsets_of, summary_bytes, content_bytes, header_with, header_of, longest_header, paired, described}
use Rattle.zen.specs.Zen.{ordered, bulk, named, Tables, tables, Imports, imports, Read, content, header, lead, package_block}
use Rattle.zen.specs.declared.summary.Summary.{Summary}
use Rattle.description.specs.BatchFront.{NameFits, names_for, batch_size, batch-front, length-batch}
use Rattle.description.specs.HeaderFront.{ExportFits, NumberFits, HashFits, summary_for, seven, length-export}
use Rattle.description.specs.HeaderFront.{number-front, summary-front, bulk-front, tables-front}

-- ---- the imported names

names-count : (at : ℕ) (ts : List (List ℕ)) → (names_for at ts).count ≡ length ts
names-count at [] = refl
names-count at (t ∷ ts) = refl

abbrev pub number_bytes : ImportedName → List ℕ
number_bytes i = le4 i.number

abbrev pub numbers_of : List ImportedName → List ℕ
numbers_of names = map (λ (i : ImportedName). i.number) names

abbrev pub batch_for : ℕ → List (List ℕ) → Batch
batch_for at ts = record { place = names_for at ts; texts = ts }

abbrev pub imports_for : ℕ → List ImportedName → Imports
imports_for at names = record { batch = batch_for at (imported_texts names); numbers = numbers_of names }

module _ {A : Type 0} (k : Imports → Reading A) (index count : ℕ) (within : index < count) (names : List ImportedName)
    (texts_fit_lem : All NameFits (imported_texts names)) (few : length (imported_texts names) < 256 ^ 4)
    (strings : length (flat string_bytes (imported_texts names)) < 256 ^ 4) (numbers_fit : All NumberFits names) where
  last : Batch → List ℕ → Reading Imports
  last b ks = bytes_left >>= λ l. ask (eqb l 0) 22 >> (ask (ltb index count) 10 >> give (record { batch = b; numbers = ks }))

  last-front : (b : Batch) (ks : List ℕ) (at : ℕ) → run (last b ks >>= k) at [] ≡ run (k (record { batch = b; numbers = ks })) at []
  unfolding last
  last-front b ks at = ap (λ q. run q at []) (ask-yes 10 (give (record { batch = b; numbers = ks })) k (lt-ltb index count within))

  numbered-front : (b : Batch) (at : ℕ)
      → run ((rows (length names) u32 >>= last b) >>= k) at (flat number_bytes names)
      ≡ run (k (record { batch = b; numbers = numbers_of names })) (at + length (flat number_bytes names)) []
  numbered-front b at =
      ap (λ q. run q at (flat number_bytes names)) (bind_assoc (rows (length names) u32) (last b) k)
      ∙ (ap (λ s. run (rows (length names) u32 >>= λ ks. last b ks >>= k) at s) (sym (append-nil (flat number_bytes names)))
      ∙ (rows-front u32 number_bytes (λ (i : ImportedName). i.number) NumberFits (λ i. number-front 4 i.number) names numbers_fit
      (λ ks. last b ks >>= k) at []
      ∙ last-front b (numbers_of names) (at + length (flat number_bytes names))))

  imports-front : (at : ℕ)
      → run (imports index count >>= k) at (imported_bytes names)
      ≡ run (k (imports_for at names)) (at + batch_size (imported_texts names) + length (flat number_bytes names)) []
  unfolding imports imported_bytes last
  imports-front at =
      let ts = imported_texts names in
      let b = batch_for at ts in
      let a = at + batch_size ts in
      ap (λ q. run q at (batch_bytes ts ++ flat number_bytes names)) (bind_assoc batch (λ b. rows b.place.count u32 >>= last b) k)
      ∙ (batch-front (λ b. (rows b.place.count u32 >>= last b) >>= k) ts texts_fit_lem few strings at (flat number_bytes names)
      ∙ (ap (λ n. run ((rows n u32 >>= last b) >>= k) a (flat number_bytes names)) (names-count at ts ∙ length-map names (λ (i : ImportedName). i.text))
      ∙ numbered-front b a))

-- ---- the header

-- a description whose header can be written, part by part
pub record Good (d : Description) : Type 0 where
  pub name : d.name < length d.texts
  pub named-all : named (length d.texts) d.exports ≡ true
  pub number : d.number < 256 ^ 4
  pub texts : All NameFits d.texts
  pub exports : All ExportFits d.exports
  pub hashes : All HashFits d.hashes
  pub imported : All NameFits (imported_texts d.imported)
  pub numbers : All NumberFits d.imported
  pub size : header_size d ≤ longest_header

-- each name takes ten bytes and its string
pub batch_bound : (ts : List (List ℕ)) → (10 * length ts ≤ batch_size ts) × (length (flat string_bytes ts) ≤ batch_size ts)
batch_bound [] = (omega arith, omega arith)
batch_bound (t ∷ ts) = (omega arith, omega arith)

-- where the regions start
pub record Starts (d : Description) : Type 0 where
  pub hashes : 52 + batch_size d.texts + 8 ≡ hashes_start d
  pub exports : exports_start d ≡ hashes_start d + 8 * length d.hashes
  pub imported : imported_start d ≡ exports_start d + 72 * length d.exports
  pub size : header_size d ≡ imported_start d + batch_size (imported_texts d.imported) + 4 * length d.imported

pub starts : (d : Description) → Starts d
unfolding hashes_start exports_start imported_start header_size imported_bytes
starts d =
    let ts = imported_texts d.imported in
    record {
      hashes = rw (length-batch d.texts);
      exports = refl;
      imported = refl;
      size =
          rw (
            length-append (batch_bytes ts) (flat number_bytes d.imported),
            length-batch ts,
            length-each number_bytes 4 (λ (i : ImportedName). length-le_bytes 4 i.number) d.imported,
          ) (omega arith);
    }

-- as it is read
abbrev pub summary_of : Description → Summary
summary_of d = summary_for d.name d.number (hashes_start d) (exports_start d) (imported_start d)

abbrev pub read_for : Description → Read
read_for d = record {
  layout = record {
    size = header_size d;
    summary = summary_of d;
    names = names_for 52 d.texts;
    imported = names_for (imported_start d) (imported_texts d.imported);
  };
  names = d.texts;
  hashes = d.hashes;
  exports = d.exports;
  imported = imported_texts d.imported;
  numbers = numbers_of d.imported;
}

nested : (d : Description) → content_bytes d
    ≡ batch_bytes d.texts ++ (le8 0 ++ (flat le8 d.hashes ++ (flat export_bytes d.exports ++ imported_bytes d.imported)))
unfolding content_bytes
nested d = simp append_assoc

-- a batch within the header
pub few-names : (size : ℕ) (ts : List (List ℕ)) → size ≤ longest_header → batch_size ts ≤ size → (length ts < 2 ^ 30) × (length (flat string_bytes ts) < 256 ^ 4)
few-names size ts h l = let (n, s) = batch_bound ts in (omega arith, omega arith)

module _ (d : Description) (g : Good d) where
  pub names-few : (length d.texts < 2 ^ 30) × (length (flat string_bytes d.texts) < 256 ^ 4)
  names-few = let s = starts d in few-names (header_size d) d.texts g.size (omega (arith, s.hashes, s.exports, s.imported, s.size))

  imported-few : (length (imported_texts d.imported) < 2 ^ 30) × (length (flat string_bytes (imported_texts d.imported)) < 256 ^ 4)
  imported-few = let s = starts d in few-names (header_size d) (imported_texts d.imported) g.size (omega (arith, s.size))

  tables_end : hashes_start d + length (flat le8 d.hashes) + length (flat export_bytes d.exports) ≡ imported_start d
  tables_end =
      let s = starts d in
      rw (length-each le8 8 (length-le_bytes 8) d.hashes, length-each export_bytes 72 length-export d.exports) (omega (arith, s.exports, s.imported))

  content-front : run (content (header_size d) (summary_of d)) 52 (content_bytes d) ≡ gives (read_for d)
  unfolding content
  content-front =
      let m = summary_of d in
      let s = starts d in
      let n = length d.texts in
      let final : Batch → Tables → Imports → Reading Read = λ ns t is. give (record {
        layout = record { size = header_size d; summary = summary_of d; names = ns.place; imported = is.batch.place };
        names = ns.texts;
        hashes = t.hashes;
        exports = t.exports;
        imported = is.batch.texts;
        numbers = is.numbers;
      }) in
      let rest : Batch → ℕ → Reading Read = λ ns n. tables (summary_of d) n >>= λ t. imports d.name n >>= final ns t in
      let ns = batch_for 52 d.texts in
      let t : Tables = record { hashes = d.hashes; exports = d.exports } in
      let t₄ = imported_bytes d.imported in
      let t₂ = flat le8 d.hashes ++ (flat export_bytes d.exports ++ t₄) in
      let few : length d.texts < 256 ^ 4 = omega (arith, names-few.0) in
      let imported-few₁ : length (imported_texts d.imported) < 256 ^ 4 = omega (arith, imported-few.0) in
      rw (nested d)
      (batch-front (λ ns. bulk (hashes_start d) >> rest ns ns.place.count) d.texts g.texts few names-few.1 52 (le8 0 ++ t₂)
      ∙ (bulk-front (λ _. rest ns (names_for 52 d.texts).count) (hashes_start d) (52 + batch_size d.texts) t₂ s.hashes
      ∙ (ap (λ n. run (rest ns n) (hashes_start d) t₂) (names-count 52 d.texts)
      ∙ (tables-front (λ t. imports d.name n >>= final ns t) n m d.hashes d.exports s.exports refl s.imported refl g.hashes g.exports
      g.named-all (hashes_start d) t₄
      ∙ (ap (λ at. run (imports d.name n >>= final ns t) at t₄) tables_end
      ∙ imports-front (final ns t) d.name n g.name d.imported g.imported imported-few₁ imported-few.1 g.numbers (imported_start d))))))

  ordered-yes : ordered (summary_of d) (header_size d) ≡ true
  unfolding ordered
  ordered-yes =
      let s = starts d in
      let h = hashes_start d in
      let e = exports_start d in
      let i = imported_start d in
      rw (
        le-leb 52 h (omega (arith, s.hashes)),
        le-leb h e (omega (arith, s.exports)),
        le-leb e e (omega arith),
        le-leb e i (omega (arith, s.imported)),
        le-leb i i (omega arith),
        le-leb i (header_size d) (omega (arith, s.size)),
      )

  abbrev behind : List ℕ
  behind =
      le4 d.name ++ (le4 d.number ++ (le4 0 ++ (le4 0 ++ (flat le4 (seven (hashes_start d) (exports_start d) (imported_start d)) ++ content_bytes d))))

  header-front : run (header (header_size d)) 8 behind ≡ gives (read_for d)
  unfolding header
  header-front =
      let s = starts d in
      summary-front (λ m. ask (ordered m (header_size d)) 17 >> content (header_size d) m) d.name d.number
      (hashes_start d) (exports_start d) (imported_start d) (omega (arith, g.name, names-few.0)) g.number (omega (arith, s.exports))
      (omega (arith, s.imported)) (omega (arith, s.size, g.size)) 8 (content_bytes d)
      ∙ (ap (λ b. run (ask b 17 >> content (header_size d) (summary_of d)) 52 (content_bytes d)) ordered-yes ∙ content-front)

  header_is : header_of d ≡ le4 0 ++ (le4 (header_size d) ++ behind)
  unfolding header_of header_with summary_bytes offsets_of
  header_is = simp append_assoc

-- ---- the block

pub length-summary : (size : ℕ) (d e : Description) → length (summary_bytes size (offsets_of e) d) ≡ 52
unfolding summary_bytes offsets_of le_bytes
length-summary size d e = refl

pub length-content : (d : Description) → length (content_bytes d) + 52 ≡ header_size d
unfolding imported_bytes
length-content d =
    let s = starts d in
    let a = length-append (batch_bytes d.texts) (le8 0 ++ (flat le8 d.hashes ++ (flat export_bytes d.exports ++ imported_bytes d.imported))) in
    let b = length-append (le8 0) (flat le8 d.hashes ++ (flat export_bytes d.exports ++ imported_bytes d.imported)) in
    let c = length-append (flat le8 d.hashes) (flat export_bytes d.exports ++ imported_bytes d.imported) in
    let e = length-append (flat export_bytes d.exports) (imported_bytes d.imported) in
    let f = length-append (batch_bytes (imported_texts d.imported)) (flat number_bytes d.imported) in
    rw (nested d, a, b, c, e, f, length-batch d.texts, length-batch (imported_texts d.imported), length-le_bytes 8 0)
    (rw (
      length-each le8 8 (length-le_bytes 8) d.hashes,
      length-each export_bytes 72 length-export d.exports,
      length-each number_bytes 4 (λ (i : ImportedName). length-le_bytes 4 i.number) d.imported,
    )
    (omega (arith, s.hashes, s.exports, s.imported, s.size)))

-- the header is as long as it says
pub length-header : (d : Description) → length (header_of d) ≡ header_size d
unfolding header_of header_with
length-header d =
    omega (arith, length-append (summary_bytes (header_size d) (offsets_of d) d) (content_bytes d), length-summary (header_size d) d d, length-content d)

lead-front : (b t : List ℕ) (size : ℕ) → b ≡ le4 0 ++ (le4 size ++ t) → length b ≡ size → size < 256 ^ 4 → 8 ≤ size → walk lead b 0 ≡ got size 8
lead-front b t size is n h l =
    let flag : le_at 4 b 0 ≡ 0 = le_at-is 4 b 0 ∙ rw (is, take_at (le4 0) (le4 size ++ t) 4 (length-le_bytes 4 0)) (le-le_bytes 4 0) in
    let says : le_at 4 b 4 ≡ size =
    le_at-is 4 b 4
    ∙ rw (is, drop_at (le4 0) (le4 size ++ t) 4 (length-le_bytes 4 0), take_at (le4 size) t 4 (length-le_bytes 4 size))
    (le-le_bytes 4 size ∙ mod-eq_of_lt h) in
    lead_is b ∙ rw (flag, says, le-leb 4 (length b) (omega arith), le-leb 8 (length b) (omega arith), le-leb size (8 + (length b - 8)) (omega arith))

-- THE LAW: the header is read as what describes it
pub header_read : (d : Description) → Good d → run_block package_block (header_of d) ≡ gives (read_for d)
header_read d g =
    let b = header_of d in
    let s = starts d in
    let size = header_size d in
    let n : length b ≡ size = length-header d in
    let led : walk lead b 0 ≡ got size 8 =
    lead-front b (behind d g) size (header_is d g) n (omega (arith, g.size)) (omega (arith, s.hashes, s.exports, s.imported, s.size)) in
    let eight : length (le4 0 ++ le4 size) ≡ 8 = length-append (le4 0) (le4 size) ∙ rw (length-le_bytes 4 0, length-le_bytes 4 size) in
    let tail : drop 8 (take size b) ≡ behind d g =
    rw (take_all size b (omega arith), header_is d g, ← append_assoc (le4 0) (le4 size) (behind d g)) (drop_at (le4 0 ++ le4 size) (behind d g) 8 eight) in
    block_read package_block b led ∙ rw tail (header-front d g)

paired-back : (names : List ImportedName) → paired (imported_texts names) (numbers_of names) ≡ names
paired-back [] = refl
paired-back (i ∷ names) = ap (λ r. i ∷ r) (paired-back names)

-- "Reading back, texts and numbers apart, gives the description that went in"
pub described-back : (d : Description) → described (read_for d) ≡ d
unfolding described
described-back d = rw (paired-back d.imported)
