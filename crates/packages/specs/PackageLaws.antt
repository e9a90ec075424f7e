-- What holds of an accepted package by its parts: where each thing stands in the block, and that it is what was read. Assumes nothing.
use Rattle.std.specs.Prelude.{◌≡◌, List, [], ℕ, ◌+◌, ◌*◌, ◌≤◌, ◌<◌, length, take, get_or, Ok}
use Rattle.std.proofs.Math.Path.{sym}
use Rattle.std.proofs.Common.{◌∙◌, ap, arith, length-take-le}
use Rattle.base.specs.Number.{le_at}
use Rattle.base.specs.NumberLaws.{Bytes}
use Rattle.base.specs.Reading.{gives, run_block}
use Rattle.batch.specs.Field.{low30}
use Rattle.batch.specs.Holds.{Holds}
use Rattle.batch.specs.Places.{place_at, Held}
use Rattle.batch.specs.declared.names.Names.{Names}
use Rattle.zen.specs.Accepted.{Parts as Zen}
use Rattle.zen.proofs.Accepted.{read-parts, hash-there, hash-is, export-there, export_is, number-there, number_is}
use Rattle.zen.specs.Answers.{answer, exports_of, hashes_of}
use Rattle.zen.specs.AnswersLaws.{accepted-got}
use Rattle.zen.specs.Layouts.{Laid, layout_at}
use Rattle.zen.proofs.Layouts.{accepted-laid}
use Rattle.zen.specs.PackageFacts.{PackageFacts}
use Rattle.zen.proofs.PackageFacts.{read-facts}
use Rattle.zen.specs.Zen.{Read, package_block, no_export, export_at, summary_at}
use Rattle.zen.specs.declared.zen.Layout.{Layout}
use Rattle.packages.specs.Package.{read_in, parts_of, parts_at, PackageIn}
use Rattle.packages.specs.Whole.{le-whole, low30-whole, export-whole, held_whole, place-whole}
use Rattle.packages.specs.declared.package.Parts.{Parts}

-- what was read is what the reading gives
pub read_in_lem : (b : List ℕ) (r : Read) → run_block package_block b ≡ gives r → read_in b ≡ r
unfolding read_in
read_in_lem b r e = rw e

pub accepted-by : (b : List ℕ) (r : Read) → run_block package_block b ≡ gives r → answer (run_block package_block b) ≡ Ok r.layout
unfolding answer
accepted-by b r e = rw e

-- the parts of a layout are those of what was read
pub parts_same : (b : List ℕ) (l : Layout) (r : Read) → PackageFacts b l r → parts_at l ≡ parts_of r
unfolding parts_at parts_of
parts_same b l r f = rw (f.exports, f.hashes, f.layout)

-- THE WAY IN: what the check and `parts_of` answer
pub package_in_lem : (b : List ℕ) (l : Layout) (p : Parts) → answer (run_block package_block b) ≡ Ok l → p ≡ parts_at l → PackageIn b p
package_in_lem b l p acc e =
    let (r, q, s) = accepted-got (run_block package_block b) acc in
    let z : read_in b ≡ r = read_in_lem b r q in
    record { is = q ∙ ap gives (sym z); parts = e ∙ (parts_same b l r (read-facts b l acc r q) ∙ ap parts_of (sym z)) }

-- ---- by number

module _ {b : List ℕ} {p : Parts} (k : PackageIn b p) where
  abbrev r : Read
  r = read_in b

  -- all that zen says of the block
  pub package_facts : PackageFacts b r.layout r
  package_facts = read-facts b r.layout (accepted-by b r k.is) r k.is

  inside : Zen b r.layout
  inside = read-parts b r k.is

  -- how much of each there is
  pub export_count_lem : p.count ≡ length r.exports
  unfolding parts_of
  export_count_lem = rw k.parts

  pub public-count : p.publics ≡ length r.hashes
  unfolding parts_of
  public-count = rw k.parts

  pub imported_count_lem : p.imported.count ≡ length r.imported
  unfolding parts_of
  imported_count_lem = rw k.parts (sym package_facts.imported)

  -- export i
  export-low : (i : ℕ) → i < p.count → i < length (exports_of (run_block package_block b))
  export-low i h = rw (package_facts.exports_of_lem, ← export_count_lem) h

  pub export-room : (i : ℕ) → i < p.count → p.exports + 72 * i + 72 ≤ length b
  unfolding parts_of
  export-room i h = rw k.parts (omega (arith, export-there inside i (export-low i h), inside.size))

  pub export-here : (i : ℕ) → i < p.count → export_at b (p.exports + 72 * i) ≡ get_or r.exports i no_export
  unfolding parts_of
  export-here i h =
      let l = export-low i h in
      let e = export_is inside i l in
      rw k.parts (sym (rw (package_facts.exports_of_lem, export-whole r.layout.size b (r.layout.summary.exports + 72 * i) (export-there inside i l)) at e))

  pub export-named : (i : ℕ) → i < p.count → (get_or r.exports i no_export).index < p.names.count
  unfolding parts_of
  export-named i h = rw k.parts (package_facts.named i (rw (← package_facts.exports, ← export_count_lem) h))

  -- hash i
  hash-low : (i : ℕ) → i < p.publics → i < length (hashes_of (run_block package_block b))
  hash-low i h = rw (package_facts.hashes_of_lem, ← public-count) h

  pub hash-room : (i : ℕ) → i < p.publics → p.hashes + 8 * i + 8 ≤ length b
  unfolding parts_of
  hash-room i h = rw k.parts (omega (arith, hash-there inside i (hash-low i h), inside.size))

  pub hash-here : (i : ℕ) → i < p.publics → le_at 8 b (p.hashes + 8 * i) ≡ get_or r.hashes i 0
  unfolding parts_of
  hash-here i h =
      let l = hash-low i h in
      let e = hash-is inside i l in
      rw k.parts (sym (rw (package_facts.hashes_of_lem, le-whole r.layout.size b 8 (r.layout.summary.hashes + 8 * i) (hash-there inside i l)) at e))

  -- the number of imported name i
  number-low : (i : ℕ) → i < p.imported.count → i < r.layout.imported.count
  unfolding parts_of
  number-low i h = rw k.parts at h

  pub number-room : (i : ℕ) → i < p.imported.count → p.imported.«end» + 4 * i + 4 ≤ length b
  unfolding parts_of
  number-room i h = rw k.parts (omega (arith, number-there inside i (number-low i h), inside.size))

  pub number-here : (i : ℕ) → i < p.imported.count → le_at 4 b (p.imported.«end» + 4 * i) ≡ get_or r.numbers i 0
  unfolding parts_of
  number-here i h = rw k.parts (sym (rw package_facts.numbers_of_lem at (number_is inside i (number-low i h))))

  -- the package's name: its index and its number
  laid : Laid b r.layout
  laid = accepted-laid b r.layout (accepted-by b r k.is)

  header_size_lem : 52 ≤ le_at 4 b 4
  header_size_lem = omega (arith, laid.parts.summary, length-take-le (le_at 4 b 4) b laid.within)

  pub home-room : 52 ≤ length b
  home-room = omega (arith, header_size_lem, laid.within)

  pub home-index : low30 b 8 ≡ r.layout.summary.index
  unfolding layout_at summary_at
  home-index = sym (rw laid.is (low30-whole (le_at 4 b 4) b 8 (omega (arith, header_size_lem))))

  pub home-number : le_at 4 b 12 ≡ r.layout.summary.number
  unfolding layout_at summary_at
  home-number = sym (rw laid.is (le-whole (le_at 4 b 4) b 4 12 (omega (arith, header_size_lem))))

  pub home-named : r.layout.summary.index < p.names.count
  unfolding parts_of
  home-named = rw k.parts package_facts.index

  -- the batches, and what the places of their names hold
  module _ (y : Bytes b) where
    pub names-held : Held b p.names
    unfolding parts_of
    names-held = rw k.parts (held_whole r.layout.size b r.layout.names inside.size (inside.names-held y))

    pub imported-held : Held b p.imported
    unfolding parts_of
    imported-held = rw k.parts (held_whole r.layout.size b r.layout.imported inside.size (inside.imported-held y))

    same_place : (n : Names) → Held (take r.layout.size b) n → (i : ℕ) → i < n.count → place_at (take r.layout.size b) n i ≡ place_at b n i
    same_place n d i h =
        let w : length (take r.layout.size b) ≡ r.layout.size = length-take-le r.layout.size b inside.size in
        place-whole r.layout.size b n i (omega (arith, d.heads))

    pub name-holds : (i : ℕ) → i < p.names.count → Holds b (place_at b p.names i) (get_or r.names i [])
    unfolding parts_of
    name-holds i h =
        let l : i < r.layout.names.count = rw k.parts at h in
        rw k.parts (rw (same_place r.layout.names (inside.names-held y) i l) at (package_facts.name-holds y i l))

    pub imported-holds : (i : ℕ) → i < p.imported.count → Holds b (place_at b p.imported i) (get_or r.imported i [])
    unfolding parts_of
    imported-holds i h =
        let l = number-low i h in
        rw k.parts (rw (same_place r.layout.imported (inside.imported-held y) i l) at (package_facts.imported-holds y i l))
