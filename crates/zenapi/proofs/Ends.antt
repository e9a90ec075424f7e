-- Where exports' bases end, added up one export after another. Assumes nothing.
use Rattle.std.specs.Prelude.{Ok}
use mathlib.Core.Path.{◌≡◌}
use mathlib.Core.List.{List}
use Prim.Native.Nat.{ℕ, ◌+◌, ◌*◌, ◌^◌, ◌≤◌, ◌<◌}
use native.Mathlib.Nat.{zero-add}
use native.Mathlib.Numerals.{add-one}
use native.Mathlib.Omega.{arith}
use lib.ListN.{length, take, drop, get_or, drop_of_length-le}
use lib.Seq.{drop-cons, length-take-le}
use Rattle.base.specs.NumberLaws.{Bytes}
use Rattle.batch.specs.Places.{place_at}
use Rattle.batch.specs.PlacesLaws.{place_inside}
use Rattle.batch.specs.declared.names.Names.{Names}
use Rattle.batch.specs.declared.places.Place.{Place}
use Rattle.zen.proofs.Accepted.{parts}
use Rattle.zen.specs.Answers.{answer, exports_of, export_count}
use Rattle.zen.proofs.PackageLaws.{export-index}
use Rattle.zen.specs.Zen.{no_export}
use Rattle.zen.specs.declared.tables.Export.{Export}
use Rattle.zen.specs.declared.zen.Layout.{Layout}
use Rattle.zenapi.specs.Answers.{package_in, ends}

module _ (s : List ℕ) (n : Names) (es : List Export) (i : ℕ) where
  ends-step : i < length es
      → ends s n (drop i es) ≡ (place_at s n (get_or es i no_export).index).start + (place_at s n (get_or es i no_export).index).size + ends s n (drop (i + 1) es)
  unfolding ends
  ends-step h = rw (add-one i, drop-cons es i no_export h)

  ends-none : length es ≤ i → ends s n (drop i es) ≡ 0
  unfolding ends
  ends-none h = rw (drop_of_length-le es h)

-- the sum of i exports, and what the others add to it
pub record Adding (b : List ℕ) (l : Layout) (total i : ℕ) : Type 0 where
  pub few : i ≤ export_count l
  pub small : total ≤ 4294967296 * i
  pub rest : total + ends (take l.size b) l.names (drop i (exports_of (package_in b))) ≡ ends (take l.size b) l.names (exports_of (package_in b))

pub adding_first : (b : List ℕ) (l : Layout) → Adding b l 0 0
adding_first b l = record { few = omega arith; small = omega arith; rest = zero-add _ }

module _ (b : List ℕ) (l : Layout) (a : answer (package_in b) ≡ Ok l) {total i : ℕ} (k : Adding b l total i) where
  pub adding_end : export_count l ≤ i → total ≡ ends (take l.size b) l.names (exports_of (package_in b))
  adding_end h =
      let z = ends-none (take l.size b) l.names (exports_of (package_in b)) i (omega (arith, (parts b l a).export_count_lem)) in
      omega (arith, k.rest)

  module _ (h : i < export_count l) where
    pub adding_in : i < length (exports_of (package_in b))
    adding_in = omega (arith, (parts b l a).export_count_lem)

    module _ (e : Export) (is : e ≡ get_or (exports_of (package_in b)) i no_export) where
      pub adding_named : e.index < l.names.count
      adding_named = rw is (export-index b l a i adding_in)

      module _ (y : Bytes b) (p : Place) (at : p ≡ place_at (take l.size b) l.names e.index) where
        -- a base ends within the header, which is so short that the sum fits
        place-small : p.start + p.size < 4294967296
        place-small =
            let m = parts b l a in
            let d = m.names-held y in
            let w : length (take l.size b) ≡ l.size = length-take-le l.size b m.size in
            rw at (omega (arith, (place_inside (take l.size b) l.names e.index adding_named d).1, d.ends, m.small y))

        pub adding_more : (total + (p.start + p.size) < 2 ^ 64) × Adding b l (total + (p.start + p.size)) (i + 1)
        adding_more =
            let m = parts b l a in
            let o = m.order in
            let z = ends-step (take l.size b) l.names (exports_of (package_in b)) i adding_in in
            let q : place_at (take l.size b) l.names (get_or (exports_of (package_in b)) i no_export).index ≡ p = rw (at, is) in (
              omega (arith, place-small, k.few, k.small, m.small y, o.imports, o.exports, o.bundles, o.imported, o.high),
              record { few = omega arith; small = omega (arith, place-small, k.small); rest = omega (arith, k.rest, rw q at z) },
            )
