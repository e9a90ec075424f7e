-- A row as code makes it, from the places of the names of an export and of its outer. Assumes nothing.
use Rattle.std.specs.Prelude.{Option as Maybe, Some, None}
use mathlib.Core.Path.{◌≡◌, sym, ◌∙◌}
use mathlib.Core.Bool.{Bool, true, false}
use mathlib.Core.List.{List}
use mathlib.Core.Option.{some}
use Prim.Native.Nat.{ℕ, ◌<◌}
use Rattle.batch.specs.Places.{place_at}
use Rattle.batch.specs.declared.places.Place.{Place}
use Rattle.zen.specs.declared.tables.Export.{Export}
use Rattle.meaning.specs.Scan.{outer_of}
use Rattle.packages.specs.Package.{read_in, PackageIn}
use Rattle.packages.specs.PackageLaws.{export-named}
use Rattle.packages.specs.Row.{export_no, is_local, row_in, outer_start}
use Rattle.packages.specs.RowLaws.{outer-some, outer-none}
use Rattle.packages.specs.declared.package.Parts.{Parts}
use Rattle.packages.specs.declared.rows.Candidate.{Candidate}
use Rattle.packages.specs.declared.rows.Row.{Row}

module _ (b : List ℕ) (p : Parts) (a : PackageIn b p) (i : ℕ) (k : Maybe Candidate) (e : Export) (own : Place) (q : e ≡ export_no b i)
    (d : own ≡ place_at b p.names e.index) (l : Bool) (g : l ≡ is_local p e.outer) where
  pub alone : l ≡ false
      → ◌≡◌ {A = Row} (record { kind = k; own = record { place = own; number = e.number }; outer = None; class = e.class }) (row_in b p k i)
  unfolding row_in
  alone z = rw (← q, outer-none a e (sym g ∙ z), d)

  pub nested : (u : Export) (above : Place) → l ≡ true → u ≡ export_no b e.outer → above ≡ place_at b p.names u.index
      → ◌≡◌ {A = Row} (record { kind = k; own = record { place = own; number = e.number }; outer = Some (record { place = above; number = u.number }); class = e.class })
      (row_in b p k i)
  unfolding row_in
  nested u above z m n = rw (← q, (outer-some a e (sym g ∙ z)).1, ← m, d, n)

pub outer-there : (b : List ℕ) (p : Parts) → PackageIn b p → (e : Export) (l : Bool) → l ≡ is_local p e.outer → l ≡ true → e.outer < p.count
outer-there b p a e l g k = (outer-some a e (sym g ∙ k)).0

pub named : (b : List ℕ) (p : Parts) → PackageIn b p → (i : ℕ) (e : Export) → e ≡ export_no b i → i < p.count → e.index < p.names.count
named b p a i e q h = rw q (export-named a i h)

-- where the names of a row start
pub own-start : (b : List ℕ) (p : Parts) (i : ℕ) (k : Maybe Candidate) (e : Export) (own : ℕ) → e ≡ export_no b i → own ≡ (row_in b p k i).own.place.start
    → own ≡ (place_at b p.names e.index).start
unfolding row_in
own-start b p i k e own q h = rw q h

pub above-start : (b : List ℕ) (p : Parts) → PackageIn b p → (i : ℕ) (k : Maybe Candidate) (e : Export) (l : Bool) (u : Export) (outer : ℕ) → e ≡ export_no b i
    → l ≡ is_local p e.outer → l ≡ true → u ≡ export_no b e.outer → outer ≡ outer_start (row_in b p k i)
    → outer ≡ (place_at b p.names u.index).start
unfolding row_in
above-start b p a i k e l u outer q g z m h =
    let w : outer_of (read_in b) (export_no b i) ≡ some u = rw (← q, m) (outer-some a e (sym g ∙ z)).1 in
    h ∙ rw w
