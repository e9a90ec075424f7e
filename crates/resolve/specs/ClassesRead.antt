-- Laws of a class's record read back: its package lies inside and is accepted, and the places of its names give its path. Assumes nothing.
use Rattle.std.specs.Prelude.{◌≡◌, List, ℕ, ◌+◌, ◌<◌, length, Ok, None}
use Rattle.std.proofs.Common.{sym, ◌∙◌, ap}
use Rattle.base.specs.Number.{le_at}
use Rattle.base.specs.NumberLaws.{Bytes}
use Rattle.base.specs.Reading.{gives, run_block}
use Rattle.text.specs.Utf8.{utf8}
use Rattle.zen.specs.Answers.{answer}
use Rattle.zen.specs.Zen.{package_block}
use Rattle.zen.specs.declared.zen.Layout.{Layout}
use Rattle.meaning.specs.Scan.{Class}
use Rattle.packages.specs.ClassPath.{path_bytes}
use Rattle.packages.specs.Package.{read_in, PackageIn}
use Rattle.packages.specs.PackageLaws.{accepted-by, export_count_lem}
use Rattle.packages.specs.Row.{home_in, row_in, outer_start}
use Rattle.packages.specs.Walk.{block_at, Site}
use Rattle.packages.specs.WalkLaws.{site-small}
use Rattle.batch.specs.declared.places.Name.{Name}
use Rattle.packages.specs.declared.package.Parts.{Parts}
use Rattle.packages.specs.declared.rows.Row.{Row}
use Rattle.table.specs.Table.{record_at}
use Rattle.resolve.specs.ClassesLaws.{block-home, block-names, block-path}
use Rattle.resolve.specs.Classes.{class_no, class_from, names_of, ClassIn, ClassesIn}

-- class k's record
pub class_in : {s : List ℕ} {n k r : ℕ} {xs : List Class} {w : List ℕ} → ClassesIn s n xs w → k < length xs → r ≡ record_at n 64 k → ClassIn s (class_no xs k) w r
class_in {s} {n} {k} t h e = rw e (t.columns k h)

-- the place that is read is the package's
module _ {s : List ℕ} {x : Class} {w : List ℕ} {r : ℕ} (d : ClassIn s x w r) {at : ℕ} (q : at ≡ le_at 4 w (r + 44)) where
  pub class-site : Site s at (block_at s at)
  class-site = rw (q ∙ d.place_in) d.site

  module _ {b : List ℕ} (e : b ≡ block_at s at) where
    block-is : b ≡ block_at s d.place
    block-is = e ∙ ap (block_at s) (q ∙ d.place_in)

    block-site : Site s d.place b
    block-site = rw block-is d.site

    pub class-bytes : Bytes s → Bytes b
    class-bytes y = rw e ((site-small class-site).2 y)

    -- its block is accepted
    pub class-read : run_block package_block b ≡ gives (read_in b)
    class-read = rw block-is d.read

    pub class-layout : (l : Layout) × (answer (run_block package_block b) ≡ Ok l)
    class-layout = let c = block_at s d.place in rw block-is ((read_in c).layout, accepted-by c (read_in c) d.read)

    -- the start that is read is that of its name
    module _ {p : Parts} (a : PackageIn b p) where
      pub class-home : {h : ℕ} → h ≡ le_at 4 w (r + 52) → h ≡ (home_in b p).place.start
      class-home l = l ∙ (d.home_in_lem ∙ ap (λ (h : Name). h.place.start) (sym (block-home a block-site)))

      -- the number is that of one of its exports, and the starts are those of the export's names
      module _ {i : ℕ} (n : i ≡ le_at 4 w (r + 48)) where
        export_is : i ≡ d.export
        export_is = n ∙ d.export_in_lem

        row_is : row_in b p None i ≡ names_of (block_at s d.place) d.export
        row_is = rw export_is (block-names a block-site d.export)

        pub class-inside : i < p.count
        class-inside = rw (export_count_lem a, block-is, export_is) d.there

        pub class-own : {o : ℕ} → o ≡ le_at 4 w (r + 56) → o ≡ (row_in b p None i).own.place.start
        class-own l = l ∙ (d.own_in ∙ ap (λ (t : Row). t.own.place.start) (sym row_is))

        pub class-outer : {o : ℕ} → o ≡ le_at 4 w (r + 60) → o ≡ outer_start (row_in b p None i)
        class-outer l = l ∙ (d.outer_in ∙ ap outer_start (sym row_is))

        -- so the names there are the class's path
        pub class_path_lem : Bytes b → {home : Name} {row : Row} → home ≡ home_in b p → row ≡ row_in b p None i → path_bytes b home row ≡ utf8 x.path
        class_path_lem y {home} {row} f g =
            let made : path_bytes b home row ≡ utf8 (class_from s d.place i).path = rw (f, g) (block-path a block-site y i class-inside) in
            let same : class_from s d.place i ≡ x = rw export_is (sym d.is) in
            made ∙ ap (λ (c : Class). utf8 c.path) same
