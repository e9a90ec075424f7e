-- `flags::home_id` meets its contract: where the name starts, and what its header says. Assumes nothing.
use mathlib.Core.Path.{◌≡◌, ◌∙◌, ap}
use mathlib.Core.List.{List}
use Prim.Native.Nat.{ℕ, ◌+◌, ◌*◌, ◌≤◌}
use native.Mathlib.Omega.{arith}
use lib.ListN.{length}
use Rattle.ids.specs.Id.{id_of}
use Rattle.base.specs.NumberLaws.{Bytes}
use Rattle.batch.specs.Holds.{Holds}
use Rattle.batch.specs.Places.{name_start, place_at}
use Rattle.batch.specs.PlacesLaws.{start-le}
use Rattle.zen.specs.Zen.{package_name}
use Rattle.packages.specs.ClassPath.{home-holds, home-name}
use Rattle.packages.specs.Package.{read_in, PackageIn}
use Rattle.packages.specs.PackageLaws.{names-held, home-room, home-index, home-named}
use Rattle.packages.specs.Row.{home_in, base_at, whole_at}
use Rattle.batch.specs.declared.places.Name.{Name}
use Rattle.packages.specs.declared.package.Parts.{Parts}
use Rattle.verify.proofs.flags.home_id.Goals.{After-u30_le}
use Rattle.verify.proofs.flags.home_id.Goals as goal

module _ {b : List ℕ} {p : Parts} (k : PackageIn b p) (y : Bytes b) where
  -- the name's header and start lie in the block
  module _ {i : ℕ} (e : i ≡ (read_in b).layout.summary.index) where
    head-inside : p.names.headers + 2 * i + 2 ≤ length b
    head-inside = rw e (omega (arith, (names-held k y).heads, home-named k))

    start-inside : name_start b p.names.headers p.names.strings i ≤ length b
    start-inside =
        let n = names-held k y in
        let i₀ = (read_in b).layout.summary.index in
        rw e (omega (arith, start-le b p.names.headers p.names.strings i₀ p.names.count (omega (arith, home-named k)), n.inside, n.ends))

  module _ {home : Name} (e : home ≡ home_in b p) where
    held : Holds b home.place (base_at b home)
    held = rw e (home-holds k y)

    named : {r : ℕ} → r ≡ id_of (whole_at b home) → r ≡ id_of (package_name (read_in b))
    named q = q ∙ ap id_of (ap (whole_at b) e ∙ home-name k y)

-- the name's number, once it is read
known : (c : After-u30_le) → c.u30_le.result ≡ (read_in c.args.b.now.bytes.now).layout.summary.index
known c = c.u30_le.ensures.0 ∙ home-index c.args.b.now.accepted

pub u30_le-requires : goal.u30_le-requires
u30_le-requires c = omega (arith, home-room c.args.b.now.accepted)

pub name_start-start-requires : goal.name_start-start-requires
name_start-start-requires c =
    let b = c.args.b.now in
    let e = known (goal.at.name_start-start-requires c).After-u30_le in
    (omega (arith, head-inside b.accepted b.fits e), start-inside b.accepted b.fits e)

pub home_from-requires : goal.home_from-requires
unfolding place_at
home_from-requires c =
    let e = known (goal.at.home_from-requires c).After-u30_le in
    rw e at c.name_start-start.ensures

pub place_id-requires : goal.place_id-requires
place_id-requires c = let b = c.args.b.now in held b.accepted b.fits c.home_from.ensures

pub returns : goal.returns
returns c = let b = c.args.b.now in named b.accepted b.fits c.home_from.ensures c.place_id.ensures
