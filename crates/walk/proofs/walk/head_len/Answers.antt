-- `walk::head_len` meets its contract. Assumes nothing.
use mathlib.Core.Path.{◌≡◌, ◌∙◌, ap}
use mathlib.Core.List.{List}
use Prim.Native.Nat.{ℕ, ◌+◌}
use native.Mathlib.Omega.{arith}
use lib.ListN.{length}
use Rattle.base.specs.NumberLaws.{Bytes}
use Rattle.text.specs.Utf8.{utf8}
use Rattle.batch.specs.Holds.{Holds}
use Rattle.packages.specs.ClassPath.{home-holds}
use Rattle.packages.specs.Package.{package_in, PackageIn}
use Rattle.packages.specs.Row.{home_in, base_at, whole_at}
use Rattle.batch.specs.declared.places.Name.{Name}
use Rattle.packages.specs.declared.package.Parts.{Parts}
use Rattle.walk.specs.Found.{head_size}
use Rattle.walk.specs.SizeLaws.{head_size_lem}
use Rattle.walk.proofs.walk.head_len.Goals as goal

module _ {b : List ℕ} {p : Parts} (a : PackageIn b p) (y : Bytes b) {home : Name} (e : home ≡ home_in b p) where
  held : Holds b home.place (base_at b home)
  held = rw e (home-holds a y)

  measured : {n : ℕ} → n ≡ length (utf8 (whole_at b home)) → (id : ℕ) → 20 + n ≡ head_size (package_in id b)
  measured q id = ap (λ (k : ℕ). 20 + k) (q ∙ ap (λ (h : Name). length (utf8 (whole_at b h))) e) ∙ head_size_lem a y id

pub place_len-requires : goal.place_len-requires
place_len-requires c =
    let b = c.args.p.now.block in
    held b.accepted b.fits c.home.ensures

pub returns : goal.returns
returns c =
    let b = c.args.p.now.block in
    (measured b.accepted b.fits c.home.ensures c.place_len.ensures.0, omega (arith, c.place_len.ensures.1))
