-- `paths::put_class_path` meets its contract: what the record says is the package's block and where the names are. Assumes nothing.
use mathlib.Core.Path.{◌∙◌, ap}
use Rattle.packages.specs.ClassPath.{home-holds}
use Rattle.packages.specs.RowLaws.{class-holds}
use Rattle.resolve.specs.ClassesRead.{class_in, class-read, class-inside, class-own, class-outer, class_path_lem}
use Rattle.resolve.proofs.paths.put_class_path.Goals as goal

pub of-b-requires : goal.of-b-requires
of-b-requires c =
    class-read (class_in c.requires.holds c.requires.inside c.record_at-at.ensures) c.le32_usize.ensures.is c.block_at.ensures

pub row_from-row-requires : goal.row_from-row-requires
row_from-row-requires c =
    let d = class_in c.requires.holds c.requires.inside c.record_at-at.ensures in
    let q = c.le32_usize.ensures.is in
    let b = c.of-b.result in
    let e = ap (λ x. x.now) c.of-b.ensures ∙ c.block_at.ensures in
    let n = c.le32_usize-3.ensures.is in
    (class-inside d q e b.accepted n, class-own d q e b.accepted n c.le32_usize-4.ensures.is, class-outer d q e b.accepted n c.le32_usize-5.ensures.is)

pub put_class_path-requires : goal.put_class_path-requires
put_class_path-requires c =
    let d = class_in c.requires.holds c.requires.inside c.record_at-at.ensures in
    let q = c.le32_usize.ensures.is in
    let b = c.of-b.result in
    let e = ap (λ x. x.now) c.of-b.ensures ∙ c.block_at.ensures in
    let n = c.le32_usize-3.ensures.is in (
      rw c.home_from-home.ensures (home-holds b.accepted b.fits),
      rw c.row_from-row.ensures (class-holds b.accepted b.fits c.le32_usize-3.result (class-inside d q e b.accepted n)),
      rw (class_path_lem d q e b.accepted n b.fits c.home_from-home.ensures c.row_from-row.ensures) c.requires.room,
    )

pub returns : goal.returns
returns c =
    let q = c.le32_usize.ensures.is in
    let b = c.of-b.result in
    let e = ap (λ x. x.now) c.of-b.ensures ∙ c.block_at.ensures in
    λ xs t h.
    let d = class_in t h c.record_at-at.ensures in
    rw (class_path_lem d q e b.accepted c.le32_usize-3.ensures.is b.fits c.home_from-home.ensures c.row_from-row.ensures) at c.put_class_path.ensures
