-- `path::path_len` meets its contract. The loop's invariant: what is told is what is told of the object at hand, of at most as many objects as are
-- left, behind the bytes and objects passed. Each name takes fewer than 2^32 bytes, its separator included no more. Assumes nothing.
use mathlib.Core.Path.{◌≡◌, sym}
use Prim.Native.Nat.{◌-◌}
use native.Mathlib.Omega.{arith}
use Rattle.objects.specs.Numbers.{entry_no}
use Rattle.objects.specs.PathLaws.{path-lost, path-top, path-up, link-inside, link_at_lem}
use Rattle.objects.specs.ToldLaws.{told_end, told-lost, told-top, told-up, rendered-at}
use Rattle.objects.proofs.path.path_len.Goals as goal

pub overflow_add-len : goal.overflow_add-len
overflow_add-len c =
    omega (arith, c.le32_usize-len.ensures.fits)

pub returns-in-Missing : goal.returns-in-Missing
returns-in-Missing c = λ b o t.
    let a = c.args in
    let l = c.loop-depth in
    let q = link_at_lem t l.at l.invariant.0 c.record_at-record.ensures c.le32_usize.ensures.is in
    told-lost o a.limit a.i l.len l.depth l.at (l.invariant.2 b o t) (path-lost (a.limit - l.depth) o l.at (omega arith) q (sym c.in-Missing.ensures))

pub returns-in-Nothing : goal.returns-in-Nothing
returns-in-Nothing c = λ b o t.
    let a = c.args in
    let l = c.loop-depth in
    let q = link_at_lem t l.at l.invariant.0 c.record_at-record.ensures c.le32_usize.ensures.is in
    let n = rendered-at t l.at l.invariant.0 c.record_at-record.ensures c.le32_usize-len.ensures.is in
    let p = path-top (a.limit - l.depth) o l.at (omega arith) q (sym c.in-Nothing.ensures) in
    told-top o a.limit a.i l.len l.depth l.at (l.invariant.2 b o t) n p

pub overflow_add-len-in-Object : goal.overflow_add-len-in-Object
overflow_add-len-in-Object c =
    omega (arith, c.le32_usize-len.ensures.fits)

pub loop-depth-preserved : goal.loop-depth-preserved
loop-depth-preserved c =
    let l = c.loop-depth in
    let a = c.args in
    let p = c.requires.0 in
    let m = link_at_lem p.holds l.at l.invariant.0 c.record_at-record.ensures c.le32_usize.ensures.is in
    let k : c.le32_usize.result - 2 ≡ c.in-Object.k = omega (arith, c.in-Object.ensures) in (
      rw k at (link-inside p.holds (entry_no p.objects l.at).outer m (omega (arith, c.in-Object.ensures))),
      omega (arith, c.le32_usize-len.ensures.fits),
      λ b o t.
          let q = link_at_lem t l.at l.invariant.0 c.record_at-record.ensures c.le32_usize.ensures.is in
          let n = rendered-at t l.at l.invariant.0 c.record_at-record.ensures c.le32_usize-len.ensures.is in
          let u = rw k at (path-up (a.limit - l.depth) o l.at (omega arith) q (omega (arith, c.in-Object.ensures))) in
          told-up o a.limit a.i l.len l.depth l.at (l.invariant.2 b o t) c.in-Object.k n u,
    )

pub returns : goal.returns
returns c = λ b o t.
    let a = c.args in
    let l = c.loop-depth in
    told_end o a.limit a.i l.len l.depth l.at (l.invariant.2 b o t) (omega arith)
