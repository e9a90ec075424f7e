-- `id::whole_hash`: its units fill the front of a chunk, eights of the base first. Assumes nothing.
use mathlib.Core.Path.{refl, sym, ◌∙◌, ap}
use Prim.Native.Nat.{ℕ, ◌*◌, ◌/◌}
use native.Mathlib.Omega.{arith}
use lib.ListN.{length, length-replicate}
use lib.Seq.{take-append-le}
use Rattle.lower.specs.Lower.{lowered}
use Rattle.base.specs.OutputLaws.{wrote-taken, wrote_count, wrote-length}
use Rattle.text.specs.Utf16.{unit_bytes}
use Rattle.city.specs.City.{city_hash64}
use Rattle.ids.specs.LowerLaws.{lowered-length}
use Rattle.ids.proofs.ShortUnits.{narrow-length, wrote-part}
use Rattle.ids.proofs.id.whole_hash.Goals as goal

pub put_end-requires : goal.put_end-requires
put_end-requires g c =
    let n = c.args.name in
    let k : ℕ = length n.base.now / 8 * 8 in
    let p = wrote-part n.base.now 0 k k refl (omega arith) c.put_narrow.ensures in (
      omega arith,
      omega (arith, wrote-length p, length-replicate {A = ℕ} g.row.N 0),
      wrote-taken p ∙ ap unit_bytes (sym (take-append-le k (lowered n.base.now) n.suffix.now (omega (arith, lowered-length n.base.now)))),
    )

pub overflow_mul-count : goal.overflow_mul-count
overflow_mul-count g c = omega (arith, narrow-length c.args.name.base.now c.args.name.suffix.now)

pub shared_whole_as_front-city_hash64 : goal.shared_whole_as_front-city_hash64
shared_whole_as_front-city_hash64 g c =
    let l = narrow-length c.args.name.base.now c.args.name.suffix.now in
    (omega arith, omega arith)

pub returns : goal.returns
returns g c =
    let n = c.args.name in
    let e = sym (narrow-length n.base.now n.suffix.now) ∙ sym c.count.ensures in
    c.city_hash64.ensures ∙ ap city_hash64 (wrote-taken (wrote_count c.put_end.ensures (ap (λ (k : ℕ). 2 * k) e)))
