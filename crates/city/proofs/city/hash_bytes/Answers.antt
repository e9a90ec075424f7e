-- `city::hash_bytes` computes `hash_bytes`: no shift of a byte loses a bit. Assumes nothing.
use Rattle.std.proofs.Common.{◌^◌, ◌<◌, ◌*◌, arith, lit≤, shl_exact}
use Rattle.city.specs.City.{hash_bytes, k0}
use Rattle.city.proofs.Wraps.{mul-sum}
use Rattle.city.proofs.city.hash_bytes.Goals as goal

pub returns : goal.returns
unfolding hash_bytes
returns c =
    let a = c.args in
    let b : a.b < 2 ^ 8 = omega arith in
    let d : a.c < 2 ^ 8 = omega arith in
    cc (shl_exact 8 8 64 b (lit≤ tt), shl_exact 8 2 64 d (lit≤ tt), mul-sum a.n (a.c * 2 ^ 2) k0)
