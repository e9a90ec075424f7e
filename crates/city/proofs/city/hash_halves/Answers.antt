-- `city::hash_halves` computes `hash_halves`: the shift of a u32 loses no bit. Assumes nothing.
use Rattle.std.proofs.Common.{◌^◌, ◌<◌, ◌*◌, arith, lit≤, shl_exact}
use Rattle.city.specs.City.{hash_halves, hash_len16_mul, mul_of}
use Rattle.city.proofs.Wraps.{mul-turned}
use Rattle.city.proofs.city.hash_halves.Goals as goal

pub returns : goal.returns
unfolding hash_halves hash_len16_mul
returns c =
    let a = c.args.a in
    let h : a < 2 ^ 32 = omega arith in
    cc (shl_exact {a = a} 32 3 64 h (lit≤ tt), mul-turned c.args.n (a * 2 ^ 3) c.args.b (mul_of c.args.n))
