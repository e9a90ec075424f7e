-- `read_head` meets its contract: two bytes make the header. Assumes nothing.
use mathlib.Core.Path.{◌≡◌}
use Prim.Native.Nat.{ℕ, ◌+◌, ◌*◌, ◌%◌, ◌≤◌, ◌<◌}
use native.Mathlib.Omega.{arith}
use borrow.Author.Tests.{le-leb, lt-leb}
use lib.ListN.{get_or}
use Rattle.batch.specs.Batch.{head_at, head_of}
use Rattle.batch.proofs.names.read_head.Goals as goal

pub returns-then-wide : goal.returns-then-wide
unfolding head_at head_of
returns-then-wide c =
    let a : ℕ = get_or c.args.s.now c.args.h 0 in
    let b : ℕ = get_or c.args.s.now (c.args.h + 1) 0 in
    let f : b < 256 = (c.type_inv.s (c.args.h + 1)).fits in
    let e = c.from_be_bytes-head.ensures in
    let p : 128 ≤ a = omega arith in
    let n : c.from-n.result ≡ a % 128 * 256 + b = omega arith in
    (rw (le-leb _ _ c.if-wide.true, n, le-leb 128 a p), omega arith)

pub returns-else-wide : goal.returns-else-wide
unfolding head_at head_of
returns-else-wide c =
    let a : ℕ = get_or c.args.s.now c.args.h 0 in
    let b : ℕ = get_or c.args.s.now (c.args.h + 1) 0 in
    let f : b < 256 = (c.type_inv.s (c.args.h + 1)).fits in
    let e = c.from_be_bytes-head.ensures in
    let p : a < 128 = omega arith in
    let n : c.from-n.result ≡ a % 128 * 256 + b = omega arith in
    (rw (lt-leb _ _ c.if-wide.false, n, lt-leb 128 a p), omega arith)
