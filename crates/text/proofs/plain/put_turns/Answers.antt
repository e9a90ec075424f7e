-- `plain::put_turns` meets its contract. The invariant: the first bytes were written, sixteen for each turn. Assumes nothing.
use mathlib.Core.Path.{◌≡◌, refl}
use Prim.Native.Nat.{◌+◌, ◌*◌, ◌-◌}
use native.Mathlib.Omega.{arith}
use lib.ListN.{length}
use lib.Seq.{take-length}
use Rattle.base.specs.OutputLaws.{wrote_none, wrote-length, wrote-paste, wrote_as, wrote_count}
use Rattle.text.proofs.plain.put_turns.Goals as goal

pub loop-turn-init : goal.loop-turn-init
loop-turn-init c = record { room = refl; wrote = wrote_none _ }

pub loop-turn-preserved : goal.loop-turn-preserved
loop-turn-preserved c =
    let l = c.loop-turn in
    let w = wrote-paste _ (16 * l.turn) 16 l.invariant.wrote (omega arith) (omega arith) (omega arith) (omega arith) in
    let e : 16 * (l.turn + 1) ≡ 16 * l.turn + 16 = omega arith in
    let o = c.put_sixteen.ensures in
    record { room = rw o (wrote-length w); wrote = rw (e, o) w }

pub returns : goal.returns
returns c =
    let l = c.loop-turn in
    let part = c.args.part.now in
    let all : length part - 16 + 16 ≡ length part = omega arith in
    let w = wrote-paste part (length part - 16) 16 l.invariant.wrote (omega arith) (omega arith) (omega arith) (omega arith) in
    rw c.put_sixteen-2.ensures (wrote_count (wrote_as w (rw (all, take-length))) all)
