-- `rows::pool_rows` meets its contract. Assumes nothing.
use native.Mathlib.Omega.{arith}
use Rattle.pool.specs.PoolLaws.{state-stood, state-all, left-marks}
use Rattle.pool.proofs.rows.pool_rows.Goals as goal

pub pool_row-free-requires : goal.pool_row-free-requires
pool_row-free-requires c =
    let p = c.requires in
    let l = c.loop-r in
    let i = l.invariant in (
      record {
        front = omega arith;
        some = c.args.p.now.few.0 (omega arith);
        texts = i.slots;
        room = omega (arith, i.room, l.auto.w);
        inside = c.loop-r-test.true;
      },
      state-stood p.holds (omega (arith, p.classes-are)) p.rows_are (omega (arith, p.room)) p.classes-are i.state l.r c.loop-r-test.true,
    )

pub returns-clause-is : goal.returns-clause-is
returns-clause-is c = λ o xs lookups refs t x e.
    let i = c.loop-r.invariant in state-all t (omega arith) e (omega (arith, c.requires.room)) x i.state c.loop-r-test.false (omega (arith, i.room))

pub returns-clause-marks : goal.returns-clause-marks
returns-clause-marks c = left-marks c.args.p.now.n c.loop-r.invariant.state.left (omega (arith, c.requires.room))
