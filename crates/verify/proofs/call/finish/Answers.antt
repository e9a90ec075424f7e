-- `call::finish` meets its contract. Assumes nothing.
use native.Mathlib.Omega.{arith}
use Rattle.verify.specs.StepLaws.{passed-few, passed-short, passed-output}
use Rattle.verify.proofs.call.finish.Goals as goal

pub overflow_add-c : goal.overflow_add-c
overflow_add-c c = omega (arith, (passed-few c.requires).2)

pub returns-then-out-c : goal.returns-then-out-c
returns-then-out-c c = passed-short c.requires c.if-out-c.true (rw (c.at.ensures.0, c.at.ensures.1))

pub put_output-requires : goal.put_output-requires
put_output-requires c =
    let z = c.requires in
    rw (c.packages.ensures.0, c.packages.ensures.1, c.packages.ensures.2) (record { read = (z.packages, c.if-out-c.false); objects_bound = passed-few z })

pub returns : goal.returns
returns c = passed-output c.requires c.if-out-c.false (rw (c.packages.ensures.0, c.packages.ensures.1, c.packages.ensures.2) at c.put_output.ensures)
