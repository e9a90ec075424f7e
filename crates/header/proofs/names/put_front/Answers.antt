-- `names::put_front` meets its contract. Assumes nothing.
use mathlib.Core.Path.{◌∙◌}
use native.Mathlib.Omega.{arith}
use Rattle.base.specs.NumberLaws.{length-le_bytes}
use Rattle.base.specs.OutputLaws.{wrote-room, wrote-rest}
use Rattle.header.specs.Parts.{front_bytes}
use Rattle.header.proofs.names.put_front.Goals as goal

pub put_le32-requires : goal.put_le32-requires
put_le32-requires c = let w = c.put_le32-a.ensures in wrote-room w 4 (omega (arith, w.size ∙ length-le_bytes 4 _))

pub put_le64-requires : goal.put_le64-requires
put_le64-requires c =
    let v = c.put_le32.ensures in
    let w = c.put_le32-a.ensures in
    wrote-room (wrote-rest w v) 8 (omega (arith, w.size ∙ length-le_bytes 4 _, v.size ∙ length-le_bytes 4 _))

pub returns : goal.returns
unfolding front_bytes
returns c = wrote-rest (wrote-rest c.put_le32-a.ensures
    c.put_le32.ensures) c.put_le64.ensures
