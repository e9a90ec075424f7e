-- `front::byte_front` meets its contract: the lowest bit that is set is the highest of the first byte that is not ASCII. Assumes nothing.
use Rattle.text.specs.FrontLaws.{front_bytes_lem}
use Rattle.text.proofs.front.byte_front.Goals as goal

pub returns : goal.returns
returns c =
    rw c.le64.ensures (front_bytes_lem c.args.bytes.now c.args.i (λ i. (c.type_inv.bytes i).fits) c.requires)
