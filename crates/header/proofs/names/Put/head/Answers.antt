-- `names::Put::head` meets its contract. Assumes nothing.
use mathlib.Core.Path.{◌∙◌, ap}
use native.Mathlib.Omega.{arith}
use Rattle.base.specs.Number.{be_bytes}
use Rattle.header.specs.PiecesLaws.{be-bytes_2}
use Rattle.header.proofs.names.Put.head.Goals as goal

pub returns-then-self : goal.returns-then-self
returns-then-self c = c.to_be_bytes.ensures ∙ be-bytes_2 _ ∙ ap (be_bytes 2) (rw (c.units-units.ensures, c.if-self.true) (omega arith))

pub returns : goal.returns
returns c = c.to_be_bytes-2.ensures ∙ be-bytes_2 _ ∙ rw (c.units-units.ensures, c.if-self.false)
