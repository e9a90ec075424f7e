-- `names::Texts::put_texts` meets its contract. The loop's invariant: i texts are written. Assumes nothing.
use Rattle.header.specs.LaidLaws.{Upto}
use Rattle.header.proofs.names.Texts.put_texts.Given as goal

abbrev pub invariant-loop-i : goal.invariant-loop-i
invariant-loop-i l = Upto l.self.more l.self.s.now l.self.from l.self.count l.initial.out l.out l.n l.at l.i
