-- `walk::corpus::Corpus::packages` meets its contract: they lie inside the corpus. Assumes nothing.
use native.Mathlib.Omega.{arith}
use Rattle.walk.specs.OpenLaws.{begun-sites, begun-few}
use Rattle.walk.proofs.corpus.Corpus.packages.Goals as goal

pub overflow_add-result : goal.overflow_add-result
overflow_add-result c = omega (arith, (begun-few c.args.self.now.begun).1)

pub invariant_of-result : goal.invariant_of-result
invariant_of-result c = record { sites = begun-sites c.args.self.now.begun }
