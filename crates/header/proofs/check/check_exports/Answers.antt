-- `check::check_exports` meets its contract: each export's text number is within the list, or one is not. Assumes nothing.
use Prim.Native.Nat.{◌/◌, ◌≤◌, ◌<◌}
use lib.ListN.{length}
use Rattle.std.proofs.Common.{rules}
use Rattle.std.proofs.lemmas.Iterator.{cases_from_all}
use Rattle.header.specs.PartsLaws.{all-named}
use Rattle.header.proofs.Chunks.{chunk_numbers}
use Rattle.header.proofs.check.check_exports.Goals as goal

pub returns : goal.returns
returns c =
    let a = c.args in
    all-named a.exports.now a.count 0 (length a.exports.now / 40) _
    (cases_from_all _ _ _ (λ n. n < a.count) (λ n. a.count ≤ n) c.all.ensures.ran (chunk_numbers a.exports.now c.chunks_exact.ensures.size c.chunks_exact.ensures.rest)
    (λ x q k. search rules) (λ x q k. search rules))
