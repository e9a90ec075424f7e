-- `chain::chain_by_scan` meets its contract: the front of the room is the chain. Assumes nothing.
use Rattle.hashes.proofs.chain.chain_by_scan.Goals as goal

pub returns-in_err-depth : goal.returns-in_err-depth
returns-in_err-depth c = λ o q. rw c.from_residual.ensures (c.in_err-depth.ensures.told o q)

pub returns : goal.returns
returns c = λ o q. c.in_ok-depth.ensures.told o q
