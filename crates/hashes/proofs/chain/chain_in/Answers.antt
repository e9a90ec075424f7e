-- `chain::chain_in` meets its contract: the front of the room is the chain. Assumes nothing.
use Rattle.hashes.proofs.chain.chain_in.Goals as goal

pub returns-in_err-depth : goal.returns-in_err-depth
returns-in_err-depth c = λ b o t y. rw c.from_residual.ensures (c.in_err-depth.ensures.told b o t y)

pub returns : goal.returns
returns c = λ b o t y. c.in_ok-depth.ensures.told b o t y
