-- `chain::put_chain_by_scan` meets its contract. The loop's invariant: the objects so far are in the chain, and the path is theirs behind that of the
-- object at hand. Assumes nothing.
use mathlib.Core.Path.{◌≡◌}
use Prim.Native.Nat.{◌≤◌, ◌<◌}
use lib.ListN.{length, drop}
use Rattle.base.specs.Reading.{gives, run}
use Rattle.scriptblock.specs.Script.{Objects, script}
use Rattle.hashes.specs.ChainLaws.{Reached}
use Rattle.hashes.proofs.chain.put_chain_by_scan.Given as goal

abbrev pub invariant-loop-depth : goal.invariant-loop-depth
invariant-loop-depth l =
    let limit = length l.initial.chain in
    (l.at < l.s.block.layout.count) × (l.depth ≤ limit) × (length l.chain ≡ limit)
    × ((o : Objects) → run script 0 l.s.block.bytes.now ≡ gives o
    → Reached (drop l.s.names.names.strings l.s.block.bytes.now) o limit l.i l.chain l.depth l.at)
