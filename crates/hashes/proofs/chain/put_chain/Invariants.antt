-- `chain::put_chain` meets its contract. The loop's invariant: the objects so far are in the chain, and the path is theirs behind that of the object
-- at hand. Assumes nothing.
use mathlib.Core.Path.{◌≡◌}
use mathlib.Core.List.{List}
use Prim.Native.Nat.{ℕ, ◌*◌, ◌≤◌, ◌<◌}
use lib.ListN.{length}
use Rattle.base.specs.NumberLaws.{Bytes}
use Rattle.scriptblock.specs.Script.{Objects}
use Rattle.objects.specs.Work.{ObjectsIn}
use Rattle.hashes.specs.ChainLaws.{Reached}
use Rattle.hashes.proofs.chain.put_chain.Given as goal

abbrev pub invariant-loop-depth : goal.invariant-loop-depth
invariant-loop-depth l =
    let limit = length l.initial.chain in
    (56 * l.at < length l.w) × (l.depth ≤ limit) × (length l.chain ≡ limit)
    × ((b : List ℕ) (o : Objects) → ObjectsIn b o l.w → Bytes b → Reached b o limit l.i l.chain l.depth l.at)
