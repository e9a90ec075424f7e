-- `path::path_hash_by_scan` meets its contract: the chain tells the path, and its hash is the path's. Assumes nothing.
use mathlib.Core.Path.{◌≡◌, ◌∙◌}
use lib.ListN.{length, drop}
use Rattle.base.specs.Reading.{gives, run}
use Rattle.scriptblock.specs.Script.{Objects, script}
use Rattle.scriptblock.proofs.ScriptFacts.{script-facts}
use Rattle.objects.specs.Numbers.{path_no}
use Rattle.hashes.specs.Chain.{Tells}
use Rattle.hashes.specs.ChainLaws.{tells-some, tells-known}
use Rattle.hashes.specs.ScanLaws.{rest, names-inside}
use Rattle.hashes.proofs.path.path_hash_by_scan.Goals.{In_ok-chain}
use Rattle.hashes.proofs.path.path_hash_by_scan.Goals as goal

tells : (c : In_ok-chain) (o : Objects) → run script 0 c.args.s.now.block.bytes.now ≡ gives o
    → Tells (drop c.args.s.now.names.names.strings c.args.s.now.block.bytes.now) c.in_ok-chain.chain.now (length c.args.room.now)
    (path_no (length c.args.room.now) o c.args.i)
tells c o q = c.in_ok-chain.ensures o q

pub slice_bounds-names-count : goal.slice_bounds-names-count
slice_bounds-names-count c = let s = c.args.s.now in rw s.own.1 (names-inside s.block.bytes.now s.block.layout s.block.accepted s.block.fits)

pub slice_bounds-names-start : goal.slice_bounds-names-start
slice_bounds-names-start c = let s = c.args.s.now in rw s.own.1 (names-inside s.block.bytes.now s.block.layout s.block.accepted s.block.fits)

pub of-requires : goal.of-requires
of-requires c =
    let s = c.args.s.now in
    let (o, t) = script-facts s.block.bytes.now s.block.layout s.block.accepted in
    rw (rest s.block.bytes.now s.names.names.strings) (tells-some (tells (goal.at.of-requires c).In_ok-chain o t.is) c.requires.1)

pub returns : goal.returns
returns c =
    let s = c.args.s.now in
    λ o q. tells-known _ (tells (goal.at.returns c).In_ok-chain o q)
    (c.hash.ensures ∙ rw (c.of.ensures.names, rest s.block.bytes.now s.names.names.strings, c.of.ensures.chain))
