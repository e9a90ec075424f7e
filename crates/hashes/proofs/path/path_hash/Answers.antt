-- `path::path_hash` meets its contract: the chain tells the path, and its hash is the path's. Assumes nothing.
use mathlib.Core.Path.{refl, ◌∙◌}
use Rattle.hashes.specs.ChainLaws.{tells-some, tells-known}
use Rattle.scriptblock.specs.Script.{Objects}
use Rattle.objects.specs.Numbers.{path_no}
use Rattle.objects.specs.Work.{ObjectsIn}
use Rattle.hashes.specs.Chain.{Tells}
use lib.ListN.{length}
use Rattle.hashes.proofs.path.path_hash.Goals.{In_ok-chain}
use Rattle.hashes.proofs.path.path_hash.Goals as goal

tells : (c : In_ok-chain) (o : Objects) → ObjectsIn c.args.s.now o c.args.w.now
    → Tells c.args.s.now c.in_ok-chain.chain.now (length c.args.room.now) (path_no (length c.args.room.now) o c.args.i)
tells c o t = c.in_ok-chain.ensures c.args.s.now o t (λ j. (c.type_inv.s j).fits)

pub chain_in-requires : goal.chain_in-requires
chain_in-requires c = let p = c.requires in (record { block = c.args.s.now; objects = p.0.objects; holds = p.0.holds }, p.1)

pub returns-in_err-chain : goal.returns-in_err-chain
returns-in_err-chain c = λ o t. c.from_residual.ensures ∙ rw (c.in_err-chain.ensures c.args.s.now o t (λ j. (c.type_inv.s j).fits)) refl

pub of-requires : goal.of-requires
of-requires c =
    let p = c.requires in
    tells-some (tells (goal.at.of-requires c).In_ok-chain p.0.objects p.0.holds) p.2

pub returns : goal.returns
returns c = λ o t. tells-known _ (tells (goal.at.returns c).In_ok-chain o t) (c.hash.ensures ∙ rw (c.of.ensures.names, c.of.ensures.chain))
