-- `zenapi::package::zen_hash` meets its contract.
use Rattle.std.specs.Prelude.{◌≡◌, Ok}
use Rattle.zen.specs.Answers.{answer}
use Rattle.zenapi.specs.Answers.{package_in}
use Rattle.zenapi.proofs.PackageFound.{no_hash, hash-here, hash-past, hash-there}
use Rattle.zenapi.proofs.package.zen_hash.Goals.{In-Ok}
use Rattle.zenapi.proofs.package.zen_hash.Goals as goal

-- the block that was opened is the one that was passed
accepted : (c : In-Ok) → answer (package_in c.args.b.now) ≡ Ok c.in-Ok.p.layout
accepted c = let p = c.in-Ok.p in rw c.in-Ok.ensures at p.accepted

pub returns-in_default : goal.returns-in_default
returns-in_default c = no_hash _ _ c.in_default.ensures _

pub returns-then-hash_count-i : goal.returns-then-hash_count-i
returns-then-hash_count-i c = hash-past _ _ (accepted (goal.at.returns-then-hash_count-i c).In-Ok) _ _ c.hash_count.ensures c.if-hash_count-i.true

pub hash_at-requires : goal.hash_at-requires
hash_at-requires c = let p = c.in-Ok.p in hash-here _ _ p.accepted _ _ c.hash_count.ensures c.if-hash_count-i.false

pub returns : goal.returns
returns c =
    hash-there _ _ (accepted (goal.at.returns c).In-Ok) _ _ _ c.hash_count.ensures c.if-hash_count-i.false
    (rw c.in-Ok.ensures at c.hash_at.ensures)
