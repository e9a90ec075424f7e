-- `walk::corpus::Corpus::framed` meets its contract: the script block is inside. Assumes nothing.
use Rattle.std.specs.Prelude.{Ok}
use mathlib.Core.Path.{◌≡◌, refl, sym}
use Prim.Native.Nat.{◌≤◌}
use native.Mathlib.Omega.{arith}
use borrow.Author.Rules.{rules}
use lib.ListN.{length}
use Rattle.meaning.specs.Frame.{framed}
use Rattle.packages.specs.Framing.{framed_as}
use Rattle.walk.specs.OpenLaws.{begun, begun-inside}
use Rattle.walk.proofs.corpus.Corpus.framed.Goals.{In_ok-frame}
use Rattle.walk.proofs.corpus.Corpus.framed.Goals as goal

-- its parts
is : (c : In_ok-frame) → framed_as (framed c.args.bytes.now) ≡ Ok c.in_ok-frame.frame
is c = search rules

inside : (c : In_ok-frame) → (9 ≤ c.in_ok-frame.frame.«end») × (c.in_ok-frame.frame.«end» ≤ length c.args.bytes.now)
inside c = begun-inside (begun (λ i. (c.type_inv.bytes i).fits) (sym (is c)) refl)

pub slice_bounds-script-count : goal.slice_bounds-script-count
slice_bounds-script-count c = (inside (goal.at.slice_bounds-script-count c).In_ok-frame).0

pub slice_bounds-script-start : goal.slice_bounds-script-start
slice_bounds-script-start c = let z = inside (goal.at.slice_bounds-script-start c).In_ok-frame in omega arith

pub slice_bounds-script-end : goal.slice_bounds-script-end
slice_bounds-script-end c = let z = inside (goal.at.slice_bounds-script-end c).In_ok-frame in omega arith
