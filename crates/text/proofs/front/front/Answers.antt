-- `front::front` meets its contract: of one-byte text eight bytes at once, of wide text four units and four more. Assumes nothing.
use mathlib.Core.Path.{◌≡◌, sym, ◌∙◌}
use mathlib.Core.Bool.{true}
use mathlib.Core.List.{List}
use Prim.Native.Nat.{ℕ, ◌+◌, ◌≤◌, ◌<◌}
use native.Mathlib.Omega.{arith}
use lib.ListN.{drop}
use lib.Seq.{drop-drop}
use Rattle.text.specs.Units.{units_of}
use Rattle.text.specs.UnitsLaws.{units_of-narrow, units_of_bound}
use Rattle.text.specs.Front.{ascii_front}
use Rattle.text.specs.FrontLaws.{front-most, front-some, front-all}
use Rattle.text.proofs.front.front.Goals as goal

-- of four units, and of four more
some : (us : List ℕ) (i k : ℕ) → k ≡ ascii_front 4 (drop i us) → k < 4 → k ≡ ascii_front 8 (drop i us)
some us i k e h = e ∙ sym (front-some 4 4 (drop i us) (rw e at h))

all : (us : List ℕ) (i k m : ℕ) → k ≡ ascii_front 4 (drop i us) → 4 ≤ k → m ≡ ascii_front 4 (drop (i + 4) us) → 4 + m ≡ ascii_front 8 (drop i us)
all us i k m e h f = rw f (rw (← drop-drop 4 i us) (sym (front-all 4 4 (drop i us) (rw e at h))))

pub byte_front-requires : goal.byte_front-requires
byte_front-requires c = rw (c.if-not-part.true, units_of-narrow) at c.requires

pub returns-then-not-part : goal.returns-then-not-part
returns-then-not-part c = rw (c.if-not-part.true, units_of-narrow) c.byte_front.ensures

pub returns-then-k-lt4 : goal.returns-then-k-lt4
returns-then-k-lt4 c =
    let a = c.args in
    rw (c.if-not-part.false) (some (units_of true a.part.bytes.now) a.i _ c.unit_front-k.ensures c.if-k-lt4.true)

pub overflow_add-i : goal.overflow_add-i
overflow_add-i c = omega (arith, units_of_bound c.args.part.wide c.args.part.bytes.now)

pub overflow_add-result : goal.overflow_add-result
overflow_add-result c =
    let a = c.args in
    omega (arith, c.unit_front.ensures, front-most 4 (drop (a.i + 4) (units_of true a.part.bytes.now)))

pub returns : goal.returns
returns c =
    let a = c.args in
    rw (c.if-not-part.false)
    (all (units_of true a.part.bytes.now) a.i _ _ c.unit_front-k.ensures c.if-k-lt4.false c.unit_front.ensures)
