-- `wide::put_singly`: what the rules wrote, and behind it what the table gives. Assumes nothing.
use mathlib.Core.Path.{◌≡◌}
use mathlib.Core.Bool.{true}
use mathlib.Core.List.{List}
use Prim.Native.Nat.{ℕ, ◌+◌, ◌-◌}
use native.Mathlib.Omega.{arith}
use borrow.Author.Rules.{rules}
use lib.ListN.{take, drop}
use Rattle.lower.specs.Lower.{lowered}
use Rattle.base.specs.OutputLaws.{wrote_count, wrote-length, wrote-room}
use Rattle.text.specs.Utf16.{encode16}
use Rattle.text.specs.Name.{base}
use Rattle.ids.proofs.NameUnits.{window-two, wrote-two}
use Rattle.ids.proofs.wide.put_singly.Goals as goal

pub put_ruled-k-requires : goal.put_ruled-k-requires
put_ruled-k-requires c = (search rules, search rules)

pub slice_bounds-put_lowered-count : goal.slice_bounds-put_lowered-count
slice_bounds-put_lowered-count c = omega (arith, wrote-length c.put_ruled-k.ensures.1)

pub put_lowered-requires : goal.put_lowered-requires
put_lowered-requires c = (omega arith, wrote-room c.put_ruled-k.ensures.1 _ (omega arith))

pub returns-then-k-n : goal.returns-then-k-n
returns-then-k-n c =
    let a = c.args in
    let r = c.put_ruled-k in
    let us : List ℕ = (encode16 (lowered (base true a.text.bytes.now))) in
    let w = wrote-two (take r.result (drop a.from us)) (take (a.n - r.result) (drop (a.from + r.result) us)) (take a.n (drop a.from us))
    r.ensures.1 c.put_lowered.ensures (window-two us a.from a.n r.result (omega arith)) in
    wrote_count w (omega arith)

pub returns-else-k-n : goal.returns-else-k-n
returns-else-k-n c =
    let a = c.args in
    let r = c.put_ruled-k in
    let e : r.result ≡ a.n = omega arith in
    rw e at r.ensures.1
