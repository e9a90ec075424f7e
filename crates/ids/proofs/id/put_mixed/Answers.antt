-- `id::put_mixed`: units of the base, and behind them units of the suffix. Assumes nothing.
use mathlib.Core.Path.{◌≡◌, sym, ◌∙◌, ap}
use mathlib.Core.List.{List}
use Prim.Native.Nat.{ℕ, ◌+◌, ◌-◌, ◌*◌, ◌≤◌}
use native.Mathlib.Omega.{arith}
use borrow.Author.Rules.{rules}
use lib.ListN.{length, take, drop, length-take, length-drop}
use Rattle.lower.specs.Lower.{lowered}
use Rattle.base.specs.OutputLaws.{wrote_as, wrote_count, wrote-room}
use Rattle.text.specs.Utf16.{encode16, unit_bytes}
use Rattle.text.specs.Parts.{base_in}
use Rattle.ids.specs.LoweredUnits.{name_units}
use Rattle.ids.proofs.NameUnits.{part_length, name-length, name-first, name-both, wrote-two}
use Rattle.ids.proofs.ShortUnits.{wrote-plain}
use Rattle.ids.proofs.id.put_mixed.Goals.{Then-k-n}
use Rattle.ids.proofs.id.put_mixed.Goals as goal

-- what the suffix brings is there
room : (c : Then-k-n) → (c.min-k.result ≡ c.count-count.result - c.args.from)
    × (c.args.from + c.min-k.result - c.count-count.result + (c.args.n - c.min-k.result) ≤ length c.args.name.suffix.now)
room c =
    let n = c.args.name in
    let p = n.text.part in
    let l = name-length p.wide p.bytes.now p.fits n.text.well n.suffix.now in
    (omega arith, omega arith)

pub overflow_add-rest-then-k-n : goal.overflow_add-rest-then-k-n
overflow_add-rest-then-k-n c = omega (arith, room (goal.at.overflow_add-rest-then-k-n c).Then-k-n)

pub slice_bounds-put_bytes-end-then-k-n : goal.slice_bounds-put_bytes-end-then-k-n
slice_bounds-put_bytes-end-then-k-n c = (room (goal.at.slice_bounds-put_bytes-end-then-k-n c).Then-k-n).1

pub put_bytes-requires-clause-room : goal.put_bytes-requires-clause-room
put_bytes-requires-clause-room c =
    let h = room (goal.at.put_bytes-requires-clause-room c).Then-k-n in
    let l = wrote-room c.put_part.ensures (2 * (c.args.n - c.min-k.result)) (omega arith) in
    simp (length-take, length-drop) (omega arith)

pub returns-then-k-n : goal.returns-then-k-n
returns-then-k-n c =
    let a = c.args in
    let p = a.name.text.part in
    let k = c.min-k.result in
    let n = c.count-count in
    let rest : ℕ = a.from + k - n.result in
    let us : List ℕ = encode16 (lowered (base_in p)) in
    let vs : List ℕ = a.name.suffix.now in
    let h = room (goal.at.returns-then-k-n c).Then-k-n in
    let q = wrote-plain vs rest (a.n - k) _ (omega arith) (omega arith) (c.put_bytes.ensures (λ b. b) (λ b r l e. search rules)) in
    wrote_count
    (wrote-two (take k (drop a.from us)) (take (a.n - k) (drop rest vs)) (take a.n (drop a.from (name_units (base_in p) vs))) c.put_part.ensures q
    (name-both (base_in p) vs a.from a.n k n.result (n.ensures ∙ sym (part_length p.wide p.bytes.now p.fits a.name.text.well)) h.0 (omega arith)))
    (omega arith)

pub returns-else-k-n : goal.returns-else-k-n
returns-else-k-n c =
    let a = c.args in
    let p = a.name.text.part in
    let r = c.min-k in
    let e : r.result ≡ a.n = omega arith in
    wrote_as (rw e at c.put_part.ensures)
    (ap unit_bytes (name-first (base_in p) a.name.suffix.now a.from a.n (omega (arith, part_length p.wide p.bytes.now p.fits a.name.text.well))))
