-- `decode::narrow::by_windows` meets its contract. The loop's invariant: the bytes up to `at` are right, and what is seen of them.
-- Assumes nothing.
use Rattle.std.proofs.Common.{◌≡◌, Bool, false, ◌&&◌, ◌||◌, List, ℕ, ◌+◌, ◌-◌, ◌≤◌, ◌<◌, length, take, drop, get_or, arith}
use borrow.Author.Tests.{leb-false}
use lib.Dec.{leb}
use Rattle.text.specs.Utf8.{from_utf8}
use Rattle.decode.specs.Measure.{measured, a_text}
use Rattle.decode.specs.NarrowLaws.{Good}
use Rattle.decode.proofs.NarrowLaws.{good-next, good-few, good-measured, neither}
use Rattle.decode.proofs.narrow.by_windows.Goals.{In-Some}
use Rattle.decode.proofs.narrow.by_windows.Goals as goal

-- a window more
turned : (c : In-Some) →
    let a = c.args in
    let l = c.loop-at in
    let w = c.in-Some.w in
    Good a.s.now a.from (l.at + c.window-n.result) (l.units + w.units) (l.latin && w.low)
turned c =
    let l = c.loop-at in
    good-next _ _ _ l.invariant.0 (omega arith) l.invariant.2 _ c.in-Some.ensures

-- all of them, where the last is no first byte
ended : (s : List ℕ) (from to : ℕ) → from < to → to ≤ length s → (b : Bool) → (b || leb 0xC0 (get_or s (to - 1) 0)) ≡ false → {u : ℕ} {latin : Bool}
    → Good s from to u latin → a_text u latin ≡ measured (from_utf8 (take (to - from) (drop from s)))
ended s from to h l b e g = good-measured s from to h l g (leb-false 0xC0 (get_or s (to - 1) 0) (neither b (leb 0xC0 (get_or s (to - 1) 0)) e).1)

pub overflow_add-units : goal.overflow_add-units
overflow_add-units c =
    let a = c.args in
    let l = c.loop-at in
    omega (arith, good-few a.s.now a.from (l.at + c.window-n.result) (omega arith) (omega arith) (turned (goal.at.overflow_add-units c).In-Some))

pub loop-at-preserved : goal.loop-at-preserved
loop-at-preserved c =
    let l = c.loop-at in
    let e : c.window-n.result ≡ 32 = omega arith in
    (omega arith, omega arith, rw (← e, c.from-units-in-loop-at.ensures) (turned (goal.at.loop-at-preserved c).In-Some))

pub returns-in-Some : goal.returns-in-Some
returns-in-Some c =
    let e : c.loop-at.at + c.window-n.result ≡ c.args.to = omega arith in
    rw c.from-units-in-loop-at.ensures (ended _ _ _ (omega arith) (omega arith) _ c.if-is_wrong-s.false (rw e at (turned (goal.at.returns-in-Some c).In-Some)))

pub returns-else-is_wrong-s : goal.returns-else-is_wrong-s
returns-else-is_wrong-s c =
    let l = c.loop-at in
    let e : l.at ≡ c.args.to = omega arith in
    ended _ _ _ (omega arith) (omega arith) _ c.if-is_wrong-s.false (rw e at l.invariant.2)
