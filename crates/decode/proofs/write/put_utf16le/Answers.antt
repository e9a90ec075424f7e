-- `decode::write::put_utf16le` meets its contract. The loop's invariant: what is not written yet is the UTF-16LE of the text from `at`
-- on, which is well-formed. Assumes nothing.
use mathlib.Core.Path.{sym, ap, ◌∙◌}
use Prim.Native.Nat.{◌<◌}
use native.Mathlib.Omega.{arith}
use lib.ListN.{length}
use Rattle.base.specs.OutputLaws.{wrote-length, wrote_none, wrote_as}
use Rattle.text.specs.UnitBytesLaws.{wrote-one}
use Rattle.decode.specs.TurnLaws.{Turn}
use Rattle.decode.proofs.TurnLaws.{turn, well-next}
use Rattle.decode.proofs.WriteLaws.{partly_none, partly_all, partly_next, rest-room, units-one, utf16le-room, utf16le-next, utf16le-last}
use Rattle.decode.specs.RunLaws.{Seconds, Leads}
use Rattle.decode.proofs.RunLaws.{four-turn, pair-room, one-small, twos-leads, twos-well, twos-next, twos-room, run-leads, run-well, run-next, run_room}
use Rattle.decode.proofs.EightLaws.{few-well, few-next}
use Rattle.decode.proofs.write.put_utf16le.Goals.{After-known_char-c, Then-is_run-2, Then-is_run}
use Rattle.decode.proofs.write.put_utf16le.Goals as goal

-- what a turn passes, but for ASCII: four characters of two bytes
twain : (c : Then-is_run) → Seconds c.args.s.now c.loop-at.at
twain c = twos-leads _ _ (sym c.is_run.ensures ∙ c.if-is_run.true)

-- or four characters of three bytes
led : (c : Then-is_run-2) → Leads c.args.s.now c.loop-at.at
led c = run-leads _ _ (sym c.is_run-then-a-lt240.ensures ∙ c.if-is_run-2.true)

-- or one character
turned : (c : After-known_char-c) → Turn c.args.s.now c.loop-at.at c.known_char-c.result.value c.known_char-c.result.size
turned c = turn _ _ c.loop-at-test.true (sym c.known_char-c.ensures)

-- which is one unit
small : (c : After-known_char-c) → c.known_char-c.result.value < 0x10000
small c = one-small c.args.s.now c.loop-at.at c.loop-at-test.true c.loop-at.invariant.2 (sym c.known_char-c.ensures) (omega (arith, c.if-a-ge240.false))

pub loop-at-init : goal.loop-at-init
loop-at-init c = (omega arith, omega arith, c.requires.0, partly_none _ _)

pub put_ascii-few-requires : goal.put_ascii-few-requires
put_ascii-few-requires c =
    let i = c.loop-at.invariant in
    (c.loop-at-test.true, omega arith, i.2, rest-room i.3 c.requires.1)

pub loop-at-preserved-then-a-lt128 : goal.loop-at-preserved-then-a-lt128
loop-at-preserved-then-a-lt128 c =
    let i = c.loop-at.invariant in
    let l = c.put_ascii-few.ensures.passed.1 in
    let k = c.put_ascii-few.result in
    let p = partly_next i.3 _ _ (few-next c.args.s.now c.loop-at.at i.2 k l) c.put_ascii-few.ensures.passed.2 in
    (l.0, wrote-length p.wrote, few-well c.args.s.now c.loop-at.at i.2 k l, p)

pub put_pair-n-requires : goal.put_pair-n-requires
put_pair-n-requires c =
    let i = c.loop-at.invariant in
    let h = c.loop-at-test.true in
    let room = utf16le-room (four-turn c.args.s.now c.loop-at.at h i.2 c.if-a-ge240.true) i.2 i.3 c.requires.1 in
    (h, i.2, c.if-a-ge240.true, pair-room c.args.s.now c.loop-at.at h i.2 c.if-a-ge240.true _ room)

pub loop-at-preserved-then-a-ge240 : goal.loop-at-preserved-then-a-ge240
loop-at-preserved-then-a-ge240 c =
    let i = c.loop-at.invariant in
    let t = c.put_pair-n.ensures.0 in
    let p = partly_next i.3 _ _ (utf16le-next t i.2) c.put_pair-n.ensures.1 in
    (t.within, wrote-length p.wrote, sym (well-next t) ∙ i.2, p)

pub put_run-requires : goal.put_run-requires
put_run-requires c =
    let i = c.loop-at.invariant in
    (i.2, sym c.is_run.ensures ∙ c.if-is_run.true, twos-room _ _ i.2 (twain (goal.at.put_run-requires c).Then-is_run) i.3 c.requires.1)

pub loop-at-preserved-then-is_run : goal.loop-at-preserved-then-is_run
loop-at-preserved-then-is_run c =
    let i = c.loop-at.invariant in
    let l = twain (goal.at.loop-at-preserved-then-is_run c).Then-is_run in
    let p = partly_next i.3 _ _ (twos-next _ _ i.2 l) c.put_run.ensures in
    (l.there, wrote-length p.wrote, twos-well _ _ i.2 l, p)

pub put_run-requires-then-is_run-2 : goal.put_run-requires-then-is_run-2
put_run-requires-then-is_run-2 c =
    let i = c.loop-at.invariant in
    (i.2, sym c.is_run-then-a-lt240.ensures ∙ c.if-is_run-2.true, run_room _ _ i.2 (led (goal.at.put_run-requires-then-is_run-2 c).Then-is_run-2) i.3 c.requires.1)

pub loop-at-preserved-then-is_run-2 : goal.loop-at-preserved-then-is_run-2
loop-at-preserved-then-is_run-2 c =
    let i = c.loop-at.invariant in
    let l = led (goal.at.loop-at-preserved-then-is_run-2 c).Then-is_run-2 in
    let p = partly_next i.3 _ _ (run-next _ _ i.2 l) c.put_run-then-is_run-2.ensures in
    (l.there, wrote-length p.wrote, run-well _ _ i.2 l, p)

pub overflow_cast-c : goal.overflow_cast-c
overflow_cast-c c = omega (arith, small (goal.at.overflow_cast-c c).After-known_char-c)

pub put_unit-requires : goal.put_unit-requires
put_unit-requires c =
    let i = c.loop-at.invariant in
    let v = small (goal.at.put_unit-requires c).After-known_char-c in
    omega (arith, ap length (units-one _ v), utf16le-room (turned (goal.at.put_unit-requires c).After-known_char-c) i.2 i.3 c.requires.1)

pub overflow_add-at-in-loop-at : goal.overflow_add-at-in-loop-at
overflow_add-at-in-loop-at c = let t = turned (goal.at.overflow_add-at-in-loop-at c).After-known_char-c in omega arith

pub loop-at-smaller : goal.loop-at-smaller
loop-at-smaller c = let t = turned (goal.at.loop-at-smaller c).After-known_char-c in omega arith

pub loop-at-preserved : goal.loop-at-preserved
loop-at-preserved c =
    let i = c.loop-at.invariant in
    let t = turned (goal.at.loop-at-preserved c).After-known_char-c in
    let v = small (goal.at.loop-at-preserved c).After-known_char-c in
    let room = utf16le-room t i.2 i.3 c.requires.1 in
    let w = wrote_as (wrote-one 0 _ (wrote_none _) (omega (arith, ap length (units-one _ v), room)) c.put_unit.ensures) (sym (units-one _ v)) in
    let p = partly_next i.3 _ _ (utf16le-next t i.2) w in
    (t.within, wrote-length p.wrote, sym (well-next t) ∙ i.2, p)

pub returns : goal.returns
returns c = partly_all c.loop-at.invariant.3 (utf16le-last _ _ c.loop-at-test.false)
