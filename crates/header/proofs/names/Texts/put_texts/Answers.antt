-- `names::Texts::put_texts` meets its contract. The loop's invariant: i texts are written. Assumes nothing.
use Prim.Native.Nat.{◌+◌, ◌*◌, ◌≤◌}
use native.Mathlib.Omega.{arith}
use lib.ListN.{length}
use borrow.Author.Rules.{rules}
use Rattle.base.specs.OutputLaws.{wrote-length}
use Rattle.written.specs.BatchBytes.{string_bytes}
use Rattle.header.specs.Places.{text_at, texts_from}
use Rattle.header.specs.PartsLaws.{Fitting}
use Rattle.header.specs.TextLoops.{texts-count}
use Rattle.header.specs.LaidLaws.{heads-room, upto_none, upto_all, upto_first, upto_room, upto_next}
use Rattle.header.proofs.names.Texts.put_texts.Goals.{In-loop-i}
use Rattle.header.proofs.names.Texts.put_texts.Goals as goal

-- the text at hand, and room for it
first : (c : In-loop-i) → Fitting c.args.self.more c.args.self.s.now
    c.loop-i.at
first c =
    let a = c.args in
    upto_first a.self.more a.self.s.now a.self.from a.self.count a.out.now c.requires c.loop-i.invariant (search rules)

room : (c : In-loop-i) → let a = c.args in let l = c.loop-i in
    (2 * l.i + 2 ≤ l.n) × (l.n + length (string_bytes (text_at a.self.s.now l.at)) ≤ length a.out.now)
room c =
    let a = c.args in
    upto_room a.self.more a.self.s.now a.self.from a.self.count a.out.now c.requires c.loop-i.invariant (search rules)

pub overflow_mul-n : goal.overflow_mul-n
overflow_mul-n c =
    let a = c.args in
    omega (arith, heads-room (texts_from a.self.more a.self.s.now a.self.from a.self.count) a.out.now c.requires, texts-count a.self.more a.self.s.now a.self.count a.self.from)

pub loop-i-init : goal.loop-i-init
loop-i-init c =
    let a = c.args in
    upto_none a.self.more a.self.s.now a.self.from a.self.count a.out.now c.requires c.args.self.fit

pub overflow_mul-i : goal.overflow_mul-i
overflow_mul-i c = omega (arith, (room (goal.at.overflow_mul-i c).In-loop-i).0, (room (goal.at.overflow_mul-i c).In-loop-i).1)

pub put_text-n-requires : goal.put_text-n-requires
put_text-n-requires c =
    let f = first (goal.at.put_text-n-requires c).In-loop-i in
    (f.there, omega (arith, f.next), f.well, f.units, (room (goal.at.put_text-n-requires c).In-loop-i).0, omega (arith, (room (goal.at.put_text-n-requires c).In-loop-i).1, wrote-length c.loop-i.invariant.between.wrote))

pub overflow_add-n : goal.overflow_add-n
overflow_add-n c =
    omega (arith, (room (goal.at.overflow_add-n c).In-loop-i).1, c.put_text-n.ensures.0)

pub next_text-at-requires : goal.next_text-at-requires
next_text-at-requires c = let f = first (goal.at.next_text-at-requires c).In-loop-i in record { there = f.there; next = f.next }

pub loop-i-preserved : goal.loop-i-preserved
loop-i-preserved c =
    let a = c.args in
    rw (c.next_text-at.ensures, c.put_text-n.ensures.0, c.put_text-n.ensures.1)
    (upto_next a.self.more a.self.s.now a.self.from a.self.count a.out.now c.requires c.loop-i.invariant (search rules))

pub returns : goal.returns
returns c =
    let l = c.loop-i in
    let a = c.args in
    upto_all a.self.more a.self.s.now a.self.from a.self.count a.out.now c.requires l.invariant (search rules)
