-- `latin::is_latin1` meets its contract: it has a text of low bytes alone. The loop's invariant: the bytes so far are low. Assumes nothing.
use mathlib.Core.Path.{◌≡◌, sym, ◌∙◌}
use mathlib.Core.Bool.{true}
use mathlib.Core.List.{List}
use Prim.Native.Nat.{ℕ, ◌+◌, ◌*◌, ◌-◌, ◌≤◌}
use native.Mathlib.Omega.{arith}
use Rattle.std.proofs.Common.{le-ltb}
use Rattle.std.specs.Prelude.{get_or}
use lib.ListN.{length, take, drop}
use Rattle.std.proofs.lemmas.Grind.{div_ceil_times}
use Rattle.decode.specs.Latin.{every, low}
use Rattle.decode.proofs.LatinLaws.{starts-is, low-latin, every_more, every-first, every-not, every_cover}
use Rattle.decode.proofs.latin.is_latin1.Goals as goal

-- sixteen bytes more
more : (s : List ℕ) (i : ℕ) → every low (take i s) ≡ true → every low (take 16 (drop i s)) ≡ true → every low (take (i + 16) s) ≡ true
more s i e f = every_more low 16 s i ∙ rw (e, f)

pub returns-then-starts_from : goal.returns-then-starts_from
returns-then-starts_from c =
    let s = c.args.s.now in
    let f = starts-is 0xC4 s (sym c.starts_from.ensures ∙ c.if-starts_from.true) in
    sym (sym (low-latin s c.requires) ∙ every-first low s f.0 (le-ltb (get_or s 0 0) 0xC4 f.1))

pub returns-then-n-lt8 : goal.returns-then-n-lt8
returns-then-n-lt8 c = c.are_below.ensures ∙ low-latin _ c.requires

pub returns-then-n-lt16 : goal.returns-then-n-lt16
returns-then-n-lt16 c =
    let s = c.args.s.now in
    let e : length s - 8 + 8 ≡ length s = omega arith in
    let h : length s - 8 ≤ 8 = omega arith in
    rw (c.all_below.ensures, c.all_below-then-n-lt16.ensures) (every_cover low 8 s 8 (length s - 8) e h ∙ low-latin s c.requires)

pub returns-then-not-all_below : goal.returns-then-not-all_below
returns-then-not-all_below c =
    sym (sym (low-latin c.args.s.now c.requires) ∙ every-not low 16 _ (16 * c.loop-turn.turn) (sym c.all_below-in-loop-turn.ensures ∙ c.if-not-all_below.true))

pub loop-turn-preserved : goal.loop-turn-preserved
loop-turn-preserved c =
    let l = c.loop-turn in
    let e : 16 * (l.turn + 1) ≡ 16 * l.turn + 16 = omega arith in
    rw e (more _ (16 * l.turn) l.invariant (sym c.all_below-in-loop-turn.ensures ∙ c.if-not-all_below.false))

pub returns : goal.returns
returns c =
    let l = c.loop-turn in
    let s = c.args.s.now in
    let all : length s - 16 + 16 ≡ length s = omega arith in
    let past : length s - 16 ≤ 16 * l.turn = omega (arith, c.div_ceil-turn-end.ensures, div_ceil_times (length s - 16) 16 (omega arith)) in
    let e = rw l.invariant at (every_cover low 16 s (16 * l.turn) (length s - 16) all past) in
    c.all_below-2.ensures ∙ e ∙ low-latin s c.requires
