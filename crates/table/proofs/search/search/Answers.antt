-- `search::search` meets its contract, for all entries that the table holds. Assumes nothing.
use mathlib.Core.Path.{◌≡◌}
use mathlib.Core.Bool.{false}
use Prim.Native.Nat.{◌+◌, ◌≤◌, ◌<◌}
use native.Mathlib.Omega.{arith}
use borrow.Author.Rules.{rules}
use lib.ListN.{length}
use Rattle.table.specs.Table.{record_at}
use Rattle.table.specs.TreeLaws.{bucket-lt}
use Rattle.table.proofs.Searching.{search_start, place-room, search_record, search_hit, search_none, turn-left, search_turn}
use Rattle.table.proofs.search.search.Goals.{In-Some, After-has_key}
use Rattle.table.proofs.search.search.Goals as goal

-- the record that the link leads to is there
record_room : (c : In-Some) → let a = c.args in (24 ≤ a.stride) × (record_at a.n a.stride c.in-Some.i + a.stride ≤ length a.w.now)
record_room c =
    let p = c.requires.0 in
    let t = p.linked.holds in
    (t.wide, search_record t _ _ (c.loop-i.invariant p.count _ _ t) c.in-Some.ensures)

-- a turn: the entry that is passed has not the key, so a turn was left
left : (c : After-has_key) → c.has_key.result ≡ false → c.loop-i.depth < 128
left c e =
    let p = c.requires.0 in
    let t = p.linked.holds in
    turn-left t _ _ (c.loop-i.invariant p.count _ _ t) c.in-Some.ensures _ c.record_at-at.ensures _ c.has_key.ensures c.ranges.lo.fits c.ranges.hi.fits e

pub overflow_mul-place : goal.overflow_mul-place
overflow_mul-place c = let b = bucket-lt c.args.n c.args.lo c.args.hi c.requires.1 in search rules

pub loop-i-init : goal.loop-i-init
loop-i-init c = λ k los his t. search_start t c.args.lo c.args.hi _ c.requires.1 (rw c.bucket_of-place.ensures)

pub entry_at-requires : goal.entry_at-requires
entry_at-requires c = let p = c.requires.0 in let t = p.linked.holds in place-room t _ _ (c.loop-i.invariant p.count _ _ t)

pub record_at-at-requires : goal.record_at-at-requires
record_at-at-requires c = let r = record_room (goal.at.record_at-at-requires c).In-Some in search rules

pub has_key-requires : goal.has_key-requires
has_key-requires c = let r = record_room (goal.at.has_key-requires c).In-Some in search rules

pub returns-then-has_key : goal.returns-then-has_key
returns-then-has_key c = λ k los his t.
    search_hit t _ _ (c.loop-i.invariant k los his t) c.in-Some.ensures _ c.record_at-at.ensures _ c.has_key.ensures c.if-has_key.true

pub turn-requires : goal.turn-requires
turn-requires c = let l = left (goal.at.turn-requires c).After-has_key c.if-has_key.false in omega arith

pub overflow_add-place : goal.overflow_add-place
overflow_add-place c = let r = record_room (goal.at.overflow_add-place c).In-Some in search rules

pub overflow_add-depth : goal.overflow_add-depth
overflow_add-depth c = let l = left (goal.at.overflow_add-depth c).After-has_key c.if-has_key.false in search rules

pub loop-i-smaller : goal.loop-i-smaller
loop-i-smaller c = let l = left (goal.at.loop-i-smaller c).After-has_key c.if-has_key.false in omega arith

pub loop-i-preserved : goal.loop-i-preserved
loop-i-preserved c = λ k los his t.
    search_turn t _ _ (c.loop-i.invariant k los his t) c.in-Some.ensures _ c.record_at-at.ensures _ c.has_key.ensures
    c.ranges.lo.fits c.ranges.hi.fits c.if-has_key.false _ (rw c.turn.ensures.is)

pub returns : goal.returns
returns c = λ k los his t. search_none t _ _ (c.loop-i.invariant k los his t) c.in_default.ensures
