-- `chain::put_chain_by_scan` meets its contract. The loop's invariant: the objects so far are in the chain, and the path is theirs behind that of the
-- object at hand. Assumes nothing.
use mathlib.Core.Path.{◌≡◌, sym, ◌∙◌}
use Prim.Native.Nat.{suc, ◌≤◌, ◌<◌}
use native.Mathlib.Omega.{arith}
use lib.ListN.{length, drop, length-set}
use Rattle.base.specs.Index.{kind}
use Rattle.base.specs.Reading.{gives, run}
use Rattle.base.specs.declared.index.Kind.TheVariants.{Null}
use Rattle.batch.specs.Places.{place_at}
use Rattle.scriptblock.specs.Script.{Objects, script}
use Rattle.base.proofs.Numbers.{kind-same}
use Rattle.scriptblock.proofs.ScriptAccepted.{script-parts, entry-count}
use Rattle.objects.specs.Numbers.{entry_no, link_of}
use Rattle.objects.specs.NumberLaws.{link-null}
use Rattle.hashes.specs.ChainLaws.{Own, reached_none, reached_end, reached_lost, reached_top, reached_up}
use Rattle.hashes.specs.ScanLaws.{moved, entry-same, entry_named, entry-behind, own_scan, found_inside, link-none, link-some}
use Rattle.hashes.proofs.chain.put_chain_by_scan.Goals.{After-entry-e, After-place-p}
use Rattle.hashes.proofs.chain.put_chain_by_scan.Goals as goal

-- the entry at hand, and its name
named : (c : After-entry-e) → c.entry-e.result.index < c.args.s.now.block.layout.names.count
named c =
    let b = c.args.s.now.block in
    entry_named b.bytes.now b.layout b.accepted b.fits c.loop-depth.at c.loop-depth.invariant.0 c.entry-e.ensures

same : (c : After-entry-e) (o : Objects) → run script 0 c.args.s.now.block.bytes.now ≡ gives o → c.entry-e.result ≡ entry_no o c.loop-depth.at
same c o q =
    let b = c.args.s.now.block in
    entry-same b.bytes.now b.layout b.accepted b.fits c.loop-depth.at c.loop-depth.invariant.0 c.entry-e.ensures o q

there : (c : After-place-p) → c.place-p.result ≡ place_at c.args.s.now.block.bytes.now c.args.s.now.block.layout.names c.entry-e.result.index
there c = let s = c.args.s.now in rw (s.own.0, s.own.1) at c.place-p.ensures

behind : (c : After-place-p) → c.args.s.now.names.names.strings ≤ c.place-p.result.start
behind c =
    let s = c.args.s.now in
    let b = s.block in
    rw s.own.1 (entry-behind b.bytes.now b.layout b.accepted b.fits c.loop-depth.at c.loop-depth.invariant.0 c.entry-e.ensures (there c)).0

-- as an object of a chain
own : (c : After-place-p) (o : Objects) → run script 0 c.args.s.now.block.bytes.now ≡ gives o
    → Own (drop c.args.s.now.names.names.strings c.args.s.now.block.bytes.now) o c.loop-depth.at
    (record { place = moved c.args.s.now.names.names.strings c.place-p.result; number = c.entry-e.result.number })
own c o q =
    let s = c.args.s.now in
    let b = s.block in
    rw s.own.1 (own_scan b.bytes.now b.layout b.accepted b.fits c.loop-depth.at c.loop-depth.invariant.0 c.entry-e.ensures (there c) o q)

pub loop-depth-init : goal.loop-depth-init
loop-depth-init c = (
  c.requires,
  omega arith,
  omega arith,
  λ o q. reached_none (drop c.args.s.now.names.names.strings c.args.s.now.block.bytes.now) o (length c.args.chain.now) c.args.i c.args.chain.now,
)

pub entry-e-requires : goal.entry-e-requires
entry-e-requires c =
    let b = c.args.s.now.block in
    rw (entry-count b.bytes.now b.layout (script-parts b.bytes.now b.layout b.accepted)) c.loop-depth.invariant.0

pub place-p-requires : goal.place-p-requires
place-p-requires c = rw c.args.s.now.own.1 (named (goal.at.place-p-requires c).After-entry-e)

pub overflow_sub-chain : goal.overflow_sub-chain
overflow_sub-chain c = behind (goal.at.overflow_sub-chain c).After-place-p

pub returns-in-Null-clause-told : goal.returns-in-Null-clause-told
returns-in-Null-clause-told c =
    let l = c.loop-depth in
    let d = (goal.at.returns-in-Null-clause-told c).After-place-p in
    let e = (goal.at.returns-in-Null-clause-told c).After-entry-e in
    λ o q.
    let k : 1 ≡ link_of o (entry_no o l.at).outer = rw (← same e o q) (sym (link-null o c.entry-e.result.outer (sym c.in-Null.ensures))) in
    reached_top (l.invariant.3 o q) c.loop-depth-test.true l.invariant.2 (own d o q) k

pub returns-in_err-at-clause-told : goal.returns-in_err-at-clause-told
returns-in_err-at-clause-told c =
    let l = c.loop-depth in
    let b = c.args.s.now.block in
    let d = (goal.at.returns-in_err-at-clause-told c).After-place-p in
    let e = (goal.at.returns-in_err-at-clause-told c).After-entry-e in
    λ o q.
    let n = λ (w : kind c.entry-e.result.outer ≡ 3). c.in_default.not-Null (kind-same _ Null (c.index_kind.ensures ∙ w)) in
    let k : 0 ≡ link_of o (entry_no o l.at).outer =
    rw (← same e o q) (link-none b.bytes.now b.layout b.accepted b.fits c.entry-e.result.outer o q n c.in_err-at.ensures) in
    rw c.from_residual.ensures (reached_lost (l.invariant.3 o q) c.loop-depth-test.true l.invariant.2 (own d o q) k)

pub loop-depth-preserved : goal.loop-depth-preserved
loop-depth-preserved c =
    let l = c.loop-depth in
    let b = c.args.s.now.block in
    let d = (goal.at.loop-depth-preserved c).After-place-p in
    let e = (goal.at.loop-depth-preserved c).After-entry-e in (
      found_inside b.bytes.now b.layout b.accepted b.fits c.entry-e.result.outer c.in_ok-at.ensures,
      omega (arith, c.loop-depth-test.true),
      simp length-set l.invariant.2,
      λ o q.
          let n = λ (w : kind c.entry-e.result.outer ≡ 3). c.in_default.not-Null (kind-same _ Null (c.index_kind.ensures ∙ w)) in
          let k : suc (suc c.in_ok-at.at) ≡ link_of o (entry_no o l.at).outer =
          rw (← same e o q) (link-some b.bytes.now b.layout b.accepted b.fits c.entry-e.result.outer o q n c.in_ok-at.ensures) in
          reached_up (l.invariant.3 o q) c.loop-depth-test.true l.invariant.2 (own d o q) k,
    )

pub returns-clause-told : goal.returns-clause-told
returns-clause-told c = λ o q. reached_end (c.loop-depth.invariant.3 o q) (omega (arith, c.loop-depth-test.false))
