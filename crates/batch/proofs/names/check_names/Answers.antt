-- `check_names` meets its contract: what is still to be read from here decides as the whole reading does.
use mathlib.Core.Path.{◌≡◌, sym, ◌∙◌}
use mathlib.Core.Bool.{Bool}
use mathlib.Core.List.{List}
use Prim.Native.Nat.{ℕ, ◌+◌, ◌*◌, ◌-◌}
use native.Mathlib.Omega.{arith}
use lib.ListN.{take, drop}
use Rattle.text.specs.Utf16.{is_well}
use Rattle.text.specs.Name.{decoded}
use Rattle.batch.specs.Batch.{head_at}
use Rattle.batch.specs.BatchLaws.{names-none, names-left, names-out, names-ill, names-pass}
use Rattle.batch.specs.declared.names.Head.{Head}
use Rattle.batch.proofs.names.check_names.Goals as goal

-- what the test of a name's bytes says of the name at its place
name-is : {b : Bool} (s : List ℕ) (h p : ℕ) (d : Head) → d ≡ head_at s h → is_well (decoded d.wide (take (p + d.size - p) (drop p s))) ≡ b
    → is_well (decoded (head_at s h).wide (take (head_at s h).size (drop p s))) ≡ b
name-is s h p d e q =
    let z : p + (head_at s h).size - p ≡ (head_at s h).size = omega arith in
    rw (e, z) at q

pub returns-then-n-p : goal.returns-then-n-p
returns-then-n-p c =
    let l = c.loop-i in
    let a = c.args in
    sym (l.invariant.same ∙ names-out a.s.now a.n.end (a.n.count - l.i) (a.n.headers + 2 * l.i) l.p (omega arith) (rw c.read_head-d.ensures.0 at c.if-n-p.true))

pub returns-then-not-is_text : goal.returns-then-not-is_text
returns-then-not-is_text c =
    let l = c.loop-i in
    let a = c.args in
    let e = c.read_head-d.ensures.0 in
    let w = name-is a.s.now (a.n.headers + 2 * l.i) l.p c.read_head-d.result e (sym c.is_text.ensures ∙ c.if-not-is_text.true) in
    sym (l.invariant.same ∙ names-ill a.s.now a.n.end (a.n.count - l.i) (a.n.headers + 2 * l.i) l.p (omega arith) (omega arith) (omega arith)
    (rw e at c.if-n-p.false) w)

pub loop-i-preserved : goal.loop-i-preserved
loop-i-preserved c =
    let l = c.loop-i in
    let a = c.args in
    let e = c.read_head-d.ensures.0 in
    let w = name-is a.s.now (a.n.headers + 2 * l.i) l.p c.read_head-d.result e (sym c.is_text.ensures ∙ c.if-not-is_text.false) in
    let f : a.n.headers + 2 * (l.i + 1) ≡ a.n.headers + 2 * l.i + 2 = omega arith in
    let g : a.n.count - (l.i + 1) ≡ a.n.count - l.i - 1 = omega arith in
    record {
      within = omega arith;
      same = rw (f, g) (l.invariant.same
          ∙ rw e (names-pass a.s.now a.n.end (a.n.count - l.i) (a.n.headers + 2 * l.i) l.p (omega arith) (omega arith) (omega arith) (rw e at c.if-n-p.false) w));
    }

pub returns-then-p-n : goal.returns-then-p-n
returns-then-p-n c =
    let l = c.loop-i in
    let a = c.args in
    sym (l.invariant.same ∙ names-left a.s.now a.n.end (a.n.count - l.i) (a.n.headers + 2 * l.i) l.p (omega arith) (omega arith) c.if-p-n.true)

pub returns : goal.returns
returns c =
    let l = c.loop-i in
    let a = c.args in
    sym (l.invariant.same ∙ names-none a.s.now a.n.end (a.n.count - l.i) (a.n.headers + 2 * l.i) l.p (omega arith) c.if-p-n.false)
