-- `texts::put_again` meets its contract. The invariant: what stands in front stands there once more as far as byte i. Assumes nothing.
use mathlib.Core.Path.{◌≡◌, refl, sym, ◌∙◌}
use mathlib.Core.List.{List, ◌∷◌, [], ◌++◌, append_assoc, append-nil}
use Prim.Native.Nat.{ℕ, ◌+◌, ◌≤◌, ◌<◌}
use native.Mathlib.Numerals.{add-one}
use native.Mathlib.Omega.{arith}
use lib.ListN.{length, take, drop, set, get_or, length-set, length-append, get_or-append}
use lib.Seq.{take-length, take-suc}
use Rattle.base.specs.Output.{over, Wrote}
use Rattle.base.specs.OutputLaws.{wrote_as, wrote_count, wrote-byte, wrote-length}
use Rattle.sections.proofs.texts.put_again.Goals as goal

-- byte i of what stands in front
front-byte : (old a b : List ℕ) (i : ℕ) → i < length a → get_or (over old (a ++ b)) i 0 ≡ get_or a i 0
unfolding over
front-byte old a b i h =
    get_or-append (a ++ b) (drop (length (a ++ b)) old) 0 i (omega (arith, length-append a b)) ∙ get_or-append a b 0 i h

-- one byte more
more : {old out : List ℕ} {n i : ℕ} (a : List ℕ) → length a ≡ n → i < n → n + n ≤ length out → Wrote old (a ++ take i a) out (n + i)
    → Wrote old (a ++ take (i + 1) a) (set out (n + i) (get_or out i 0)) (n + (i + 1))
more {old} {out} {n} {i} a e h room w =
    let l = wrote-length w in
    let v : get_or out i 0 ≡ get_or a i 0 = rw w.is (front-byte old a (take i a) i (omega arith)) in
    let t : take (i + 1) a ≡ take i a ++ (get_or a i 0 ∷ []) = rw (add-one i) (take-suc a i 0 (omega arith)) in
    wrote_count (wrote_as (wrote-byte w (omega arith) (get_or out i 0)) (rw (v, t, append_assoc))) (omega arith)

pub loop-i-init : goal.loop-i-init
loop-i-init c = record { room = refl; wrote = λ old a w. wrote_count (wrote_as w (sym (append-nil a))) (omega arith) }

pub loop-i-preserved : goal.loop-i-preserved
loop-i-preserved c =
    let l = c.loop-i in
    record { room = length-set _ _ _ ∙ l.invariant.room; wrote = λ old a w. more a (sym w.size) c.loop-i-test.true (omega arith) (l.invariant.wrote old a w) }

pub returns : goal.returns
returns c = λ old a w.
    let l = c.loop-i in
    let e : l.i ≡ length a = omega (arith, w.size) in
    wrote_count (wrote_as (l.invariant.wrote old a w) (rw (e, take-length))) (omega arith)
