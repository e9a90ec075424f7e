-- Question by question: the batch, the count's bytes, its sign, the room for the entries.
use mathlib.Core.List.{List}
use mathlib.Core.Path.{◌≡◌, sym, ◌∙◌}
use Prim.Native.Nat.{ℕ}
use native.Mathlib.Omega.{arith}
use Rattle.std.specs.Prelude.{Ok}
use Rattle.std.proofs.lemmas.Result.{err_from_is_err_and}
use Rattle.base.specs.Reading.{walk}
use Rattle.base.specs.SignedLaws.{size_is, size_none}
use Rattle.batch.specs.Batch.{batch}
use Rattle.batch.specs.BatchAnswers.{batched}
use Rattle.batch.specs.FoundBatch.{FoundAt, found_at}
use Rattle.batch.specs.declared.names.Names.{Names}
use Rattle.scriptblock.proofs.ScriptLaws.{opened-refused, opened-short, opened-negative, opened-few, opened-there}
use Rattle.scriptblock.proofs.script.open_script.Goals as goal

found : (b : List ℕ) {n : Names} → Ok n ≡ batched (walk batch b 0) → FoundAt b 0 n
found b {n} e = found_at b 0 n (omega arith) (sym e)

pub returns-in_err-names : goal.returns-in_err-names
returns-in_err-names c =
    let p = err_from_is_err_and c.from_residual.result c.from_residual.ensures.1 in
    rw (p.1, p.2) (sym (opened-refused c.args.b.now (sym c.in_err-names.ensures)))

pub overflow_sub-b : goal.overflow_sub-b
overflow_sub-b c = (found c.args.b.now c.in_ok-names.ensures).inside

pub returns-then-b-at-lt4 : goal.returns-then-b-at-lt4
returns-then-b-at-lt4 c = sym (opened-short c.args.b.now (found c.args.b.now c.in_ok-names.ensures) (omega arith))

pub returns-in_default : goal.returns-in_default
returns-in_default c =
    sym (opened-negative c.args.b.now (found c.args.b.now c.in_ok-names.ensures) (omega arith) (size_none 32 _ (sym c.in_default.ensures)))

pub returns-then-b-entries : goal.returns-then-b-entries
returns-then-b-entries c =
    let f = found c.args.b.now c.in_ok-names.ensures in
    let p = size_is 32 _ _ (sym c.in-Some.ensures) in
    sym (opened-few c.args.b.now f (omega arith) p.0 (omega (arith, p.1)))

pub returns : goal.returns
returns c =
    let f = found c.args.b.now c.in_ok-names.ensures in
    let p = size_is 32 _ _ (sym c.in-Some.ensures) in
    sym (opened-there c.args.b.now f (omega arith) p.0 (omega (arith, p.1)) ∙ rw p.1)
