-- `scan::check::check_packages` meets its contract. The loop's invariant: those passed are accepted. Assumes nothing.
use Rattle.std.specs.Prelude.{Err, Ok, Result}
use mathlib.Core.Path.{◌≡◌, refl, sym, ◌∙◌, ap}
use mathlib.Core.List.{List}
use Prim.Native.Nat.{ℕ, ◌+◌, ◌<◌}
use borrow.Author.Rules.{rules}
use Rattle.std.proofs.lemmas.Result.{err_from_is_err_and}
use Rattle.base.specs.Reading.{run_block}
use Rattle.base.specs.Refusal.{number}
use Rattle.zen.specs.Answers.{answer}
use Rattle.zen.specs.AnswersLaws.{rejected-got}
use Rattle.zen.specs.Zen.{package_block}
use Rattle.zen.specs.declared.zen.Layout.{Layout}
use Rattle.meaning.specs.Call.{read_from}
use Rattle.packages.specs.Framing.{parts_at}
use Rattle.packages.specs.Walk.{block_at, place_of, AllRead}
use Rattle.packages.specs.WalkLaws.{place_none, all_none, all-less, all-accepted}
use Rattle.scan.specs.Blocks.{blocks_as}
use Rattle.scan.specs.BlockLaws.{blocks-all, blocks-stop}
use Rattle.scan.specs.PlaceLaws.{next_here, site-here}
use Rattle.scan.proofs.check.check_packages.Goals.{In_err-map_err, In_ok-map_err}
use Rattle.scan.proofs.check.check_packages.Goals as goal

module _ (c : List ℕ) (at i here : ℕ) (h : here ≡ place_of c at i) (r : AllRead c at i) (b : List ℕ) (q : b ≡ block_at c here) (x : (Result Layout ℕ)) (e : x ≡ answer (run_block package_block b)) where
  same : x ≡ answer (run_block package_block (block_at c (place_of c at i)))
  same = e ∙ ap (λ z. answer (run_block package_block z)) (q ∙ ap (block_at c) h)

  stopped : (k : ℕ) → x ≡ Err k → (count : ℕ) → i < count → Err (k, i + 2) ≡ blocks_as (read_from 2 (parts_at c at count))
  stopped k z count l = blocks-stop c at count i k l r (rejected-got (run_block package_block (block_at c (place_of c at i))) (sym same ∙ z))

  passed : (l : Layout) → x ≡ Ok l → AllRead c at (i + 1)
  passed l z = all-accepted r l (sym same ∙ z)

-- what the block is refused for, or its layout
failed : (c : In_err-map_err) → let e = c.in_err-map_err.field-0.0 in
    (answer (run_block package_block c.block_at.result.now) ≡ Err (number e.why)) × (e.block ≡ c.loop-i.i + 2)
failed c = search rules

passes : (c : In_ok-map_err) → answer (run_block package_block c.block_at.result.now) ≡ Ok c.in_ok-map_err.field-0
passes c = search rules

pub loop-i-init : goal.loop-i-init
loop-i-init c = (sym (place_none _ _), search rules, all_none)

pub block_at-requires : goal.block_at-requires
block_at-requires c = site-here c.args.p.now.sites c.loop-i.invariant.0 (search rules)

pub returns-in_err-map_err-clause-is : goal.returns-in_err-map_err-clause-is
returns-in_err-map_err-clause-is c =
    let l = c.loop-i in
    let p = err_from_is_err_and c.from_residual.result c.from_residual.ensures.1 in
    let (e, b) = failed (goal.at.returns-in_err-map_err-clause-is c).In_err-map_err in
    rw (p.1, p.2, b) (stopped _ _ l.i _ l.invariant.0 l.invariant.2 _ c.block_at.ensures _ refl _ e _ (search rules))

pub next_at-here-requires : goal.next_at-here-requires
next_at-here-requires c = site-here c.args.p.now.sites c.loop-i.invariant.0 (search rules)

pub loop-i-preserved : goal.loop-i-preserved
loop-i-preserved c =
    let l = c.loop-i in (
      next_here _ _ l.i l.invariant.0 c.next_at-here.ensures,
      search rules,
      passed _ _ l.i _ l.invariant.0 l.invariant.2 _ c.block_at.ensures _ refl _ (passes (goal.at.loop-i-preserved c).In_ok-map_err),
    )

pub returns : goal.returns
returns c =
    let l = c.loop-i in
    let a = all-less c.args.p.now.count (search rules) l.invariant.2 in
    record { is = blocks-all _ _ _ a; all = a }
