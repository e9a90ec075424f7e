-- `scan::repeats::repeats_in` meets its contract. The loop's invariant: none of the exports passed is one. Assumes nothing.
use mathlib.Core.Path.{◌≡◌, sym, ◌∙◌, ap}
use mathlib.Core.List.{List}
use Prim.Native.Nat.{ℕ}
use native.Mathlib.Omega.{arith}
use borrow.Author.Rules.{rules}
use Rattle.base.specs.Number.{be_at}
use Rattle.scriptblock.specs.Script.{Objects}
use Rattle.packages.specs.Package.{read_in, PackageIn}
use Rattle.packages.specs.PackageLaws.{export_count_lem}
use Rattle.packages.specs.Walk.{block_at, place_of}
use Rattle.packages.specs.WalkLaws.{all-less}
use Rattle.packages.specs.declared.package.Parts.{Parts}
use Rattle.scan.specs.Repeats.{below, is_repeat, repeats_in}
use Rattle.scan.specs.PlaceLaws.{sites-less, site-here, read_here}
use Rattle.scan.specs.RepeatLaws.{below_none, below_more, below-yes, below_end}
use Rattle.scan.proofs.repeats.repeats_in.Goals as goal

whole : (limit : ℕ) (o : Objects) (c : List ℕ) (at i here id : ℕ) (b : List ℕ) (p : Parts) → here ≡ place_of c at i → id ≡ be_at 8 c here → b ≡ block_at c here → PackageIn b p
    → below p.count (is_repeat limit o c at i (read_in b).exports id) ≡ repeats_in limit o c at i
unfolding repeats_in
whole limit o c at i here id b p h e q k = rw (export_count_lem k, q, e, h)

pub id_at-id-requires : goal.id_at-id-requires
id_at-id-requires c = let r = c.requires in (site-here c.args.p.now.sites r.2 r.0).0

pub block_at-requires : goal.block_at-requires
block_at-requires c = let r = c.requires in site-here c.args.p.now.sites r.2 r.0

pub of-b-requires : goal.of-b-requires
of-b-requires c =
    let r = c.requires in
    rw c.block_at.ensures (read_here (sites-less c.args.p.now.sites _ (omega arith)) r.2 (omega arith) r.1).is

pub loop-j-init : goal.loop-j-init
loop-j-init c = (search rules, λ o q. below_none _)

pub is_repeat-requires : goal.is_repeat-requires
is_repeat-requires c =
    let r = c.requires in
    record { read = (omega arith, all-less _ (omega arith) r.1); number = search rules }

pub returns-then-is_repeat : goal.returns-then-is_repeat
returns-then-is_repeat c = λ o q.
    let k = whole _ o _ _ _ _ _ _ _ c.requires.2
    c.id_at-id.ensures (ap (λ x. x.now) c.of-b.ensures ∙ c.block_at.ensures) c.of-b.result.accepted in
    sym (sym k ∙ below-yes _ _ c.loop-j.j (search rules) (sym (c.is_repeat.ensures o q) ∙ c.if-is_repeat.true))

pub loop-j-preserved : goal.loop-j-preserved
loop-j-preserved c = (search rules, λ o q. below_more _ _ (c.loop-j.invariant.1 o q) (sym (c.is_repeat.ensures o q) ∙ c.if-is_repeat.false))

pub returns : goal.returns
returns c = λ o q.
    let k = whole _ o _ _ _ _ _ _ _ c.requires.2
    c.id_at-id.ensures (ap (λ x. x.now) c.of-b.ensures ∙ c.block_at.ensures) c.of-b.result.accepted in
    below_end _ _ _ c.loop-j.invariant.0 (search rules) (c.loop-j.invariant.1 o q) ∙ k
