-- `rows::object_len` meets its contract. Assumes nothing.
use borrow.Author.Rules.{rules}
use Rattle.std.specs.Prelude.{Option as Maybe, Some, None, MatchOption}
use mathlib.Core.Option.{Option}
use mathlib.Core.Path.{◌≡◌, refl, sym, ◌∙◌, ap}
use Prim.Native.Nat.{ℕ, ◌≤◌, ◌<◌}
use lib.ListN.{length}
use native.Mathlib.Omega.{arith}
use Rattle.base.specs.OneMore.{one_more}
use Rattle.objects.specs.Numbers.{path_no}
use Rattle.objects.specs.PathLength.{path-short}
use Rattle.objects.specs.Told.{told, path_bytes}
use Rattle.objects.specs.declared.path.Path.{Path as Told}
use Rattle.meaning.specs.Path.{Path}
use Rattle.meaning.specs.Report.{size, or_unknown}
use Rattle.meaning.specs.Resolve.{path_text}
use Rattle.resolve.specs.ResolvingLaws.{unknown-size, told-unknown, told-known}
use Rattle.resolve.proofs.rows.object_len.Goals as goal

-- how many bytes there are, by what was measured
measured : (r : Maybe Told) (x : Option Path) → r ≡ told x → (n : ℕ) (post : Told → Type 0) → MatchOption r (n ≡ 1) post → ((p : Told) → post p → n ≡ p.len)
    → (n ≡ size (or_unknown (path_text x))) × ((k : ℕ) → 0 < k → length (path_bytes x) ≤ k → n ≤ k)
measured None x q n post h f = (h ∙ sym (told-unknown x q refl), λ k l m. omega arith)
measured (Some p) x q n post h f = let (s, b) = told-known x q p refl in (f p h ∙ s, λ k l m. omega (arith, f p h))

pub returns-in_default : goal.returns-in_default
returns-in_default c = (λ s b o xs t. rw c.in_default.is (sym unknown-size), omega arith)

pub returns : goal.returns
returns c =
    let a = c.args in
    let i = c.in-Some.i in
    let own = c.requires.0 in
    let r = c.path_len.ensures in
    let m = path-short own.holds.objects own.holds.bytes a.m.objects i (omega (arith, own.holds.count, ap one_more c.in-Some.is)) in (
      λ s b o xs t. rw c.in-Some.is (measured _ (path_no a.m.objects o i) (r b o t.objects) _ _ c.map_or.ensures (λ p h. search rules)).0,
      (measured _ _ (r own.block own.objects own.holds.objects) _ _ c.map_or.ensures (λ p h. search rules)).1 8520850 (omega arith) (omega (arith, m)),
    )
