-- `link::link_of` meets its contract. Assumes nothing.
use mathlib.Core.Bool.{true, false}
use borrow.Author.Rules.{rules}
use Rattle.std.specs.Prelude.{Option, Some, None, MatchOption}
use mathlib.Core.Path.{◌≡◌, sym, ◌∙◌, ap}
use Prim.Native.Nat.{ℕ, ◌+◌}
use native.Mathlib.Omega.{arith}
use denote.Enum.Bare.{sameb}
use Rattle.base.specs.Kind.{kind_number}
use Rattle.base.specs.contracts.index.Kind.{the_type}
use Rattle.base.specs.declared.index.Kind.{Kind}
use Rattle.base.specs.declared.index.Kind.TheVariants.{Null}
use Rattle.base.specs.OneMore.{one_more}
use Rattle.objects.specs.Numbers.{raised}
use Rattle.objects.specs.NumberLaws.{number-le, link-null, link-found}
use Rattle.objects.specs.WorkLaws.{entries-length}
use Rattle.objects.proofs.link.link_of.Goals as goal

null : (k : Kind) → true ≡ sameb the_type k Null → kind_number k ≡ 3
null k e = grind arith

other : (k : Kind) → false ≡ sameb the_type k Null → kind_number k ≡ 3 → ⊥
other k e q = grind arith

pub returns-then-eq : goal.returns-then-eq
returns-then-eq c = λ b o t. sym (link-null o c.args.outer (sym c.index_kind.ensures ∙ null c.index_kind.result c.if-eq.ensures))

two_more : (r : Option ℕ) (n : ℕ) (post : ℕ → Type 0) → MatchOption r (n ≡ 0) post → ((i : ℕ) → post i → n ≡ i + 2) → n ≡ raised (one_more r)
two_more None n post h f = h
two_more (Some i) n post h f = f i h ∙ omega arith

pub map_or-requires : goal.map_or-requires
map_or-requires c = λ i q.
    let k = c.requires in
    let h = k.holds in
    omega (arith, c.find.ensures k.block k.objects h, ap one_more q, number-le k.objects.entries c.args.outer, entries-length h, h.entered.size)

pub returns : goal.returns
returns c = λ b o t.
    two_more c.find.result c.map_or.result _ c.map_or.ensures (λ i h. search rules)
    ∙ link-found o c.args.outer (λ z. other c.index_kind.result c.if-eq.ensures (c.index_kind.ensures ∙ z)) (c.find.ensures b o t)
