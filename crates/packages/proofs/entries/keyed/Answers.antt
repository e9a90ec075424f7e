-- `packages::entries::keyed` meets its contract. Assumes nothing.
use mathlib.Core.Path.{◌≡◌}
use Prim.Native.Nat.{ℕ}
use borrow.Author.Tests.{eq-eqb, ne_eqb}
use Rattle.packages.specs.Meaning.{nowhere, keyed}
use Rattle.packages.specs.declared.entries.Words.{Words}
use Rattle.packages.proofs.entries.keyed.Goals as goal

none : (id hash : ℕ) → hash ≡ 0 → nowhere ≡ keyed id hash
unfolding keyed
none id hash e = rw (eq-eqb hash 0 e)

some : (id hash : ℕ) → (hash ≡ 0 → ⊥) → ◌≡◌ {A = Words} (record { lo = id; hi = hash }) (keyed id hash)
unfolding keyed
some id hash e = rw (ne_eqb hash 0 e)

pub returns-then-hash-eq0 : goal.returns-then-hash-eq0
returns-then-hash-eq0 c = search none

pub returns : goal.returns
returns c = search some
