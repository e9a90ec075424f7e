-- `packages::frame::parts` meets its contract: each test is one of the reading's. Assumes nothing.
use Rattle.std.specs.Prelude.{Err, Ok}
use mathlib.Core.Path.{◌≡◌, sym, ◌∙◌}
use mathlib.Core.List.{List}
use Prim.Native.Nat.{ℕ, ◌+◌, ◌-◌, ◌≤◌, ◌<◌}
use native.Mathlib.Omega.{arith}
use lib.ListN.{length}
use Rattle.base.specs.Number.{be_at}
use Rattle.packages.specs.Framing.{packages_end, parts_answer}
use Rattle.packages.specs.FramingLaws.{parts-short, parts-script, parts-count, parts_whole, parts-broken}
use Rattle.base.proofs.Nonzero.{same-number, other-number}
use Rattle.packages.proofs.frame.parts.Goals as goal

module _ (s : List ℕ) (size : ℕ) (e : size ≡ be_at 4 s 5) (h : 9 ≤ length s) where
  script : length s - 9 < size → Err 1 ≡ parts_answer s
  script g = parts-script s h (omega arith)

  module _ (g : size ≤ length s - 9) where
    counted : length s - (9 + size) < 4 → Err 1 ≡ parts_answer s
    counted k = parts-count s h (omega arith) (omega arith)

    module _ (k : 4 ≤ length s - (9 + size)) (count : ℕ) (f : count ≡ be_at 4 s (9 + size)) where
      count-is : count ≡ be_at 4 s (9 + be_at 4 s 5)
      count-is = rw e at f

      last-is : packages_end s (9 + size + 4) count ≡ packages_end s (9 + be_at 4 s 5 + 4) (be_at 4 s (9 + be_at 4 s 5))
      last-is = rw (count-is, e)

      whole : packages_end s (9 + size + 4) count ≡ length s → Ok (record { «end» = 9 + size; count = count }) ≡ parts_answer s
      whole q = rw (count-is, e) (parts_whole s (omega arith) (sym last-is ∙ q))

      broken : (packages_end s (9 + size + 4) count ≡ length s → ⊥) → Err 1 ≡ parts_answer s
      broken q = parts-broken s (omega arith) (λ x. q (last-is ∙ x))

pub returns-then-n-lt9 : goal.returns-then-n-lt9
returns-then-n-lt9 c = search parts-short

pub returns-then-n-size : goal.returns-then-n-size
returns-then-n-size c = search script

pub returns-then-n-end-lt4 : goal.returns-then-n-end-lt4
returns-then-n-end-lt4 c = search counted

pub returns-then-eq : goal.returns-then-eq
returns-then-eq c =
    let n = c.be32_usize-size in
    let k = c.be32_usize-count in
    let q = rw c.packages_end.ensures at (sym c.eq.ensures ∙ c.if-eq.true) in
    whole _ _ n.ensures.is (omega arith) (omega arith) (omega arith) _ k.ensures.is (same-number _ _ q)

pub returns : goal.returns
returns c =
    let n = c.be32_usize-size in
    let k = c.be32_usize-count in
    let q = rw c.packages_end.ensures at (sym c.eq.ensures ∙ c.if-eq.false) in
    broken _ _ n.ensures.is (omega arith) (omega arith) (omega arith) _ k.ensures.is (other-number _ _ q (omega arith))
