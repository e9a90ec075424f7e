-- `lower_trailing` meets its contract: the pair is lowered, and its trailing surrogate is taken. Assumes nothing.
use mathlib.Core.Path.{sym, ◌∙◌, ap}
use Prim.Native.Nat.{ℕ, ◌+◌, ◌-◌, ◌%◌}
use native.Mathlib.Omega.{arith}
use Rattle.lower.proofs.LowerLaws.{lower_double}
use Rattle.text.specs.Utf16.{of_pair}
use Rattle.ids.specs.LowerLaws.{low-lowered}
use Rattle.ids.proofs.lowered.lower_trailing.Goals as goal

pub overflow_sub-result : goal.overflow_sub-result
overflow_sub-result c = let a = c.args in rw c.lower_pair.ensures (lower_double (of_pair a.before a.u) (omega arith)).0

pub returns : goal.returns
returns c =
    let a = c.args in
    ap (λ (n : ℕ). 0xDC00 + (n - 0x10000) % 0x400) c.lower_pair.ensures ∙ sym (low-lowered a.before a.u c.requires.0)
