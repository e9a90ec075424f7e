-- `batch::cursor::u32_from` meets its contract: the tests say whether the four bytes are there.
use mathlib.Core.Path.{sym, ◌∙◌, ap}
use Prim.Native.Nat.{ℕ, ◌+◌}
use native.Mathlib.Omega.{arith}
use Rattle.std.specs.Prelude.{Some}
use Rattle.batch.specs.CursorLaws.{word-there, word-missing}
use Rattle.batch.proofs.cursor.u32_from.Goals as goal

pub returns-then-n-lt4 : goal.returns-then-n-lt4
returns-then-n-lt4 c = let a = c.args in sym (word-missing a.s.now a.at (omega arith))

pub returns : goal.returns
returns c =
    let a = c.args in
    ap (λ (n : ℕ). Some (n, a.at + 4)) c.le32.ensures ∙ sym (word-there a.s.now a.at (omega arith))
