-- `plain::put_sixteen` meets its contract: twice eight bytes. Assumes nothing.
use mathlib.Core.Path.{◌≡◌, sym, ◌∙◌, ap}
use mathlib.Core.List.{List, ◌++◌, append_assoc}
use Prim.Native.Nat.{ℕ, ◌+◌, ◌≤◌}
use native.Mathlib.Omega.{arith}
use lib.ListN.{length, take, drop, length-drop}
use lib.Seq.{paste, take-add, drop-drop, take-paste, drop-paste}
use Rattle.text.proofs.plain.put_sixteen.Goals as goal

-- eight bytes of s from a place on, then the eight behind them
twice : (d s : List ℕ) (at : ℕ) → at + 16 ≤ length s → at + 16 ≤ length d → paste (paste d at (drop at s) 8) (at + 8) (drop (at + 8) s) 8 ≡ paste d at (drop at s) 16
twice d s at h l =
    let x = drop at s in
    let a : at ≤ length d = omega arith in
    let b : 8 ≤ length x = simp length-drop (omega arith) in
    let j : at + 8 + 8 ≡ at + 16 = omega arith in
    let front : take (at + 8) (paste d at x 8) ≡ take at d ++ take 8 x = take-paste d at x 8 a b in
    let rest : drop (at + 8 + 8) (paste d at x 8) ≡ drop (at + 16) d =
    sym (drop-drop 8 (at + 8) (paste d at x 8)) ∙ ap (drop 8) (drop-paste d at x 8 a b) ∙ drop-drop 8 (at + 8) d ∙ ap (λ (k : ℕ). drop k d) j in
    let both : take 16 x ≡ take 8 x ++ take 8 (drop (at + 8) s) = take-add 8 8 x ∙ ap (λ (t : List ℕ). take 8 x ++ take 8 t) (drop-drop 8 at s) in
    rw (front, rest, both) (ap (λ (t : List ℕ). t ++ drop (at + 16) d) (append_assoc (take at d) (take 8 x) (take 8 (drop (at + 8) s))))

pub returns : goal.returns
returns c =
    rw (c.put_eight-2.ensures, c.put_eight.ensures)
    (twice c.args.out.now c.args.src.now c.args.at c.requires.0 c.requires.1)
