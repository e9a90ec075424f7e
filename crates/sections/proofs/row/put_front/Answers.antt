-- `row::put_front` meets its contract: the length, and six bytes behind it. Assumes nothing.
use mathlib.Core.Path.{◌≡◌, refl}
use mathlib.Core.Bool.{Bool, true, false}
use mathlib.Core.List.{List, [], ◌∷◌, ◌++◌, append_assoc}
use Prim.Native.Nat.{ℕ, ◌≤◌}
use native.Mathlib.Omega.{arith}
use lib.ListN.{length, set}
use Rattle.std.specs.Int.{from_bool}
use Rattle.base.specs.Output.{Wrote}
use Rattle.base.specs.OutputLaws.{wrote_as, wrote_count, wrote-byte}
use Rattle.objects.specs.Work.{one_if}
use Rattle.sections.specs.Pieces.{row_front}
use Rattle.sections.specs.WrittenLaws.{wrote-four}
use Rattle.sections.proofs.row.put_front.Goals as goal

one_if-is : (t : Bool) → one_if t ≡ from_bool t
one_if-is true = refl
one_if-is false = refl

-- six bytes behind four
six : {s a o : List ℕ} (u v w x y z : ℕ) → Wrote s a o 4 → 10 ≤ length s
    → Wrote s (a ++ (u ∷ v ∷ w ∷ x ∷ y ∷ z ∷ [])) (set (set (set (set (set (set o 4 u) 5 v) 6 w) 7 x) 8 y) 9 z) 10
six {s} {a} u v w x y z p h =
    let q = wrote-byte (wrote-byte (wrote-byte p (omega arith) u) (omega arith) v) (omega arith) w in
    wrote_as (wrote-byte (wrote-byte (wrote-byte q (omega arith) x) (omega arith) y) (omega arith) z) (simp append_assoc)

pub returns : goal.returns
unfolding row_front
returns c =
    let w = c.put_length.ensures in
    rw (← c.numbered.ensures, ← c.kind_number.ensures, ← c.class_kind.ensures, ← one_if-is c.args.t.class, ← c.from.ensures, ← one_if-is c.args.t.native, ← c.from-2.ensures)
    (six _ _ _ _ _ _ (wrote_count w (wrote-four _ w)) (omega (arith, c.requires)))
