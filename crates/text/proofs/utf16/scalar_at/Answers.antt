-- `text::utf16::scalar_at` meets its contract: the unit at i, and the one after it where there is one, decide.
use Prim.Native.Nat.{ℕ, ◌+◌, ◌≤◌, ◌<◌}
use mathlib.Core.Path.{◌≡◌, sym, ◌∙◌}
use mathlib.Core.Bool.{true, false}
use mathlib.Core.List.{List}
use mathlib.Core.Logic.{◌⊎◌, inl, inr}
use Rattle.std.proofs.Math.Logic.{⊎_elim}
use native.Mathlib.Numerals.{add-one}
use native.Mathlib.Omega.{arith}
use lib.ListN.{length, get_or, drop, drop_of_length-le}
use lib.Seq.{drop-cons}
use Rattle.std.specs.Prelude.{None}
use Rattle.text.specs.Utf16.{of_pair}
use Rattle.text.specs.Utf16Cases.{High, Low}
use Rattle.text.specs.Units.{of_units, scalar_of}
use Rattle.text.specs.UnitsLaws.{units_of_bound, scalar-single, scalar-pair, scalar-stray, scalar-lone}
use Rattle.text.specs.UnitLength.{is_single}
use Rattle.text.specs.UnitLengthLaws.{is_single_lem, not_single_lem}
use Rattle.text.proofs.utf16.scalar_at.Goals as goal

-- scalar_of of the units from i on, by the unit u at i and, where there is one, the unit v after it
module _ (us : List ℕ) (i u : ℕ) (h : i < length us) (e : u ≡ get_or us i 0) where
  single : is_single u ≡ true → of_units 1 u ≡ scalar_of (drop i us)
  single p = rw (drop-cons us i 0 h, ← e) (sym (scalar-single u _ (is_single_lem u p)))

  module _ (s : is_single u ≡ false) where
    surrogate : (0xD800 ≤ u) × (u < 0xE000)
    surrogate = not_single_lem u s

    stray : 0xDC00 ≤ u → None ≡ scalar_of (drop i us)
    stray l = rw (drop-cons us i 0 h, ← e) (sym (scalar-stray u _ (l, surrogate.1)))

    module _ (n : ℕ) (k : n ≡ length us) (l : u < 0xDC00) where
      high : High u
      high = (surrogate.0, l)

      cut : n ≤ i + 1 → None ≡ scalar_of (drop i us)
      cut m = rw (drop-cons us i 0 h, ← e, ← add-one i, drop_of_length-le us {i = i + 1} (rw k at m)) (sym (scalar-lone u _ high tt))

      module _ (v : ℕ) (m : i + 1 < n) (e' : v ≡ get_or us (i + 1) 0) where
        lone : (v < 0xDC00) ⊎ (0xE000 ≤ v) → None ≡ scalar_of (drop i us)
        lone q = rw (drop-cons us i 0 h, ← e, ← add-one i, drop-cons us (i + 1) 0 (rw k at m), ← e') (sym (scalar-lone u _ high q))

        pair : Low v → of_units 2 (of_pair u v) ≡ scalar_of (drop i us)
        pair q = rw (drop-cons us i 0 h, ← e, ← add-one i, drop-cons us (i + 1) 0 (rw k at m), ← e') (sym (scalar-pair u v _ high q))

pub returns-then-is_single : goal.returns-then-is_single
returns-then-is_single c = single _ _ _ c.requires c.unit-u.ensures.0 (sym c.is_single.ensures ∙ c.if-is_single.true)

pub returns-then-u-ge56320 : goal.returns-then-u-ge56320
returns-then-u-ge56320 c = stray _ _ _ c.requires c.unit-u.ensures.0 (sym c.is_single.ensures ∙ c.if-is_single.false) c.if-u-ge56320.true

pub overflow_add-next : goal.overflow_add-next
overflow_add-next c = omega (arith, units_of_bound c.args.part.wide c.args.part.bytes.now)

pub returns-then-count-next : goal.returns-then-count-next
returns-then-count-next c =
    cut _ _ _ c.requires c.unit-u.ensures.0 (sym c.is_single.ensures ∙ c.if-is_single.false) _ c.count.ensures (omega arith) (omega arith)

pub returns-then-v-lt56320 : goal.returns-then-v-lt56320
returns-then-v-lt56320 c =
    lone _ _ _ c.requires c.unit-u.ensures.0 (sym c.is_single.ensures ∙ c.if-is_single.false) _ c.count.ensures (omega arith) _ (omega arith)
    c.unit-v.ensures.0 (⊎_elim inl (λ w. inr w.1) c.then-v-lt56320.either)

pub returns : goal.returns
returns c =
    pair _ _ _ c.requires c.unit-u.ensures.0 (sym c.is_single.ensures ∙ c.if-is_single.false) _ c.count.ensures (omega arith) _ (omega arith)
    c.unit-v.ensures.0 (omega arith, omega arith)
