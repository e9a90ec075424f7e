-- `quick_unit` meets its contract: by what kind of unit it is. Assumes nothing.
use mathlib.Core.Path.{◌≡◌, refl, sym, ◌∙◌, ap}
use mathlib.Core.Bool.{Bool, true, false, cond}
use mathlib.Core.List.{List, ◌∷◌}
use mathlib.Core.Logic.{inl, inr}
use Prim.Native.Nat.{ℕ, zero, suc, ◌-◌, ◌<◌}
use native.Mathlib.Omega.{arith}
use lib.ListN.{length, get_or}
use Rattle.lower.specs.Ascii.{lower_ascii}
use Rattle.std.specs.Prelude.{Option, None, Some}
use Rattle.lower.specs.Lower.{lower, lowered}
use Rattle.lower.proofs.LowerLaws.{lower-single}
use Rattle.rules.specs.Quick.{askers, asks, quick, asked}
use Rattle.rules.specs.QuickLaws.{away, asks-away, quick-is, ruled}
use Rattle.rules.specs.LatinLaws.{lower_ascii_lem}
use Rattle.rules.specs.Runs.{surrogates}
use Rattle.base.specs.NumberLaws.{Bytes}
use Rattle.text.specs.Utf16.{is_well, encode16}
use Rattle.text.specs.Utf16Cases.{High, Low, Single}
use Rattle.text.specs.Name.{decoded, base}
use Rattle.text.specs.Units.{units_of}
use Rattle.ids.specs.LoweredUnits.{lowered_unit}
use Rattle.ids.specs.LowerLaws.{single-lowered, high-lowered}
use Rattle.ids.proofs.NameUnits.{place}
use Rattle.ids.proofs.lowered.quick_unit.Goals.{in_default-via-then-u-lt55296, in_default-via-else-u-lt55296+else-u-lt56320+else-u-lt57344}
use Rattle.ids.proofs.lowered.quick_unit.Goals as goal

-- the table is not asked for ASCII
not-asked : (u : ℕ) → u < 0x80 → asks u ≡ false
unfolding away askers
not-asked u h = asks-away 0 0x80 refl u (omega arith) h

-- what the rules answer
asked-by : (t : Bool) (v : ℕ) → v < 65536 → asked (cond t 0x110000 v) ≡ cond t None (Some v)
asked-by true v h = refl
asked-by false v h = sym (ruled refl (omega arith))

asked-is : (u : ℕ) → u < 65536 → asked (quick u) ≡ cond (asks u) None (Some (lower u))
asked-is u h = rw (quick-is u) (asked-by (asks u) (lower u) (lower-single u h))

-- what a leading surrogate stands before is not the first unit
not-first : (us : List ℕ) (i : ℕ) → High (get_or (0 ∷ us) i 0) → 0 < i
not-first us zero k = absurd (omega (arith, k.0))
not-first us (suc i) k = omega arith

before : (us : List ℕ) (i : ℕ) → 0 < i → get_or (0 ∷ us) i 0 ≡ get_or us (i - 1) 0
before us zero h = absurd (omega arith)
before us (suc i) h = let e : suc i - 1 ≡ i = omega arith in rw e

module _ (wide : Bool) (part : List ℕ) (b : Bytes part) (w : is_well (decoded wide part) ≡ true) (i : ℕ) (h : i < length (units_of wide part)) where
  -- unit i, the one before it, and what becomes of unit i
  abbrev unit : ℕ
  unit = get_or (units_of wide part) i 0

  abbrev former : ℕ
  former = get_or (0 ∷ units_of wide part) i 0

  abbrev is : ℕ
  is = get_or (encode16 (lowered (base wide part))) i 0

  abbrev answer : Option ℕ
  answer = cond (asks unit) None (Some is)

  single-at : Single unit → cond (asks unit) None (Some (lower unit)) ≡ answer
  single-at k = ap (λ (n : ℕ). cond (asks unit) None (Some n)) (sym ((place wide part b w i h).0 ∙ single-lowered former unit k))

  ascii-at : unit < 0x80 → Some (lower_ascii unit) ≡ answer
  ascii-at k =
      rw (not-asked unit k)
      (ap Some (sym (lower_ascii_lem unit (omega arith)) ∙ sym ((place wide part b w i h).0 ∙ single-lowered former unit (inl (omega arith)))))

  high-at : High unit → Some unit ≡ answer
  high-at k = rw (surrogates unit k.0 (omega (arith, k.1))) (ap Some (sym ((place wide part b w i h).0 ∙ high-lowered former unit k)))

  low-at : Low unit → Some (lowered_unit former unit) ≡ answer
  low-at k = rw (surrogates unit (omega (arith, k.0)) k.1) (ap Some (sym (place wide part b w i h).0))

  behind : Low unit → 0 < i
  behind k = not-first (units_of wide part) i ((place wide part b w i h).1 k)

  high-before : Low unit → High (get_or (units_of wide part) (i - 1) 0)
  high-before k = rw (before (units_of wide part) i (behind k)) at ((place wide part b w i h).1 k)

pub returns-then-u-lt128 : goal.returns-then-u-lt128
returns-then-u-lt128 c =
    let p = c.args.text.part in
    rw (c.lower_ascii.ensures, c.unit-u.ensures.0) (ascii-at p.wide p.bytes.now p.fits c.args.text.well c.args.i c.requires (omega arith))

pub returns-in-55296-to-56319 : goal.returns-in-55296-to-56319
returns-in-55296-to-56319 c =
    let p = c.args.text.part in
    rw c.unit-u.ensures.0 (high-at p.wide p.bytes.now p.fits c.args.text.well c.args.i c.requires (omega arith, omega arith))

pub overflow_sub-i : goal.overflow_sub-i
overflow_sub-i c =
    let p = c.args.text.part in
    let l : Low c.unit-u.result = (omega arith, omega arith) in
    behind p.wide p.bytes.now p.fits c.args.text.well c.args.i c.requires (rw c.unit-u.ensures.0 at l)

pub lower_trailing-requires : goal.lower_trailing-requires
lower_trailing-requires c =
    let p = c.args.text.part in
    let l : Low c.unit-u.result = (omega arith, omega arith) in
    (l, rw c.unit.ensures.0 (high-before p.wide p.bytes.now p.fits c.args.text.well c.args.i c.requires (rw c.unit-u.ensures.0 at l)))

pub returns-in-56320-to-57343 : goal.returns-in-56320-to-57343
returns-in-56320-to-57343 c =
    let p = c.args.text.part in
    let l : Low c.unit-u.result = (omega arith, omega arith) in
    let k = rw c.unit-u.ensures.0 at l in
    let e = before (units_of p.wide p.bytes.now) c.args.i (behind p.wide p.bytes.now p.fits c.args.text.well c.args.i c.requires k) in
    rw (c.lower_trailing.ensures, c.unit.ensures.0, c.unit-u.ensures.0, ← e)
    (low-at p.wide p.bytes.now p.fits c.args.text.well c.args.i c.requires k)

pub returns-in_default : goal.returns-in_default
returns-in_default c =
    let p = c.args.text.part in
    let k : Single c.unit-u.result =
    elim c.in_default.branch [
      | in_default-via-then-u-lt55296 w ↦ inl (omega arith)
      | in_default-via-else-u-lt55296+else-u-lt56320+else-u-lt57344 w ↦ inr (omega arith)
    ] in
    rw (c.lower_quick.ensures, asked-is c.unit-u.result c.unit-u.ensures.1, c.unit-u.ensures.0)
    (single-at p.wide p.bytes.now p.fits c.args.text.well c.args.i c.requires (rw c.unit-u.ensures.0 at k))
