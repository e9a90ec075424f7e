-- `lowered_unit` meets its contract: what the rules give, or what the table gives of a scalar value of one unit. Assumes nothing.
use mathlib.Core.Path.{◌≡◌, sym, ◌∙◌}
use mathlib.Core.Bool.{true}
use mathlib.Core.List.{◌∷◌}
use mathlib.Core.Logic.{inl, inr, by_cases}
use Prim.Native.Nat.{ℕ, ◌<◌}
use native.Mathlib.Decide.{dec_lt}
use native.Mathlib.Omega.{arith}
use lib.ListN.{get_or}
use Rattle.lower.specs.Lower.{lowered}
use Rattle.base.specs.Never.{never}
use Rattle.rules.specs.Quick.{asks}
use Rattle.rules.specs.Runs.{surrogates}
use Rattle.text.specs.Utf16.{encode16}
use Rattle.text.specs.Utf16Cases.{Single}
use Rattle.text.specs.Name.{base}
use Rattle.text.specs.Units.{units_of}
use Rattle.ids.specs.LowerLaws.{single-lowered}
use Rattle.ids.proofs.NameUnits.{place}
use Rattle.ids.proofs.WideUnits.{none-asked, some-known, lowered-fits}
use Rattle.ids.proofs.lowered.lowered_unit.Goals as goal

-- the table is asked for no surrogate
asked-single : (u : ℕ) → asks u ≡ true → Single u
asked-single u e =
    by_cases (dec_lt u 0xD800)
    (λ (h : u < 0xD800). inl h)
    (λ (h : ¬ (u < 0xD800)). by_cases (dec_lt u 0xE000)
    (λ (k : u < 0xE000). let f = surrogates u (omega arith) k in never (cc))
    (λ (k : ¬ (u < 0xE000)). inr (omega arith)))

pub returns-in-Some : goal.returns-in-Some
returns-in-Some c =
    let t = c.args.text in
    let p = t.part in
    let i : ℕ = c.args.i in
    let e =
    some-known (asks (get_or (units_of p.wide p.bytes.now) i 0)) (get_or (encode16 (lowered (base p.wide p.bytes.now))) i 0)
    (sym c.in-Some.is ∙ c.quick_unit.ensures) in
    (e, rw e (lowered-fits p.wide p.bytes.now p.fits t.well i c.requires))

pub returns : goal.returns
returns c =
    let t = c.args.text in
    let p = t.part in
    let i : ℕ = c.args.i in
    let u : ℕ = get_or (units_of p.wide p.bytes.now) i 0 in
    let a =
    none-asked (asks u) (get_or (encode16 (lowered (base p.wide p.bytes.now))) i 0) (sym c.in_default.is ∙ c.quick_unit.ensures) in
    let e : c.lower_in.result ≡ get_or (encode16 (lowered (base p.wide p.bytes.now))) i 0 =
    rw (c.lower_in.ensures, c.unit.ensures.0)
    (sym ((place p.wide p.bytes.now p.fits t.well i c.requires).0 ∙ single-lowered (get_or (0 ∷ units_of p.wide p.bytes.now) i 0) u (asked-single u a))) in
    (e, rw e (lowered-fits p.wide p.bytes.now p.fits t.well i c.requires))
