-- `id::long_hash`: the turns left, over the bytes from here on, end where all turns end. Assumes nothing.
use mathlib.Core.Path.{◌≡◌, ◌∙◌}
use mathlib.Core.List.{List}
use Prim.Native.Nat.{ℕ, ◌+◌, ◌-◌, ◌*◌, ◌/◌}
use native.Mathlib.Omega.{arith}
use Rattle.city.specs.CityLaws.{turns_end}
use Rattle.text.specs.Parts.{base_in}
use Rattle.ids.specs.LoweredUnits.{name_units}
use Rattle.ids.proofs.NameUnits.{turns_next, long-units}
use Rattle.ids.proofs.id.long_hash.Goals as goal

pub loop-k-preserved : goal.loop-k-preserved
loop-k-preserved c =
    let a = c.args in
    let l = c.loop-k in
    let us : List ℕ = name_units (base_in a.name.text.part) a.name.suffix.now in
    let left : ℕ = (2 * c.count-n.result - 1) / 64 - l.k in
    let d : (2 * c.count-n.result - 1) / 64 - (l.k + 1) ≡ left - 1 = omega arith in
    let e : 32 * (l.k + 1) ≡ 32 * l.k + 32 = omega arith in
    rw (d, e, c.one_turn-t.ensures, c.chunk_at-chunk.ensures) (turns_next left (32 * l.k) us l.t (omega arith) ∙ l.invariant)

pub returns : goal.returns
returns c =
    let a = c.args in
    let l = c.loop-k in
    let us : List ℕ = name_units (base_in a.name.text.part) a.name.suffix.now in
    rw (
      long-units us c.count-n.result c.count-n.ensures (omega arith),
      ← c.chunk_at-last.ensures,
      ← c.first_word-first.ensures,
      ← c.first_state-t.ensures,
      ← l.invariant,
      turns_end ((2 * c.count-n.result - 1) / 64 - l.k) _ l.t (omega arith),
    ) c.last_mix.ensures
