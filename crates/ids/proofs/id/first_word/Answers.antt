-- `id::first_word`: four units fill the word. Assumes nothing.
use mathlib.Core.Path.{◌≡◌, ◌∙◌, ap}
use mathlib.Core.List.{List}
use Prim.Native.Nat.{ℕ}
use borrow.Author.Rules.{rules}
use lib.ListN.{take}
use Rattle.base.specs.Number.{le_at}
use Rattle.text.specs.Utf16.{unit_bytes}
use Rattle.text.specs.Parts.{base_in}
use Rattle.ids.specs.LoweredUnits.{name_units}
use Rattle.ids.proofs.NameUnits.{wrote-whole, first-bytes}
use Rattle.ids.proofs.id.first_word.Goals as goal

pub returns : goal.returns
returns c =
    let n = c.args.name in
    let us : List ℕ = name_units (base_in n.text.part) n.suffix.now in
    let e : c.put_units.new.out ≡ unit_bytes (take 4 us) =
    wrote-whole us 0 4 c.put_units.ensures (search rules) (search rules) in
    c.le64.ensures ∙ ap (λ (s : List ℕ). le_at 8 s 0) e ∙ first-bytes us
