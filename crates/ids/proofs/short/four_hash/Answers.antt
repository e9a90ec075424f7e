-- `short::four_hash`: all units are in front of the array. Assumes nothing.
use mathlib.Core.Path.{◌≡◌, sym, ◌∙◌, ap}
use mathlib.Core.List.{List, ◌++◌}
use Prim.Native.Nat.{ℕ}
use native.Mathlib.Omega.{arith}
use lib.ListN.{take}
use Rattle.base.specs.OutputLaws.{wrote_count, wrote-taken}
use Rattle.text.specs.Utf16.{unit_bytes}
use Rattle.lower.specs.Lower.{lowered}
use Rattle.city.specs.City.{city_hash64}
use Rattle.ids.proofs.ShortUnits.{narrow-length, name-words}
use Rattle.ids.proofs.short.four_hash.Goals.{After-count-n}
use Rattle.ids.proofs.short.four_hash.Goals as goal

-- the units of the name are in front of the array
all : (c : After-count-n) → take c.count-n.result c.put_all.new.units ≡ lowered c.args.name.base.now ++ c.args.name.suffix.now
all c = wrote-taken (wrote_count c.put_all.ensures (sym (narrow-length c.args.name.base.now c.args.name.suffix.now) ∙ sym c.count-n.ensures))

pub slice_bounds-words_hash-end : goal.slice_bounds-words_hash-end
slice_bounds-words_hash-end c = rw (all (goal.at.slice_bounds-words_hash-end c).After-count-n) c.count-n.ensures

pub invariant_of-words_hash : goal.invariant_of-words_hash
invariant_of-words_hash c =
    let n = c.args.name in
    record { words = rw (all (goal.at.invariant_of-words_hash c).After-count-n) (name-words n.base.now n.suffix.now n.fits.0 n.fits.1) }

pub words_hash-requires : goal.words_hash-requires
words_hash-requires c =
    let l = narrow-length c.args.name.base.now c.args.name.suffix.now in
    rw (all (goal.at.words_hash-requires c).After-count-n) (omega arith, omega arith)

pub returns : goal.returns
returns c = c.words_hash.ensures ∙ ap (λ (s : List ℕ). city_hash64 (unit_bytes s)) (all (goal.at.returns c).After-count-n)
