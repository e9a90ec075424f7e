-- `ascii::put_ascii`: the units of the base, which are the text's where they are ASCII, and those of the suffix behind them. Assumes nothing.
use mathlib.Core.Path.{◌≡◌, sym, ◌∙◌}
use mathlib.Core.Bool.{true}
use Prim.Native.Nat.{◌+◌}
use native.Mathlib.Omega.{arith}
use borrow.Author.Rules.{rules}
use lib.ListN.{length}
use Rattle.std.proofs.Common.{lt-ltb, le-ltb}
use Rattle.base.specs.OutputLaws.{wrote-rest, wrote-room, wrote_as, wrote_count}
use Rattle.text.specs.Affix.{all_ascii}
use Rattle.text.specs.Units.{units_of}
use Rattle.text.specs.Name.{base}
use Rattle.ids.specs.LoweredUnits.{name_units}
use Rattle.ids.specs.declared.wide.WideName.{WideName}
use Rattle.ids.proofs.NameUnits.{name-length}
use Rattle.ids.proofs.ShortUnits.{map-same}
use Rattle.ids.proofs.AsciiUnits.{ascii-name}
use Rattle.ids.proofs.ascii.put_ascii.Goals.{After-count-2}
use Rattle.ids.proofs.ascii.put_ascii.Goals as goal

-- how many units the name has
count : (a : WideName) → length (name_units (base true a.text.bytes.now) a.suffix.now) ≡ length (units_of true a.text.bytes.now) + length a.suffix.now
count a = name-length true a.text.bytes.now a.text.fits a.text.well a.suffix.now

pub put_lowered-requires : goal.put_lowered-requires
put_lowered-requires c = omega (arith, count c.args.name)

pub returns-then-put_lowered-gt127 : goal.returns-then-put_lowered-gt127
returns-then-put_lowered-gt127 c = sym c.put_lowered.ensures.0 ∙ le-ltb c.put_lowered.result 0x80 (omega arith)

pub put_each-requires-clause-room : goal.put_each-requires-clause-room
put_each-requires-clause-room c =
    let n = count c.args.name in
    wrote-room (wrote_count c.put_lowered.ensures.1 (sym c.count.ensures)) (length c.args.name.suffix.now) (omega arith)

pub returns : goal.returns
returns c =
    let a = c.args.name in
    let n = count a in
    let ascii : all_ascii (units_of true a.text.bytes.now) ≡ true = sym c.put_lowered.ensures.0 ∙ lt-ltb c.put_lowered.result 0x80 (omega arith) in
    let p = wrote_count c.put_lowered.ensures.1 (sym c.count.ensures) in
    let q = c.put_each.ensures (λ b. b) (λ b r h k. search rules) in
    (ascii, wrote_count (wrote_as (wrote-rest p q) (rw map-same (ascii-name a.text.bytes.now a.text.fits a.text.well ascii a.suffix.now))) (omega arith))
