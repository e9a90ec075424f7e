-- `names::Texts::put_names` meets its contract. Assumes nothing.
use mathlib.Core.Path.{ap}
use mathlib.Core.List.{◌++◌}
use Prim.Native.Nat.{ℕ, ◌*◌}
use native.Mathlib.Omega.{arith}
use lib.ListN.{length, replicate, length-append, length-replicate}
use Rattle.base.specs.Find.{flat}
use Rattle.base.specs.OutputLaws.{wrote-rest, wrote_as, next-room}
use Rattle.written.specs.BatchBytes.{head_bytes, string_bytes}
use Rattle.header.specs.Places.{texts_from}
use Rattle.header.specs.WritingLaws.{names-made}
use Rattle.header.proofs.names.Texts.put_names.Goals as goal

pub put_zeros-a-requires : goal.put_zeros-a-requires
put_zeros-a-requires c =
    let a = c.args in
    let ts = texts_from a.self.more a.self.s.now a.self.from a.self.count in
    omega (
      arith,
      c.requires.1,
      ap length (names-made a.self.more a.self.s.now a.self.from a.self.count),
      length-append (replicate {A = ℕ} (8 * a.self.count) 0) (flat head_bytes ts ++ flat string_bytes ts),
      length-replicate {A = ℕ} (8 * a.self.count) 0,
    )

pub put_texts-requires : goal.put_texts-requires
put_texts-requires c =
    let a = c.args in
    let ts = texts_from a.self.more a.self.s.now a.self.from a.self.count in
    next-room _ (replicate {A = ℕ} (8 * a.self.count) 0) (flat head_bytes ts ++ flat string_bytes ts) _ _ c.put_zeros-a.ensures
    (omega (arith, c.requires.1, ap length (names-made a.self.more a.self.s.now a.self.from a.self.count)))

pub returns : goal.returns
returns c =
    let a = c.args in
    wrote_as (wrote-rest c.put_zeros-a.ensures c.put_texts.ensures)
    (names-made a.self.more a.self.s.now a.self.from a.self.count)
