-- `signed::le_i64` meets its contract: the machine reads the bits as the definition does. Assumes nothing.
use mathlib.Core.Path.{refl, ap, ◌∙◌}
use mir.Syntax.{w64}
use mir.Facts.{to_z-of_z}
use Rattle.base.specs.Signed.{twos}
use Rattle.base.proofs.Signs.{to_z-twos}
use Rattle.base.proofs.signed.le_i64.Goals as goal

pub returns : goal.returns
returns c =
    to_z-of_z {w = w64} {z = c.cast_signed.result} (record { sfits = c.cast_signed.type_inv })
    ∙ c.cast_signed.ensures
    ∙ to_z-twos w64 refl c.le64.result (record { fits = c.le64.type_inv })
    ∙ ap (twos 64) c.le64.ensures
