-- `zenapi::package::export_field` meets its contract.
use native.Mathlib.Omega.{arith}
use Rattle.zenapi.specs.Answers.{export_fields}
use Rattle.zenapi.proofs.Cells.{past}
use Rattle.zenapi.proofs.package.export_field.Goals as goal

pub returns-in_default : goal.returns-in_default
unfolding export_fields
returns-in_default c = past (export_fields c.args.e) c.args.field (omega arith)
