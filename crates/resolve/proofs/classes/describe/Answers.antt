-- `classes::describe` meets its contract: eight stores. Assumes nothing.
use Rattle.std.specs.Prelude.{Option, Some, None, unwrap_or}
use mathlib.Core.Path.{◌≡◌, refl}
use Rattle.packages.specs.Row.{start_or}
use Rattle.batch.specs.declared.places.Name.{Name}
use Rattle.resolve.specs.Classes.{described}
use Rattle.resolve.proofs.classes.describe.Goals as goal

start-outer : (own : Name) (x : Option Name) → (unwrap_or x own).place.start ≡ start_or own.place.start x
start-outer own None = refl
start-outer own (Some u) = refl

pub returns : goal.returns
unfolding described
returns c =
    rw (
      c.set32-6.ensures,
      c.set32-5.ensures,
      c.set32-4.ensures,
      c.set32-3.ensures,
      c.set32-2.ensures,
      c.set32.ensures,
      c.set64-2.ensures,
      c.set64.ensures,
      c.unwrap_or-outer.ensures,
      start-outer c.args.row.now.own c.args.row.now.outer,
    )
