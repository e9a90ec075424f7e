-- `zenapi::texts::find_text` meets its contract.
use Rattle.std.specs.Prelude.{◌≡◌, Ok}
use Rattle.std.proofs.Common.{arith}
use Rattle.base.specs.NumberLaws.{Bytes}
use Rattle.zen.specs.Answers.{answer}
use Rattle.zenapi.specs.Answers.{package_in}
use Rattle.zenapi.proofs.TextsFound.{no_text, no_kind, no_base, no_imported, base_there, imported-there}
use Rattle.zenapi.proofs.texts.find_text.Goals.{In-Ok}
use Rattle.zenapi.proofs.texts.find_text.Goals as goal

-- the block that was opened is the one that was passed
accepted : (c : In-Ok) → answer (package_in c.args.b.now) ≡ Ok c.in-Ok.p.layout
accepted c = let p = c.in-Ok.p in rw c.in-Ok.ensures at p.accepted

bytes : (c : In-Ok) → Bytes c.args.b.now
bytes c = let p = c.in-Ok.p in rw c.in-Ok.ensures at p.bytes

pub returns-in_default : goal.returns-in_default
returns-in_default c = no_text _ _ _ _ c.in_default.ensures

pub returns-in_err-find_name-in-0 : goal.returns-in_err-find_name-in-0
returns-in_err-find_name-in-0 c =
    rw (c.from_residual.ensures, c.in-0.is)
    (no_base _ _ _ (accepted (goal.at.returns-in_err-find_name-in-0 c).In-Ok) c.in_err-find_name-in-0.ensures)

pub returns-in_err-find_name-in-1 : goal.returns-in_err-find_name-in-1
returns-in_err-find_name-in-1 c =
    rw (c.from_residual-in_err-find_name-in-1.ensures, c.in-1.is)
    (no_imported _ _ _ (accepted (goal.at.returns-in_err-find_name-in-1 c).In-Ok) c.in_err-find_name-in-1.ensures)

pub returns-in_ok-find_name-in-0 : goal.returns-in_ok-find_name-in-0
returns-in_ok-find_name-in-0 c =
    let v = (goal.at.returns-in_ok-find_name-in-0 c).In-Ok in
    let f = c.in_ok-find_name-in-0.ensures in
    rw c.in-0.is (base_there _ _ _ (accepted v) (bytes v) _ f.0 (rw c.in-Ok.ensures at f.1))

pub returns-in_ok-find_name-in-1 : goal.returns-in_ok-find_name-in-1
returns-in_ok-find_name-in-1 c =
    let v = (goal.at.returns-in_ok-find_name-in-1 c).In-Ok in
    let f = c.in_ok-find_name-in-1.ensures in
    rw c.in-1.is
    (imported-there _ _ _ (accepted v) (bytes v) _ _ f.0 (rw c.in-Ok.ensures at f.1) (rw c.in-Ok.ensures at c.imported_number.ensures))

pub returns-in_default-which : goal.returns-in_default-which
returns-in_default-which c = no_kind c.args.b.now c.args.i c.args.which (omega arith)
