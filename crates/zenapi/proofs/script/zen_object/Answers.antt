-- `zenapi::script::zen_object` meets its contract.
use Rattle.std.specs.Prelude.{◌≡◌, Ok}
use Rattle.scriptblock.specs.ScriptAnswers.{script_answer}
use Rattle.zenapi.specs.Answers.{script_in}
use Rattle.zenapi.proofs.ScriptFound.{no_object_lem, object-here, object-past, object-there}
use Rattle.zenapi.proofs.script.zen_object.Goals.{In-Ok}
use Rattle.zenapi.proofs.script.zen_object.Goals as goal

-- the block that was opened is the one that was passed
accepted : (c : In-Ok) → script_answer (script_in c.args.b.now) ≡ Ok c.in-Ok.s.layout
accepted c = let s = c.in-Ok.s in rw c.in-Ok.ensures at s.accepted

pub returns-in_default : goal.returns-in_default
returns-in_default c = no_object_lem _ _ c.in_default.ensures _ _

pub returns-then-s-i : goal.returns-then-s-i
returns-then-s-i c = object-past _ _ (accepted (goal.at.returns-then-s-i c).In-Ok) _ _ c.if-s-i.true

pub entry-requires : goal.entry-requires
entry-requires c = let s = c.in-Ok.s in object-here _ _ s.accepted _ c.if-s-i.false

pub returns : goal.returns
returns c =
    object-there _ _ (accepted (goal.at.returns c).In-Ok) _ _ _ _ c.if-s-i.false (rw c.in-Ok.ensures at c.entry.ensures) c.object_field.ensures
