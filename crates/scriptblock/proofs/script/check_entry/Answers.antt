-- The questions that an entry is asked by itself.
use mathlib.Core.Path.{sym, ◌∙◌}
use native.Mathlib.Omega.{arith}
use Rattle.base.specs.declared.index.Kind.TheVariants.{Script}
use Rattle.base.proofs.Numbers.{kind-same}
use Rattle.scriptblock.specs.ScriptFaults.{fault-index, fault-kind, fault_no}
use Rattle.scriptblock.proofs.script.check_entry.Goals as goal

pub returns-then-names-e : goal.returns-then-names-e
returns-then-names-e c = let a = c.args in sym (fault-index a.e a.names (omega arith))

pub returns-in-Script : goal.returns-in-Script
returns-in-Script c =
    let a = c.args in
    sym (fault_no a.e a.names (omega arith) (sym c.in-Script.ensures))

pub returns-in_default : goal.returns-in_default
returns-in_default c =
    let a = c.args in
    sym (fault-kind a.e a.names (omega arith) (λ z. c.in_default.not-Script (kind-same _ Script (c.index_kind.ensures ∙ z))))
