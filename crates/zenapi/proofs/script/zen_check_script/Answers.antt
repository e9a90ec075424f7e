-- `zenapi::script::zen_check_script` meets its contract.
use Rattle.zenapi.proofs.ScriptFound.{refused-as}
use Rattle.zenapi.proofs.script.zen_check_script.Goals as goal

pub returns : goal.returns
returns c = refused-as _ _ _ c.check_script.ensures c.refused.ensures
