-- `capi::class_header` meets its contract: the call's.
use borrow.Author.Rules.{rules}
use Rattle.capi.proofs.class_header.Goals as goal

pub returns : goal.returns
returns c = record { number_is = search rules; output-is = search rules }
