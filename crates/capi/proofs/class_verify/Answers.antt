-- `capi::class_verify` meets its contract: the call's.
use borrow.Author.Rules.{rules}
use Rattle.meaning.specs.Verify.{verified}
use Rattle.capi.proofs.class_verify.Goals as goal

pub returns : goal.returns
unfolding verified
returns c = record { number_is = search rules; output-is = search rules }
