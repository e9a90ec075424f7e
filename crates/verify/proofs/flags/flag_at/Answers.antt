-- `flags::flag_at` meets its contract. Assumes nothing.
use mathlib.Core.Path.{ap, ◌∙◌}
use Rattle.meaning.specs.Verify.{package_flag}
use Rattle.verify.proofs.Bit.{bit-is}
use Rattle.verify.proofs.flags.flag_at.Goals as goal

pub of-requires : goal.of-requires
of-requires c = rw c.block_at.ensures c.requires.is

pub returns : goal.returns
unfolding package_flag
returns c = rw (c.from.ensures, c.home_id.ensures, ap (λ x. x.now) c.of.ensures ∙ c.block_at.ensures, c.id_at.ensures, bit-is)
