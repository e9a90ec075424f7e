-- `check::check_imported` meets its contract: the imported names, and nothing left over. Assumes nothing.
use mathlib.Core.Path.{sym, ◌∙◌}
use Rattle.header.proofs.Stages.{names-bad, names-left, listed}
use Rattle.header.proofs.check.check_imported.Goals as goal

pub returns-in_err-names : goal.returns-in_err-names
returns-in_err-names c =
    rw c.from_residual.ensures
    (names-bad c.args.s.now c.args.texts.next c.args.texts.size c.args.hashes c.args.stop c.requires c.be32_usize-count.result
    c.be32_usize-count.ensures.is (sym c.sized_texts.ensures ∙ c.in_err-names.was))

pub returns-then-names-s : goal.returns-then-names-s
returns-then-names-s c =
    names-left c.args.s.now c.args.texts.next c.args.texts.size c.args.hashes c.args.stop c.requires c.be32_usize-count.result
    c.be32_usize-count.ensures.is
    (sym c.sized_texts.ensures ∙ c.in_ok-names.was) c.if-names-s.true

pub check_whole-requires : goal.check_whole-requires
check_whole-requires c =
    listed c.args.s.now c.args.texts.next c.args.texts.size c.args.hashes c.args.stop c.requires c.be32_usize-count.result
    c.be32_usize-count.ensures.is
    (sym c.sized_texts.ensures ∙ c.in_ok-names.was) c.if-names-s.false c.be32_usize-count.ensures.fits
    c.be32_usize.result c.be32_usize-2.result c.be32_usize-3.result c.be32_usize.ensures.is
    c.be32_usize-2.ensures.is c.be32_usize-3.ensures.is c.be32_usize-2.ensures.fits c.be32_usize-3.ensures.fits
