-- `check::check` meets its contract: length, version, texts, and the rest by its stages. Assumes nothing.
use mathlib.Core.Path.{sym, ◌∙◌}
use native.Mathlib.Omega.{arith}
use Rattle.header.proofs.Stages.{texts-bad, texts-begun}
use Rattle.header.proofs.check.check.Goals as goal

pub check_tables-requires : goal.check_tables-requires
check_tables-requires c =
    let front = c.if-n-lt17.false in
    texts-begun c.args.s.now front c.be32_usize-2.result c.be32_usize-2.ensures.is c.be32_usize-2.ensures.fits
    (omega (arith, c.if-n-be32_usize.false, c.be32_usize.ensures.is)) c.if-s-ne1.false (sym c.sized_texts.ensures ∙ c.in_ok-texts.was)

pub returns-in_err-texts : goal.returns-in_err-texts
returns-in_err-texts c =
    rw c.from_residual.ensures
    (texts-bad c.args.s.now c.if-n-lt17.false c.be32_usize-2.result c.be32_usize-2.ensures.is (sym c.sized_texts.ensures ∙ c.in_err-texts.was))
