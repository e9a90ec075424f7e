-- `compose::compose` meets its contract: the path behind the first four bytes, then its length in these. Assumes nothing.
use mathlib.Core.Path.{◌≡◌, sym, ◌∙◌}
use native.Mathlib.Omega.{arith}
use Rattle.base.specs.NumberLaws.{length-be_bytes}
use Rattle.objects.specs.Numbers.{path_no}
use Rattle.objects.specs.Told.{known, told}
use Rattle.pool.specs.ComposeLaws.{no_short_over, compose_text}
use Rattle.pool.proofs.compose.compose.Goals as goal

pub returns-clause-few : goal.returns-clause-few
returns-clause-few c = omega (arith, c.put_be32.ensures.size, length-be_bytes 4 c.in_ok-path.path.len)

pub returns-clause-is : goal.returns-clause-is
returns-clause-is c = λ o i st.
    let p = c.in_ok-path.path in
    let q : known p.len p.objects ≡ told (path_no c.args.limit o i) = sym c.in_ok-path.was ∙ c.measure.ensures o i st in
    compose_text c.args.out.now c.requires.0 c.args.limit st q (omega (arith, c.if-path-gt252.false)) c.put_path.ensures c.put_be32.ensures

pub returns-then-path-gt252-clause-long : goal.returns-then-path-gt252-clause-long
returns-then-path-gt252-clause-long c = λ o i st.
    no_short_over (path_no c.args.limit o i) (sym c.in_ok-path.was ∙ c.measure.ensures o i st) c.if-path-gt252.true
