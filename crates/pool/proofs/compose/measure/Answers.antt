-- `compose::measure` meets its contract: the own name, measured, behind the path of the outer. Assumes nothing.
use mathlib.Core.Path.{sym, ◌∙◌}
use native.Mathlib.Omega.{arith}
use Rattle.objects.specs.PathLaws.{path_end}
use Rattle.objects.specs.PutLaws.{stands-holds, stands-linked, stands-lost}
use Rattle.pool.specs.ComposeLaws.{above-inside, told-alone, told-nowhere, told_below, below-short}
use Rattle.pool.proofs.compose.measure.Goals as goal

pub returns-then-limit-eq0 : goal.returns-then-limit-eq0
returns-then-limit-eq0 c = λ o i st. rw (path_end c.args.limit o i (omega arith))

pub place_len-own-requires : goal.place_len-own-requires
place_len-own-requires c = rw c.name_of.ensures (stands-holds c.requires.0.stands (λ i. (c.type_inv.b i).fits))

pub path_len-requires : goal.path_len-requires
path_len-requires c =
    let st = c.requires.0.stands in
    (stands-linked st, above-inside st c.args.limit c.in-Object.ensures, omega (arith, c.requires.1))

pub returns-in_err-above-in-Object : goal.returns-in_err-above-in-Object
returns-in_err-above-in-Object c = λ o i st.
    c.from_residual.ensures
    ∙ told-nowhere st c.args.limit c.if-limit-eq0.false (rw c.name_of.ensures at c.place_len-own.ensures.0) c.in-Object.ensures
    (c.path_len.ensures _ o st.holds) c.in_err-above-in-Object.was

pub overflow_add-result-in-Object : goal.overflow_add-result-in-Object
overflow_add-result-in-Object c =
    let st = c.requires.0.stands in
    let s = below-short st c.args.limit c.if-limit-eq0.false (rw c.name_of.ensures at c.place_len-own.ensures.0) c.in-Object.ensures
    (c.path_len.ensures _ _ st.holds) (λ i. (c.type_inv.b i).fits) c.in_ok-above-in-Object.was in
    omega (arith, s.0, c.place_len-own.ensures.1, c.requires.1)

pub overflow_add-result-in-Object-2 : goal.overflow_add-result-in-Object-2
overflow_add-result-in-Object-2 c =
    let st = c.requires.0.stands in
    let s = below-short st c.args.limit c.if-limit-eq0.false (rw c.name_of.ensures at c.place_len-own.ensures.0) c.in-Object.ensures
    (c.path_len.ensures _ _ st.holds) (λ i. (c.type_inv.b i).fits) c.in_ok-above-in-Object.was in
    omega (arith, s.1, c.requires.1)

pub returns-in-Missing : goal.returns-in-Missing
returns-in-Missing c = λ o i st. rw (stands-lost st c.args.limit c.if-limit-eq0.false (sym c.in-Missing.ensures))

pub returns-in-Nothing : goal.returns-in-Nothing
returns-in-Nothing c = λ o i st.
    told-alone st c.args.limit c.if-limit-eq0.false (rw c.name_of.ensures at c.place_len-own.ensures.0) (sym c.in-Nothing.ensures)

pub returns-in_ok-above-in-Object : goal.returns-in_ok-above-in-Object
returns-in_ok-above-in-Object c = λ o i st.
    told_below st c.args.limit c.if-limit-eq0.false (rw c.name_of.ensures at c.place_len-own.ensures.0) c.in-Object.ensures
    (c.path_len.ensures _ o st.holds) c.in_ok-above-in-Object.was
