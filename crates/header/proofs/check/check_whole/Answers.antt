-- `check::check_whole` meets its contract: text numbers, and the header's size. Assumes nothing.
use mathlib.Core.Path.{◌∙◌, ap}
use native.Mathlib.Omega.{arith}
use Rattle.zen.specs.Zen.{named}
use Rattle.header.proofs.Slices.{exports-in}
use Rattle.header.proofs.Stages.{exports-room, name_out, small, size-out, said-whole}
use Rattle.header.proofs.check.check_whole.Goals as goal

pub returns-then-p-be32_usize : goal.returns-then-p-be32_usize
returns-then-p-be32_usize c = search name_out

pub regions_of-g-requires : goal.regions_of-g-requires
regions_of-g-requires c = search small

pub returns-then-g-gt-LONGEST_HEADER : goal.returns-then-g-gt-LONGEST_HEADER
returns-then-g-gt-LONGEST_HEADER c = search size-out

pub overflow_mul-exports : goal.overflow_mul-exports
overflow_mul-exports c = omega (arith, exports-room c.args.s.now c.args.p c.requires)

pub overflow_add-exports : goal.overflow_add-exports
overflow_add-exports c = omega (arith, exports-room c.args.s.now c.args.p c.requires)

pub slice_bounds-exports-end : goal.slice_bounds-exports-end
slice_bounds-exports-end c = exports-room c.args.s.now c.args.p c.requires

pub returns : goal.returns
returns c =
    rw c.then_some.ensures
    (said-whole c.args.s.now c.args.p c.requires c.regions_of-g.result c.regions_of-g.ensures c.if-g-gt-LONGEST_HEADER.false c.be32_usize.result
    c.be32_usize.ensures.is c.if-p-be32_usize.false c.check_exports.result
    (c.check_exports.ensures ∙ ap (named c.args.p.texts) (exports-in c.args.s.now c.args.p.exports c.args.p.entries (exports-room c.args.s.now c.args.p c.requires))))
