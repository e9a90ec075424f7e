-- `class::known` meets its contract. Assumes nothing.
use mathlib.Core.Path.{◌≡◌, sym, ◌∙◌}
use Prim.Native.Nat.{◌+◌, ◌-◌}
use native.Mathlib.Omega.{arith}
use Rattle.objects.specs.Numbers.{entry_no}
use Rattle.objects.specs.PathLaws.{path_end, path-lost, path-top, known_up, link-inside, link_at_lem}
use Rattle.objects.proofs.class.known.Goals as goal

pub returns-in-Missing : goal.returns-in-Missing
returns-in-Missing c = λ b o t.
    let l = c.loop in
    let q = link_at_lem t l.at l.invariant.0 c.record_at.ensures c.le32_usize.ensures.is in
    sym (l.invariant.1 b o t ∙ rw (path-lost (c.args.limit - l.counter) o l.at (omega arith) q (sym c.in-Missing.ensures)))

pub returns-in-Nothing : goal.returns-in-Nothing
returns-in-Nothing c = λ b o t.
    let l = c.loop in
    let q = link_at_lem t l.at l.invariant.0 c.record_at.ensures c.le32_usize.ensures.is in
    sym (l.invariant.1 b o t ∙ rw (path-top (c.args.limit - l.counter) o l.at (omega arith) q (sym c.in-Nothing.ensures)))

pub loop-preserved : goal.loop-preserved
loop-preserved c =
    let l = c.loop in
    let p = c.requires.0 in
    let m = link_at_lem p.holds l.at l.invariant.0 c.record_at.ensures c.le32_usize.ensures.is in
    let k : c.le32_usize.result - 2 ≡ c.in-Object.k = omega (arith, c.in-Object.ensures) in
    let z : c.args.limit - l.counter - 1 ≡ c.args.limit - (l.counter + 1) = omega arith in (
      rw k at (link-inside p.holds (entry_no p.objects l.at).outer m (omega (arith, c.in-Object.ensures))),
      λ b o t. l.invariant.1 b o t ∙ (rw (z, k) at (known_up (c.args.limit - l.counter) o l.at (omega arith)
          (link_at_lem t l.at l.invariant.0 c.record_at.ensures c.le32_usize.ensures.is) (omega (arith, c.in-Object.ensures)))),
    )

pub returns : goal.returns
returns c = λ b o t. let l = c.loop in sym (l.invariant.1 b o t ∙ rw (path_end (c.args.limit - l.counter) o l.at (omega arith)))
