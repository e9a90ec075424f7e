-- `packages::frame::read_frame` meets its contract: length, version, parts. Assumes nothing.
use Rattle.std.specs.Prelude.{Err, Result}
use Rattle.packages.specs.declared.frame.Frame.{Frame}
use mathlib.Core.Path.{◌≡◌, sym, ◌∙◌}
use mathlib.Core.List.{List}
use Prim.Native.Nat.{ℕ, ◌-◌, ◌≤◌}
use lib.ListN.{length, get_or}
use Rattle.base.specs.Number.{be_at}
use Rattle.meaning.specs.Frame.{framed}
use Rattle.packages.specs.Framing.{parts_answer, framed_as}
use Rattle.packages.specs.FramingLaws.{frame-short, frame-wrong, frame-version, frame-rest}
use Rattle.packages.proofs.frame.read_frame.Goals as goal

module _ (s : List ℕ) (first : ℕ) (e : first ≡ be_at 4 s 0) (h : 5 ≤ length s) where
  wrong : (length s - 4 ≡ first → ⊥) → Err 1 ≡ framed_as (framed s)
  wrong ne = frame-wrong s h (λ x. ne (x ∙ sym e))

  module _ (q : length s - 4 ≡ first) where
    version : (get_or s 4 0 ≡ 1 → ⊥) → Err 2 ≡ framed_as (framed s)
    version ne = frame-version s h (q ∙ e) ne

    rest : (r : (Result Frame ℕ)) → get_or s 4 0 ≡ 1 → r ≡ parts_answer s → r ≡ framed_as (framed s)
    rest r v p = p ∙ frame-rest s h (q ∙ e) v

pub returns-then-n-lt5 : goal.returns-then-n-lt5
returns-then-n-lt5 c = search frame-short

pub returns-then-n-be32_usize : goal.returns-then-n-be32_usize
returns-then-n-be32_usize c = search wrong

pub returns-then-c-ne1 : goal.returns-then-c-ne1
returns-then-c-ne1 c = search version

pub returns : goal.returns
returns c = search rest
