-- `names::put_zeros` meets its contract. Assumes nothing.
use mathlib.Core.Path.{◌≡◌, ◌∙◌, sym, ap}
use Prim.Native.Nat.{ℕ}
use borrow.Author.Rules.{rules}
use lib.ListN.{length, replicate, take, length-replicate}
use lib.Seq.{length-take-le}
use Rattle.header.specs.PiecesLaws.{wrote_start}
use Rattle.header.proofs.names.put_zeros.Goals as goal

pub returns : goal.returns
returns c =
    let n : length (take c.args.n c.args.out.now) ≡ c.args.n = length-take-le c.args.n c.args.out.now c.requires in
    wrote_start (c.fill.ensures.after (λ y e. search rules) ∙ ap (λ (k : ℕ). replicate k 0) n) (sym (length-replicate {A = ℕ} c.args.n 0)) c.requires
