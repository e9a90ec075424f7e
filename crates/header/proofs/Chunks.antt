-- The numbers in front of a slice's chunks of 40 bytes, in order. Assumes nothing.
use Rattle.std.specs.Prelude.{◌≡◌, refl, List, ◌++◌, length, take, drop, ℕ, zero, suc, ◌+◌, ◌/◌}
use Rattle.std.specs.Iterator.{AlwaysYields}
use Rattle.std.specs.Slice.Iter.{chunks_exact_rest, chunks_exact_size, chunks_exact_steps}
use Rattle.std.specs.declared.slice.ChunksExact.{ChunksExact}
use Rattle.std.proofs.Common.{sym, ◌∙◌, ap, arith, length-append}
use Rattle.std.proofs.Math.ListN.{length-drop}
use Rattle.std.proofs.Math.Seq.{drop-drop, drop-append_seam}
use Rattle.std.proofs.lemmas.Iterator.{YieldsList}
use Rattle.std.proofs.lemmas.List.{take-append-le}
use Rattle.base.specs.Number.{be_at}
use Rattle.base.specs.NumberLaws.{be_at-same}
use Rattle.base.specs.ReadingRows.{cells}

module _ (xs : List ℕ) where
  -- the chunk at hand is 40 bytes from here on, and what is left follows them
  module _ (at : ℕ) (s t : ChunksExact ℕ) (x : List ℕ) (e : chunks_exact_rest s ≡ x ++ chunks_exact_rest t) (l : length x ≡ 40)
      (r : chunks_exact_rest s ≡ drop at xs) where
    here : be_at 4 x 0 ≡ be_at 4 xs at
    here = be_at-same 4 x xs 0 at (sym (take-append-le 4 x (chunks_exact_rest t) (omega arith)) ∙ ap (take 4) (sym e ∙ r))

    behind : chunks_exact_rest t ≡ drop (at + 40) xs
    behind =
        sym (drop-append_seam x (chunks_exact_rest t)) ∙ ap (drop (length x)) (sym e ∙ r)
        ∙ rw l (drop-drop 40 at xs)

  each : (k at : ℕ) (s : ChunksExact ℕ) → chunks_exact_size s ≡ 40 → chunks_exact_rest s ≡ drop at xs → length (drop at xs) / 40 ≡ k
      → AlwaysYields chunks_exact_steps (λ x. be_at 4 x.now 0) s (cells (be_at 4 xs) 40 at k)
  each zero at s z r n = λ x t p.
      let e = p.1.0 in
      omega (arith, ap length (sym r ∙ e), length-append x.now (chunks_exact_rest t), p.1.1, z)
  each (suc k) at s z r n = (
    (λ t p. omega (arith, p.1.0, z, ap length r)),
    λ x t p.
        let l : length x.now ≡ 40 = p.1.1 ∙ z in
        let b = behind at s t x.now p.1.0 l r in (
          here at s t x.now p.1.0 l r,
          each k (at + 40) t (p.0 ∙ z) b (omega (arith, length-drop at xs, length-drop (at + 40) xs)),
        ),
  )

  pub chunk_numbers : {s : ChunksExact ℕ} → chunks_exact_size s ≡ 40 → chunks_exact_rest s ≡ xs
      → YieldsList chunks_exact_steps (λ x. be_at 4 x.now 0) s (cells (be_at 4 xs) 40 0 (length xs / 40))
  chunk_numbers {s} z r = record { runs = each (length xs / 40) 0 s z r refl }
