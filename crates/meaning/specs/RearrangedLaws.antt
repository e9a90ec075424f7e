-- The bytes of a corpus whose passed-over values are others: as long, and framed where it was; so the answer stays, refusals included.
use Rattle.std.specs.Prelude.{◌≡◌, ℕ, ◌^◌, ◌≤◌, ◌<◌}
use Rattle.std.proofs.Math.Decide.{dec_le}
use native.Mathlib.Omega.{arith}
use Rattle.std.proofs.Math.ListN.{length}
use Rattle.base.specs.FindLaws.{length-flat}
use Rattle.base.specs.Perm.{All, each_all, each-sum}
use Rattle.meaning.specs.Frame.{Part, Corpus}
use Rattle.meaning.specs.Resolve.{Limits}
use Rattle.meaning.specs.Call.{opened, answer}
use Rattle.meaning.specs.Bytes.{part_bytes, corpus_rest, corpus_bytes, IdFits}
use Rattle.meaning.specs.BytesLaws.{length_part, length_rest, frame-bytes, frame-long}
use Rattle.meaning.specs.Rewriting.{SamePart, part-id, part-size, script-length, Same, rewritten_opened}

module _ (c d : Corpus) (a : Same c d) where
  pub rewritten_length : length (corpus_rest d) ≡ length (corpus_rest c)
  rewritten_length =
      let each : (p q : Part) → SamePart p q → length (part_bytes q) ≡ length (part_bytes p) = λ p q b. rw (length_part p, length_part q, part-size p q b) in
      let parts = each-sum SamePart (λ p. length (part_bytes p)) (λ p. length (part_bytes p)) each c.parts d.parts a.parts in
      rw (length_rest d, length_rest c, script-length c.script d.script a.scripts, length-flat part_bytes d.parts, length-flat part_bytes c.parts, parts)

  pub rewritten_ids : All IdFits c.parts → All IdFits d.parts
  rewritten_ids i = each_all SamePart IdFits IdFits (λ p q b h. rw (part-id p q b) h) c.parts d.parts a.parts i

  -- what is read stays, or the question and its block
  pub rewritten_opens : All IdFits c.parts → (m : Limits) → opened m (corpus_bytes d) ≡ opened m (corpus_bytes c)
  unfolding opened
  rewritten_opens i m = go (dec_le (2 ^ 32) (length (corpus_rest c)))
    where
      go : Dec (2 ^ 32 ≤ length (corpus_rest c)) → opened m (corpus_bytes d) ≡ opened m (corpus_bytes c)
      go (yes h) = rw (frame-long c h, frame-long d (rw rewritten_length h))
      go (no h) =
          let h : length (corpus_rest c) < 2 ^ 32 = omega arith in
          rw (frame-bytes c i h, frame-bytes d (rewritten_ids i) (rw rewritten_length h), rewritten_opened m c d a)

  -- so the answer stays: the report byte for byte, or the question and its block
  pub rewritten_same : All IdFits c.parts → (m : Limits) (work room : ℕ) → answer m (corpus_bytes d) work room ≡ answer m (corpus_bytes c) work room
  unfolding answer
  rewritten_same i m work room = rw (rewritten_opens i m)
