-- What is read of a corpus whose packages are in another order and whose passed-over values are others: the same script objects, and the same
-- packages in the new order. No buffer counts.
use Rattle.std.specs.Prelude.{◌≡◌, List, ℕ, ◌^◌, ◌<◌}
use Rattle.std.proofs.Math.Path.{sym}
use Rattle.std.proofs.Common.{◌∙◌, ap}
use Rattle.std.proofs.Math.ListN.{length}
use Rattle.base.specs.Find.{flat}
use Rattle.base.specs.Perm.{All, perm_all, perm_flat, perm_length}
use Rattle.base.specs.Reading.{gives}
use Rattle.meaning.specs.Frame.{Corpus, framed}
use Rattle.meaning.specs.Resolve.{Limits}
use Rattle.meaning.specs.Call.{accepted, Opened, holding, opened}
use Rattle.meaning.specs.Bytes.{part_bytes, corpus_rest, corpus_bytes, IdFits}
use Rattle.meaning.specs.BytesLaws.{length_rest, frame-bytes, frame-fits}
use Rattle.meaning.specs.Rearranged.{Rearranged}
use Rattle.meaning.specs.Accepted.{read_of, packages_in, Opens}
use Rattle.meaning.proofs.Accepted.{from-corpus}
use Rattle.meaning.specs.Rewriting.{Same, listed-script, listed-parts}
use Rattle.meaning.specs.RearrangedLaws.{rewritten_opens}
use Rattle.meaning.specs.Reordering.{in_order}
use Rattle.meaning.proofs.Reordering.{reordered_holds}

module _ {s t : List ℕ} (w : Rearranged s t) where
  -- the old corpus with its packages in the new order
  abbrev pub turned : Corpus
  turned = in_order w.old w.how.order

  pub turned_same : Same turned w.new
  turned_same = record {
    scripts = listed-script w.old.script w.new.script w.how.script_rewritten;
    parts = listed-parts w.how.order w.new.parts w.how.parts_rewritten;
  }

  pub turned-ids : All IdFits w.how.order
  turned-ids = perm_all IdFits w.how.moved w.ids

  -- what holds of both, where the old corpus is opened
  pub record BothOpen (m : Limits) (d : Opened) : Type 0 where
    pub opens : Opens m w.old
    pub old-is : d ≡ holding m opens.objects (packages_in w.old)
    pub new-opened : opened m t ≡ accepted (holding m opens.objects (flat read_of w.how.order))

  pub both_open : (m : Limits) (d : Opened) → opened m s ≡ accepted d → BothOpen m d
  unfolding opened
  both_open m d h =
      let (c, f, a, e) = from-corpus m s d h in
      let fits : length (corpus_rest w.old) < 2 ^ 32 = frame-fits w.old {d = c} (ap framed (sym w.was) ∙ f) in
      let framed_is : framed s ≡ gives w.old = rw w.was (frame-bytes w.old w.ids fits) in
      let c-is : c ≡ w.old = let g : gives c ≡ gives w.old = sym f ∙ framed_is in cc in
      let turned-fits : length (corpus_rest turned) < 2 ^ 32 =
      rw (length_rest turned, ← perm_length (perm_flat part_bytes w.how.moved), ← length_rest w.old) fits in
      let held : (a : Opens m c) × (d ≡ holding m a.objects (packages_in c)) = (a, e) in
      go (rw c-is at held) (frame-bytes turned turned-ids turned-fits)
    where
      go : ((a : Opens m w.old) × (d ≡ holding m a.objects (packages_in w.old))) → framed (corpus_bytes turned) ≡ gives turned → BothOpen m d
      go (a, e) f = record {
        opens = a;
        old-is = e;
        new-opened =
            rw (w.is, rewritten_opens turned w.new turned_same turned-ids m, f) (reordered_holds m w.old w.how.order w.how.moved a);
      }
