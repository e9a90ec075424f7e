-- `verify` on a corpus with its packages in another order and whatever values in what is passed over (document 02, Q-2: "Neither depends on
-- passed-over bytes"): the counts stay, and each package keeps its flag. Where the order stays, so does the whole answer.
use Rattle.std.specs.Prelude.{◌≡◌, refl, true, List, [], ◌∷◌, ◌++◌, map, ℕ, suc, ◌+◌, length}
use Rattle.std.proofs.Common.{sym, ◌∙◌, ap, append_assoc, arith, length-append}
use Rattle.std.proofs.lemmas.List.{length-map}
use Rattle.base.specs.Find.{flat}
use Rattle.base.specs.Number.{be_bytes}
use Rattle.base.specs.NumberLaws.{length-be_bytes}
use Rattle.base.specs.Perm.{All, perm_all, perm_length, each_map}
use Rattle.base.specs.Reading.{gives, run_block}
use Rattle.scriptblock.specs.Script.{Objects}
use Rattle.zen.specs.Zen.{Read, package_block}
use Rattle.meaning.specs.Frame.{Part, Corpus}
use Rattle.meaning.specs.Call.{accepted, Opened, holding, opened, limits}
use Rattle.meaning.specs.Bytes.{corpus_bytes, IdFits}
use Rattle.meaning.specs.Rearranged.{Rearranged}
use Rattle.meaning.specs.Accepted.{Good, read_of}
use Rattle.meaning.proofs.Accepted.{bind_accepted, need-accepted}
use Rattle.meaning.specs.Rewriting.{SamePart, part-id, part_same, Same}
use Rattle.meaning.specs.RearrangedLaws.{rewritten_opens}
use Rattle.meaning.proofs.RearrangedOpens.{turned_same, BothOpen, both_open}
use Rattle.meaning.specs.Verify.{Counts, counts_of, package_flag, verify_version, output_with, output_of, output_fits, verify_answer}
pub use Rattle.meaning.specs.VerifyRearranged.{Turned, flag_as, flag_in, front_with}

pub flag_is : (p : Part) (r : Read) → run_block package_block p.block ≡ gives r → flag_in p ≡ package_flag (record { id = p.id; read = r })
unfolding flag_in
flag_is p r e = rw e

flags-are : (l : List Part) → All Good l → map package_flag (flat read_of l) ≡ map flag_in l
unfolding flag_in read_of
flags-are [] g = refl
flags-are (p ∷ l) g = rw g.0.1 (ap (λ r. package_flag (record { id = p.id; read = g.0.0 }) ∷ r) (flags-are l g.1))

flag_same : (p q : Part) → SamePart p q → flag_in q ≡ flag_in p
unfolding flag_in
flag_same p q a = rw (part-id p q a, part_same p q a)

-- ---- the answer

-- an accepted answer: what the corpus holds, and its output
pub from_verify : (s : List ℕ) (room : ℕ) (output : List ℕ) → verify_answer s room ≡ accepted output
    → (d : Opened) × (opened limits s ≡ accepted d) × (output_fits room output ≡ true) × (output ≡ output_of d)
unfolding verify_answer
from_verify s room output h =
    let (d, hd, h₁) = bind_accepted (opened limits s) _ output h in
    let (f, h₂) = need-accepted (output_fits room (output_of d)) 26 0 _ output h₁ in
    let is : output ≡ output_of d = cc in
    (d, hd, rw is f, is)

to_verify : (s : List ℕ) (room : ℕ) (d : Opened) → opened limits s ≡ accepted d → output_fits room (output_of d) ≡ true
    → verify_answer s room ≡ accepted (output_of d)
unfolding verify_answer
to_verify s room d h f = rw (h, f)

-- ---- rewriting alone

-- the same wherever a bit counts: the same answer, refusals included
pub verify_rewritten : (c d : Corpus) → Same c d → All IdFits c.parts → (room : ℕ) → verify_answer (corpus_bytes d) room ≡ verify_answer (corpus_bytes c) room
unfolding verify_answer
verify_rewritten c d a i room = rw (rewritten_opens c d a i limits)

-- by document 01's list of what is passed over, where the packages stay where they are
pub verify_same : (s t : List ℕ) (w : Rearranged s t) → w.how.order ≡ w.old.parts → (room : ℕ) → verify_answer t room ≡ verify_answer s room
verify_same s t w e room =
    let same : Same w.old w.new = rw e at (turned_same w) in
    rw (w.is, w.was) (verify_rewritten w.old w.new same w.ids room)

pub length_front : (n : Counts) (k : ℕ) → length (front_with n k) ≡ 25
unfolding front_with
length_front n k = simp (length-append, length-be_bytes)

front-is : (n : Counts) (flags : List ℕ) → output_with n flags ≡ front_with n (length flags) ++ flags
unfolding front_with output_with
front-is n flags =
    let counts = be_bytes 4 n.objects ++ be_bytes 4 n.resolved ++ be_bytes 4 n.matches ++ be_bytes 4 n.mismatches ++ be_bytes 4 (length flags) in
    let rest : suc (length (counts ++ flags)) ≡ 21 + length flags = simp (length-append, length-be_bytes) (omega arith) in
    rw (rest, append_assoc (be_bytes 4 (21 + length flags)) (verify_version ∷ counts) flags)

fits-length : (room : ℕ) (l k : List ℕ) → length l ≡ length k → output_fits room l ≡ output_fits room k
unfolding output_fits
fits-length room l k e = rw e

module _ (s t : List ℕ) (w : Rearranged s t) where
  same_flags : map flag_in w.new.parts ≡ map flag_in w.how.order
  same_flags = each_map SamePart flag_in flag_in flag_same w.how.order w.new.parts (turned_same w).parts

  -- the output where the packages read are those of these parts
  output_in : (o : Objects) (l : List Part) → All Good l → length l ≡ length w.old.parts
      → output_of (holding limits o (flat read_of l)) ≡ front_with (counts_of limits.objects o) (length w.old.parts) ++ map flag_in l
  unfolding output_of holding
  output_in o l g e = rw (flags-are l g) (front-is (counts_of limits.objects o) (map flag_in l) ∙ rw (length-map l flag_in, e))

  -- both outputs are as long
  same_length : (front : List ℕ) → length (front ++ map flag_in w.how.order) ≡ length (front ++ map flag_in w.old.parts)
  same_length front =
      rw (length-append front (map flag_in w.how.order), length-append front (map flag_in w.old.parts))
      (rw (length-map w.how.order flag_in, length-map w.old.parts flag_in, perm_length w.how.moved))

  turned_by : (d : Opened) → BothOpen w limits d → (room : ℕ) (old : List ℕ) → output_fits room old ≡ true → old ≡ output_of d → Turned s t w room old
  turned_by d both room old f is =
      let o = both.opens.objects in
      let order = w.how.order in
      let front = front_with (counts_of limits.objects o) (length w.old.parts) in
      let old-is : old ≡ front ++ map flag_in w.old.parts = is ∙ (ap output_of both.old-is ∙ output_in o w.old.parts both.opens.good refl) in
      let new_is : output_of (holding limits o (flat read_of order)) ≡ front ++ map flag_in order =
      output_in o order (perm_all Good w.how.moved both.opens.good) (sym (perm_length w.how.moved)) in
      let long : length (output_of (holding limits o (flat read_of order))) ≡ length old = ap length new_is ∙ (same_length front ∙ sym (ap length old-is)) in
      let fits = fits-length room (output_of (holding limits o (flat read_of order))) old long ∙ f in
      record {
        new = front ++ map flag_in w.new.parts;
        accepted_too = to_verify t room (holding limits o (flat read_of order)) both.new-opened fits ∙ rw (new_is, same_flags);
        as_long = ap (λ (r : List ℕ). length (front ++ r)) same_flags ∙ (same_length front ∙ sym (ap length old-is));
        front = front;
        front_length = length_front (counts_of limits.objects o) (length w.old.parts);
        old-is = old-is;
        new_is = refl;
        same_flags = same_flags;
      }

  -- THE THEOREM
  pub verify_turned : (room : ℕ) (old : List ℕ) → verify_answer s room ≡ accepted old → Turned s t w room old
  verify_turned room old h = let (d, hd, f, is) = from_verify s room old h in turned_by d (both_open w limits d hd) room old f is
