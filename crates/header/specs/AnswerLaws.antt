-- The call's answer by what the check says: 27 where the description is none that can be written, 28 where the buffer is too short, else the header.
use Rattle.std.specs.Prelude.{◌≡◌, Bool, ◌&&◌, List, length}
use Rattle.std.proofs.Math.Path.{refl, sym}
use Rattle.std.proofs.Common.{◌∙◌, ap, arith}
use Rattle.std.proofs.Math.Bool.{true, false, and-eq-true_iff}
use Prim.Native.Nat.{ℕ, zero, suc, ◌+◌, ◌≤◌, ◌<◌}
use borrow.Author.Tests.{le-leb, lt-leb, lt-ltb}
use Rattle.std.proofs.Math.Dec.{leb}
use Rattle.base.specs.Answer.{refusal}
use Rattle.base.specs.Choose.{pick}
use Rattle.base.specs.NumberLaws.{be_at-one}
use Rattle.base.specs.Output.{Wrote}
use Rattle.text.specs.Utf16.{encode16}
use Rattle.written.specs.HeaderBytes.{header_of, header_size, longest_name, longest_header, short, writable}
use Rattle.meaning.specs.Call.{refused_in, accepted, number_of, buffer_after}
use Rattle.description.specs.Call.{as_described, header_answer}
use Rattle.description.specs.CallLaws.{Writable}
use Rattle.description.proofs.CallLaws.{writable-is}
use Rattle.description.specs.HeaderBack.{length-header}
use Rattle.header.specs.Places.{text_at, next_text, text_well, texts_from, texts_well, text_count, imported_place, imported_count, description_at, in_form}
use Rattle.header.specs.FormPlaces.{in_form_lem, form_in, described-at}
use Rattle.header.specs.TextLoops.{texts-count, imported_texts_lem}
use Rattle.header.specs.Parts.{text_fits, texts_fit, Whole, parts_of, regions_of}
use Rattle.header.specs.RegionLaws.{starts}
use Rattle.header.specs.declared.check.Parts.{Parts}
use Rattle.header.specs.declared.check.Regions.{Regions}

-- texts that can be written are well-formed, and short
module _ (more : ℕ) (s : List ℕ) where
  fit-split : (at n : ℕ) → texts_fit more s at n ≡ (texts_well more s at n && short (texts_from more s at n))
  unfolding texts_fit texts_well texts_from text_fits
  fit-split at zero = refl
  fit-split at (suc n) =
      rw (fit-split (next_text more s at) n)
      (go (text_well more s at) (leb (length (encode16 (text_at s at))) longest_name) (texts_well more s (next_text more s at) n)
      (short (texts_from more s (next_text more s at) n)))
    where
      go : (a b c d : Bool) → ((a && b) && (c && d)) ≡ ((a && c) && (b && d))
      go true true true d = refl
      go true true false d = refl
      go true false true d = refl
      go true false false d = refl
      go false b c d = refl

  fit-both : (at n : ℕ) → texts_fit more s at n ≡ true → (texts_well more s at n ≡ true) × (short (texts_from more s at n) ≡ true)
  fit-both at n e = (and-eq-true_iff (texts_well more s at n) (short (texts_from more s at n))).0 (sym (fit-split at n) ∙ e)

  both-fit : (at n : ℕ) → texts_well more s at n ≡ true → short (texts_from more s at n) ≡ true → texts_fit more s at n ≡ true
  both-fit at n e f = fit-split at n ∙ rw (e, f)

module _ (s : List ℕ) where
  whole_writes : Whole s → writable (description_at s) ≡ true
  unfolding writable description_at
  whole_writes w =
      rw (
        texts-count 0 s (text_count s) 17,
        lt-ltb _ _ w.name,
        w.named-all,
        (fit-both 0 s 17 (text_count s) w.texts).1,
        imported_texts_lem s (imported_count s) (imported_place s + 4),
        (fit-both 4 s (imported_place s + 4) (imported_count s) w.names).1,
      ) (le-leb _ longest_header (size w))
    where
      size : Whole s → header_size (description_at s) ≤ longest_header
      size w = w.size

  whole_form : Whole s → in_form s ≡ true
  whole_form w =
      form_in s (record {
        long = w.front;
        first = w.said;
        version = be_at-one s 4 ∙ w.version;
        texts = (fit-both 0 s 17 (text_count s) w.texts).0;
        exports = w.exports;
        hashes = w.hashes;
        imported = w.imported;
        names = (fit-both 4 s (imported_place s + 4) (imported_count s) w.names).0;
        ends = w.whole;
      })

  in_whole : in_form s ≡ true → Writable (description_at s) → Whole s
  unfolding description_at
  in_whole e v =
      let f = in_form_lem s e in
      let n = texts-count 0 s (text_count s) 17 in
      record {
        front = f.long;
        said = f.first;
        version = sym (be_at-one s 4) ∙ f.version;
        texts = both-fit 0 s 17 (text_count s) f.texts v.texts;
        exports = f.exports;
        hashes = f.hashes;
        imported = f.imported;
        names = both-fit 4 s (imported_place s + 4) (imported_count s) f.names (rw (imported_texts_lem s (imported_count s) (imported_place s + 4)) at
            v.imported);
        whole = f.ends;
        name = rw n at v.name;
        named-all = rw n at v.exports;
        size = v.size;
      }

  whole-answer : Whole s → as_described s ≡ accepted (description_at s)
  whole-answer w = described-at s ∙ rw (whole_form w, whole_writes w)

  none-answer : (Whole s → ⊥) → as_described s ≡ refused_in 27 0
  none-answer never-whole = described-at s ∙ go (in_form s) (writable (description_at s)) refl refl
    where
      go : (a b : Bool) → in_form s ≡ a → writable (description_at s) ≡ b → pick (a && b) (accepted (description_at s)) (refused_in 27 0) ≡ refused_in 27 0
      go true true e f = absurd (never-whole (in_whole e (writable-is (description_at s) f)))
      go true false e f = refl
      go false b e f = refl

-- what the code's answers say
module _ (s old : List ℕ) where
  pub said-none : {r : ℕ} → (Whole s → ⊥) → r ≡ refusal 27 0
      → (r ≡ number_of (header_answer s (length old))) × (old ≡ buffer_after (header_answer s (length old)) old)
  unfolding header_answer number_of buffer_after
  said-none not-whole e = (rw (none-answer s not-whole) e, rw (none-answer s not-whole))

  module _ (w : Whole s) (p : Parts) (p-is : p ≡ parts_of s) (g : Regions) (g-is : g ≡ regions_of p) where
    size_is : length (header_of (description_at s)) ≡ g.size
    size_is = length-header (description_at s) ∙ (sym (starts s).size ∙ sym (ap (λ (g : Regions). g.size) (g-is ∙ ap regions_of p-is)))

    pub said-short : {r : ℕ} → length old < g.size → r ≡ refusal 28 0
        → (r ≡ number_of (header_answer s (length old))) × (old ≡ buffer_after (header_answer s (length old)) old)
    unfolding header_answer number_of buffer_after
    said-short h e =
        let l : leb (length (header_of (description_at s))) (length old) ≡ false = lt-leb (length (header_of (description_at s))) (length old) (omega
        (arith, size_is)) in
        (rw (whole-answer s w, l) e, rw (whole-answer s w, l))

    module _ (h : g.size ≤ length old) where
      pub header-room : length (header_of (description_at s)) ≤ length old
      header-room = omega (arith, size_is)

      pub said-header : {n : ℕ} {new : List ℕ} → Wrote old (header_of (description_at s)) new n
          → (n ≡ number_of (header_answer s (length old))) × (new ≡ buffer_after (header_answer s (length old)) old)
      unfolding header_answer number_of buffer_after
      said-header v =
          let l : leb (length (header_of (description_at s))) (length old) ≡ true = le-leb (length (header_of (description_at s))) (length old) header-room in
          (rw (whole-answer s w, l) v.size, rw (whole-answer s w, l) v.is)
