-- WRITING HEADERS (document 02, Q-4): "The sound designers want small test packages without running the engine. Add a writer from a description in
-- house form". What has to be believed: a header's bytes (written/HeaderBytes.antt, BatchBytes.antt), a description in house form (description/Form.antt) and
-- the call (description/Call.antt), `made description buffer`: the number that it returns, and what the header buffer then holds.
use Rattle.std.specs.Prelude.{◌≡◌, refl, ◌↔◌, ◌⊎◌, true, List, [], ◌∷◌, ◌++◌, ℕ, ◌+◌, ◌*◌, ◌^◌, ◌≤◌, ◌<◌, length, take, drop, replicate}
use Rattle.std.proofs.Common.{sym, ◌∙◌, ap, inl, inr, arith}
use Rattle.base.specs.Answer.{refusal}
use Rattle.base.specs.NumberLaws.{Bytes}
use Rattle.base.specs.Output.{over}
use Rattle.base.specs.Reading.{gives, run, run_block}
use Rattle.written.specs.HeaderBytes.{Description, imported_texts, header_of, writable, described}
use Rattle.written.specs.HeaderExamples.{header_A, named, header-examples}
use Rattle.zen.specs.Listed.{package_marks}
use Rattle.zen.specs.Zen.{Read, package_block}
use Rattle.meaning.specs.Answered as After
use Rattle.meaning.specs.Call.{Answer, refused_in, accepted, number_of, buffer_after}
use Rattle.description.specs.Form.{description as descriptionRead}
use Rattle.description.specs.FormBytes.{description_bytes}
use Rattle.description.specs.Call.{as_described, header_answer, made}
use Rattle.description.specs.Zeroed.{Zeroed}
use Rattle.description.specs.BatchFront.{batch_size}
use Rattle.description.specs.HeaderBack.{starts, read_for, length-header}
use Rattle.description.specs.FormLaws.{Housed}
use Rattle.description.proofs.FormLaws.{form_front, form_took}
use Rattle.description.specs.ZeroLaws.{header_zeroed}
use Rattle.description.specs.CallLaws.{Writable, Described, Short}
use Rattle.description.proofs.CallLaws.{writable-is, writable_as, good, described-by, described_as, malformed}
use Rattle.description.proofs.CallLaws as Laws
use Rattle.description.specs.Examples.{named_a, examples}

-- ==== THE CALL
-- THE CONTRACT of the exported call, `class_header`: the lists that it was lent at entry, description and header buffer, the number that it returned,
-- and the header buffer at exit
pub record Called (description buffer : List ℕ) (number : ℕ) (output : List ℕ) : Type 0 where
  pub number_is : number ≡ number_of (header_answer description (length buffer))
  pub output-is : output ≡ buffer_after (header_answer description (length buffer)) buffer

-- so whatever is said here of `made` is said of every call
pub q_4_call : {description buffer output : List ℕ} {number : ℕ} → Called description buffer number output
    → record { number = number; buffer = output } ≡ made description buffer
unfolding made
q_4_call c = cc

-- ==== A DESCRIPTION
-- some bytes describe d (`Described`): they are its house form, all numbers fit their fields (`Housed`), and its header can be written (`Writable`: no
-- text number outside the list, no name above 32,767 units, no header above 2,147,483,647 bytes). Each description has one form in bytes:
pub q_4_one_form : (d : Description) → Housed d → run descriptionRead 0 (description_bytes d) ≡ gives d
q_4_one_form = form_front

pub q_4_no_other : (d : Description) (s : List ℕ) → Bytes s → run descriptionRead 0 s ≡ gives d → s ≡ description_bytes d
q_4_no_other d s b e = (form_took d s b e).0

-- what has to hold for a header to be written, as facts
pub q_4_writable : (d : Description) → (writable d ≡ true) ↔ Writable d
q_4_writable d = (writable-is d, writable_as d)

-- ==== ACCEPTED
pub record Accepted (description buffer : List ℕ) : Type 0 where
  pub what : Description
  pub describes : Described description what
  pub can_be-written : Writable what
  -- the header: "accepted with its output's length", its bytes are the buffer's first, and bytes past it stay as they were
  pub header : List ℕ
  pub header_is : header ≡ header_of what
  pub fits : length header ≤ length buffer
  pub number : (made description buffer).number ≡ length header
  pub front : take (length header) (made description buffer).buffer ≡ header
  pub behind : drop (length header) (made description buffer).buffer ≡ drop (length header) buffer
  -- "regions stand without gaps": summary, name batch, bulk size, 8 bytes a hash, 72 an export, imported batch, 4 bytes a number. A batch is 4 bytes
  -- without names, else 16, 10 a name and the strings (`batch_size`)
  pub size :
      length header
      ≡ 52 + batch_size what.texts + 8 + 8 * length what.hashes + 72 * length what.exports + batch_size (imported_texts what.imported)
      + 4 * length what.imported
  pub longest : length header ≤ 2147483647
  -- "Reading back, texts and numbers apart, gives the description that went in"
  pub read : Read
  pub read_back : run_block package_block header ≡ gives read
  pub same : described read ≡ what
  -- "Passed-over bytes are zero": those of document 01's list (zen/Listed.antt), as the header is laid out
  pub zero : Zeroed (package_marks read.layout (length header)) header

-- ==== REFUSED
pub record Refused (description buffer : List ℕ) : Type 0 where
  pub question : ℕ
  -- "It refuses with 27, asked first, a description that is malformed [..], has a name above 32,767 units or needs a header above 2,147,483,647 bytes,
  -- and with 28 a buffer shorter than the header"
  pub first :
      ((question ≡ 27) × ((d : Description) → Described description d → ⊥))
      ⊎ ((question ≡ 28) × ((d : Description) × Described description d × (length buffer < length (header_of d))))
  -- "bit 63 set, the refusal in bits 32 to 39", block 0
  pub number : (made description buffer).number ≡ 2 ^ 63 + question * 2 ^ 32 + 0
  -- "the buffer is then unchanged"
  pub unchanged : (made description buffer).buffer ≡ buffer

accepted-is : (description buffer : List ℕ) → Bytes description → (header : List ℕ) → header_answer description (length buffer) ≡ accepted header
    → Accepted description buffer
unfolding made
accepted-is description buffer b header h =
    let f = Laws.accepted-by description (length buffer) header h in
    let d = f.what in
    let is = described-by description d b f.described in
    let s = starts d in
    let w = writable-is d is.writable_too in
    let h₀ : header_answer description (length buffer) ≡ accepted (header_of d) = h ∙ ap accepted f.is in
    let (reads, same) = Laws.back description d is in
    record {
      what = d;
      describes = is;
      can_be-written = w;
      header = header_of d;
      header_is = refl;
      fits = f.fits;
      number = After.accepted-number (header_answer description (length buffer)) (header_of d) h₀;
      front = After.accepted-front (header_answer description (length buffer)) (header_of d) h₀ buffer;
      behind = After.accepted-behind (header_answer description (length buffer)) (header_of d) h₀ buffer;
      size = omega (arith, length-header d, s.hashes, s.exports, s.imported, s.size);
      longest = omega (arith, length-header d, w.size);
      read = read_for d;
      read_back = reads;
      same = same;
      zero = header_zeroed d (good d is.housed.fits is.writable_too);
    }

refused-is : (description buffer : List ℕ) → Bytes description → (q j : ℕ) → header_answer description (length buffer) ≡ refused_in q j
    → Refused description buffer
unfolding made
refused-is description buffer b q j h =
    let (block, why) = Laws.refused-by description (length buffer) q j h in
    let h₀ : header_answer description (length buffer) ≡ refused_in q 0 = h ∙ ap (refused_in q) block in
    record {
      question = q;
      first = first why;
      number = After.refused-number (header_answer description (length buffer)) q 0 h₀;
      unchanged = After.refused-buffer (header_answer description (length buffer)) q 0 h₀ buffer;
    }
  where
    first : ((q ≡ 27) × (as_described description ≡ refused_in 27 0)) ⊎ ((q ≡ 28) × Short description (length buffer))
        → ((q ≡ 27) × ((d : Description) → Described description d → ⊥))
        ⊎ ((q ≡ 28) × ((d : Description) × Described description d × (length buffer < length (header_of d))))
    first (inl (is, e)) = inl (is, (malformed description b).0 e)
    first (inr (is, s)) = inr (is, (s.what, described-by description s.what b s.described, s.short))

-- THE THEOREM: every call is the one or the other
pub q_4 : (description buffer : List ℕ) → Bytes description → Accepted description buffer ⊎ Refused description buffer
q_4 description buffer b = go (header_answer description (length buffer)) refl
  where
    go : (a : Answer (List ℕ)) → header_answer description (length buffer) ≡ a → Accepted description buffer ⊎ Refused description buffer
    go (accepted header) e = inl (accepted-is description buffer b header e)
    go (refused_in q j) e = inr (refused-is description buffer b q j e)

-- which it is: 27 whatever the buffer is, where the bytes describe nothing; else 28 where the buffer is shorter than the header; else the header
pub q_4_27 : (description buffer : List ℕ) → Bytes description → ((d : Description) → Described description d → ⊥)
    → made description buffer ≡ record { number = refusal 27 0; buffer = buffer }
unfolding made number_of buffer_after
q_4_27 description buffer b none = rw (Laws.refused_27_as description (length buffer) ((malformed description b).1 none))

pub q_4_28 : (description buffer : List ℕ) (d : Description) → Described description d → length buffer < length (header_of d)
    → made description buffer ≡ record { number = refusal 28 0; buffer = buffer }
unfolding made number_of buffer_after
q_4_28 description buffer d h l =
    rw (Laws.refused_28_as description (length buffer) (record { what = d; described = described_as description d h; short = l }))

pub q_4_header : (description buffer : List ℕ) (d : Description) → Described description d → length (header_of d) ≤ length buffer
    → made description buffer ≡ record { number = length (header_of d); buffer = over buffer (header_of d) }
unfolding made number_of buffer_after
q_4_header description buffer d h l =
    rw (Laws.accepted_as description (length buffer) (header_of d) (record { what = d; described = described_as description d h; fits = l; is = refl }))

-- ==== "TWO ACCEPTED DESCRIPTIONS THAT DIFFER GIVE DIFFERENT BYTES"
pub q_4_different : (s₁ s₂ b₁ b₂ : List ℕ) (first : Accepted s₁ b₁) (second : Accepted s₂ b₂) → (s₁ ≡ s₂ → ⊥) → first.header ≡ second.header → ⊥
q_4_different s₁ s₂ b₁ b₂ first second differ e =
    differ (Laws.injective s₁ s₂ first.what second.what first.describes second.describes (sym first.header_is ∙ (e ∙ second.header_is)))

-- ==== EXAMPLES, computed. description/Examples.antt has more, and each refusal's edge

-- document 01: "Package named `A`, all offsets 87, header 91"; two bytes of the buffer are behind it
pub q_4_header_91 : made named_a (replicate 93 7) ≡ record { number = 91; buffer = header_A ++ 7 ∷ 7 ∷ [] }
q_4_header_91 = examples.buffer

-- a buffer of 90 is too short for it
pub q_4_short : made named_a (replicate 90 7) ≡ record { number = refusal 28 0; buffer = replicate 90 7 }
q_4_short = examples.short_90

-- the least header has 90 bytes: one name, which is empty
pub q_4_least : length (header_of (named ("" ∷ []))) ≡ 90
q_4_least = header-examples.least
