-- Descriptions in house form and calls, computed, and each refusal's edge; headers are computed in written/HeaderExamples.antt. Assumes nothing.
use Rattle.std.specs.Prelude.{◌≡◌, refl, List, [], ◌∷◌, ◌++◌, map, ℕ, ◌+◌, ◌-◌, length, take, drop, replicate}
use Rattle.base.specs.Answer.{refusal}
use Rattle.text.specs.Name.{text_bytes}
use Rattle.base.specs.Number.{be_bytes, le_bytes}
use Rattle.base.specs.Output.{over}
use Rattle.base.specs.Reading.{gives, run, rows}
use Rattle.text.specs.Utf16.{encode_one, encode16}
use Rattle.text.specs.Utf8.{utf8_one, from_utf8, from_utf8_on}
use Rattle.written.specs.BatchBytes.{string_bytes, head_bytes, some_bytes, batch_bytes}
use Rattle.written.specs.HeaderBytes.{export_bytes, imported_bytes, hashes_start, exports_start, imported_start, header_size, offsets_of}
use Rattle.written.specs.HeaderBytes.{summary_bytes, content_bytes, header_with, header_of, writable}
use Rattle.written.specs.HeaderExamples.{named, header_A, full}
use Rattle.meaning.specs.Call.{Answer, refused_in, accepted, number_of, buffer_after}
use Rattle.description.specs.Form.{text as textRead, export, imported, content, description}
use Rattle.description.specs.FormBytes.{export_form, imported_form, content_form, description_bytes}
use Rattle.description.specs.Call.{as_described, header_answer, made}

-- ---- a description

-- of a package named `A`, in bytes: 30 of them behind the length
abbrev pub named_a : List ℕ
named_a = 0 ∷ 0 ∷ 0 ∷ 30 ∷ 1 ∷ replicate 8 0 ++ (0 ∷ 0 ∷ 0 ∷ 1 ∷ 0 ∷ 0 ∷ 0 ∷ 1 ∷ 0x41 ∷ []) ++ replicate 12 0

-- ---- what is refused

-- bytes put in behind n of those of `A`, in the place of k of them, the length first being right or not
abbrev spliced : ℕ → ℕ → List ℕ → List ℕ
spliced n k new = take n named_a ++ new ++ drop (n + k) named_a

abbrev lengthened : List ℕ → List ℕ
lengthened s = be_bytes 4 (length s - 4) ++ drop 4 s

-- the number of the question, 0 where none fails
abbrev question : Answer (List ℕ) → ℕ
question (refused_in q j) = q
question (accepted s) = 0

abbrev asked_of : List (ℕ × List ℕ)
asked_of =
    (0, named_a) ∷
    (27, []) ∷  -- no length
    (27, 0 ∷ 0 ∷ 0 ∷ 0 ∷ []) ∷  -- no version
    (27, take 33 named_a) ∷  -- a byte short of its length
    (27, named_a ++ 0 ∷ []) ∷  -- one more than its length
    (27, lengthened (named_a ++ 0 ∷ [])) ∷  -- one left over
    (27, lengthened (take 33 named_a)) ∷  -- one missing
    (27, spliced 4 1 (0 ∷ [])) ∷  -- version 0, version 2
    (27, spliced 4 1 (2 ∷ [])) ∷
    (27, spliced 8 1 (1 ∷ [])) ∷  -- text number 1 of 1
    (0, spliced 12 1 (255 ∷ [])) ∷  -- any instance number
    (27, lengthened (spliced 16 6 (0 ∷ []))) ∷  -- no names at all
    (27, spliced 16 1 (2 ∷ [])) ∷  -- two names where one is
    (27, spliced 13 1 (255 ∷ [])) ∷  -- some four thousand million
    (27, spliced 20 1 (2 ∷ [])) ∷  -- a text that is longer than it is
    (27, spliced 21 1 (0x80 ∷ [])) ∷  -- bad UTF-8: a lone tail, an overlong form, a surrogate, what is above 10FFFF, cut
    (27, lengthened (spliced 20 2 (2 ∷ 0xC1 ∷ 0x81 ∷ []))) ∷
    (27, lengthened (spliced 20 2 (3 ∷ 0xED ∷ 0xA0 ∷ 0x80 ∷ []))) ∷
    (27, lengthened (spliced 20 2 (4 ∷ 0xF4 ∷ 0x90 ∷ 0x80 ∷ 0x80 ∷ []))) ∷
    (27, spliced 21 1 (0xC3 ∷ [])) ∷
    (0, lengthened (spliced 20 2 (2 ∷ 0xC3 ∷ 0xA9 ∷ []))) ∷
    (0, lengthened (spliced 25 1 (1 ∷ replicate 40 0))) ∷  -- an export with text 0, and with text 1
    (27, lengthened (spliced 25 1 (1 ∷ 0 ∷ 0 ∷ 0 ∷ 1 ∷ replicate 36 0))) ∷
    (27, lengthened (spliced 25 1 (1 ∷ replicate 39 0))) ∷  -- one of 39 bytes
    []

pub record Examples : Type 0 where
  -- document 01's header, and its buffer: "bytes past the header" stay
  pub house_form : description_bytes (named ("A" ∷ [])) ≡ named_a
  pub header_91 : header_answer named_a 91 ≡ accepted header_A
  pub buffer : made named_a (replicate 93 7) ≡ record { number = 91; buffer = header_A ++ 7 ∷ 7 ∷ [] }
  -- a byte short: 28, and the buffer stays
  pub short_90 : made named_a (replicate 90 7) ≡ record { number = refusal 28 0; buffer = replicate 90 7 }
  -- 27 is asked first
  pub first_27 : made (spliced 4 1 (2 ∷ [])) [] ≡ record { number = refusal 27 0; buffer = [] }
  -- all of it there and back
  pub full-read : run description 0 (description_bytes full) ≡ gives full
  -- each edge
  pub questions : map (λ c. question (header_answer c.1 1000)) asked_of ≡ map (λ c. c.0) asked_of

pub examples : Examples
unfolding header_answer as_described made number_of buffer_after over description content textRead export imported rows from_utf8 from_utf8_on utf8_one text_bytes
    be_bytes le_bytes encode_one encode16 string_bytes head_bytes some_bytes batch_bytes export_bytes imported_bytes hashes_start exports_start imported_start
    header_size offsets_of summary_bytes content_bytes header_with header_of writable export_form imported_form content_form description_bytes
examples = record {
  house_form = refl;
  header_91 = refl;
  buffer = refl;
  short_90 = refl;
  first_27 = refl;
  full-read = refl;
  questions = refl;
}
