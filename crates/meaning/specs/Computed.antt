-- The call's answer as something that computes: to unfold `asked` is to unfold every definition that an answer needs, and those that write blocks.
-- Assumes nothing.
use Rattle.std.specs.Prelude.{List, ℕ}
use Rattle.text.specs.Affix.{ends_with}
use Rattle.city.specs.City.{shift_mix, hash_len16_mul, hash_len16, mul_of, hash_bytes, hash_halves, hash_two, len1to3, len4to7, len8to16, len0to16, mix4, hash_four, len17to32}
use Rattle.city.specs.City.{swap_mul, mix_u, mix_v, mix_y, mix_last, mix8, len33to64}
use Rattle.city.specs.City.{weak32, weak_at, next_x, next_y, next_z, next_v, next_w, turn, turns, start, finish, longer, city_hash64}
use Rattle.text.specs.Digits.{digits, decimal, hex}
use Rattle.ids.specs.Id.{id_of}
use Rattle.lower.specs.Lower.{lower}
use Rattle.text.specs.Name.{decoded, text_bytes}
use Rattle.base.specs.Number.{le_at, be_bytes, le_bytes}
use Rattle.base.specs.Reading.{rows, run_block}
use Rattle.base.specs.Signed.{twos}
use Rattle.text.specs.Utf16.{encode_one, encode16, utf16, units}
use Rattle.text.specs.Utf8.{utf8_one}
use Rattle.city.specs.Word.{addw, mulw, rotr, swap}
use Rattle.batch.specs.Batch.{head_of, head, strings, no_names, some_names, body, batch}
use Rattle.scriptblock.specs.Script.{entry, entries, opening, script}
use Rattle.written.specs.BatchBytes.{string_bytes, head_bytes, some_bytes, batch_bytes}
use Rattle.written.specs.HeaderBytes.{export_bytes, imported_bytes, hashes_start, exports_start, imported_start, header_size, offsets_of}
use Rattle.written.specs.HeaderBytes.{summary_bytes, content_bytes, header_with, header_of}
use Rattle.zen.specs.Zen.{offset, summary, ordered, bulk, export, tables, imports, content, header, lead}
use Rattle.meaning.specs.Frame.{part, packages, frame, framed}
use Rattle.meaning.specs.Key.{same_key}
use Rattle.meaning.specs.Path.{path_of}
use Rattle.meaning.specs.Scan.{outer_of, last_part, is_class, class_path, class_at, classes_of, candidate_kind, instance_name, numbered, candidates}
use Rattle.meaning.specs.Reference.{bad_import, bad_export, ref_in, ref_text}
use Rattle.meaning.specs.Resolve.{own_chain, native_of, resolve}
use Rattle.meaning.specs.Report.{row_rest, row_bytes, row_of, section, report_of}
use Rattle.meaning.specs.Call.{Answer, limits, holding, opened_in, opened, work_bytes, weighed, answer, number_of}
use Rattle.meaning.specs.Limited.{answer_within}

-- with 64 lookups and 65 objects, and buffers that are long enough
unfoldable pub asked : List ℕ → Answer (List ℕ)
unfolding ends_with shift_mix hash_len16_mul hash_len16 mul_of hash_bytes hash_halves hash_two len1to3 len4to7 len8to16 len0to16 mix4 hash_four len17to32
    swap_mul mix_u mix_v mix_y mix_last mix8 len33to64 weak32 weak_at next_x next_y next_z next_v next_w turn turns start finish longer city_hash64 digits decimal
    hex id_of lower decoded text_bytes le_at be_bytes le_bytes rows run_block twos encode_one encode16 utf16 units utf8_one addw mulw rotr swap head_of head
    strings no_names some_names body batch entry entries opening script offset summary ordered bulk export tables imports content header lead part
    packages frame framed same_key path_of outer_of last_part is_class class_path class_at classes_of candidate_kind instance_name numbered candidates bad_import
    bad_export ref_in ref_text own_chain native_of resolve row_rest row_bytes row_of section report_of holding opened_in opened work_bytes weighed answer
    number_of answer_within string_bytes head_bytes some_bytes batch_bytes export_bytes imported_bytes hashes_start exports_start imported_start header_size
    offsets_of summary_bytes content_bytes header_with header_of
asked corpus = answer_within limits corpus 65536 65536
