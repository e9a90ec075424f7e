-- The same blocks by position, and what the code answers of them, computed. Assumes nothing.
use Rattle.std.specs.Prelude.{◌≡◌, refl, true, false, List, [], ◌∷◌, ◌++◌, map, ℕ, ◌+◌, Result, Ok, Err, Some, None}
use Rattle.text.specs.Digits.{decimal, digits}
use Rattle.text.specs.Name.{decoded}
use Rattle.base.specs.Number.{le_at}
use Rattle.base.specs.Reading.{Out, refused, gives, bad, got, rows}
use Rattle.base.specs.Signed.{twos}
use Rattle.text.specs.Utf16.{utf16, units}
use Rattle.batch.specs.Cursor.{worded, word_at}
use Rattle.batch.specs.Field.{low30}
use Rattle.batch.specs.Batch.{head_of, head_at, Batch, batch, no_names, some_names, body, head, strings}
use Rattle.batch.specs.Notes.{step_of}
use Rattle.batch.specs.Places.{name_start, texts_at, place_at, part_at}
use Rattle.batch.specs.BatchAnswers.{checked, batched}
use Rattle.scriptblock.specs.Script.{Objects, fresh, opening}
use Rattle.scriptblock.specs.ScriptAnswers.{opened_by, opened, entry_at, no_entry, fault_of, fault_on, fresh_at, fault_at, answer_by, script_answer, entries_of, object_names}
use Rattle.scriptblock.specs.declared.script.Entry.{Entry}
use Rattle.scriptblock.specs.declared.script.Layout as Script
use Rattle.zen.specs.Zen.{Read, Imports, summary_at, export_at, no_export, named, imported_name}
use Rattle.zen.specs.Answers.{summed, imported, answer, exports_of, hashes_of, names_of, imported_of, numbers_of, imported_name_of, package_name_of, export_count, hash_count}
use Rattle.zen.specs.Examples.{large-bytes, large, inner_A, two, two_objects_lem}
use Rattle.zen.specs.declared.zen.Layout.{Layout}

-- ---- where things are

-- each byte counts in one place only
abbrev nine : List ℕ
nine = 1 ∷ 2 ∷ 3 ∷ 4 ∷ 0xC5 ∷ 6 ∷ 7 ∷ 8 ∷ 9 ∷ []

-- a layout with so many bytes of exports and of public hashes
abbrev counted : ℕ → ℕ → Layout
counted exports hashes = record {
  size = 1000;
  summary = record { index = 0; number = 0; hashes = 52; imports = 52 + hashes; exports = 500; bundles = 500 + exports; headers = 900; entries = 900; imported = 900 };
  names = large.layout.names;
  imported = large.layout.imported;
}

pub record ByPosition : Type 0 where
  -- "`Cursor` holds its bytes and position"
  pub word : word_at nine 1 ≡ Some (0xC5040302, 5)
  pub last_word : word_at nine 5 ≡ Some (0x09080706, 9)
  pub no_word : word_at nine 6 ≡ None
  -- "low 30 bits index the batch"
  pub low_30 : low30 nine 1 ≡ 0x05040302
  -- "Header byte 0, bit 7: UTF-16LE; its low 7 bits times 256 plus byte 1: length in units"
  pub one_byte : head_of 0x7F 0xFE ≡ record { wide = false; size = 0x7FFE }
  pub utf_16 : head_of 0x80 0x03 ∷ head_of 0x81 0x02 ∷ [] ≡ record { wide = true; size = 6 } ∷ record { wide = true; size = 516 } ∷ []
  pub head_at_lem : head_at large-bytes 94 ≡ record { wide = true; size = 4 }
  pub no_head : head_at [] 0 ≡ record { wide = false; size = 0 }
  -- names A, U+1F600 and A: where they start, and their texts
  pub starts : map (name_start large-bytes 92 98) (0 ∷ 1 ∷ 2 ∷ 3 ∷ []) ≡ 98 ∷ 99 ∷ 103 ∷ 104 ∷ []
  pub texts : texts_at large-bytes 92 98 3 ≡ large.names
  pub place : place_at large-bytes large.layout.names 1 ≡ record { start = 99; size = 4; wide = true }
  pub bytes : part_at large-bytes (place_at large-bytes large.layout.names 1) ≡ 0x3D ∷ 0xD8 ∷ 0x00 ∷ 0xDE ∷ []
  pub steps : map step_of (0 ∷ 16383 ∷ 16384 ∷ 32768 ∷ []) ≡ 1 ∷ 1 ∷ 2 ∷ 3 ∷ []
  pub summary : summary_at large-bytes ≡ large.layout.summary
  pub exports : export_at large-bytes 139 ∷ [] ≡ large.exports
  pub entries : map (entry_at (two (inner_A 0x4000000000000002))) (31 ∷ 63 ∷ []) ≡ two_objects_lem.entries
  pub no_export_lem : no_export ≡ record { index = 0; number = 0; outer = 0; class = 0; parent = 0; hash = 0 }
  pub no_entry_lem : no_entry ≡ record { index = 0; number = 0; global = 0; outer = 0 }
  pub export_count_lem : export_count (counted 144 8) ≡ 2
  pub hash_count_lem : hash_count (counted 144 24) ≡ 3
  pub no_imported_name : imported_name large 1 ≡ []

pub by_position : ByPosition
unfolding worded le_at low30 head_of head_at name_start texts_at decoded utf16 units place_at summary_at export_at entry_at
by_position = record {
  word = refl;
  last_word = refl;
  no_word = refl;
  low_30 = refl;
  one_byte = refl;
  utf_16 = refl;
  head_at_lem = refl;
  no_head = refl;
  starts = refl;
  texts = refl;
  place = refl;
  bytes = refl;
  steps = refl;
  summary = refl;
  exports = refl;
  entries = refl;
  no_export_lem = refl;
  no_entry_lem = refl;
  export_count_lem = refl;
  hash_count_lem = refl;
  no_imported_name = refl;
}

-- ---- what a package's reading is answered by

abbrev large-batch : Batch
large-batch = record { place = large.layout.names; texts = large.names }

abbrev large-imports : Imports
large-imports = record { batch = record { place = large.layout.imported; texts = large.imported }; numbers = large.numbers }

-- the first of a pair of answers is to the refusal 5, the other to what the large package says
abbrev both : {A : Type 0} → (Out Read → A) → List A
both f = f (refused 5) ∷ f (gives large) ∷ []

pub record PackageAnswers : Type 0 where
  pub is-checked : checked {A = Read} (bad 5) ∷ checked (got large 9) ∷ [] ≡ Err 5 ∷ (Ok tt) ∷ []
  pub is-summed : summed (bad 5) ∷ summed (got large.layout.summary 52) ∷ [] ≡ Err 5 ∷ Ok large.layout.summary ∷ []
  pub is-batched : batched (bad 5) ∷ batched (got large-batch 9) ∷ [] ≡ Err 5 ∷ Ok large.layout.names ∷ []
  pub is-imported : imported (bad 5) ∷ imported (got large-imports 9) ∷ [] ≡ Err 5 ∷ Ok large.layout.imported ∷ []
  pub answers : both answer ≡ Err 5 ∷ Ok large.layout ∷ []
  pub exports : both exports_of ≡ [] ∷ large.exports ∷ []
  pub hashes : both hashes_of ≡ [] ∷ large.hashes ∷ []
  pub names : both names_of ≡ [] ∷ large.names ∷ []
  pub imported-names : both imported_of ≡ [] ∷ large.imported ∷ []
  pub numbers : both numbers_of ≡ [] ∷ large.numbers ∷ []
  pub imported-rendered : both (λ x. imported_name_of x 0) ≡ [] ∷ (66 ∷ 95 ∷ 49 ∷ []) ∷ []
  pub rendered : both package_name_of ≡ [] ∷ (65 ∷ 95 ∷ 48 ∷ []) ∷ []
  -- each export's name is in the batch
  pub all_named : map (λ n. named n (no_export ∷ large.exports)) (0 ∷ 1 ∷ 2 ∷ []) ≡ false ∷ false ∷ true ∷ []

pub package_answers : PackageAnswers
unfolding checked summed batched imported answer exports_of hashes_of names_of imported_of numbers_of imported_name_of package_name_of decimal digits
package_answers = record {
  is-checked = refl;
  is-summed = refl;
  is-batched = refl;
  is-imported = refl;
  answers = refl;
  exports = refl;
  hashes = refl;
  names = refl;
  imported-names = refl;
  numbers = refl;
  imported-rendered = refl;
  rendered = refl;
  all_named = refl;
}

-- ---- and a script block's

abbrev object : ℕ → ℕ → Entry
object index global = record { index = index; number = 0; global = global; outer = 0 }

-- names 0 and 1 of one, and two indices of kind 1
abbrev first : Entry
first = object 0 0x4000000000000001

abbrev second : Entry
second = object 0 0x4000000000000002

abbrev unnamed : Entry
unnamed = object 1 0

-- name 0 with an index of kind 0
abbrev unknown : Entry
unknown = object 0 1

-- a block with these bytes behind its first entry
abbrev answered : List ℕ → Result Script.Layout ℕ
answered rest = answer_by (two rest) (opened (two rest))

abbrev both-scripts : {A : Type 0} → (Out Objects → A) → List A
both-scripts f = f (refused 5) ∷ f (gives two_objects_lem) ∷ []

pub record ScriptsAnswers : Type 0 where
  pub opens : opened (two (inner_A 0x4000000000000002)) ≡ Ok two_objects_lem.layout
  pub stays_shut : opened (two []) ≡ Err 9
  pub by_itself : map (λ e. fault_of e 1) (first ∷ unknown ∷ unnamed ∷ []) ≡ 0 ∷ 11 ∷ 10 ∷ []
  pub one_by_one :
      map (fault_on 1 []) ((first ∷ second ∷ []) ∷ (first ∷ first ∷ unnamed ∷ []) ∷ (first ∷ second ∷ first ∷ []) ∷ (first ∷ unknown ∷ first ∷ []) ∷ [])
      ≡ 0 ∷ 12 ∷ 12 ∷ 11 ∷ []
  pub new-ones : map (λ e. fresh e.global (second ∷ first ∷ [])) (first ∷ second ∷ unknown ∷ []) ≡ false ∷ false ∷ true ∷ []
  pub new-at : map (fresh_at (two (inner_A 0x4000000000000002)) 31 2) (0x4000000000000001 ∷ 0x4000000000000002 ∷ 0x4000000000000003 ∷ [])
      ≡ false ∷ false ∷ true ∷ []
  pub faults : map (λ g. fault_at (two (inner_A g)) two_objects_lem.layout) (0x4000000000000002 ∷ 0x4000000000000001 ∷ 1 ∷ []) ≡ 0 ∷ 12 ∷ 11 ∷ []
  pub answered-all : map answered (inner_A 0x4000000000000002 ∷ inner_A 1 ∷ (inner_A 0x4000000000000002 ++ 0 ∷ []) ∷ [] ∷ [])
      ≡ Ok two_objects_lem.layout ∷ Err 11 ∷ Err 13 ∷ Err 9 ∷ []
  pub answers : both-scripts script_answer ≡ Err 5 ∷ Ok two_objects_lem.layout ∷ []
  pub entries : both-scripts entries_of ≡ [] ∷ two_objects_lem.entries ∷ []
  pub names : both-scripts object_names ≡ [] ∷ two_objects_lem.names ∷ []

pub scripts-answers : ScriptsAnswers
unfolding opened_by opened opening batch no_names some_names body head head_of strings rows twos decoded fault_of fresh_at fault_at entry_at low30 le_at answer_by script_answer entries_of object_names
scripts-answers = record {
  opens = refl;
  stays_shut = refl;
  by_itself = refl;
  one_by_one = refl;
  new-ones = refl;
  new-at = refl;
  faults = refl;
  answered-all = refl;
  answers = refl;
  entries = refl;
  names = refl;
}
