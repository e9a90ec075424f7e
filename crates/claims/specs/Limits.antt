-- TWO LIMITS ON ONE CORPUS (document 02, Q-5): "Where two calls on a corpus differ only in limits, neither limit of the second is smaller, and both
-- accept, a class or native class known in the first is known with the same text in the second." The call with the limits m is
-- `outcome_within m corpus work buffer` (meaning/Limited.antt); the buffers of the two calls may differ too.
use Rattle.std.specs.Prelude.{◌≡◌, refl, false, List, [], ◌∷◌, ℕ, ◌≤◌, length, take}
use Rattle.std.proofs.Common.{◌∙◌, arith}
use Rattle.std.proofs.Math.Option.{Option, none, some}
use Rattle.base.specs.Answer.{is_refusal}
use Rattle.base.specs.NumberLaws.{Bytes}
use Rattle.base.specs.Perm.{Each}
use Rattle.base.specs.Reading.{gives, run, run_block}
use Rattle.scriptblock.specs.Script.{Objects, script}
use Rattle.zen.specs.Zen.{package_block}
use Rattle.zen.specs.declared.tables.Export.{Export}
use Rattle.meaning.specs.Frame.{Part, Corpus}
use Rattle.meaning.specs.Path.{Path}
use Rattle.meaning.specs.Reference.{Package}
use Rattle.meaning.specs.Resolve.{Limits, limits_of, path_text}
use Rattle.meaning.specs.Report.{Row, flag, or_unknown, row_of, section, report_of}
use Rattle.meaning.specs.Call.{refused_in, accepted, Outcome}
use Rattle.meaning.specs.Limited.{outcome_within}
use Rattle.meaning.proofs.LimitedLaws.{accepted_in}
use Rattle.meaning.specs.Bytes.{corpus_bytes}
use Rattle.meaning.specs.BytesLaws.{bytes-frame}
use Rattle.meaning.proofs.Outcome as After
use Rattle.meaning.specs.Whole as Whole
use Rattle.meaning.specs.Accepted.{packages_in}
use Rattle.meaning.specs.LimitsChain.{NoSmaller}
use Rattle.meaning.proofs.Monotone.{monotone}
use Rattle.meaning.proofs.Monotone as Monotone
use Rattle.meaning.specs.Written.{reported}
use Rattle.meaning.specs.Examples.{least, tone_row}
use Rattle.meaning.specs.RoomExamples.{within, nine_classes, five_objects, deep, two_of_one_hash}
use Rattle.meaning.proofs.RoomExamples.{room-examples}
use Rattle.meaning.specs.RangeExamples.{least_report, two_classes}
use Rattle.meaning.proofs.RangeExamples.{range-examples}
use Rattle.claims.specs.Claims.{Called, clause_a-call, row_in, report_with}

-- what stands in the two rows of an export
pub record RowStays (first second : Row) : Type 0 where
  -- "a class or native class known in the first is known with the same text in the second": its known byte is 1 in both, and its text one text
  pub class : flag first.class ≡ 1 → (flag second.class ≡ 1) × (or_unknown second.class ≡ or_unknown first.class)
  pub native : flag first.native ≡ 1
      → (flag second.native ≡ 1) × (or_unknown (path_text second.native) ≡ or_unknown (path_text first.native))
  -- a known class keeps its kind; one that isn't known may change it, as from 5 to 4
  pub class_kind_lem : flag first.class ≡ 1 → second.class_kind ≡ first.class_kind
  -- the rest of the row is the same
  pub kind : second.kind ≡ first.kind
  pub numbered : second.numbered ≡ first.numbered
  pub instance : second.instance ≡ first.instance
  pub export : second.export ≡ first.export
  pub outer : second.outer ≡ first.outer
  pub reference : second.reference ≡ first.reference

-- what a caller sees of the two calls: the number and the report buffer of each
pub record KnownStays (m₁ m₂ : Limits) (corpus : List ℕ) (first second : Outcome) : Type 0 where
  -- the corpus's blocks, script objects and packages, which both calls read
  pub blocks : Corpus
  pub corpus-is : corpus ≡ corpus_bytes blocks
  pub objects : Objects
  pub script-read : run script 0 blocks.script ≡ gives objects
  pub packages : List Package
  pub packages-read : Each (λ (p : Part) (q : Package). (q.id ≡ p.id) × (run_block package_block p.block ≡ gives q.read)) blocks.parts packages
  -- the two reports have the sections of the same packages in one order, and in each the rows of the same exports in one order
  pub first-report : take first.number first.report ≡ report_with m₁ objects packages
  pub second-report : take second.number second.report ≡ report_with m₂ objects packages
  -- package by package and export by export, what is known stays known
  pub rows_stay : (p : Package) (e : Export) → RowStays (row_in m₁ objects packages p e) (row_in m₂ objects packages p e)

-- by what was found, the known byte and the text
class-known : {r₁ r₂ : Row} → Monotone.Stays r₁ r₂ → flag r₁.class ≡ 1
    → ((flag r₂.class ≡ 1) × (or_unknown r₂.class ≡ or_unknown r₁.class)) × (r₂.class_kind ≡ r₁.class_kind)
class-known {r₁} {r₂} s = go r₁.class s.class
  where
    go : (x : Option (List ℕ)) → ((t : List ℕ) → x ≡ some t → (r₂.class ≡ some t) × (r₂.class_kind ≡ r₁.class_kind)) → flag x ≡ 1
        → ((flag r₂.class ≡ 1) × (or_unknown r₂.class ≡ or_unknown x)) × (r₂.class_kind ≡ r₁.class_kind)
    go none stays h = absurd (omega arith)
    go (some t) stays h = let (known, kind) = stays t refl in (rw known (refl, refl), kind)

native-known : {r₁ r₂ : Row} → Monotone.Stays r₁ r₂ → flag r₁.native ≡ 1
    → (flag r₂.native ≡ 1) × (or_unknown (path_text r₂.native) ≡ or_unknown (path_text r₁.native))
native-known {r₁} {r₂} s = go r₁.native s.native
  where
    go : (x : Option Path) → ((p : Path) → x ≡ some p → r₂.native ≡ some p) → flag x ≡ 1
        → (flag r₂.native ≡ 1) × (or_unknown (path_text r₂.native) ≡ or_unknown (path_text x))
    go none stays h = absurd (omega arith)
    go (some p) stays h = rw (stays p refl) (refl, refl)

row_stays : (m₁ m₂ : Limits) (o : Objects) (ps : List Package) (p : Package) (e : Export)
    → Monotone.Stays (row_in m₁ o ps p e) (row_in m₂ o ps p e) → RowStays (row_in m₁ o ps p e) (row_in m₂ o ps p e)
unfolding row_of
row_stays m₁ m₂ o ps p e s = record {
  class = λ h. (class-known s h).0;
  native = native-known s;
  class_kind_lem = λ h. (class-known s h).1;
  kind = refl;
  numbered = refl;
  instance = refl;
  export = refl;
  outer = refl;
  reference = refl;
}

-- THE THEOREM
pub q_5_known_stays : (m₁ m₂ : Limits) → m₁.lookups ≤ m₂.lookups → m₁.objects ≤ m₂.objects → (corpus : List ℕ) → Bytes corpus
    → (work₁ buffer₁ work₂ buffer₂ : List ℕ)
    → is_refusal (outcome_within m₁ corpus work₁ buffer₁).number ≡ false → is_refusal (outcome_within m₂ corpus work₂ buffer₂).number ≡ false
    → KnownStays m₁ m₂ corpus (outcome_within m₁ corpus work₁ buffer₁) (outcome_within m₂ corpus work₂ buffer₂)
unfolding report_of section
q_5_known_stays m₁ m₂ lookups objects corpus b work₁ buffer₁ work₂ buffer₂ ok₁ ok₂ =
    let (report₁, given₁) = After.accepted-by m₁ corpus work₁ buffer₁ ok₁ in
    let (report₂, given₂) = After.accepted-by m₂ corpus work₂ buffer₂ ok₂ in
    let (range₁, h₁) = accepted_in m₁ corpus (length work₁) (length buffer₁) report₁ given₁ in
    let (range₂, h₂) = accepted_in m₂ corpus (length work₂) (length buffer₂) report₂ given₂ in
    let more : NoSmaller m₁ m₂ = record { lookups = lookups; objects = objects } in
    let s = monotone m₁ m₂ more corpus (length work₁) (length buffer₁) (length work₂) (length buffer₂) report₁ report₂ h₁ h₂ in
    record {
      blocks = s.corpus;
      corpus-is = (bytes-frame corpus s.corpus b s.framed_is).is;
      objects = s.objects;
      script-read = s.script-is;
      packages = packages_in s.corpus;
      packages-read = Whole.all_read s.corpus.parts s.good;
      first-report = After.accepted-report m₁ corpus work₁ buffer₁ report₁ given₁ ∙ s.report₁_is;
      second-report = After.accepted-report m₂ corpus work₂ buffer₂ report₂ given₂ ∙ s.report₂_is;
      rows_stay = λ p e. row_stays m₁ m₂ s.objects (packages_in s.corpus) p e (s.rows_stay p e);
    }

-- the same of two calls, by the exported function's contract (`Called`)
pub q_5_calls : (lookups₁ objects₁ lookups₂ objects₂ : ℕ) → lookups₁ ≤ lookups₂ → objects₁ ≤ objects₂ → (corpus : List ℕ) → Bytes corpus
    → (work₁ buffer₁ work₂ buffer₂ report₁ report₂ : List ℕ) (number₁ number₂ : ℕ)
    → Called corpus lookups₁ objects₁ work₁ buffer₁ number₁ report₁ → Called corpus lookups₂ objects₂ work₂ buffer₂ number₂ report₂
    → is_refusal number₁ ≡ false → is_refusal number₂ ≡ false
    → KnownStays (limits_of lookups₁ objects₁) (limits_of lookups₂ objects₂) corpus
    (record { number = number₁; report = report₁ }) (record { number = number₂; report = report₂ })
q_5_calls lookups₁ objects₁ lookups₂ objects₂ lookups objects corpus b work₁ buffer₁ work₂ buffer₂ report₁ report₂ number₁ number₂ c₁ c₂ ok₁ ok₂ =
    let m₁ = limits_of lookups₁ objects₁ in
    let m₂ = limits_of lookups₂ objects₂ in
    let first : is_refusal (outcome_within m₁ corpus work₁ buffer₁).number ≡ false = rw (← clause_a-call c₁) ok₁ in
    let second : is_refusal (outcome_within m₂ corpus work₂ buffer₂).number ≡ false = rw (← clause_a-call c₂) ok₂ in
    rw (clause_a-call c₁, clause_a-call c₂) (q_5_known_stays m₁ m₂ lookups objects corpus b work₁ buffer₁ work₂ buffer₂ first second)

-- ==== EXAMPLES, computed. meaning/RoomExamples.antt writes out the corpora, each of a package `P` with id 9; `within lookups objects corpus` is the
-- answer with these limits and buffers that are long enough, `tone_row` a row by its class kind, known bytes, and texts of class, native class and reference.

-- "and both accept" is needed. `P` has two exports of hash 1: `D`, told a class by a script object `Class` that is 5 deep, and behind it `C`, told one
-- by a `Class` that is 1 deep. Within 4 objects `C` alone is a class; within 5 both are, with one key, the first being `D`, and the answer is 24
pub q-5-both-accept :
    (within 8 4 two_of_one_hash ≡ accepted (reported "P" 3 (tone_row 4 1 1 "P.C" "a.a" "export:C" ∷ []))) × (within 8 5 two_of_one_hash ≡ refused_in 24 2)
q-5-both-accept = (room-examples.one-class_4, room-examples.key_twice_5)

-- the kind of a class that isn't known may change: where `D` stands alone, from 5 to 4
pub q-5-class-kind :
    (within 8 4 deep ≡ accepted (reported "P" 2 (tone_row 5 0 0 "?" "?" "export:D" ∷ [])))
    × (within 8 5 deep ≡ accepted (reported "P" 2 (tone_row 4 1 1 "P.D" "a" "export:D" ∷ [])))
q-5-class-kind = (room-examples.no_class_4, room-examples.class_5)

-- "8 lookups": known for a chain of 8 classes, and not for one of 9
pub q-5-lookups :
    within 8 4 nine_classes ≡ accepted (reported "P" 11 (tone_row 4 1 1 "P.C" "Speaker" "export:C" ∷ tone_row 4 1 0 "P.C" "?" "export:C" ∷ []))
q-5-lookups = room-examples.lookups-8

-- "4 outer objects", the script object itself counted: `a.b:c.d` is known, and what is one deeper not
pub q-5-objects :
    within 8 4 five_objects
    ≡ accepted
    (reported "P" 2 (tone_row 0 1 1 "a.b:c.d" "a.b:c.d" "script:0x4000000000000003" ∷ tone_row 1 0 0 "?" "?" "script:0x4000000000000004" ∷ []))
q-5-objects = room-examples.objects-4

-- "It refuses with 29 [..] a lookup limit of 0 or above 64": 0, 1, 64 and 65, asked of document 01's least corpus
pub q-5-lookup-limits :
    (within 0 65 (least 1) ≡ refused_in 29 0) × (within 1 65 (least 1) ≡ accepted least_report)
    × (within 64 65 (least 1) ≡ accepted least_report) × (within 65 65 (least 1) ≡ refused_in 29 0)
q-5-lookup-limits = (range-examples.lookups_0, range-examples.lookups_1, range-examples.lookups_64, range-examples.lookups_65)

-- "or an object limit of 0 or above 65": 0, 1, 65 and 66
pub q-5-object-limits :
    (within 64 0 (least 1) ≡ refused_in 29 0) × (within 64 1 (least 1) ≡ accepted least_report)
    × (within 64 65 (least 1) ≡ accepted least_report) × (within 64 66 (least 1) ≡ refused_in 29 0)
q-5-object-limits = (range-examples.objects_0, range-examples.objects_1, range-examples.lookups_64, range-examples.objects_66)

-- the least limits, 1 and 1: a class of a native class without an outer is known, one class more is not
pub q-5-least-limits :
    within 1 1 two_classes ≡ accepted (reported "P" 4 (tone_row 4 1 1 "P.C" "Speaker" "export:C" ∷ tone_row 4 1 0 "P.C" "?" "export:C" ∷ []))
q-5-least-limits = range-examples.one-one

-- "before the corpus is looked at": no bytes at all, and version 2
pub q-5-first :
    (within 0 65 [] ≡ refused_in 29 0) × (within 1 1 [] ≡ refused_in 1 0)
    × (within 64 66 (least 2) ≡ refused_in 29 0) × (within 64 65 (least 2) ≡ refused_in 2 0)
q-5-first = (range-examples.no_corpus, range-examples.no_corpus_1, range-examples.version_29, range-examples.version_2)
