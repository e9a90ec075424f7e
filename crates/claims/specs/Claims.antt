-- THE CLAIMS, in the words and the order of the demands and of document 01's clauses. Each statement stands by itself below the sentence that it
-- states; its proof names theorems of the crates below. What has to be believed are the definitions that the statements name:
--   the call    `outcome_within m corpus work buffer`: the number that it returns with the limits m, and what the report buffer then holds
--               (meaning/Limited.antt, Call.antt)
--   the report  `row_of` and what it names: meaning/Report.antt, Scan.antt, Reference.antt, Resolve.antt, Path.antt, Chain.antt
--   the blocks  `script` and `package_block`, what is read and asked of them: batch/Batch.antt, scriptblock/Script.antt, zen/Zen.antt
--   text, hash  `utf16`, `utf8`, `city_hash64`, `id_of`: text/Utf16.antt, Utf8.antt, City.antt, Id.antt
-- `Bytes s`: each number of the list s is below 256. Work buffer and report buffer are any lists. Limits m are two numbers, `m.lookups` and
-- `m.objects`; `InRange m`: they are 1 to 64 and 1 to 65. Document 01 has 64 and 65; document 02, Q-5: "Make both limits numbers of the call".
use Rattle.std.specs.Prelude.{◌≡◌, refl, ◌↔◌, ◌⊎◌, true, false, ℕ, ◌+◌, ◌*◌, ◌^◌, ◌≤◌, ◌<◌, length, take, drop}
use Rattle.std.proofs.Common.{◌∙◌, inl, inr, arith}
use mathlib.Core.List.{List, [], ◌∷◌, ◌++◌, map, reverse, Memᴰ}
use Rattle.std.proofs.Math.Option.{some}
use Rattle.base.specs.Answer.{is_refusal}
use Rattle.city.specs.City.{city_hash64}
use Rattle.base.specs.Find.{flat, get}
use Rattle.base.specs.House.{length_first}
use Rattle.ids.specs.Id.{id_of}
use Rattle.base.specs.Index.{kind, import_name, import_hash}
use Rattle.base.specs.Literal.{quoted}
use Rattle.lower.specs.Lower.{lowered}
use Rattle.text.specs.Name.{text_bytes}
use Rattle.base.specs.Number.{be_bytes}
use Rattle.base.specs.NumberLaws.{Bytes}
use Rattle.base.specs.Perm.{Perm, Each}
use Rattle.base.specs.Reading.{gives, run, run_block}
use Rattle.text.specs.Utf16.{Scalars, is_well, scalars, well, ill, utf16, encode16, utf16le}
use Rattle.text.specs.Utf16Cases.{Words}
use Rattle.text.specs.Utf16Laws.{decode_encode, encode_decode, ill_formed, no_encoding}
use Rattle.text.specs.Utf8.{utf8, from_utf8}
use Rattle.text.specs.Utf8Laws.{utf8_decode}
use Rattle.scriptblock.specs.Script.{Objects, script, object_name}
use Rattle.scriptblock.proofs.ScriptGood.{script-good}
use Rattle.zen.specs.Zen.{package_block, package_name, imported_name}
use Rattle.zen.specs.declared.tables.Export.{Export}
use Rattle.meaning.specs.Frame.{Part, Corpus}
use Rattle.meaning.specs.Key.{public}
use Rattle.meaning.specs.Reference.{Package, Ref, ref_in, meant}
use Rattle.meaning.specs.Scan.{Class, candidates, table}
use Rattle.meaning.specs.Resolve.{Limits, limits_of, look, path_text}
use Rattle.meaning.specs.Report.{Row, flag, or_unknown, row_bytes, row_of, section, report_of}
use Rattle.meaning.specs.Call.{Answer, refused_in, accepted, Opened, opened, number_of, buffer_after, Outcome}
use Rattle.meaning.specs.Call as Call
use Rattle.meaning.specs.Limited.{answer_within, outcome_within, InRange, OutOfRange}
use Rattle.meaning.proofs.LimitedLaws.{answer_in, answer-out, outcome_in, accepted_in, FirstOf, first_of}
use Rattle.meaning.specs.Bytes.{corpus_bytes}
use Rattle.meaning.specs.BytesLaws.{bytes-frame}
use Rattle.meaning.specs.Rearranged.{Rearranged}
use Rattle.meaning.specs.Chain.{NativeKnown, joined, chain_path}
use Rattle.meaning.specs.OwnChain.{OneEach}
use Rattle.meaning.proofs.OwnChain.{once-each}
use Rattle.meaning.specs.Rows.{Inside}
use Rattle.meaning.proofs.Rows.{native_as}
use Rattle.meaning.specs.Whole as Whole
use Rattle.meaning.proofs.Order.{FirstFailed, first-failed}
use Rattle.meaning.specs.Decoded.{decoded, in_short}
use Rattle.meaning.proofs.Decoded.{refusals, refusals-within, number_decodes, number_determines}
use Rattle.meaning.proofs.Outcome as After
use Rattle.meaning.specs.Fields.{ReportSized}
use Rattle.meaning.proofs.Fields.{fields-right}
use Rattle.meaning.specs.Texts.{TextsScalar}
use Rattle.meaning.proofs.Texts.{texts-scalar}
use Rattle.meaning.proofs.Demand as Demand
use Rattle.meaning.specs.Rearrange.{corpus_with}
use Rattle.meaning.proofs.Rearrange.{any_corpus}
use Rattle.meaning.specs.Sections.{section_in}
use Rattle.meaning.specs.Shut.{Program, Meets}
use Rattle.meaning.proofs.Shut as Shut
use Rattle.meaning.specs.Accepted.{packages_in}
use Rattle.meaning.proofs.Accepted.{from-answer}

-- ==== THE CALL
-- THE CONTRACT of the exported call, `class_report` (crates/capi), which ensures just this of what it was lent: corpus, lookup limit, object limit,
-- work buffer and report buffer at entry, the number that it returned, and the report buffer at exit. It asks nothing of its caller, and says
-- nothing of the work buffer at exit.
pub record Called (corpus : List ℕ) (lookups objects : ℕ) (work buffer : List ℕ) (number : ℕ) (report : List ℕ) : Type 0 where
  pub number_is : number ≡ number_of (answer_within (limits_of lookups objects) corpus (length work) (length buffer))
  pub report-is : report ≡ buffer_after (answer_within (limits_of lookups objects) corpus (length work) (length buffer)) buffer

-- so whatever is said here of `outcome_within` is said of every call
pub clause_a-call : {corpus work buffer report : List ℕ} {lookups objects number : ℕ} → Called corpus lookups objects work buffer number report
    → record { number = number; report = report } ≡ outcome_within (limits_of lookups objects) corpus work buffer
unfolding outcome_within
clause_a-call c = cc

-- ==== DEMAND 1
-- "The caller may hand in any corpus, work buffer and report buffer and gets a report, or the number of the first of document 01's questions it
-- fails; after that the report buffer is unchanged." Any limits, too.

-- a report
pub record Reported (m : Limits) (corpus work buffer : List ℕ) : Type 0 where
  pub range : InRange m
  pub report : List ℕ
  -- no question fails, and this is the report; demand 2 says what stands in it
  pub accepts : answer_within m corpus (length work) (length buffer) ≡ accepted report
  -- "Accepted: the report's length"
  pub number : (outcome_within m corpus work buffer).number ≡ length report
  -- the report's bytes are the buffer's first, "bytes past the report [..] being unchanged"
  pub front : take (length report) (outcome_within m corpus work buffer).report ≡ report
  pub behind : drop (length report) (outcome_within m corpus work buffer).report ≡ drop (length report) buffer

-- or a refusal
pub record Refused (m : Limits) (corpus work buffer : List ℕ) : Type 0 where
  pub question : ℕ
  pub block : ℕ
  -- "The first question that fails gives its refusal": whatever is asked before it is passed (`demand_1_first`)
  pub first : FirstOf m corpus (length work) (length buffer) question block
  -- document 01's questions, and document 02's 29
  pub asked : ((1 ≤ question) × (question ≤ 26)) ⊎ (question ≡ 29)
  -- the number between is retired
  pub kept : 22 < question → 24 ≤ question
  -- "bit 63 set, the refusal in bits 32 to 39, the block in bits 0 to 31, all else 0"
  pub number : (outcome_within m corpus work buffer).number ≡ 2 ^ 63 + question * 2 ^ 32 + block
  pub fits : block < 2 ^ 32
  -- "after that the report buffer is unchanged"
  pub unchanged : (outcome_within m corpus work buffer).report ≡ buffer

pub demand_1 : (m : Limits) (corpus work buffer : List ℕ) → Bytes corpus → Reported m corpus work buffer ⊎ Refused m corpus work buffer
demand_1 m corpus work buffer b = go (answer_within m corpus (length work) (length buffer)) refl
  where
    go : (a : Answer (List ℕ)) → answer_within m corpus (length work) (length buffer) ≡ a → Reported m corpus work buffer ⊎ Refused m corpus work buffer
    go (accepted report) e = inl (record {
      range = (accepted_in m corpus (length work) (length buffer) report e).0;
      report = report;
      accepts = e;
      number = After.accepted-number m corpus work buffer report e;
      front = After.accepted-front m corpus work buffer report e;
      behind = After.accepted-behind m corpus work buffer report e;
    })
    go (refused_in q j) e = inr (record {
      question = q;
      block = j;
      first = (first_of m corpus (length work) (length buffer) q j).0 e;
      asked = (refusals-within m corpus b (length work) (length buffer) q j e).question;
      kept = (refusals-within m corpus b (length work) (length buffer) q j e).kept;
      number = After.refused-number m corpus work buffer q j e;
      fits = (refusals-within m corpus b (length work) (length buffer) q j e).block;
      unchanged = After.refused-buffer m corpus work buffer q j e;
    })

-- document 02, Q-5: "It refuses with 29, before the corpus is looked at, a lookup limit of 0 or above 64 or an object limit of 0 or above 65": in
-- block 0, whatever corpus and buffers are
pub demand_1_limits : (m : Limits) → ((m.lookups ≡ 0) ⊎ (64 < m.lookups)) ⊎ ((m.objects ≡ 0) ⊎ (65 < m.objects)) → (corpus : List ℕ) (work room : ℕ)
    → answer_within m corpus work room ≡ refused_in 29 0
demand_1_limits m o corpus work room = answer-out m corpus work room o

-- and nothing else
pub demand_1_29 : (m : Limits) (corpus : List ℕ) → Bytes corpus → (work room block : ℕ) → answer_within m corpus work room ≡ refused_in 29 block
    → ((m.lookups ≡ 0) ⊎ (64 < m.lookups)) ⊎ ((m.objects ≡ 0) ⊎ (65 < m.objects))
demand_1_29 m corpus b work room block e = go ((first_of m corpus work room 29 block).0 e)
  where
    go : FirstOf m corpus work room 29 block → OutOfRange m
    go (inl (o, is, at)) = o
    go (inr (i, f)) = absurd (omega (arith, (refusals m corpus b work room 29 block ((first-failed m corpus work room 29 block).1 f)).question))

-- "the number of the first of document 01's questions it fails". With limits in the range `answer` is asked, in the order of its lines
-- (meaning/Call.antt: `opened`, `opened_in`, `read_from`, `weighed`), a block in the order of its reading (scriptblock/Script.antt, zen/Zen.antt); `FirstFailed`
-- (meaning/Order.antt) says the same as facts: all that is asked before is passed, and this fails
pub demand_1_first : (m : Limits) (corpus : List ℕ) (work room question block : ℕ)
    → (answer_within m corpus work room ≡ refused_in question block)
    ↔ ((OutOfRange m × (question ≡ 29) × (block ≡ 0)) ⊎ (InRange m × FirstFailed m corpus work room question block))
demand_1_first m corpus work room = first_of m corpus work room

-- the number says it all: question and block (by bit 63, bits 32 to 39 and bits 0 to 31), or the report's length (meaning/Decoded.antt)
pub demand_1_number : (m : Limits) (corpus : List ℕ) → Bytes corpus → (work room : ℕ)
    → decoded (number_of (answer_within m corpus work room)) ≡ in_short (answer_within m corpus work room)
demand_1_number m corpus b = number_decodes m corpus b

-- so two calls that return one number, whatever their limits, are both refused by one question in one block, or both accepted with reports of one
-- length
pub demand_1_determines : (m₁ m₂ : Limits) (corpus₁ corpus₂ : List ℕ) → Bytes corpus₁ → Bytes corpus₂ → (work₁ room₁ work₂ room₂ : ℕ)
    → number_of (answer_within m₁ corpus₁ work₁ room₁) ≡ number_of (answer_within m₂ corpus₂ work₂ room₂)
    → in_short (answer_within m₁ corpus₁ work₁ room₁) ≡ in_short (answer_within m₂ corpus₂ work₂ room₂)
demand_1_determines = number_determines

-- ==== DEMAND 2
-- "The Rust's `parse_script_objects`, `parse_package_header`, `scan_header` and `resolve` decide every row in document 01's domain."
-- Proved: every report is made of these rows and no others, byte for byte. That the Rust gives the same rows is tested (host/oracle, host/model).

-- the row of an export within the limits m, where a corpus has these script objects and packages; the classes are those of all packages
abbrev pub row_in : Limits → Objects → List Package → Package → Export → Row
row_in m o ps p e = row_of m (look (table m.objects o ps)) o p e

-- "8-byte id, text of the package name, 4-byte export count, 4-byte row count, rows in export order"
abbrev pub section_with : Limits → Objects → List Package → Package → List ℕ
section_with m o ps p =
    be_bytes 8 p.id ++ text_bytes (package_name p.read) ++ be_bytes 4 (length p.read.exports)
    ++ be_bytes 4 (length (candidates p.read)) ++ flat (λ e. row_bytes (row_in m o ps p e)) (candidates p.read)

-- "4-byte length of the rest, version 1, 4-byte package count, a section per package in corpus order"
abbrev pub report_with : Limits → Objects → List Package → List ℕ
report_with m o ps = length_first (1 ∷ (be_bytes 4 (length ps) ++ flat (section_with m o ps) ps))

pub record Report (m : Limits) (corpus report : List ℕ) : Type 0 where
  -- the corpus's blocks
  pub blocks : Corpus
  pub corpus-is : corpus ≡ corpus_bytes blocks
  -- `parse_script_objects`
  pub objects : Objects
  pub script-read : run script 0 blocks.script ≡ gives objects
  -- `parse_package_header`, package by package
  pub packages : List Package
  pub packages-read : Each (λ (p : Part) (q : Package). (q.id ≡ p.id) × (run_block package_block p.block ≡ gives q.read)) blocks.parts packages
  -- `scan_header`: the classes, of which no two have one key, and the candidates; `resolve`: their rows
  pub one_each : OneEach (table m.objects objects packages)
  pub report-is : report ≡ report_with m objects packages
  -- its length fields and counts are right (`clause_a-fields`), and its texts are Unicode's (`demand_2_texts`)
  pub sized : ReportSized m objects packages
  pub texts : TextsScalar m objects packages

pub demand_2 : (m : Limits) (corpus : List ℕ) → Bytes corpus → (work room : ℕ) (report : List ℕ) → answer_within m corpus work room ≡ accepted report
    → Report m corpus report
unfolding report_of section
demand_2 m corpus b work room report e =
    let (c, framed_is, a) = from-answer m corpus work room report (accepted_in m corpus work room report e).1 in
    record {
      blocks = c;
      corpus-is = (bytes-frame corpus c b framed_is).is;
      objects = a.opens.objects;
      script-read = a.opens.script-is;
      packages = packages_in c;
      packages-read = Whole.all_read c.parts a.opens.good;
      one_each = once-each [] (table m.objects a.opens.objects (packages_in c)) a.opens.once;
      report-is = a.is;
      sized = fields-right m corpus b work room report c framed_is a;
      texts = texts-scalar m corpus b c framed_is a.opens;
    }

-- "CityHash64 v1.1 [..] decide package ids": "Id: CityHash64 v1.1 [..] of the UTF-16LE text with A to Z lowered"; document 02, Q-1: "Lowering a name
-- for its id now follows the Unicode lowercase mappings, one character to one"
pub demand_2_id : (name : List ℕ) → id_of name ≡ city_hash64 (utf16le (lowered name))
unfolding id_of
demand_2_id name = refl

-- a package import "means key (id of imported name p, hash h)"
pub demand_2_import : (p : Package) (x : ℕ) {name : List ℕ} {hash : ℕ} → kind x ≡ 2 → get p.read.imported (import_name x) ≡ some name
    → get p.read.hashes (import_hash x) ≡ some hash → meant (ref_in p x) ≡ some (public (id_of (imported_name p.read (import_name x))) hash)
demand_2_import = Whole.import-key

-- "the Unicode Standard decide[s] [..] text": what well-formed units mean is the text that they encode, and every text is what its encoding means
pub demand_2_utf16 : (units : List ℕ) → Words units → is_well (utf16 units) ≡ true
    → (encode16 (scalars (utf16 units)) ≡ units) × Scalars (scalars (utf16 units))
demand_2_utf16 = encode_decode

pub demand_2_utf16-all : (text : List ℕ) → Scalars text → utf16 (encode16 text) ≡ well text
demand_2_utf16-all = decode_encode

-- ill-formed is exactly what encodes no text
pub demand_2_ill_formed : (units : List ℕ) → Words units → (utf16 units ≡ ill) ↔ ((text : List ℕ) → Scalars text → encode16 text ≡ units → ⊥)
demand_2_ill_formed units w = (ill_formed units, no_encoding units w)

-- "All text leaves as UTF-8 (RFC 3629)"
pub demand_2_utf8 : (text : List ℕ) → Scalars text → from_utf8 (utf8 text) ≡ well text
demand_2_utf8 = utf8_decode

-- every text in a report, each package's name and the six of each row, is a list of scalar values (meaning/Texts.antt)
pub demand_2_texts : (m : Limits) (corpus report : List ℕ) (h : Report m corpus report) → TextsScalar m h.objects h.packages
demand_2_texts m corpus report h = h.texts

-- ==== DEMAND 3
-- Document 02, Q-5: "demand 3 counts by both and gives both of its calls the same limits": one m, any in the range.

-- "Take any corpus in document 01's domain, put its packages in whatever order, and give the bytes and bits that document 01 lists as passed over
-- whatever values." `Rearranged` (meaning/Rearranged.antt) is that relation of two corpora, byte for byte; every order and all values can be given
pub demand_3_any : (m : Limits) (old : List ℕ) → Bytes old → (work room : ℕ) (report : List ℕ) → answer_within m old work room ≡ accepted report
    → (c : Corpus) × (old ≡ corpus_bytes c) × ((order : List Part) → Perm c.parts order → (values : List ℕ) (each : ℕ → List ℕ)
    → Rearranged old (corpus_bytes (corpus_with c.script order values each)))
demand_3_any m old b work room report e =
    let (c, framed, whatever) = any_corpus m old work room report b (accepted_in m old work room report e).1 in
    (c, framed.is, λ order d values each. (whatever order d values each).given)

-- what a caller sees of two calls with the limits m, before and after: the number and the report buffer of each
pub record Unchanged (m : Limits) (old new : List ℕ) (w : Rearranged old new) (before after : Outcome) : Type 0 where
  -- "With buffers of the lengths the old corpus was accepted with, whatever they hold, the new corpus is accepted and the call returns the same number"
  pub accepted_too : is_refusal after.number ≡ false
  pub same_number : after.number ≡ before.number
  -- "and so do the report's first 9 bytes": behind them stand the sections
  pub front : List ℕ
  pub nine : length front ≡ 9
  pub old-report : take before.number before.report ≡ front ++ flat (section_in m w.old) w.old.parts
  pub new-report : take after.number after.report ≡ front ++ flat (section_in m w.new) w.new.parts
  -- "Each package's section is byte for byte the one it had, and the sections stand in the new order"
  pub same-sections : map (section_in m w.new) w.new.parts ≡ map (section_in m w.old) w.how.order

pub demand_3 : (m : Limits) (old new : List ℕ) (w : Rearranged old new) (work₁ buffer₁ work₂ buffer₂ : List ℕ)
    → is_refusal (outcome_within m old work₁ buffer₁).number ≡ false → length work₂ ≡ length work₁ → length buffer₂ ≡ length buffer₁
    → Unchanged m old new w (outcome_within m old work₁ buffer₁) (outcome_within m new work₂ buffer₂)
demand_3 m old new w work₁ buffer₁ work₂ buffer₂ ok p q =
    let (report, given) = After.accepted-by m old work₁ buffer₁ ok in
    let (range, h) = accepted_in m old (length work₁) (length buffer₁) report given in
    let u = Demand.demand_3 m old new (length work₁) (length buffer₁) report h w in
    let same : (outcome_within m new work₂ buffer₂).number ≡ (outcome_within m old work₁ buffer₁).number =
    rw (outcome_in m range new work₂ buffer₂, outcome_in m range old work₁ buffer₁) (u.same_number work₁ work₂ buffer₁ buffer₂ refl p refl q) in
    let new-given : answer_within m new (length work₂) (length buffer₂) ≡ accepted u.new =
    rw (answer_in m new (length work₂) (length buffer₂) range, p, q) u.accepted_too in
    record {
      accepted_too = rw same ok;
      same_number = same;
      front = u.front;
      nine = u.nine;
      old-report = After.accepted-report m old work₁ buffer₁ report given ∙ u.old-sections;
      new-report = After.accepted-report m new work₂ buffer₂ u.new new-given ∙ u.new-sections;
      same-sections = u.same-sections;
    }

-- the same of two calls, by the exported function's contract (`Called`, clause a)
pub demand_3_call : (lookups objects : ℕ) (old new : List ℕ) (w : Rearranged old new) (work₁ buffer₁ work₂ buffer₂ report₁ report₂ : List ℕ)
    (number₁ number₂ : ℕ) → Called old lookups objects work₁ buffer₁ number₁ report₁ → Called new lookups objects work₂ buffer₂ number₂ report₂
    → is_refusal number₁ ≡ false → length work₂ ≡ length work₁ → length buffer₂ ≡ length buffer₁
    → Unchanged (limits_of lookups objects) old new w (record { number = number₁; report = report₁ }) (record { number = number₂; report = report₂ })
demand_3_call lookups objects old new w work₁ buffer₁ work₂ buffer₂ report₁ report₂ number₁ number₂ c₁ c₂ ok p q =
    let m = limits_of lookups objects in
    let same : is_refusal (outcome_within m old work₁ buffer₁).number ≡ false = rw (← clause_a-call c₁) ok in
    rw (clause_a-call c₁, clause_a-call c₂) (demand_3 m old new w work₁ buffer₁ work₂ buffer₂ same p q)

-- "In every row of both reports the native class is known exactly when some chain, as document 01 defines it, of at most 64 class lookups leads from
-- the row's class reference to a script object whose outer chain, of at most 65 known objects, ends in a null index": `NativeKnown m`
-- (meaning/Chain.antt), with the limits of the call for 64 and 65; t: the classes that there are. "It is then that object's path, and otherwise `?`":
-- the row's native byte and native text
pub record Native (m : Limits) (t : List Class) (o : Objects) (r : Ref) (byte : ℕ) (text : List ℕ) : Type 0 where
  pub exactly : (byte ≡ 1) ↔ NativeKnown m t o r
  pub path : (k : NativeKnown m t o r) → text ≡ joined (map (object_name o) (reverse k.objects))
  pub otherwise : (NativeKnown m t o r → ⊥) → (byte ≡ 0) × (text ≡ quoted "?")

-- every row of every report (demand 2) is such
pub demand_3_native : (m : Limits) (corpus report : List ℕ) (h : Report m corpus report) (p : Package) (e : Export)
    → Native m (table m.objects h.objects h.packages) h.objects (ref_in p e.class)
    (flag (row_in m h.objects h.packages p e).native) (or_unknown (path_text (row_in m h.objects h.packages p e).native))
unfolding row_of chain_path
demand_3_native m corpus report h p e =
    let n = native_as m (table m.objects h.objects h.packages) h.objects h.one_each
    (script-good h.blocks.script h.objects h.script-read) (ref_in p e.class) in
    record { exactly = n.exactly; path = n.path; otherwise = n.otherwise }

-- ==== CLAUSE A
-- "The returned number and the report buffer equal a definition of the corpus and both lengths, bytes past the report and the whole buffer on refusal
-- being unchanged, and only the work buffer's final bytes are free." The call's contract is `Called`, above; the limits count, too.
pub clause_a : (m : Limits) (corpus work buffer : List ℕ)
    → ((outcome_within m corpus work buffer).number ≡ number_of (answer_within m corpus (length work) (length buffer)))
    × ((outcome_within m corpus work buffer).report ≡ buffer_after (answer_within m corpus (length work) (length buffer)) buffer)
unfolding outcome_within
clause_a m corpus work buffer = (refl, refl)

-- of the work buffer only the length counts, and the report buffer keeps its length
pub clause_a-work : (m : Limits) (corpus work₁ work₂ buffer : List ℕ) → length work₁ ≡ length work₂
    → outcome_within m corpus work₁ buffer ≡ outcome_within m corpus work₂ buffer
clause_a-work = After.work-whatever

pub clause_a-number : (m : Limits) (corpus work₁ work₂ buffer₁ buffer₂ : List ℕ) → length work₁ ≡ length work₂ → length buffer₁ ≡ length buffer₂
    → (outcome_within m corpus work₁ buffer₁).number ≡ (outcome_within m corpus work₂ buffer₂).number
clause_a-number = After.number-whatever

pub clause_a-length : (m : Limits) (corpus work buffer : List ℕ) → length (outcome_within m corpus work buffer).report ≡ length buffer
clause_a-length = After.buffer-length

-- "clause a the counts around them": the length fields of the report, of each package's name, of each row and of each text say how many bytes
-- follow, and the counts are those of packages, exports and rows (meaning/Fields.antt)
pub clause_a-fields : (m : Limits) (corpus report : List ℕ) (h : Report m corpus report) → ReportSized m h.objects h.packages
clause_a-fields m corpus report h = h.sized

-- ==== CLAUSE B
-- "Every exported or cross-crate function says what it returns [..]": a property of the contracts in crates/*/src, no statement about definitions.
-- The gate sees that every exported function has an `ensures` and no `requires`.

-- ==== CLAUSE C
-- "Demand 2 covers every row of every corpus in the domain, and clause a the counts around them. They shut out [..]". Within any limits that a call
-- may have, a program that meets the definition (`Meets m`, meaning/Shut.antt: its number and buffer are those of `outcome_within m`, for every corpus of
-- bytes and both buffers) is not ..

-- "the program that writes one fixed report"
pub clause_c_fixed : (m : Limits) → InRange m → (P : Program) → Meets m P → (report : List ℕ)
    → ((corpus work buffer : List ℕ) → is_refusal (P corpus work buffer).number ≡ false
    → take (P corpus work buffer).number (P corpus work buffer).report ≡ report) → ⊥
clause_c_fixed = Shut.fixed_report

-- "the one that refuses each corpus"
pub clause_c-refuses : (m : Limits) → InRange m → (P : Program) → Meets m P
    → ((corpus work buffer : List ℕ) → is_refusal (P corpus work buffer).number ≡ true) → ⊥
clause_c-refuses = Shut.refuses-each

-- "the one that returns a length and writes no byte"
pub clause_c-no_byte : (m : Limits) → InRange m → (P : Program) → Meets m P → ((corpus work buffer : List ℕ) → (P corpus work buffer).report ≡ buffer) → ⊥
clause_c-no_byte = Shut.no_byte

-- "the one that resolves only the first package's rows and the one with invented row counts": in the report stands every package's section, with
-- the number of its rows and all of them, resolved by the classes of all packages (`section_with`)
pub clause_c-every_package : (m : Limits) (corpus report : List ℕ) (h : Report m corpus report) (p : Package) → Memᴰ p h.packages
    → Inside (λ bytes. bytes ≡ section_with m h.objects h.packages p) report
clause_c-every_package m corpus report h p i = Whole.every-section (section_with m h.objects h.packages) h.packages report h.report-is i

-- "Demand 1, by the first failed question, shuts out the one that says 25 or 26 before weighing the sums": 25 and 26 exactly where no question
-- before fails and "64 × (script objects + classes + candidates)" bytes, or the report, are too many
pub clause_c_25 : (m : Limits) → InRange m → (corpus : List ℕ) (work room : ℕ) → (answer_within m corpus work room ≡ refused_in 25 0)
    ↔ ((d : Opened) × (opened m corpus ≡ accepted d) × (work < 64 * (length d.objects.entries + d.classes + d.rows)))
unfolding Call.work_bytes
clause_c_25 m range corpus work room = rw (answer_in m corpus work room range) (Shut.work-refused m corpus work room)

pub clause_c_26 : (m : Limits) → InRange m → (corpus : List ℕ) (work room : ℕ) → (answer_within m corpus work room ≡ refused_in 26 0)
    ↔ ((d : Opened) × (opened m corpus ≡ accepted d) × (64 * (length d.objects.entries + d.classes + d.rows) ≤ work)
    × (length (report_of m d.objects d.packages) ≤ 4294967299 → length (report_of m d.objects d.packages) ≤ room → ⊥))
unfolding Call.work_bytes
clause_c_26 m range corpus work room = rw (answer_in m corpus work room range) (Shut.report-refused m corpus work room)

-- ==== CLAUSE D
-- "The examples above form one theorem about the definitions": Examples.antt, `clause_d`
