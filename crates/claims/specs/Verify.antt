-- THE BUILD'S OWN HASHES (document 02, Q-2): "Field staff want the Rust's `verify` before a campaign: objects, paths resolved, hash matches,
-- mismatches. [..] Beside it each package gets one flag". What has to be believed is meaning/Verify.antt; the call is `verified corpus buffer`: the
-- number that it returns, and what the output buffer then holds. The work buffer doesn't count.
use Rattle.std.specs.Prelude.{◌≡◌, refl, ◌↔◌, ◌⊎◌, Bool, true, false, cond, List, [], ◌∷◌, ◌++◌, map, ℕ, ◌+◌, ◌*◌, ◌%◌, ◌^◌, ◌≤◌, ◌<◌, eqb, length, take, drop, replicate}
use Rattle.std.proofs.Common.{sym, ◌∙◌, ap, inl, inr, arith, ne_eqb, eqb-true, length-drop}
use Rattle.std.proofs.lemmas.Bool.{eqb-false}
use Rattle.std.proofs.lemmas.List.{length-map, take-append-le, drop-append-le}
use Rattle.base.specs.Answer.{is_refusal}
use Rattle.city.specs.City.{city_hash64}
use Rattle.base.specs.Find.{sum}
use Rattle.ids.specs.Id.{id_of}
use Rattle.base.specs.Number.{be}
use Rattle.base.specs.NumberLaws.{Bytes}
use Rattle.base.specs.Perm.{Each}
use Rattle.base.specs.Reading.{gives, run, run_block}
use Rattle.text.specs.Utf16.{utf16le}
use Rattle.lower.specs.Lower.{lowered}
use Rattle.scriptblock.specs.Script.{Objects, script}
use Rattle.scriptblock.proofs.ScriptGood.{script-good}
use Rattle.scriptblock.specs.declared.script.Entry.{Entry}
use Rattle.zen.specs.Zen.{Read, package_block, package_name}
use Rattle.meaning.specs.Frame.{Part, Corpus, framed}
use Rattle.meaning.specs.Reference.{Package}
use Rattle.meaning.specs.Call.{Answer, refused_in, accepted, Opened, holding, opened, answer, number_of, buffer_after, limits}
use Rattle.meaning.specs.Bytes.{corpus_bytes}
use Rattle.meaning.specs.BytesLaws.{bytes-frame}
use Rattle.meaning.specs.Rearranged.{Rearranged}
use Rattle.meaning.specs.Accepted.{packages_in, Opens}
use Rattle.meaning.proofs.Accepted.{from-corpus}
use Rattle.meaning.specs.Whole as Whole
use Rattle.meaning.specs.Answered as After
use Rattle.meaning.specs.Verify.{slash, slashed, path_hash, is_resolved, is_match, is_mismatch, scored, counts_of, package_flag, verify_answer, Verified, verified}
use Rattle.meaning.specs.Written.{corpus_from}
use Rattle.meaning.specs.VerifyExamples.{engine, six}
use Rattle.meaning.proofs.VerifyExamples.{verify_examples}
use Rattle.meaning.proofs.VerifyLaws as Laws
use Rattle.meaning.specs.VerifyObjects.{HasPath}
use Rattle.meaning.proofs.VerifyObjects.{resolved_where, match_where, mismatch_where}
use Rattle.meaning.proofs.VerifyFits as Fits
use Rattle.meaning.proofs.VerifyRefusals as Refusals
use Rattle.meaning.specs.VerifyRearranged.{flag_in}
use Rattle.meaning.proofs.VerifyRearranged.{flag_is, from_verify, verify_same, verify_turned}

-- ==== THE CALL
-- THE CONTRACT of the exported call, `class_verify`: the lists that it was lent at entry, corpus and output buffer, the number that it returned, and
-- the output buffer at exit
pub record Called (corpus buffer : List ℕ) (number : ℕ) (output : List ℕ) : Type 0 where
  pub number_is : number ≡ number_of (verify_answer corpus (length buffer))
  pub output-is : output ≡ buffer_after (verify_answer corpus (length buffer)) buffer

-- so whatever is said here of `verified` is said of every call
pub q_2-call : {corpus buffer output : List ℕ} {number : ℕ} → Called corpus buffer number output
    → record { number = number; output = output } ≡ verified corpus buffer
unfolding verified
q_2-call c = cc

-- ==== ACCEPTED
-- a count: the number of four bytes at a place of the output
abbrev pub count_at : ℕ → List ℕ → ℕ
count_at k output = be (take 4 (drop k output))

-- what an object of a script block adds to a count, 1 or 0: "paths resolved, hash matches, mismatches" (`q_2-object` says which is when)
abbrev pub resolved_one : Objects → Entry → ℕ
resolved_one o e = scored is_resolved 65 o e

abbrev pub match_one : Objects → Entry → ℕ
match_one o e = scored is_match 65 o e

abbrev pub mismatch_one : Objects → Entry → ℕ
mismatch_one o e = scored is_mismatch 65 o e

pub record Accepted (corpus buffer : List ℕ) : Type 0 where
  -- the corpus's blocks, script objects and packages
  pub blocks : Corpus
  pub corpus-is : corpus ≡ corpus_bytes blocks
  pub objects : Objects
  pub script-read : run script 0 blocks.script ≡ gives objects
  pub packages : List Package
  pub packages-read : Each (λ (p : Part) (q : Package). (q.id ≡ p.id) × (run_block package_block p.block ≡ gives q.read)) blocks.parts packages
  -- the output: "accepted with its output's length", its bytes are the buffer's first, "bytes past the output stay as they were"
  pub output : List ℕ
  pub number : (verified corpus buffer).number ≡ length output
  pub front : take (length output) (verified corpus buffer).output ≡ output
  pub behind : drop (length output) (verified corpus buffer).output ≡ drop (length output) buffer
  -- "The output, in house form: the four counts, the package count, the flags"
  pub size : length output ≡ 25 + length packages
  pub rest : be (take 4 output) + 4 ≡ length output
  pub version : take 1 (drop 4 output) ≡ 1 ∷ []
  -- "The four counts equal sums over the block"
  pub object-count : count_at 5 output ≡ sum (λ (e : Entry). 1) objects.entries
  pub resolved-count : count_at 9 output ≡ sum (resolved_one objects) objects.entries
  pub match_count : count_at 13 output ≡ sum (match_one objects) objects.entries
  pub mismatch_count : count_at 17 output ≡ sum (mismatch_one objects) objects.entries
  -- "and resolved paths are matches plus mismatches"
  pub resolved-are : count_at 9 output ≡ count_at 13 output + count_at 17 output
  pub resolved-few : count_at 9 output ≤ count_at 5 output
  -- "each package gets one flag", in corpus order (`q_2-flag` says which)
  pub package_count : count_at 21 output ≡ length packages
  pub flags : drop 25 output ≡ map package_flag packages

-- ==== REFUSED
pub record Refused (corpus buffer : List ℕ) : Type 0 where
  pub question : ℕ
  pub block : ℕ
  -- "it asks the report's questions": 1, 2, those of the blocks, and 24, as they are asked of a report, whatever the buffers are there; "An output
  -- beyond its buffer [..] is 26, asked last", of a corpus that passes them. No output is "beyond 4,294,967,299 bytes"
  pub first :
      (opened limits corpus ≡ refused_in question block)
      ⊎ ((question ≡ 26) × (block ≡ 0) × ((d : Opened) × (opened limits corpus ≡ accepted d) × (length buffer < 25 + length d.packages)))
  pub as_report : question < 26 → (work room : ℕ) → answer limits corpus work room ≡ refused_in question block
  pub asked : (1 ≤ question) × (question ≤ 26)
  -- "25 is not asked"
  pub no_25 : question ≡ 25 → ⊥
  -- "bit 63 set, the refusal in bits 32 to 39, the block in bits 0 to 31, all else 0"
  pub number : (verified corpus buffer).number ≡ 2 ^ 63 + question * 2 ^ 32 + block
  pub fits : block < 2 ^ 32
  -- "refused, its output buffer is unchanged"
  pub unchanged : (verified corpus buffer).output ≡ buffer

-- what is read of a corpus that is opened
abbrev ReadFrom : List ℕ → Opened → Corpus → Type 0
ReadFrom corpus d c = (framed corpus ≡ gives c) × (run script 0 c.script ≡ gives d.objects) × Each Whole.ReadAs c.parts d.packages

read_from_lem : (corpus : List ℕ) (d : Opened) → opened limits corpus ≡ accepted d → (c : Corpus) × ReadFrom corpus d c
unfolding holding
read_from_lem corpus d h = let (c, f, a, e) = from-corpus limits corpus d h in (c, go c f a e)
  where
    go : (c : Corpus) → framed corpus ≡ gives c → (a : Opens limits c) → d ≡ holding limits a.objects (packages_in c) → ReadFrom corpus d c
    go c f a e = (f, rw e a.script-is, rw e (Whole.all_read c.parts a.good))

accepted-is : (corpus buffer : List ℕ) → Bytes corpus → (output : List ℕ) → verify_answer corpus (length buffer) ≡ accepted output → Accepted corpus buffer
unfolding counts_of verified
accepted-is corpus buffer b output h =
    let (d, hd, fits, is) = from_verify corpus (length buffer) output h in
    let (c, (framed_is, script-is, read)) = read_from_lem corpus d hd in
    let says : Fits.Says output (counts_of 65 d.objects) (map package_flag d.packages) = rw (← is) at (Fits.says corpus b d hd) in
    record {
      blocks = c;
      corpus-is = (bytes-frame corpus c b framed_is).is;
      objects = d.objects;
      script-read = script-is;
      packages = d.packages;
      packages-read = read;
      output = output;
      number = After.accepted-number (verify_answer corpus (length buffer)) output h;
      front = After.accepted-front (verify_answer corpus (length buffer)) output h buffer;
      behind = After.accepted-behind (verify_answer corpus (length buffer)) output h buffer;
      size = ap length is ∙ Laws.output-length d;
      rest = says.rest;
      version = says.version;
      object-count = says.objects ∙ Laws.objects-are 65 d.objects;
      resolved-count = says.resolved;
      match_count = says.matches;
      mismatch_count = says.mismatches;
      resolved-are = rw (says.resolved, says.matches, says.mismatches) (Laws.resolved-are 65 d.objects);
      resolved-few = rw (says.resolved, says.objects) (Laws.resolved-few 65 d.objects);
      package_count = says.packages ∙ length-map d.packages package_flag;
      flags = says.flags;
    }

refused-is : (corpus buffer : List ℕ) → Bytes corpus → (q j : ℕ) → verify_answer corpus (length buffer) ≡ refused_in q j → Refused corpus buffer
unfolding verified
refused-is corpus buffer b q j h =
    let first = (Refusals.verify_refused corpus b (length buffer) q j).0 h in
    let (r, no_25) = Refusals.verify_refusal corpus b (length buffer) q j h in
    record {
      question = q;
      block = j;
      first = first;
      as_report = before first;
      asked = r.question;
      no_25 = no_25;
      number = After.refused-number (verify_answer corpus (length buffer)) q j h;
      fits = r.block;
      unchanged = After.refused-buffer (verify_answer corpus (length buffer)) q j h buffer;
    }
  where
    before : (opened limits corpus ≡ refused_in q j) ⊎ ((q ≡ 26) × (j ≡ 0) × Refusals.TooShort corpus (length buffer)) → q < 26
        → (work room : ℕ) → answer limits corpus work room ≡ refused_in q j
    before (inl e) less = Refusals.report-refuses limits corpus q j e
    before (inr (is, at, short)) less = absurd (omega arith)

-- THE THEOREM: every call is the one or the other
pub q_2 : (corpus buffer : List ℕ) → Bytes corpus → Accepted corpus buffer ⊎ Refused corpus buffer
q_2 corpus buffer b = go (verify_answer corpus (length buffer)) refl
  where
    go : (a : Answer (List ℕ)) → verify_answer corpus (length buffer) ≡ a → Accepted corpus buffer ⊎ Refused corpus buffer
    go (accepted output) e = inl (accepted-is corpus buffer b output e)
    go (refused_in q j) e = inr (refused-is corpus buffer b q j e)

-- ==== WHAT IS COUNTED
-- an object of the block: what it adds to each count is 1 or 0, and 1 exactly where ..
pub record Counted (o : Objects) (e : Entry) : Type 0 where
  -- .. it has a path (document 01, "An outer chain [..]"): the names of its outer chain, of at most 65 known objects, which ends in a null index
  pub resolved : (resolved_one o e ≡ 1) ↔ ((text : List ℕ) × HasPath 65 o e text)
  -- .. "The path has `.` and `:` turned to `/`, is lowered and hashed, and the low 62 bits are compared with the global index's", and they are equal
  pub match :
      (match_one o e ≡ 1)
      ↔ ((text : List ℕ) × HasPath 65 o e text × (city_hash64 (utf16le (lowered (slashed text))) % 2 ^ 62 ≡ e.global % 2 ^ 62))
  -- .. they aren't
  pub mismatch :
      (mismatch_one o e ≡ 1)
      ↔ ((text : List ℕ) × HasPath 65 o e text × (city_hash64 (utf16le (lowered (slashed text))) % 2 ^ 62 ≡ e.global % 2 ^ 62 → ⊥))
  pub at-most_1 : (resolved_one o e ≤ 1) × (match_one o e ≤ 1) × (mismatch_one o e ≤ 1)

pub q_2-object : (block : List ℕ) (o : Objects) → run script 0 block ≡ gives o → (e : Entry) → Counted o e
unfolding path_hash id_of
q_2-object block o h e =
    let good = script-good block o h in
    record {
      resolved = resolved_where 65 o good e;
      match = match_where 65 o good e;
      mismatch = mismatch_where 65 o good e;
      at-most_1 = (Laws.scored-one 65 o is_resolved e, Laws.scored-one 65 o is_match e, Laws.scored-one 65 o is_mismatch e);
    }

-- "`.` and `:` turned to `/`", and all else as it is
pub q_2-slash : (slash 0x2E ≡ 0x2F) × (slash 0x3A ≡ 0x2F) × ((c : ℕ) → (c ≡ 0x2E → ⊥) → (c ≡ 0x3A → ⊥) → slash c ≡ c)
q_2-slash = (refl, refl, λ c dot colon. rw (ne_eqb c 0x2E dot, ne_eqb c 0x3A colon))

-- "does the id of its rendered name equal the id in the corpus": the flag is 1 exactly where it does, and 0 where it doesn't
pub q_2-flag : (p : Package)
    → ((package_flag p ≡ 1) ↔ (id_of (package_name p.read) ≡ p.id)) × ((package_flag p ≡ 0) ↔ (id_of (package_name p.read) ≡ p.id → ⊥))
unfolding package_flag
q_2-flag p = go (eqb (id_of (package_name p.read)) p.id) refl
  where
    go : (t : Bool) → eqb (id_of (package_name p.read)) p.id ≡ t
        → ((◌≡◌ {A = ℕ} (cond t 1 0) 1) ↔ (id_of (package_name p.read) ≡ p.id)) × ((◌≡◌ {A = ℕ} (cond t 1 0) 0) ↔ (id_of (package_name p.read) ≡ p.id → ⊥))
    go true e =
        let same = eqb-true (id_of (package_name p.read)) p.id e in
        (((λ h. same), λ h. refl), ((λ h. absurd (omega arith)), λ n. absurd (n same)))
    go false e =
        let other = eqb-false (id_of (package_name p.read)) p.id e in
        (((λ h. absurd (omega arith)), λ same. absurd (other same)), ((λ h. other), λ n. refl))

-- ==== "NEITHER DEPENDS ON PASSED-OVER BYTES"
-- two corpora that differ at most in what document 01 lists as passed over: the relation of demand 3 (meaning/Rearranged.antt), the packages being in
-- their order. With buffers of one length, whatever they hold, the two calls return one number; accepted, they write the same bytes
pub record Same (first second : Verified) : Type 0 where
  pub number : second.number ≡ first.number
  pub output : is_refusal first.number ≡ false → take second.number second.output ≡ take first.number first.output

pub q_2-passed-over : (old new : List ℕ) (w : Rearranged old new) → w.how.order ≡ w.old.parts → (buffer₁ buffer₂ : List ℕ)
    → length buffer₂ ≡ length buffer₁ → Same (verified old buffer₁) (verified new buffer₂)
unfolding verified
q_2-passed-over old new w stay buffer₁ buffer₂ n = go (verify_answer old (length buffer₁)) (verify_answer new (length buffer₂)) same
  where
    same : verify_answer new (length buffer₂) ≡ verify_answer old (length buffer₁)
    same = rw n (verify_same old new w stay (length buffer₁))

    go : (a b : Answer (List ℕ)) → b ≡ a
        → Same (record { number = number_of a; output = buffer_after a buffer₁ }) (record { number = number_of b; output = buffer_after b buffer₂ })
    go (accepted output) b f = record {
      number = After.accepted-number b output f ∙ sym (After.accepted-number (accepted output) output refl);
      output = λ ok. After.accepted-output b output f buffer₂ ∙ sym (After.accepted-output (accepted output) output refl buffer₁);
    }
    go (refused_in q j) b f = record { number = ap number_of f; output = λ ok. After.refused-not (refused_in q j) q j refl ok }

-- the flag of a package of a corpus: as its block is read
pub q_2-flag_in : (p : Part) (r : Read) → run_block package_block p.block ≡ gives r → flag_in p ≡ package_flag (record { id = p.id; read = r })
q_2-flag_in = flag_is

-- where packages are moved too ("Reordering moves whole packages"): the counts stay, and the flags move with their packages
pub record Reordered (old new : List ℕ) (w : Rearranged old new) (before after : Verified) : Type 0 where
  pub accepted_too : is_refusal after.number ≡ false
  pub same_number : after.number ≡ before.number
  -- length, version, the four counts and the package count
  pub front : List ℕ
  pub front_length : length front ≡ 25
  pub old-output : take before.number before.output ≡ front ++ map flag_in w.old.parts
  pub new-output : take after.number after.output ≡ front ++ map flag_in w.new.parts
  pub same-counts : (k : ℕ) → k + 4 ≤ 25 → count_at k (take after.number after.output) ≡ count_at k (take before.number before.output)
  -- each package's flag is the one it had, and the flags stand in the new order
  pub same_flags : map flag_in w.new.parts ≡ map flag_in w.how.order

-- a count in the front is the front's
count-front : (k : ℕ) (front back : List ℕ) → k + 4 ≤ length front → count_at k (front ++ back) ≡ count_at k front
count-front k front back h =
    rw (drop-append-le k front back (omega arith), take-append-le 4 (drop k front) back (omega (arith, length-drop k front)))

pub q_2_reordered : (old new : List ℕ) (w : Rearranged old new) (buffer₁ buffer₂ : List ℕ) → is_refusal (verified old buffer₁).number ≡ false
    → length buffer₂ ≡ length buffer₁ → Reordered old new w (verified old buffer₁) (verified new buffer₂)
unfolding verified
q_2_reordered old new w buffer₁ buffer₂ ok n =
    let a = verify_answer old (length buffer₁) in
    let b = verify_answer new (length buffer₂) in
    let (output, h) = After.accepted-by a ok in
    let u = verify_turned old new w (length buffer₁) output h in
    let h₂ : b ≡ accepted u.new = rw n u.accepted_too in
    let same : number_of b ≡ number_of a = After.accepted-number b u.new h₂ ∙ (u.as_long ∙ sym (After.accepted-number a output h)) in
    let first : take (number_of a) (buffer_after a buffer₁) ≡ u.front ++ map flag_in w.old.parts = After.accepted-output a output h buffer₁ ∙ u.old-is in
    let second : take (number_of b) (buffer_after b buffer₂) ≡ u.front ++ map flag_in w.new.parts = After.accepted-output b u.new h₂ buffer₂ ∙ u.new_is in
    record {
      accepted_too = rw same ok;
      same_number = same;
      front = u.front;
      front_length = u.front_length;
      old-output = first;
      new-output = second;
      same-counts = λ k few.
          let fits : k + 4 ≤ length u.front = omega (arith, u.front_length) in
          rw (first, second, count-front k u.front (map flag_in w.new.parts) fits, count-front k u.front (map flag_in w.old.parts) fits);
      same_flags = u.same_flags;
    }

-- ==== EXAMPLES, computed. meaning/VerifyExamples.antt writes out the corpora

-- document 01's least corpus: 25 bytes, all counts 0
pub q_2-least : verified (0 ∷ 0 ∷ 0 ∷ 0x11 ∷ 1 ∷ 0 ∷ 0 ∷ 0 ∷ 8 ∷ replicate 12 0) (replicate 27 7)
    ≡ record { number = 25; output = 0 ∷ 0 ∷ 0 ∷ 21 ∷ 1 ∷ replicate 20 0 ++ 7 ∷ 7 ∷ [] }
q_2-least = verify_examples.least-output

-- eight objects, of which five match (`/Script/Engine.Actor:a.b:c`, whose last name is `a.b:c`, the empty path and an `É` among them), one doesn't,
-- and two have an unknown path, with a missing outer and in a ring; six packages, `P` and `P_1`, each under the id of `P`, under that without its top
-- two bits and under that of `P_1`
pub q-2-example :
    verify_answer (corpus_from engine six) 31
    ≡ accepted
    ((0 ∷ 0 ∷ 0 ∷ 27 ∷ 1 ∷ 0 ∷ 0 ∷ 0 ∷ 8 ∷ 0 ∷ 0 ∷ 0 ∷ 6 ∷ 0 ∷ 0 ∷ 0 ∷ 5 ∷ 0 ∷ 0 ∷ 0 ∷ 1 ∷ 0 ∷ 0 ∷ 0 ∷ 6 ∷ []) ++ 1 ∷ 0 ∷ 0 ∷ 0 ∷ 0 ∷ 1 ∷ [])
q-2-example = verify_examples.counts-and-flags
