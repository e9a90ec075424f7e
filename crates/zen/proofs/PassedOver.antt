-- What document 01 lists under "Passed over" may take any values, and no reading changes: neither a value nor a refusal.
use Rattle.std.specs.Prelude.{◌≡◌, refl, ◌↔◌, List, ◌++◌, ℕ, ◌-◌, ◌≤◌, length, take, drop, replicate}
use Rattle.std.proofs.Common.{sym, ◌∙◌, ap, append-nil, arith, length-take-le}
use Rattle.std.proofs.Math.Decide.{dec_le}
use Rattle.base.specs.NumberLaws.{Bytes}
use Rattle.base.specs.Reading.{gives, Got, bad, got, run, walk, run_block}
use Rattle.base.specs.ReadingLaws.{block_read}
use Rattle.base.specs.ReadingMarks.{whole, none, Agree, marks, marks-length, agree_same, marks_block, block-marks, block_same}
use Rattle.base.specs.ReadingRewrite.{Rewritten, rewriting, rewrite, run-rewrite, block-length, block-rewrite}
use Rattle.base.specs.ReadingTrail.{trail, trail-marks, run-got}
use Rattle.base.specs.ReadingGives.{refused-gives}
use Rattle.batch.specs.Batch.{Batch, batch}
use Rattle.scriptblock.specs.Script.{Objects, entry, script}
use Rattle.scriptblock.proofs.ScriptLaws.{entry-there}
use Rattle.zen.specs.Zen.{Read, summary, export, lead, header, package_block}
use Rattle.zen.proofs.BlockLaws.{block-low, block-bad, lead-got}
use Rattle.zen.specs.TableLaws.{export-there}
use Rattle.zen.specs.Listed.{batch_marks, entry_marks, summary_marks, export_marks, script_marks, header_marks, package_marks}
use Rattle.zen.proofs.ListedLaws.{batch-trail, entry-trail, summary-trail, export-trail, script-trail, header-trail}
use Rattle.zen.specs.declared.summary.Summary.{Summary}

-- ---- the reading is the same

-- whatever agrees with a block wherever a bit counts
pub script-same : (b c : List ℕ) → Agree (marks script 0 b) b c → run script 0 c ≡ run script 0 b
script-same b c = agree_same script 0 b c

pub package_same : (b c : List ℕ) → Agree (marks_block package_block b) b c → run_block package_block c ≡ run_block package_block b
package_same b c = block_same package_block b c

-- whatever is put in where no bit counts
pub script-rewrite : (b v : List ℕ) → run script 0 (rewrite (marks script 0 b) b v) ≡ run script 0 b
script-rewrite b v = run-rewrite script 0 b v

pub package_rewrite : (b v : List ℕ) → run_block package_block (rewrite (marks_block package_block b) b v) ≡ run_block package_block b
package_rewrite b v = block-rewrite package_block b v

-- the two are one: every block that agrees is such a rewriting
pub script-rewriting : (b c : List ℕ) → Bytes c → Agree (marks script 0 b) b c ↔ Rewritten (marks script 0 b) b c
script-rewriting b c h = rewriting (marks script 0 b) b c (marks-length script 0 b) h

pub package_rewriting : (b c : List ℕ) → Bytes c → Agree (marks_block package_block b) b c ↔ Rewritten (marks_block package_block b) b c
package_rewriting b c h = rewriting (marks_block package_block b) b c (block-length package_block b) h

-- ---- which bytes count

-- of a script entry and of an export, whatever their bytes are
pub entry_marks_lem : (s : List ℕ) → length s ≡ 32 → marks entry 0 s ≡ entry_marks
entry_marks_lem s e = trail-marks entry s 0 (entry-there s 0 (omega arith)) ∙ rw (e, entry-trail s 0) (append-nil entry_marks)

pub export_marks_lem : (s : List ℕ) → length s ≡ 72 → marks export 0 s ≡ export_marks
export_marks_lem s e = trail-marks export s 0 (export-there s 0 (omega arith)) ∙ rw (e, export-trail s 0) (append-nil export_marks)

-- of a batch and of a summary, wherever they are read
pub batch_marks_lem : (s : List ℕ) (at : ℕ) {b : Batch} {m : ℕ} → walk batch s at ≡ got b m
    → marks batch at (drop at s) ≡ batch_marks b.place ++ replicate (length s - m) none
batch_marks_lem s at q = trail-marks batch s at q ∙ rw (batch-trail s at q).0

pub summary_marks_lem : (s : List ℕ) {m : Summary} {e : ℕ} → walk summary s 8 ≡ got m e
    → replicate 8 whole ++ marks summary 8 (drop 8 s) ≡ summary_marks ++ replicate (length s - e) none
summary_marks_lem s {m} {e} q =
    ap (λ ms. replicate 8 whole ++ ms) (trail-marks summary s 8 q) ∙ ap (λ ms. ms ++ replicate (length s - e) none) (summary-trail s 8 q)

-- of an accepted script block: those of the list
pub script_marks_lem : (b : List ℕ) {o : Objects} → run script 0 b ≡ gives o → marks script 0 b ≡ script_marks o.layout
script_marks_lem b q =
    let w = run-got script b 0 (omega arith) q in
    let t = script-trail b 0 w.1 in
    trail-marks script b 0 w.1 ∙ rw (t.0, t.1) (append-nil _)

header_marks_lem : (b : List ℕ) (size : ℕ) {r : Read} → 8 ≤ size → size ≤ length b → run (header size) 8 (drop 8 (take size b)) ≡ gives r
    → replicate 8 whole ++ (marks (header size) 8 (drop 8 (take size b)) ++ replicate (length b - 8 - (size - 8)) none) ≡ package_marks r.layout (length b)
unfolding package_marks
header_marks_lem b size {r} h l q =
    let s = take size b in
    let n : length s ≡ size = length-take-le size b l in
    let w = run-got (header size) s 8 (rw n h) q in
    let t = header-trail size s 8 w.1 in
    let e : length b - 8 - (size - 8) ≡ length b - size = omega arith in
    let m : marks (header size) 8 (drop 8 s) ≡ trail (header size) s 8 = trail-marks (header size) s 8 w.1 ∙ rw t.1 (append-nil _) in
    rw (m, e) (ap (λ ms. ms ++ replicate (length b - size) none) t.2 ∙ ap (λ k. header_marks r.layout ++ replicate (length b - k) none) (sym t.0))

-- of an accepted package block: those of the list
pub package_marks_lem : (b : List ℕ) {r : Read} → run_block package_block b ≡ gives r → marks_block package_block b ≡ package_marks r.layout (length b)
package_marks_lem b {r} q = go (walk lead b 0) refl
  where
    go : (w : Got ℕ) → walk lead b 0 ≡ w → marks_block package_block b ≡ package_marks r.layout (length b)
    go (bad e) f = refused-gives (sym (block-bad b f) ∙ q)
    go (got size at) f = sized (dec_le 8 size)
      where
        led : walk lead b 0 ≡ got size 8
        led = f ∙ ap (got size) (lead-got b size at f).0

        sized : Dec (8 ≤ size) → marks_block package_block b ≡ package_marks r.layout (length b)
        sized (yes h) = block-marks package_block b led ∙ header_marks_lem b size h (lead-got b size at f).1 (sym (block_read package_block b led) ∙ q)
        sized (no h) = refused-gives (sym (block-low b led (omega arith)) ∙ q)

-- ---- what is listed may take any values: an accepted block stays accepted, with the same value

pub script-passed : (b c : List ℕ) {o : Objects} → run script 0 b ≡ gives o → Agree (script_marks o.layout) b c → run script 0 c ≡ gives o
script-passed b c q a = script-same b c (rw (script_marks_lem b q) a) ∙ q

pub package_passed : (b c : List ℕ) {r : Read} → run_block package_block b ≡ gives r → Agree (package_marks r.layout (length b)) b c
    → run_block package_block c ≡ gives r
package_passed b c q a = package_same b c (rw (package_marks_lem b q) a) ∙ q
