-- Laws of the script block by position: its entries, what is asked before them, and its answer in two steps.
use Rattle.std.specs.Prelude.{◌≡◌, refl, List, [], ◌∷◌, Bool, true, false, cond, ℕ, zero, suc, ◌+◌, ◌*◌, ◌-◌, ◌≤◌, ◌<◌, leb, ltb, eqb, length, take, drop, Ok, Err}
use Rattle.std.proofs.Common.{sym, ◌∙◌, arith, mul-suc, lit≤}
use Rattle.std.proofs.Math.Path.{ap}
use Rattle.std.proofs.Math.Decide.{dec_lt}
use borrow.Author.Tests.{le-leb, lt-leb, lt-ltb, le-ltb, eq-eqb, ne_eqb, leb-true}
use Rattle.std.specs.Int.Signed.{non_neg}
use Rattle.base.specs.Never.{never}
use Rattle.base.specs.Choose.{pick}
use Rattle.base.specs.Index.{kind}
use Rattle.base.specs.Number.{le, le_at}
use Rattle.base.specs.NumberLaws.{le_at-is}
use Rattle.base.specs.Signed.{twos}
use Rattle.base.specs.Reading.{Got, bad, got, Reading, give, run, walk, ask, onto, ◌>>◌}
use Rattle.base.specs.ReadingLaws.{chain, walk_bind, chain_by, pick-by, ask-by, ask-is, pick_cong, out, run-walk, then-walk, then-bad}
use Rattle.base.specs.ReadingRows.{cells}
use Rattle.batch.specs.Field.{low30}
use Rattle.batch.specs.Batch.{batch}
use Rattle.batch.specs.BatchAnswers.{batched}
use Rattle.batch.specs.BatchAnswersLaws.{batched-refused}
use Rattle.batch.specs.FoundBatch.{FoundAt, found_by_lem, found_end}
use Rattle.batch.specs.declared.names.Names.{Names}
use Rattle.scriptblock.specs.Script.{entry, fresh, entries_on, entries, Start, opening, Objects, script}
use Rattle.scriptblock.specs.ScriptAnswers.{opened_by, opened, entry_at, fault_of, fault_on, fault_at, answer_by, script_answer}
use Rattle.scriptblock.specs.declared.script.Entry.{Entry}
use Rattle.scriptblock.specs.declared.script.Layout.{Layout}
pub use Rattle.scriptblock.specs.ScriptLaws.{Opening, layout_at, objects_at}

-- an entry that is there
pub entry-there : (s : List ℕ) (at : ℕ) → at + 32 ≤ length s → walk entry s at ≡ got (entry_at s at) (at + 32)
unfolding entry entry_at low30
entry-there s at h =
    let e4 : at + 3 + 1 ≡ at + 4 = omega arith in
    let e8 : at + 4 + 4 ≡ at + 8 = omega arith in
    let e16 : at + 8 + 8 ≡ at + 16 = omega arith in
    let e24 : at + 16 + 8 ≡ at + 24 = omega arith in
    let e32 : at + 24 + 8 ≡ at + 32 = omega arith in
    let inside : (n : ℕ) → n ≤ 32 → leb (at + n) (length s) ≡ true = λ n l. le-leb (at + n) (length s) (omega arith) in
    rw (e4, e8, e16, e24, e32)
    (rw (le_at-is 3 s at, le_at-is 4 s (at + 4), le_at-is 8 s (at + 8), le_at-is 8 s (at + 16))
    (rw (inside 3 (lit≤ tt), inside 4 (lit≤ tt), inside 8 (lit≤ tt), inside 16 (lit≤ tt), inside 24 (lit≤ tt), inside 32 (lit≤ tt))))

-- entries that are there: those that stand at the places, or the first fault
asked : (s : List ℕ) (names : ℕ) (done : List Entry) (e : Entry) (p : Reading (List Entry)) (at : ℕ)
    → walk (ask (ltb e.index names) 10 >> (ask (eqb (kind e.global) 1) 11 >> (ask (fresh e.global done) 12 >> p))) s at
    ≡ pick (ltb e.index names) (pick (eqb (kind e.global) 1) (pick (fresh e.global done) (walk p s at) (bad 12)) (bad 11)) (bad 10)
asked s names done e p at =
    ask-is (ltb e.index names) 10 _ s at ∙ pick_cong (ltb e.index names) (bad 10) λ a.
    ask-is (eqb (kind e.global) 1) 11 _ s at ∙ pick_cong (eqb (kind e.global) 1) (bad 11) λ b.
    ask-is (fresh e.global done) 12 p s at

entries_on-is : (s : List ℕ) (names n : ℕ) (done : List Entry) (from : ℕ) → from + 32 * n ≤ length s
    → walk (entries_on done names n) s from
    ≡ cond (eqb (fault_on names done (cells (entry_at s) 32 from n)) 0) (got (onto done (cells (entry_at s) 32 from n)) (from + 32 * n))
    (bad (fault_on names done (cells (entry_at s) 32 from n)))
unfolding fault_of
entries_on-is s names zero done from h = ap (got (onto done [])) (omega arith)
entries_on-is s names (suc n) done from h =
    let m : 32 * suc n ≡ 32 * n + 32 = mul-suc 32 n in
    let z : from + 32 + 32 * n ≡ from + 32 * suc n = omega arith in
    walk_bind entry _ s from
    ∙ rw (entry-there s from (omega arith))
    (asked s names done (entry_at s from) _ (from + 32)
    ∙ go (ltb (entry_at s from).index names) (eqb (kind (entry_at s from).global) 1) (fresh (entry_at s from).global done) _
    (fault_on names (entry_at s from ∷ done) (cells (entry_at s) 32 (from + 32) n)) (onto (entry_at s from ∷ done) (cells (entry_at s) 32 (from + 32) n))
    (from + 32 * suc n) (entries_on-is s names n (entry_at s from ∷ done) (from + 32) (omega arith) ∙ rw z))
  where
    fault : Bool → Bool → Bool → ℕ → ℕ
    fault a b c r = cond (eqb (cond a (cond b 0 11) 10) 0) (cond c r 12) (cond a (cond b 0 11) 10)

    go : (a b c : Bool) (g : Got (List Entry)) (r : ℕ) (es : List Entry) (k : ℕ) → g ≡ cond (eqb r 0) (got es k) (bad r)
        → pick a (pick b (pick c g (bad 12)) (bad 11)) (bad 10) ≡ cond (eqb (fault a b c r) 0) (got es k) (bad (fault a b c r))
    go true true true g r es k e = e
    go true true false g r es k e = refl
    go true false c g r es k e = refl
    go false b c g r es k e = refl

pub entries-is : (s : List ℕ) (names n from : ℕ) → from + 32 * n ≤ length s
    → walk (entries names n) s from
    ≡ cond (eqb (fault_on names [] (cells (entry_at s) 32 from n)) 0) (got (cells (entry_at s) 32 from n) (from + 32 * n))
    (bad (fault_on names [] (cells (entry_at s) 32 from n)))
unfolding entries
entries-is s names n from h = entries_on-is s names n [] from h

module _ (b : List ℕ) where
  pub opened-refused : {r : ℕ} → batched (walk batch b 0) ≡ Err r → opened b ≡ Err r
  unfolding opened opened_by opening
  opened-refused q = ap opened_by (then-bad batch _ b 0 (batched-refused (walk batch b 0) q))

  module _ {n : Names} (f : FoundAt b 0 n) where
    -- by the count that is read
    abbrev counted : ℕ → Got Start
    counted count =
        pick (leb (n.«end» + 4) (length b))
        (pick (non_neg (twos 32 count))
        (pick (leb (32 * count) (length b - (n.«end» + 4)))
        (got (record { layout = record { names = n; count = count; entries = n.«end» + 4 }; names = f.texts }) (n.«end» + 4))
        (bad 9))
        (bad 8))
        (bad 3)

    opening-is : walk opening b 0 ≡ counted (le_at 4 b n.«end»)
    unfolding opening
    opening-is =
        let count = le (take 4 (drop n.«end» b)) in
        rw (le_at-is 4 b n.«end»)
        (then-walk batch _ b 0 f.is ∙ pick_cong (leb (n.«end» + 4) (length b)) (bad 3) λ a.
        ask-is (non_neg (twos 32 count)) 8 _ b (n.«end» + 4) ∙ pick_cong (non_neg (twos 32 count)) (bad 8) λ c.
        ask-is (leb (32 * count) (length b - (n.«end» + 4))) 9 _ b (n.«end» + 4))

    pub opened-short : length b < n.«end» + 4 → opened b ≡ Err 3
    unfolding opened opened_by
    opened-short h = rw (opening-is, lt-leb (n.«end» + 4) (length b) h)

    module _ (h : n.«end» + 4 ≤ length b) where
      pub opened-negative : non_neg (twos 32 (le_at 4 b n.«end»)) ≡ false → opened b ≡ Err 8
      unfolding opened opened_by
      opened-negative q = rw (opening-is, le-leb (n.«end» + 4) (length b) h, q)

      module _ (q : non_neg (twos 32 (le_at 4 b n.«end»)) ≡ true) where
        pub opened-few : length b < n.«end» + 4 + 32 * le_at 4 b n.«end» → opened b ≡ Err 9
        unfolding opened opened_by
        opened-few l = rw (opening-is, le-leb (n.«end» + 4) (length b) h, q, lt-leb (32 * le_at 4 b n.«end») (length b - (n.«end» + 4)) (omega arith))

        pub opened-there : n.«end» + 4 + 32 * le_at 4 b n.«end» ≤ length b → opened b ≡ Ok (layout_at b n)
        unfolding opened opened_by
        opened-there l = rw (opening-is, le-leb (n.«end» + 4) (length b) h, q, le-leb (32 * le_at 4 b n.«end») (length b - (n.«end» + 4)) (omega arith))

pub opening-got : (b : List ℕ) (o : Start) (at : ℕ) → walk opening b 0 ≡ got o at → Opening b o at
unfolding opening
opening-got b o at q =
    chain_by (walk batch b 0) _ (sym (walk_bind batch _ b 0) ∙ q) λ n e u v.
    pick-by (leb (e + 4) (length b)) _ 3 v λ h r.
    let count = le (take 4 (drop e b)) in
    ask-by (non_neg (twos 32 count)) 8 _ b (e + 4) r λ c r.
    ask-by (leb (32 * count) (length b - (e + 4))) 9 _ b (e + 4) r λ d r.
    let w : Start = record { layout = record { names = n.place; count = count; entries = e + 4 }; names = n.texts } in
    let x : w ≡ o = cc in
    let y : e + 4 ≡ at = cc in
    let h1 = leb-true (e + 4) (length b) h in
    let d1 = leb-true (32 * count) (length b - (e + 4)) d in
    let f = found_by_lem b 0 n e (omega arith) u in
    let z : Opening b w at = record { found = f; texts = (found_end n u f).1; place = sym y; fits = omega arith } in
    rw x at z

-- what is open: its entries are there
pub open_fits : (b : List ℕ) {l : Layout} → opened b ≡ Ok l → l.entries + 32 * l.count ≤ length b
unfolding opened opened_by
open_fits b {l} q = go (walk opening b 0) refl q
  where
    go : (g : Got Start) → walk opening b 0 ≡ g → opened_by g ≡ Ok l → l.entries + 32 * l.count ≤ length b
    go (bad r) e q = never (cc)
    go (got o n) e q = let z : o.layout ≡ l = cc in rw z at (opening-got b o n e).fits

pub rest-is : (b : List ℕ) (o : Start) (at : ℕ) → walk opening b 0 ≡ got o at
    → walk script b 0 ≡ pick (eqb (fault_at b o.layout) 0)
    (pick (eqb (length b - (o.layout.entries + 32 * o.layout.count)) 0) (got (objects_at b o) (o.layout.entries + 32 * o.layout.count))
    (bad 13)) (bad (fault_at b o.layout))
unfolding script fault_at
rest-is b o at q =
    let g = opening-got b o at q in
    then-walk opening _ b 0 q
    ∙ (walk_bind (entries o.layout.names.count o.layout.count) _ b at
    ∙ rw (g.place, entries-is b o.layout.names.count o.layout.count o.layout.entries g.fits)
    (go (eqb (fault_on o.layout.names.count [] (cells (entry_at b) 32 o.layout.entries o.layout.count)) 0)
    (cells (entry_at b) 32 o.layout.entries o.layout.count) (o.layout.entries + 32 * o.layout.count)
    (fault_on o.layout.names.count [] (cells (entry_at b) 32 o.layout.entries o.layout.count))))
  where
    behind : List Entry → ℕ → Got Objects
    behind es n = walk (ask (eqb (length b - n) 0) 13 >> give (record { layout = o.layout; names = o.names; entries = es })) b n

    go : (t : Bool) (es : List Entry) (n r : ℕ)
        → chain (cond t (got es n) (bad r)) behind
        ≡ pick t (pick (eqb (length b - n) 0) (got (record { layout = o.layout; names = o.names; entries = es }) n) (bad 13)) (bad r)
    go true es n r = ask-is (eqb (length b - n) 0) 13 _ b n
    go false es n r = refl

pub run-script : (b : List ℕ) → run script 0 b ≡ out (walk script b 0)
run-script b = run-walk script b 0 (omega arith)

pub script-is : (b : List ℕ) → script_answer (run script 0 b) ≡ answer_by b (opened b)
unfolding opened opened_by answer_by script_answer script
script-is b = rw (run-script b) (go (walk opening b 0) refl)
  where
    left : (o : Start) (n : ℕ) → Dec (n < length b)
        → script_answer (out (pick (eqb (length b - n) 0) (got (objects_at b o) n) (bad 13))) ≡ cond (ltb n (length b)) (Err 13) (Ok o.layout)
    left o n (yes u) = rw (ne_eqb (length b - n) 0 (λ e. omega arith), lt-ltb n (length b) u)
    left o n (no u) = rw (eq-eqb (length b - n) 0 (omega arith), le-ltb n (length b) (omega arith))

    two : (t : Bool) (o : Start) (r : ℕ)
        → script_answer (out (pick t
        (pick (eqb (length b - (o.layout.entries + 32 * o.layout.count)) 0) (got (objects_at b o) (o.layout.entries + 32 * o.layout.count))
        (bad 13)) (bad r))) ≡ cond t (cond (ltb (o.layout.entries + 32 * o.layout.count) (length b)) (Err 13) (Ok o.layout)) (Err r)
    two true o r = left o (o.layout.entries + 32 * o.layout.count) (dec_lt (o.layout.entries + 32 * o.layout.count) (length b))
    two false o r = refl

    go : (g : Got Start) → walk opening b 0 ≡ g → script_answer (out (walk script b 0)) ≡ answer_by b (opened_by g)
    go (bad r) e = rw (then-bad opening _ b 0 e)
    go (got o n) e = rw (rest-is b o n e) (two (eqb (fault_at b o.layout) 0) o (fault_at b o.layout))

-- the same, answer by answer
module _ (b : List ℕ) where
  pub script-shut : {r : ℕ} → opened b ≡ Err r → script_answer (run script 0 b) ≡ Err r
  unfolding answer_by
  script-shut q = script-is b ∙ rw q

  module _ {l : Layout} (q : opened b ≡ Ok l) where
    pub script-fault : (fault_at b l ≡ 0 → ⊥) → script_answer (run script 0 b) ≡ Err (fault_at b l)
    unfolding answer_by
    script-fault n = script-is b ∙ rw (q, ne_eqb (fault_at b l) 0 n)

    module _ (f : fault_at b l ≡ 0) where
      pub script-left : l.entries + 32 * l.count < length b → script_answer (run script 0 b) ≡ Err 13
      unfolding answer_by
      script-left h = script-is b ∙ rw (q, f, lt-ltb (l.entries + 32 * l.count) (length b) h)

      pub script-accepted : length b ≤ l.entries + 32 * l.count → script_answer (run script 0 b) ≡ Ok l
      unfolding answer_by
      script-accepted h = script-is b ∙ rw (q, f, le-ltb (l.entries + 32 * l.count) (length b) h)
