-- "Questions in order": "The first question that fails gives its refusal". What it is that a corpus fails question q in block j: it passes
-- every question that is asked before, and fails this one. Inside a block the order is the reading's (batch/Batch.antt, scriptblock/Script.antt, zen/Zen.antt).
use Rattle.std.specs.Prelude.{◌≡◌, refl, ◌↔◌, ◌⊎◌, Bool, true, false, ◌&&◌, ◌||◌, ℕ, ◌+◌, ◌≤◌, ◌<◌, T}
use Rattle.std.proofs.Common.{ap, inl, inr, arith}
use mathlib.Core.List.Memᴰ
use mathlib.Core.List.{List, [], ◌∷◌, ◌++◌, map, Memᴰ}
use Rattle.std.proofs.Math.Option.{Option, none, some}
use borrow.Author.Tests.{le-leb, lt-leb, leb-true, leb-false}
use Rattle.std.proofs.Math.Dec.{leb}
use Rattle.std.proofs.Math.ListN.{length}
use Rattle.base.specs.Find.{or_else}
use Rattle.base.specs.FindLaws.{none-some}
use Rattle.base.specs.House.{longest_output}
use Rattle.base.specs.Never.{never}
use Rattle.base.specs.Perm.{All}
use Rattle.base.specs.Reading.{Out, refused, gives, run, run_block}
use Rattle.scriptblock.specs.Script.{Objects, script}
use Rattle.zen.specs.Zen.{package_block}
use Rattle.meaning.specs.Frame.{Part, Corpus, framed}
use Rattle.meaning.specs.Key.{Key, same_key}
use Rattle.meaning.specs.KeyLaws.{same_key→eq, same_key-refl}
use Rattle.meaning.specs.Resolve.{Limits}
use Rattle.meaning.specs.Report.{report_of}
use Rattle.meaning.specs.Call.{Answer, refused_in, accepted, ◌>>=◌, need, in_block, read_from, Placed, placed_from, has_key, first_repeat, none_twice}
use Rattle.meaning.specs.Call.{Opened, opened_in, opened, work_bytes, weighed, answer}
use Rattle.meaning.specs.Table.{repeats}
use Rattle.meaning.proofs.Table.{or_first, or_second}
use Rattle.meaning.specs.Accepted.{Good, packages_in}
use Rattle.meaning.proofs.Accepted.{in_accepted, read-good, good-read}
pub use Rattle.meaning.specs.Order.{Earlier, class_of}

module _ (m : Limits) (s : List ℕ) (work room : ℕ) where
  pub data FirstFailed : ℕ → ℕ → Type 0 where
    -- "Corpus, before any block": 1 and 2
    framing : {q : ℕ} → framed s ≡ refused q → FirstFailed q 0
    -- "Then the blocks in corpus order, each to its end": the script block
    script-block : {q : ℕ} {c : Corpus} → framed s ≡ gives c → run script 0 c.script ≡ refused q → FirstFailed q 1
    -- a package, those before it being passed
    package_block_lem : {q : ℕ} {c : Corpus} {o : Objects} (before : List Part) (p : Part) (after : List Part) → framed s ≡ gives c
        → run script 0 c.script ≡ gives o → c.parts ≡ before ++ p ∷ after → All Good before → run_block package_block p.block ≡ refused q
        → FirstFailed q (2 + length before)
    -- "Then: no class key twice? 24 (block of the first class, in package and export order, whose key an earlier one has)"
    key_twice : {c : Corpus} {o : Objects} (before : List Placed) (x : Placed) (after : List Placed) → framed s ≡ gives c
        → run script 0 c.script ≡ gives o → All Good c.parts → placed_from m.objects o 2 (packages_in c) ≡ before ++ x ∷ after
        → repeats [] (map class_of before) ≡ false → Earlier before x → FirstFailed 24 x.block
    -- "The last two refuse with block 0. Work at least 64 × (script objects + classes + candidates) bytes? 25"
    work-short : {d : Opened} → opened m s ≡ accepted d → work < work_bytes d → FirstFailed 25 0
    -- "Report at most 4,294,967,299 bytes, and within its buffer? 26"
    report-long : {d : Opened} → opened m s ≡ accepted d → work_bytes d ≤ work
        → (length (report_of m d.objects d.packages) ≤ longest_output → length (report_of m d.objects d.packages) ≤ room → ⊥) → FirstFailed 26 0

-- ---- the binds of a refused answer

module _ {A B : Type 0} where
  pub bind_fails : {P : Type 0} (n : Answer A) (k : A → Answer B) {q j : ℕ} → (n >>= k) ≡ refused_in q j
      → (n ≡ refused_in q j → P) → ((a : A) → n ≡ accepted a → k a ≡ refused_in q j → P) → P
  bind_fails (refused_in r i) k {q} {j} e f g =
      let h : r ≡ q = cc in
      let l : i ≡ j = cc in
      f (rw (h, l))
  bind_fails (accepted a) k e f g = g a refl e

in_fails : {A : Type 0} (i : ℕ) (o : Out A) {q j : ℕ} → in_block i o ≡ refused_in q j → (o ≡ refused q) × (j ≡ i)
in_fails i (refused r) e = (cc, cc)
in_fails i (gives a) e = never (cc)

pub need_fails : (t : Bool) (q j : ℕ) {r i : ℕ} → need t q j ≡ refused_in r i → (t ≡ false) × (r ≡ q) × (i ≡ j)
need_fails true q j e = never (cc)
need_fails false q j e = (refl, cc, cc)

-- ---- packages

-- the first package that isn't passed
abbrev FirstBad : ℕ → List Part → ℕ → ℕ → Type 0
FirstBad i l q j =
    (before : List Part) × (p : Part) × (after : List Part) × (l ≡ before ++ p ∷ after) × All Good before × (run_block package_block p.block ≡ refused q)
    × (j ≡ i + length before)

read_fails : (i : ℕ) (l : List Part) {q j : ℕ} → read_from i l ≡ refused_in q j → FirstBad i l q j
read_fails i [] e = never (cc)
read_fails i (p ∷ l) {q} {j} e =
    bind_fails (in_block i (run_block package_block p.block)) _ e
    (λ h. let (r, at) = in_fails i (run_block package_block p.block) h in ([], p, l, refl, tt, r, omega arith))
    λ r h e. bind_fails (read_from (i + 1) l) _ e
    (λ h'. let (before, x, after, is, good, bad, at) = read_fails (i + 1) l h' in
    (p ∷ before, x, after, ap (λ l. p ∷ l) is, ((r, in_accepted i (run_block package_block p.block) r h), good), bad, omega arith))
    λ rs h' e. never (cc)

fails_read : (i : ℕ) (before : List Part) (p : Part) (after : List Part) {q : ℕ} → All Good before → run_block package_block p.block ≡ refused q
    → read_from i (before ++ p ∷ after) ≡ refused_in q (i + length before)
fails_read i [] p after {q} good bad = rw bad (ap (refused_in q) (omega arith))
fails_read i (x ∷ before) p after {q} good bad =
    rw (good.0.1, fails_read (i + 1) before p after good.1 bad) (ap (refused_in q) (omega arith))

-- ---- keys

or_true : (a b : Bool) → T (a || b) → T a ⊎ T b
or_true true b t = inl t
or_true false b t = inr t

true_or : (a b : Bool) → T a ⊎ T b → T (a || b)
true_or true b h = tt
true_or false b (inl t) = absurd t
true_or false b (inr t) = t

abbrev Seen : List Key → List Placed → Placed → Type 0
Seen seen before x = T (has_key seen x.class.key) ⊎ Earlier before x

abbrev FirstTwice : List Key → List Placed → Placed → Type 0
FirstTwice seen l x =
    (before : List Placed) × (after : List Placed) × (l ≡ before ++ x ∷ after) × (repeats seen (map class_of before) ≡ false) × Seen seen before x

some_is : {a b : Placed} → some a ≡ some b → a ≡ b
some_is e = cc

repeat_first : (seen : List Key) (l : List Placed) (x : Placed) → first_repeat seen l ≡ some x → FirstTwice seen l x
repeat_first seen [] x e = none-some e
repeat_first seen (c ∷ l) x e = go (has_key seen c.class.key) refl e (repeat_first (c.class.key ∷ seen) l x)
  where
    later : (before : List Placed) → Seen (c.class.key ∷ seen) before x → Seen seen (c ∷ before) x
    later before (inl t) = by (or_true (same_key c.class.key x.class.key) (has_key seen x.class.key) t)
      where
        by : T (same_key c.class.key x.class.key) ⊎ T (has_key seen x.class.key) → Seen seen (c ∷ before) x
        by (inl t) = inr (c, Memᴰ.head refl, same_key→eq c.class.key x.class.key t)
        by (inr t) = inl t
    later before (inr (y, y-in, y-is)) = inr (y, Memᴰ.tail y-in, y-is)

    go : (b : Bool) → has_key seen c.class.key ≡ b → or_else b c (first_repeat (c.class.key ∷ seen) l) ≡ some x
        → (first_repeat (c.class.key ∷ seen) l ≡ some x → FirstTwice (c.class.key ∷ seen) l x) → FirstTwice seen (c ∷ l) x
    go true h e ih = let is : c ≡ x = some_is e in ([], l, ap (λ y. y ∷ l) is, refl, inl (rw (← is, h) tt))
    go false h e ih =
        let (before, after, is, once, has) = ih e in
        (c ∷ before, after, ap (λ l. c ∷ l) is, rw (h, once), later before has)

first_repeat_lem : (seen : List Key) (before : List Placed) (x : Placed) (after : List Placed) → repeats seen (map class_of before) ≡ false → Seen seen before x
    → first_repeat seen (before ++ x ∷ after) ≡ some x
first_repeat_lem seen [] x after once (inl t) = go (has_key seen x.class.key) t
  where
    go : (b : Bool) → T b → or_else b x (first_repeat (x.class.key ∷ seen) after) ≡ some x
    go true t = refl
    go false t = absurd t
first_repeat_lem seen [] x after once (inr (y, y-in, y-is)) = absurd (Memᴰ.not-nil y-in)
first_repeat_lem seen (c ∷ before) x after once has =
    rw (or_first (has_key seen c.class.key) _ once)
    (first_repeat_lem (c.class.key ∷ seen) before x after (or_second (has_key seen c.class.key) _ once) (sooner has))
  where
    sooner : Seen seen (c ∷ before) x → Seen (c.class.key ∷ seen) before x
    sooner (inl t) = inl (true_or (same_key c.class.key x.class.key) (has_key seen x.class.key) (inr t))
    sooner (inr (y, Memᴰ.head p, y-is)) =
        inl (true_or (same_key c.class.key x.class.key) (has_key seen x.class.key) (inl (rw (← y-is, p) (same_key-refl c.class.key))))
    sooner (inr (y, Memᴰ.tail y-in, y-is)) = inr (y, y-in, y-is)

twice_fails : (x : Option Placed) {q j : ℕ} → none_twice x ≡ refused_in q j → (c : Placed) × (x ≡ some c) × (q ≡ 24) × (j ≡ c.block)
twice_fails none e = never (cc)
twice_fails (some c) e = (c, refl, cc, cc)

-- ---- 25 and 26

enough : (n work : ℕ) → need (leb n work) 25 0 ≡ accepted tt → n ≤ work
enough n work k = go (leb n work) refl k
  where
    go : (t : Bool) → leb n work ≡ t → need t 25 0 ≡ accepted tt → n ≤ work
    go true e k = leb-true n work e
    go false e k = never (cc)

too_long : (n most room : ℕ) → leb n most && leb n room ≡ false → n ≤ most → n ≤ room → ⊥
too_long n most room long a b = let e : true ≡ false = rw (le-leb n most a, le-leb n room b) at long in never (cc)

long_too : (n most room : ℕ) → (n ≤ most → n ≤ room → ⊥) → leb n most && leb n room ≡ false
long_too n most room h = go (leb n most) (leb n room) refl refl
  where
    go : (a b : Bool) → leb n most ≡ a → leb n room ≡ b → a && b ≡ false
    go true true p q = absurd (h (leb-true n most p) (leb-true n room q))
    go true false p q = refl
    go false b p q = refl

-- ---- THE THEOREM: the answer is a refusal by question q in block j exactly where this is the first that fails

module _ (m : Limits) (s : List ℕ) (work room : ℕ) where
  abbrev First : ℕ → ℕ → Type 0
  First q j = FirstFailed m s work room q j

  twice-first : (c : Corpus) (o : Objects) → framed s ≡ gives c → run script 0 c.script ≡ gives o → All Good c.parts
      → {q j : ℕ} → none_twice (first_repeat [] (placed_from m.objects o 2 (packages_in c))) ≡ refused_in q j → First q j
  twice-first c o framed_is script-is good e =
      let (x, found, is, at) = twice_fails (first_repeat [] (placed_from m.objects o 2 (packages_in c))) e in
      let (before, after, placed-is, once, has) = repeat_first [] (placed_from m.objects o 2 (packages_in c)) x found in
      rw (is, at) (key_twice before x after framed_is script-is good placed-is once (earlier before x has))
    where
      earlier : (before : List Placed) (x : Placed) → Seen [] before x → Earlier before x
      earlier before x (inl t) = absurd t
      earlier before x (inr h) = h

  opened_fails : {q j : ℕ} → opened m s ≡ refused_in q j → First q j
  unfolding opened opened_in
  opened_fails e =
      bind_fails (in_block 0 (framed s)) _ e (λ h. let (r, at) = in_fails 0 (framed s) h in rw at (framing r)) λ c f e.
      let framed_is = in_accepted 0 (framed s) c f in
      bind_fails (in_block 1 (run script 0 c.script)) _ e
      (λ h. let (r, at) = in_fails 1 (run script 0 c.script) h in rw at (script-block framed_is r)) λ o g e.
      let script-is = in_accepted 1 (run script 0 c.script) o g in
      bind_fails (read_from 2 c.parts) _ e
      (λ h. let (before, p, after, is, good, bad, at) = read_fails 2 c.parts h in
      rw at (package_block_lem before p after framed_is script-is is good bad)) λ ps h e.
      bind_fails (none_twice (first_repeat [] (placed_from m.objects o 2 ps))) _ e
      (λ k. let (good, is) = read-good 2 c.parts ps h in twice-first c o framed_is script-is good (rw is at k)) λ _ k e. never (cc)

  weighed_fails : (d : Opened) → opened m s ≡ accepted d → {q j : ℕ} → weighed m work room d ≡ refused_in q j → First q j
  unfolding weighed
  weighed_fails d h e =
      let n = length (report_of m d.objects d.packages) in
      bind_fails (need (leb (work_bytes d) work) 25 0) _ e
      (λ k. let (short, is, at) = need_fails (leb (work_bytes d) work) 25 0 k in rw (is, at) (work-short h (leb-false (work_bytes d) work short)))
      λ _ k e. bind_fails (need (leb n longest_output && leb n room) 26 0) _ e
      (λ l. let (long, is, at) = need_fails (leb n longest_output && leb n room) 26 0 l in
      rw (is, at) (report-long h (enough (work_bytes d) work k) (too_long n longest_output room long)))
      λ _ l e. never (cc)

  failed-answer : {q j : ℕ} → First q j → answer m s work room ≡ refused_in q j
  unfolding answer opened opened_in weighed
  failed-answer (framing f) = rw f
  failed-answer (script-block f b) = rw (f, b)
  failed-answer (package_block_lem before p after f o is good bad) = rw (f, o, is, fails_read 2 before p after good bad)
  failed-answer (key_twice {c} before x after f o good is once has) = rw (f, o, good-read 2 c.parts good, is, first_repeat_lem [] before x after once (inr has))
  failed-answer (work-short {d} h short) = rw (h, lt-leb (work_bytes d) work short)
  failed-answer (report-long {d} h enough long) =
      rw (h, le-leb (work_bytes d) work enough, long_too (length (report_of m d.objects d.packages)) longest_output room long)

  pub first-failed : (q j : ℕ) → (answer m s work room ≡ refused_in q j) ↔ FirstFailed m s work room q j
  unfolding answer
  first-failed q j = (λ e. bind_fails (opened m s) _ e opened_fails (λ d h e. weighed_fails d h e), failed-answer)
