-- All that a caller needs of an accepted script block, in one place: what was read of it, how much of it there is, what its names' places
-- hold, and which entry has a global index. Assumes nothing.
use Rattle.std.specs.Prelude.{◌≡◌, refl, List, ℕ, ◌+◌, ◌*◌, ◌<◌, length, get_or, Ok}
use Rattle.std.proofs.Common.{sym, ◌∙◌, ap, arith, eqb-true, eq-eqb, ne_eqb}
use Rattle.std.proofs.lemmas.Bool.{eqb-false}
use Rattle.base.specs.Reading.{gives, run}
use Rattle.base.specs.SeekLaws.{never-seek, first-seek, seek-never, seek-first}
use Rattle.batch.specs.Holds.{holds-name}
use Rattle.scriptblock.specs.Script.{Objects, script}
use Rattle.scriptblock.specs.ScriptAnswers.{entry_at, no_entry, script_answer}
use Rattle.scriptblock.proofs.ScriptAccepted.{accepted-objects, answer_of, entries_of_lem, names_of_lem, script-parts, entry-count, name-count, entry-is}
use Rattle.scriptblock.specs.Objects.{entry_number}
use Rattle.scriptblock.specs.declared.script.Entry.{Entry}
use Rattle.scriptblock.specs.declared.script.Layout.{Layout}
pub use Rattle.scriptblock.specs.ScriptFacts.{ScriptFacts}

module _ (b : List ℕ) (l : Layout) (acc : script_answer (run script 0 b) ≡ Ok l) where
  -- the facts of what is known to have been read
  pub objects-facts : (o : Objects) → run script 0 b ≡ gives o → ScriptFacts b l o
  objects-facts o q =
      let p = script-parts b l acc in
      let e : o.layout ≡ l = let z : Ok o.layout ≡ Ok l = sym (answer_of q) ∙ acc in cc in
      let x = entries_of_lem q in
      let n = names_of_lem q in
      let at : (i : ℕ) → i < l.count → entry_at b (l.entries + 32 * i) ≡ get_or o.entries i no_entry = λ i h. sym (rw x at (entry-is b l p i h)) in
      record {
        accepted = acc;
        is = q;
        layout = e;
        entries_of_lem = x;
        names_of_lem = n;
        entries = sym (ap length x) ∙ entry-count b l p;
        names = sym (ap length n) ∙ name-count b l p;
        size = p.size;
        entry_at_lem = at;
        index = λ i h. rw (at i h) at (p.index i h);
        kinds = λ i h. rw (at i h) at (p.kinds i h);
        distinct = λ i j k h. rw (at i (omega arith), at j h) at (p.distinct i j k h);
        holds = λ y i h. rw (sym p.names ∙ n) at (holds-name b l.names y (p.held y) i h);
      }

  -- and what was read
  pub script-facts : (o : Objects) × ScriptFacts b l o
  script-facts = let (o, q, e) = accepted-objects (run script 0 b) acc in (o, objects-facts o q)

-- ---- an entry by its global index

module _ (g : ℕ) (es : List Entry) where
  -- none has it
  pub number-none : entry_number g es ≡ 0 → (i : ℕ) → i < length es → (get_or es i no_entry).global ≡ g → ⊥
  number-none q i h = eqb-false (get_or es i no_entry).global g (seek-never _ no_entry es q i h)

  pub none_number : ((i : ℕ) → i < length es → (get_or es i no_entry).global ≡ g → ⊥) → entry_number g es ≡ 0
  none_number f = never-seek _ no_entry es (λ i h. ne_eqb (get_or es i no_entry).global g (f i h))

  -- the first that has it
  pub number_is : (k : ℕ) → entry_number g es ≡ k + 1 → (k < length es) × ((get_or es k no_entry).global ≡ g)
  number_is k q = let f = seek-first _ no_entry es k q in (f.here, eqb-true (get_or es k no_entry).global g f.passes)

  pub is_number : (k : ℕ) → k < length es → (get_or es k no_entry).global ≡ g → ((i : ℕ) → i < k → (get_or es i no_entry).global ≡ g → ⊥) → entry_number g es ≡ k + 1
  is_number k h e f = first-seek _ no_entry es k (record { here = h; passes = eq-eqb (get_or es k no_entry).global g e; before = λ i j. ne_eqb (get_or es i no_entry).global g (f i j) })

-- of an accepted block: each entry has its own number
pub own-number : {b : List ℕ} {l : Layout} {o : Objects} → ScriptFacts b l o → (k : ℕ) → k < l.count → entry_number (get_or o.entries k no_entry).global o.entries ≡ k + 1
own-number {b} {l} {o} f k h = is_number (get_or o.entries k no_entry).global o.entries k (rw f.entries h) refl (λ i j. f.distinct i k j h)
