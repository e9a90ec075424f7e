-- Laws of what the work buffer holds: objects entered one by one, and linked one by one. Assumes nothing.
use Rattle.std.specs.Prelude.{◌≡◌, refl, List, ℕ, zero, suc, ◌+◌, ◌-◌, ◌*◌, ◌^◌, ◌≤◌, ◌<◌, length}
use Rattle.std.proofs.Common.{sym, ◌∙◌, ap, inl, inr, arith}
use Rattle.std.proofs.Math.Logic.{by_cases}
use Rattle.std.proofs.Math.Decide.{dec_lt, ℕ_discrete}
use Rattle.base.specs.Number.{le_at}
use Rattle.text.specs.Utf8.{utf8}
use Rattle.batch.specs.Places.{place_at}
use Rattle.batch.specs.Holds.{name_at}
use Rattle.batch.specs.declared.names.Names.{Names}
use Rattle.batch.specs.declared.places.Place.{Place}
use Rattle.scriptblock.specs.Script.{Objects, object_name}
use Rattle.scriptblock.specs.ScriptFaults.{entry_of}
use Rattle.scriptblock.specs.ScriptAccepted.{ScriptParts}
use Rattle.scriptblock.proofs.ScriptAccepted.{script-parts, answer_of, entries_of_lem, entry-count, entry-is, object_name_lem}
use Rattle.scriptblock.specs.declared.script.Entry.{Entry}
use Rattle.scriptblock.specs.declared.script.Layout.{Layout}
use Rattle.table.specs.Words.{stored, Kept}
use Rattle.table.specs.WordLaws.{kept_read, kept_then, kept_wider, stored-kept, stored-read}
use Rattle.table.specs.Entries.{find}
use Rattle.table.specs.EntryLaws.{find-le, find-key, find_none}
use Rattle.table.specs.Table.{record_at, cleared, Added}
use Rattle.table.specs.AddedLaws.{added-read, added-kept}
use Rattle.table.specs.TableLaws.{record_other, holds-column, holds-cleared, cleared-kept}
use Rattle.objects.specs.Numbers.{entry_no, number_of}
use Rattle.objects.specs.NumberLaws.{number-zero, number-only}
use Rattle.objects.specs.Work.{first_of, second_of, packed, described, Columns, Entered, AllIn}

-- ---- a record described

module _ (at : ℕ) (p : Place) (number len : ℕ) (w : List ℕ) (room : at + 44 ≤ length w) where
  abbrev w1 : List ℕ
  w1 = stored 4 w (at + 28) p.start

  abbrev w2 : List ℕ
  w2 = stored 4 w1 (at + 32) (packed p)

  abbrev w3 : List ℕ
  w3 = stored 4 w2 (at + 36) number

  one : Kept (at + 28) (at + 28 + 4) w w1
  one = stored-kept 4 w (at + 28) p.start (omega arith)

  two : Kept (at + 32) (at + 32 + 4) w1 w2
  two = stored-kept 4 w1 (at + 32) (packed p) (omega (arith, one.size))

  three : Kept (at + 36) (at + 36 + 4) w2 w3
  three = stored-kept 4 w2 (at + 36) number (omega (arith, one.size, two.size))

  four : Kept (at + 40) (at + 40 + 4) w3 (described at p number len w)
  unfolding described
  four = stored-kept 4 w3 (at + 40) len (omega (arith, one.size, two.size, three.size))

  -- only the record's own columns are written
  pub described-kept : Kept (at + 24) (at + 44) w (described at p number len w)
  described-kept =
      kept_then (kept_wider one (at + 24) (at + 44) (omega arith) (omega arith))
      (kept_then (kept_wider two (at + 24) (at + 44) (omega arith) (omega arith))
      (kept_then (kept_wider three (at + 24) (at + 44) (omega arith) (omega arith)) (kept_wider four (at + 24) (at + 44) (omega arith) (omega arith))))

  -- and they read back
  pub described-start : p.start < 2 ^ 32 → le_at 4 (described at p number len w) (at + 28) ≡ p.start
  described-start h =
      kept_read four 4 (at + 28) (inl (omega arith)) ∙ kept_read three 4 (at + 28) (inl (omega arith)) ∙ kept_read two 4 (at + 28) (inl (omega arith))
      ∙ stored-read 4 w (at + 28) p.start (omega arith) h

  pub described-size : packed p < 2 ^ 32 → le_at 4 (described at p number len w) (at + 32) ≡ packed p
  described-size h =
      kept_read four 4 (at + 32) (inl (omega arith)) ∙ kept_read three 4 (at + 32) (inl (omega arith))
      ∙ stored-read 4 w1 (at + 32) (packed p) (omega (arith, one.size)) h

  pub described-number : number < 2 ^ 32 → le_at 4 (described at p number len w) (at + 36) ≡ number
  described-number h = kept_read four 4 (at + 36) (inl (omega arith)) ∙ stored-read 4 w2 (at + 36) number (omega (arith, one.size, two.size)) h

  pub described-length : len < 2 ^ 32 → le_at 4 (described at p number len w) (at + 40) ≡ len
  unfolding described
  described-length h = stored-read 4 w3 (at + 40) len (omega (arith, one.size, two.size, three.size)) h

-- ---- objects entered

columns-same : {b : List ℕ} {n : Names} {e : Entry} {w w' : List ℕ} {at : ℕ} → Columns b n e w at
    → ((c : ℕ) → 28 ≤ c → c + 4 ≤ 44 → le_at 4 w' (at + c) ≡ le_at 4 w (at + c)) → Columns b n e w' at
columns-same t same = record {
  start = same 28 (omega arith) (omega arith) ∙ t.start;
  size = same 32 (omega arith) (omega arith) ∙ t.size;
  number = same 36 (omega arith) (omega arith) ∙ t.number;
  rendered = same 40 (omega arith) (omega arith) ∙ t.rendered;
}

module _ (b : List ℕ) (l : Layout) where
  pub entered-none : (w : List ℕ) → length w ≡ 56 * l.count → 3 * l.count < 2 ^ 32 → Entered b l 0 (cleared (3 * l.count) w)
  entered-none w size few = record {
    size = (cleared-kept (3 * l.count) w (omega arith)).size ∙ size;
    keys = holds-cleared (3 * l.count) w (omega arith) 44 (λ i. first_of (entry_of b l i).global) (λ i. second_of (entry_of b l i).global) few (omega arith);
    columns = λ i h. absurd (omega arith);
  }

  -- one more: the table has it, and its record is described
  module _ {i : ℕ} {w v w' : List ℕ} (t : Entered b l i w) (h : i < l.count) {e : Entry} (is : e ≡ entry_of b l i)
      (a : Added (3 * l.count) 44 i (first_of e.global) (second_of e.global) w v)
      (q : w' ≡ described (record_at (3 * l.count) 44 i) (place_at b l.names e.index) e.number (length (utf8 (name_at b (place_at b l.names e.index) e.number))) v) where
    abbrev place : Place
    place = place_at b l.names e.index

    abbrev len : ℕ
    len = length (utf8 (name_at b place e.number))

    sized : length v ≡ 56 * l.count
    sized = (added-kept a).size ∙ t.size

    fits : record_at (3 * l.count) 44 i + 44 ≤ length v
    fits = omega (arith, sized)

    change : Kept (record_at (3 * l.count) 44 i + 24) (record_at (3 * l.count) 44 i + 44) v w'
    change = rw q (described-kept (record_at (3 * l.count) 44 i) place e.number len v fits)

    own : place.start < 2 ^ 32 → packed place < 2 ^ 32 → e.number < 2 ^ 32 → len < 2 ^ 32 → Columns b l.names e w' (record_at (3 * l.count) 44 i)
    own hs hp hn hl = rw q (record {
      start = described-start (record_at (3 * l.count) 44 i) place e.number len v fits hs;
      size = described-size (record_at (3 * l.count) 44 i) place e.number len v fits hp;
      number = described-number (record_at (3 * l.count) 44 i) place e.number len v fits hn;
      rendered = described-length (record_at (3 * l.count) 44 i) place e.number len v fits hl;
    })

    other : (j : ℕ) → j < i → Columns b l.names (entry_of b l j) w' (record_at (3 * l.count) 44 j)
    other j g = columns-same (t.columns j g) λ c lo up.
        kept_read change 4 (record_at (3 * l.count) 44 j + c)
        (record_other (3 * l.count) 44 i (record_at (3 * l.count) 44 i + 24) (record_at (3 * l.count) 44 i + 44) (omega arith) (omega arith) j c 4 (λ x. omega arith) up)
        ∙ added-read a 4 j c (omega arith) up

    pub entered-more : place.start < 2 ^ 32 → packed place < 2 ^ 32 → e.number < 2 ^ 32 → len < 2 ^ 32 → Entered b l (i + 1) w'
    entered-more hs hp hn hl =
        let g = a.holds (λ j. first_of (entry_of b l j).global) (λ j. second_of (entry_of b l j).global) t.keys refl (rw is) in
        record {
          size = change.size ∙ sized;
          keys = holds-column g change i (omega arith) (omega arith);
          columns = λ j m. by_cases (ℕ_discrete j i)
              (λ (x : j ≡ i). rw (x, ← is) (own hs hp hn hl))
              (λ (x : ¬ (j ≡ i)). other j (omega arith));
        }

  -- ---- objects linked

  -- a link stored
  module _ {k : ℕ} {w : List ℕ} (t : Entered b l k w) (i v : ℕ) (h : i < l.count) where
    fitting : record_at (3 * l.count) 44 i + 24 + 4 ≤ length w
    fitting = omega (arith, t.size)

    abbrev linked : List ℕ
    linked = stored 4 w (record_at (3 * l.count) 44 i + 24) v

    store : Kept (record_at (3 * l.count) 44 i + 24) (record_at (3 * l.count) 44 i + 24 + 4) w linked
    store = stored-kept 4 w (record_at (3 * l.count) 44 i + 24) v fitting

    pub link-kept : Entered b l k linked
    link-kept = record {
      size = store.size ∙ t.size;
      keys = holds-column t.keys store i (omega arith) (omega arith);
      columns = λ j g. columns-same (t.columns j g) λ c lo up. kept_read store 4 (record_at (3 * l.count) 44 j + c) (by_cases (ℕ_discrete i j)
          (λ (x : i ≡ j). inr (rw x (omega arith)))
          (λ (x : ¬ (i ≡ j)). record_other (3 * l.count) 44 i (record_at (3 * l.count) 44 i + 24) (record_at (3 * l.count) 44 i + 24 + 4) (omega arith) (omega arith) j c 4 x up));
    }

    pub link-read : v < 2 ^ 32 → le_at 4 linked (record_at (3 * l.count) 44 i + 24) ≡ v
    link-read g = stored-read 4 w (record_at (3 * l.count) 44 i + 24) v fitting g

    pub link-other : (j : ℕ) → j < i → le_at 4 linked (record_at (3 * l.count) 44 j + 24) ≡ le_at 4 w (record_at (3 * l.count) 44 j + 24)
    link-other j g = kept_read store 4 (record_at (3 * l.count) 44 j + 24)
        (record_other (3 * l.count) 44 i (record_at (3 * l.count) 44 i + 24) (record_at (3 * l.count) 44 i + 24 + 4) (omega arith) (omega arith) j 24 4 (λ x. omega arith) (omega arith))

-- ---- the objects of a block that was read

module _ {b : List ℕ} {o : Objects} {w : List ℕ} (t : AllIn b o w) where
  pub parts_of_lem : ScriptParts b o.layout
  parts_of_lem = script-parts b o.layout (answer_of t.read)

  pub entries-length : length o.entries ≡ o.layout.count
  entries-length = ap length (sym (entries_of_lem t.read)) ∙ entry-count b o.layout parts_of_lem

  module _ (i : ℕ) (h : i < o.layout.count) where
    pub entry_no_lem : entry_no o i ≡ entry_of b o.layout i
    entry_no_lem = rw (← entries_of_lem t.read) (entry-is b o.layout parts_of_lem i h)

    pub name_no : object_name o (entry_no o i) ≡ name_at b (place_at b o.layout.names (entry_no o i).index) (entry_no o i).number
    name_no = rw (entry_no_lem) (object_name_lem b o.layout parts_of_lem i h o t.read)

  -- no other entry has the global index of an entry
  only : (g i : ℕ) → i < o.layout.count → (entry_no o i).global ≡ g → (j : ℕ) → j < o.layout.count → (entry_no o j).global ≡ g → j ≡ i
  only g i h p j l q =
      let a : (entry_of b o.layout i).global ≡ g = rw (entry_no_lem i h) at p in
      let c : (entry_of b o.layout j).global ≡ g = rw (entry_no_lem j l) at q in
      by_cases (dec_lt i j)
      (λ (x : i < j). absurd (parts_of_lem.distinct i j x l (a ∙ sym c)))
      (λ (x : ¬ (i < j)). by_cases (ℕ_discrete j i) (λ (y : j ≡ i). y) (λ (y : ¬ (j ≡ i)). absurd (parts_of_lem.distinct j i (omega arith) h (c ∙ sym a))))

  -- what a look-up finds is the number of a global index
  pub found_number : (g r : ℕ)
      → r ≡ find (λ i. first_of (entry_of b o.layout i).global) (λ i. second_of (entry_of b o.layout i).global) (first_of g) (second_of g) o.layout.count
      → r ≡ number_of o.entries g
  found_number g r f = go r f
    where
      los : ℕ → ℕ
      los i = first_of (entry_of b o.layout i).global

      his : ℕ → ℕ
      his i = second_of (entry_of b o.layout i).global

      go : (r : ℕ) → r ≡ find los his (first_of g) (second_of g) o.layout.count → r ≡ number_of o.entries g
      go zero f = sym (number-zero o.entries g λ i h e.
          let k : i < o.layout.count = omega (arith, entries-length) in
          let x : (entry_of b o.layout i).global ≡ g = rw (entry_no_lem i k) at e in
          find_none los his (first_of g) (second_of g) o.layout.count (sym f) i k (ap first_of x) (ap second_of x))
      go (suc i) f =
          let k : i < o.layout.count = omega (arith, find-le los his (first_of g) (second_of g) o.layout.count) in
          let s = find-key los his (first_of g) (second_of g) o.layout.count (omega arith) in
          let n : find los his (first_of g) (second_of g) o.layout.count - 1 ≡ i = omega arith in
          let x : (entry_of b o.layout i).global ≡ g = rw n at s.1 in
          let y : (entry_no o i).global ≡ g = rw (entry_no_lem i k) x in
          let z : number_of o.entries g ≡ i + 1 = number-only o.entries g i (omega (arith, entries-length)) y (λ j l e. only g i k y j (omega (arith, entries-length)) e) in
          omega arith
