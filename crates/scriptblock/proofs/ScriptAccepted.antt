-- What an accepted script block holds, and where: the tie of its reading to its layout.
use Rattle.std.specs.Prelude.{◌≡◌, refl, List, [], ◌++◌, ℕ, ◌+◌, ◌*◌, ◌-◌, ◌≤◌, ◌<◌, eqb, length, get_or, Ok, Err}
use Rattle.std.proofs.Common.{sym, ◌∙◌, ap, arith, eqb-true}
use Rattle.base.specs.Never.{never}
use Rattle.text.specs.Name.{base, suffix}
use Rattle.base.specs.NumberLaws.{Bytes}
use Rattle.text.specs.Utf16.{Scalars}
use Rattle.base.specs.Reading.{Out, refused, gives, Got, bad, got, run, walk}
use Rattle.base.specs.ReadingLaws.{walk_bind, chain_by, pick-by, out}
use Rattle.base.specs.ReadingRows.{cells_at, cells-length}
use Rattle.batch.specs.Places.{place_at, part_at}
use Rattle.batch.specs.PlacesLaws.{texts-length, place-text, place-scalars}
use Rattle.batch.specs.FoundBatch.{found-held}
use Rattle.scriptblock.specs.Script.{opening, Objects, script, object_name}
use Rattle.scriptblock.specs.ScriptAnswers.{entry_at, no_entry, fault_at, script_answer, entries_of, object_names}
use Rattle.scriptblock.specs.ScriptFaults.{entry_of, no_fault, fresh-all, clear-own, clear-new}
use Rattle.scriptblock.specs.ScriptLaws.{objects_at}
use Rattle.scriptblock.proofs.ScriptLaws.{opening-got, rest-is, run-script}
use Rattle.scriptblock.specs.declared.script.Layout.{Layout}
pub use Rattle.scriptblock.specs.ScriptAccepted.{ScriptParts}

-- an answer says what the reading came to
pub accepted-objects : (x : Out Objects) {l : Layout} → script_answer x ≡ Ok l → (o : Objects) × (x ≡ gives o) × (o.layout ≡ l)
unfolding script_answer
accepted-objects (gives o) q = (o, refl, cc)
accepted-objects (refused r) q = never (cc)

pub rejected-objects : (x : Out Objects) {r : ℕ} → script_answer x ≡ Err r → x ≡ refused r
unfolding script_answer
rejected-objects (refused r) q = cc
rejected-objects (gives o) q = never (cc)

-- and what it came to has these parts
module _ {x : Out Objects} {o : Objects} (q : x ≡ gives o) where
  pub answer_of : script_answer x ≡ Ok o.layout
  unfolding script_answer
  answer_of = rw q

  pub entries_of_lem : entries_of x ≡ o.entries
  unfolding entries_of
  entries_of_lem = rw q

  pub names_of_lem : object_names x ≡ o.names
  unfolding object_names
  names_of_lem = rw q

pub script-parts : (b : List ℕ) (l : Layout) → script_answer (run script 0 b) ≡ Ok l → ScriptParts b l
unfolding script
script-parts b l q = go (walk script b 0) refl
  where
    a : (o : Objects) × (run script 0 b ≡ gives o) × (o.layout ≡ l)
    a = accepted-objects (run script 0 b) q

    go : (g : Got Objects) → walk script b 0 ≡ g → ScriptParts b l
    go (bad r) e = absurd (let y : refused r ≡ gives a.0 = sym (run-script b ∙ ap out e) ∙ a.1 in let z : ◌≡◌ {A = ℕ} 0 1 = cc in omega arith)
    go (got o k) e =
        chain_by (walk opening b 0) _ (sym (walk_bind opening _ b 0) ∙ e) λ t at u v.
        pick-by (eqb (fault_at b t.layout) 0) _ (fault_at b t.layout) (sym (rest-is b t at u) ∙ e) λ f r.
        pick-by (eqb (length b - (t.layout.entries + 32 * t.layout.count)) 0) _ 13 r λ s r.
        let g = opening-got b t at u in
        let i : run script 0 b ≡ gives (objects_at b t) = run-script b ∙ ap out (e ∙ sym r) in
        let w : t.layout ≡ l = let y : gives (objects_at b t) ≡ gives a.0 = sym i ∙ a.1 in let x : objects_at b t ≡ a.0 =
        cc in ap (λ o. o.layout) x ∙ a.2 in
        let h : length b ≤ t.layout.entries + 32 * t.layout.count = omega (arith, eqb-true (length b - (t.layout.entries + 32 * t.layout.count)) 0 s) in
        let c = eqb-true (fault_at b t.layout) 0 f in
        let p : ScriptParts b t.layout = record {
          found = g.found;
          held = λ bs. found-held b 0 t.layout.names bs g.found;
          names = names_of_lem i ∙ (g.texts ∙ g.found.same);
          entries = entries_of_lem i;
          size = omega (arith, g.fits);
          index = λ i h. (no_fault (entry_of b t.layout i) t.layout.names.count (clear-own b t.layout c i h)).0;
          kinds = λ i h. (no_fault (entry_of b t.layout i) t.layout.names.count (clear-own b t.layout c i h)).1;
          distinct = λ i j l h. fresh-all b t.layout.entries j (entry_of b t.layout j).global (clear-new b t.layout c j h) i l;
        } in
        rw w at p

-- its objects by number
module _ (b : List ℕ) (l : Layout) (p : ScriptParts b l) where
  pub entry-count : length (entries_of (run script 0 b)) ≡ l.count
  entry-count = rw p.entries (cells-length (entry_at b) 32 l.entries l.count)

  pub name-count : length (object_names (run script 0 b)) ≡ l.names.count
  name-count = rw p.names (texts-length b l.names.headers l.names.strings l.names.count)

  -- the text at the place of name i
  module _ (i : ℕ) (h : i < l.names.count) where
    pub name-text : base (place_at b l.names i).wide (part_at b (place_at b l.names i)) ≡ get_or (object_names (run script 0 b)) i []
    name-text = rw p.names (place-text b l.names i h)

    pub name-scalars : Bytes b → Scalars (get_or (object_names (run script 0 b)) i [])
    name-scalars bs = rw p.names (place-scalars b l.names i h (p.held bs) bs)

  module _ (i : ℕ) (h : i < l.count) where
    pub entry-is : get_or (entries_of (run script 0 b)) i no_entry ≡ entry_of b l i
    entry-is = rw p.entries (cells_at (entry_at b) 32 l.entries l.count i no_entry h)

    pub entry-inside : l.entries + 32 * i + 32 ≤ length b
    entry-inside = omega (arith, p.size)

    -- an object's name, from its place
    pub object_name_lem : (o : Objects) → run script 0 b ≡ gives o
        → object_name o (entry_of b l i)
        ≡ base (place_at b l.names (entry_of b l i).index).wide (part_at b (place_at b l.names (entry_of b l i).index)) ++ suffix (entry_of b l i).number
    object_name_lem o q = rw (← names_of_lem q, name-text (entry_of b l i).index (p.index i h))

-- an entry that the accepted block lists: where it is, and that it is the one there
pub listed : (b : List ℕ) (l : Layout) (i : ℕ) → script_answer (run script 0 b) ≡ Ok l → i < length (entries_of (run script 0 b))
    → (l.entries + 32 * i + 32 ≤ length b) × (get_or (entries_of (run script 0 b)) i no_entry ≡ entry_of b l i)
listed b l i q h =
    let p = script-parts b l q in
    let k : i < l.count = rw (entry-count b l p) at h in
    (entry-inside b l p i k, entry-is b l p i k)
