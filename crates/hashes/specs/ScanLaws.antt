-- Laws of a chain made by looking in the block: its names' starts are counted from where the block's names start. Assumes nothing.
use Rattle.std.specs.Prelude.{◌≡◌, refl, Bool, true, false, cond, List, [], ◌∷◌, ℕ, zero, suc, ◌+◌, ◌-◌, ◌≤◌, ◌<◌, eqb, length, get_or, take, drop, Ok}
use Rattle.std.proofs.Common.{◌∙◌, ap, arith, length-drop, drop-drop}
use Rattle.std.proofs.Math.Seq.{take-length}
use Rattle.base.specs.Index.{kind}
use Rattle.base.specs.NumberLaws.{Bytes}
use Rattle.base.specs.Reading.{gives, run}
use Rattle.base.specs.Seek.{seek_from}
use Rattle.batch.specs.Holds.{Holds, holds-own}
use Rattle.batch.specs.Places.{place_at, part_at, Held}
use Rattle.batch.specs.PlacesLaws.{place_inside, start_mono}
use Rattle.batch.specs.declared.places.Place.{Place}
use Rattle.scriptblock.specs.Objects.{entry_number}
use Rattle.scriptblock.specs.Script.{Objects, script}
use Rattle.scriptblock.proofs.ScriptAccepted.{script-parts}
use Rattle.scriptblock.specs.ScriptAnswers.{script_answer, entries_of, no_entry}
use Rattle.scriptblock.proofs.ScriptFacts.{objects-facts, script-facts, number_is}
use Rattle.scriptblock.specs.declared.script.Entry.{Entry}
use Rattle.scriptblock.specs.declared.script.Layout.{Layout}
use Rattle.objects.specs.Numbers.{entry_no, raised, number_of, link_of}
use Rattle.objects.specs.NumberLaws.{link-found}
use Rattle.hashes.specs.ChainLaws.{Own}

-- ---- an object by its global index: the two ways to say its number

abbrev behind : ℕ → ℕ → ℕ
behind i zero = 0
behind i (suc n) = i + suc n

seek-number : (i g : ℕ) (es : List Entry) → seek_from i (λ (e : Entry). eqb e.global g) es ≡ behind i (number_of es g)
unfolding seek_from number_of
seek-number i g [] = refl
seek-number i g (e ∷ es) = go (eqb e.global g) (number_of es g) (seek-number (i + 1) g es)
  where
    go : (t : Bool) (n : ℕ) {m : ℕ} → m ≡ behind (i + 1) n → cond t (i + 1) m ≡ behind i (cond t 1 (raised n))
    go true n q = refl
    go false zero q = q
    go false (suc n) q = q ∙ omega arith

pub entry_number_lem : (g : ℕ) (es : List Entry) → entry_number g es ≡ number_of es g
entry_number_lem g es = seek-number 0 g es ∙ go (number_of es g)
  where
    go : (n : ℕ) → behind 0 n ≡ n
    go zero = refl
    go (suc n) = omega arith

-- ---- a place, counted from a later start

abbrev pub moved : ℕ → Place → Place
moved first p = record { start = p.start - first; size = p.size; wide = p.wide }

moved-part : (first : ℕ) (s : List ℕ) (p : Place) → first ≤ p.start → part_at (drop first s) (moved first p) ≡ part_at s p
moved-part first s p h = let e : first + (p.start - first) ≡ p.start = omega arith in rw (drop-drop (p.start - first) first s, e)

moved_holds : (first : ℕ) (s : List ℕ) (p : Place) {t : List ℕ} → first ≤ p.start → Holds s p t → Holds (drop first s) (moved first p) t
moved_holds first s p h d =
    let e = moved-part first s p h in
    record {
      inside = simp length-drop (omega (arith, d.inside));
      text = rw e d.text;
      well = rw e d.well;
      small = d.small;
      units = rw e d.units;
      scalars = d.scalars;
    }

-- `&s[first..]`
pub rest : (s : List ℕ) (first : ℕ) → take (length s - first) (drop first s) ≡ drop first s
rest s first = rw (← length-drop first s) (take-length (drop first s))

-- ---- the objects of an accepted block

module _ (s : List ℕ) (l : Layout) (acc : script_answer (run script 0 s) ≡ Ok l) (y : Bytes s) where
  abbrev first : ℕ
  first = l.names.strings

  held : Held s l.names
  held = (script-parts s l acc).held y

  pub names-inside : first ≤ length s
  names-inside = omega (arith, start_mono s l.names.headers first l.names.count, held.inside, held.ends)

  -- an entry by its number, and the place of its name
  module _ (at : ℕ) (h : at < l.count) {e : Entry} (is : e ≡ get_or (entries_of (run script 0 s)) at no_entry) where
    pub entry-same : (o : Objects) → run script 0 s ≡ gives o → e ≡ entry_no o at
    entry-same o q = is ∙ ap (λ (es : List Entry). get_or es at no_entry) (objects-facts s l acc o q).entries_of_lem

    pub entry_named : e.index < l.names.count
    entry_named = let (o, t) = script-facts s l acc in rw (entry-same o t.is) (t.index at h)

    module _ {p : Place} (there : p ≡ place_at s l.names e.index) where
      pub entry-behind : (first ≤ p.start) × (p.start - first < 4294967296)
      entry-behind =
          let i = place_inside s l.names e.index entry_named held in
          let a : first ≤ p.start = rw there i.0 in
          (a, omega (arith, ap (λ (q : Place). q.start) there, ap (λ (q : Place). q.size) there, i.1, held.span))

      entry-holds : (o : Objects) → run script 0 s ≡ gives o → Holds s p (get_or o.names e.index [])
      entry-holds o q = rw there ((objects-facts s l acc o q).holds y e.index entry_named)

      pub entry-small : p.size < 65536
      entry-small = let (o, t) = script-facts s l acc in (entry-holds o t.is).small

      -- as an object of a chain
      pub own_scan : (o : Objects) → run script 0 s ≡ gives o → Own (drop first s) o at (record { place = moved first p; number = e.number })
      own_scan o q =
          let d = entry-holds o q in
          record {
            holds = holds-own (moved_holds first s p entry-behind.0 d);
            name = rw (← entry-same o q, moved-part first s p entry-behind.0, d.text);
          }

  -- where an outer leads
  module _ (outer : ℕ) where
    pub found_inside : {k : ℕ} → suc k ≡ entry_number outer (entries_of (run script 0 s)) → k < l.count
    found_inside {k} f =
        let (o, t) = script-facts s l acc in
        let q = (number_is outer (entries_of (run script 0 s)) k (omega (arith, f))).0 in
        omega (arith, ap length t.entries_of_lem, t.entries)

    module _ (o : Objects) (q : run script 0 s ≡ gives o) (n : kind outer ≡ 3 → ⊥) where
      number : {k : ℕ} → k ≡ entry_number outer (entries_of (run script 0 s)) → k ≡ number_of o.entries outer
      number f = f ∙ ap (entry_number outer) (objects-facts s l acc o q).entries_of_lem ∙ entry_number_lem outer o.entries

      pub link-none : 0 ≡ entry_number outer (entries_of (run script 0 s)) → 0 ≡ link_of o outer
      link-none f = link-found o outer n (number f)

      pub link-some : {k : ℕ} → suc k ≡ entry_number outer (entries_of (run script 0 s)) → suc (suc k) ≡ link_of o outer
      link-some f = link-found o outer n (number f)
