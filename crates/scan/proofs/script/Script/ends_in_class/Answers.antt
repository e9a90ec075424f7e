-- `scan::script::Script::ends_in_class` meets its contract: the entry gives the name's number and its place. Assumes nothing.
use Rattle.std.specs.Prelude.{Ok}
use mathlib.Core.Path.{◌≡◌, refl, sym, ◌∙◌, ap}
use mathlib.Core.Bool.{Bool, false}
use mathlib.Core.List.{List}
use Prim.Native.Nat.{ℕ, ◌<◌}
use lib.ListN.{length, get_or}
use Rattle.text.specs.Affix.{ends_with}
use Rattle.base.specs.NumberLaws.{Bytes}
use Rattle.base.specs.Reading.{gives, run}
use Rattle.batch.specs.Holds.{text_at, Holds, holds-own}
use Rattle.batch.specs.Places.{place_at}
use Rattle.batch.specs.declared.places.Place.{Place}
use Rattle.scriptblock.specs.Script.{Objects, script, object_name}
use Rattle.scriptblock.proofs.ScriptAccepted.{script-parts, entry-count}
use Rattle.scriptblock.specs.ScriptAnswers.{script_answer, entries_of, no_entry}
use Rattle.scriptblock.proofs.ScriptFacts.{objects-facts, script-facts}
use Rattle.scriptblock.specs.declared.script.Entry.{Entry}
use Rattle.scriptblock.specs.declared.script.Layout.{Layout}
use Rattle.meaning.proofs.ClassTest.{name_numbered_lem, name-plain}
use Rattle.meaning.specs.Scan.{class_end}
use Rattle.scan.proofs.script.Script.ends_in_class.Goals as goal

module _ (s : List ℕ) (l : Layout) (a : script_answer (run script 0 s) ≡ Ok l) (i : ℕ) (h : i < l.count) where
  inside : i < length (entries_of (run script 0 s))
  inside = rw (entry-count s l (script-parts s l a)) h

  module _ (u : Entry) (e : u ≡ get_or (entries_of (run script 0 s)) i no_entry) where
    same : (o : Objects) → run script 0 s ≡ gives o → u ≡ get_or o.entries i no_entry
    same o q = e ∙ ap (λ es. get_or es i no_entry) (objects-facts s l a o q).entries_of_lem

    named : u.index < l.names.count
    named = let (o, t) = script-facts s l a in rw (same o t.is) (t.index i h)

    module _ (y : Bytes s) (p : Place) (at : p ≡ place_at s l.names u.index) where
      holds : Holds s p (text_at s p)
      holds = let (o, t) = script-facts s l a in rw at (holds-own (t.holds y u.index named))

      plain : (o : Objects) → run script 0 s ≡ gives o → u.number ≡ 0 → (r : Bool) → r ≡ ends_with (text_at s p) class_end
          → r ≡ ends_with (object_name o (get_or o.entries i no_entry)) class_end
      plain o q z r f = f ∙ rw (at, ((objects-facts s l a o q).holds y u.index named).text, ← same o q) (sym (name-plain o u z))

    numbered : (o : Objects) → run script 0 s ≡ gives o → (u.number ≡ 0 → ⊥) → ends_with (object_name o (get_or o.entries i no_entry)) class_end ≡ false
    numbered o q n = rw (← same o q) (name_numbered_lem o u n)

pub entry-e-requires : goal.entry-e-requires
entry-e-requires c = inside _ _ c.args.self.now.block.accepted _ c.requires

pub returns-then-e-ne0 : goal.returns-then-e-ne0
returns-then-e-ne0 c = λ o q. sym (numbered _ _ c.args.self.now.block.accepted _ c.requires _ c.entry-e.ensures o q c.if-e-ne0.true)

pub place-requires : goal.place-requires
place-requires c =
    let s = c.args.self.now in
    rw s.own.1 (named _ _ s.block.accepted _ c.requires _ c.entry-e.ensures)

pub place_ends_with-requires : goal.place_ends_with-requires
place_ends_with-requires c =
    let s = c.args.self.now in
    (holds _ _ s.block.accepted _ c.requires _ c.entry-e.ensures s.block.fits _ (rw (s.own.0, s.own.1) at c.place.ensures), refl)

pub returns : goal.returns
returns c = λ o q.
    let s = c.args.self.now in
    plain _ _ s.block.accepted _ c.requires _ c.entry-e.ensures s.block.fits _ (rw (s.own.0, s.own.1) at c.place.ensures) o q c.if-e-ne0.false _
    c.place_ends_with.ensures
