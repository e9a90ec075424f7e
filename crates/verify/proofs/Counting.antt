-- What the loop over the objects knows: an entry is there, the counts fit, and one object more. Assumes nothing.
use Rattle.std.specs.Prelude.{Ok, Option}
use mathlib.Core.Path.{◌≡◌, refl, sym, ◌∙◌, ap}
use mathlib.Core.List.{List}
use Prim.Native.Nat.{ℕ, ◌+◌, ◌*◌, ◌^◌, ◌≤◌, ◌<◌}
use native.Mathlib.Omega.{arith}
use lib.ListN.{length, get_or}
use Rattle.base.specs.Reading.{gives, run}
use Rattle.scriptblock.specs.Script.{Objects, script}
use Rattle.scriptblock.specs.ScriptAnswers.{no_entry, script_answer, entries_of}
use Rattle.scriptblock.proofs.ScriptFacts.{script-facts, objects-facts}
use Rattle.scriptblock.specs.declared.script.Entry.{Entry}
use Rattle.scriptblock.specs.declared.script.Layout.{Layout}
use Rattle.objects.specs.Numbers.{path_no}
use Rattle.objects.specs.Work.{ObjectsIn, LinkedOf}
use Rattle.hashes.specs.Hashed.{hashed_as}
use Rattle.verify.specs.Tallies.{tallied, tally_to, tally_of}
use Rattle.verify.specs.TallyLaws.{tallied-few, tally-more, tally-all}
use Rattle.verify.specs.declared.counts.Tally.{Tally}

-- Gives i h: the hash of object i may be h. Each is what its path says
abbrev pub Hashes : (ℕ → Option ℕ → Type 0) → Layout → ℕ → Objects → Type 0
Hashes Gives l limit o = (i : ℕ) (h : Option ℕ) → i < l.count → Gives i h → h ≡ hashed_as (path_no limit o i)

-- t counts the first i objects of the block s
pub record Counted (s : List ℕ) (l : Layout) (Gives : ℕ → Option ℕ → Type 0) (i : ℕ) (t : Tally) : Type 0 where
  pub few : (t.resolved ≤ i) × (t.matches ≤ i)
  pub is : (limit : ℕ) (o : Objects) → run script 0 s ≡ gives o → Hashes Gives l limit o → t ≡ tally_to limit o i

pub counted_none : {s : List ℕ} {l : Layout} {Gives : ℕ → Option ℕ → Type 0} → Counted s l Gives 0 (record { resolved = 0; matches = 0 })
counted_none = record { few = (omega arith, omega arith); is = λ limit o q h. refl }

-- there are so many objects as the layout says
module _ (s : List ℕ) (l : Layout) (a : script_answer (run script 0 s) ≡ Ok l) where
  pub counted-entry : {i : ℕ} → i < l.count → i < length (entries_of (run script 0 s))
  counted-entry h = let (o, x) = script-facts s l a in rw (x.entries_of_lem, x.entries) h

  module _ {Gives : ℕ → Option ℕ → Type 0} {i : ℕ} {t : Tally} (k : Counted s l Gives i t) where
    -- there is one more
    module _ (h : i < l.count) where
      pub counted-fits : length s < 2 ^ 32 → (t.resolved < 4294967295) × (t.matches < 4294967295)
      counted-fits small = let (o, x) = script-facts s l a in (omega (arith, x.size, k.few), omega (arith, x.size, k.few))

      pub counted-more : {u : Tally} {e : Entry} {path : Option ℕ} → e ≡ get_or (entries_of (run script 0 s)) i no_entry → Gives i path
          → u ≡ tallied t e.global path → Counted s l Gives (i + 1) u
      counted-more {u} {e} {path} is g w = record {
        few = let z = tallied-few t e.global path in rw w (omega (arith, k.few), omega (arith, k.few));
        is = λ limit o q hash.
            let x = objects-facts s l a o q in
            w ∙ (rw (k.is limit o q hash, is, x.entries_of_lem) (tally-more x limit i h (hash i path h g)));
      }

    -- there is none
    pub counted-all : i ≡ l.count → (limit : ℕ) (o : Objects) → run script 0 s ≡ gives o → Hashes Gives l limit o → t ≡ tally_of limit o
    counted-all e limit o q hash = let x = objects-facts s l a o q in k.is limit o q hash ∙ (rw e (tally-all x limit))

-- there is a link for each object
pub linked-inside : (s : List ℕ) (l : Layout) → script_answer (run script 0 s) ≡ Ok l → {w : List ℕ} → LinkedOf s w → {i : ℕ} → i < l.count → 56 * i < length w
linked-inside s l a {w} b h =
    let x = objects-facts s l a b.objects b.holds.all.read in
    omega (arith, b.holds.all.entered.size, ap (λ (y : Layout). y.count) x.layout)

-- the links are those of the objects that were read
pub linked-all : {s w : List ℕ} → LinkedOf s w → (o : Objects) → run script 0 s ≡ gives o → ObjectsIn s o w
linked-all k o q =
    let z : gives k.objects ≡ gives o = sym k.holds.all.read ∙ q in
    let e : k.objects ≡ o = cc in
    rw e at k.holds
