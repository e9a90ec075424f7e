-- Laws of linking the objects of an accepted block. Assumes nothing.
use Rattle.std.specs.Prelude.{◌≡◌, List, ℕ, ◌+◌, ◌*◌, ◌/◌, ◌^◌, ◌<◌, length, Ok}
use Rattle.std.proofs.Common.{◌∙◌, arith}
use Rattle.std.proofs.Math.Path.{ap}
use Rattle.std.proofs.Math.Logic.{by_cases}
use Rattle.std.proofs.Math.Decide.{ℕ_discrete}
use Rattle.base.specs.Number.{le_at}
use Rattle.base.specs.Reading.{gives, run}
use Rattle.scriptblock.specs.Script.{Objects, script}
use Rattle.scriptblock.specs.ScriptAnswers.{entry_at, script_answer}
use Rattle.scriptblock.proofs.ScriptAccepted.{script-parts, accepted-objects, answer_of}
use Rattle.scriptblock.specs.declared.script.Layout.{Layout}
use Rattle.table.specs.Words.{stored}
use Rattle.table.specs.Table.{record_at, Table}
use Rattle.table.specs.TableLaws.{holds-table}
use Rattle.objects.specs.Numbers.{entry_no, link_of}
use Rattle.objects.specs.NumberLaws.{link-le}
use Rattle.objects.specs.Work.{Entered, AllIn, ObjectsIn, Keyed, LinkedOf}
use Rattle.objects.specs.WorkLaws.{entries-length, entry_no_lem, link-read, link-other}

-- the objects that are entered, by the part's length
pub count-is : {b : List ℕ} {o : Objects} {w : List ℕ} → AllIn b o w → length w / 56 ≡ o.layout.count
count-is t = omega (arith, t.entered.size)

pub all-table : {b : List ℕ} {o : Objects} {w : List ℕ} → AllIn b o w → Table (3 * (length w / 56)) 44 w
all-table t = rw (count-is t) (holds-table t.entered.keys)

module _ (b : List ℕ) (l : Layout) (accepted : script_answer (run script 0 b) ≡ Ok l) where
  same_layout : (o : Objects) → run script 0 b ≡ gives o → o.layout ≡ l
  same_layout o read = let e = answer_of read in cc

  -- of an accepted block the objects are entered
  pub all_in : (o : Objects) → run script 0 b ≡ gives o → {w : List ℕ} → Entered b l l.count w → AllIn b o w
  all_in o read t = record { read = read; entered = rw (same_layout o read) t }

  pub all-keyed : {w : List ℕ} → Entered b l l.count w → Keyed w
  all-keyed t =
      let (o, read, e) = accepted-objects (run script 0 b) accepted in
      record { block = b; objects = o; holds = all_in o read t }

  pub entries-there : l.entries + 32 * l.count ≡ length b
  entries-there = (script-parts b l accepted).size

  -- the first i are linked
  abbrev pub LinkedTo : ℕ → List ℕ → Type 0
  LinkedTo i w = (o : Objects) → run script 0 b ≡ gives o → (j : ℕ) → j < i → le_at 4 w (record_at (3 * l.count) 44 j + 24) ≡ link_of o (entry_no o j).outer

  -- one more
  module _ {i k : ℕ} {w : List ℕ} (t : Entered b l l.count w) (h : i < l.count) (short : length b < 2 ^ 32)
      (link : (c : List ℕ) (o : Objects) → AllIn c o w → k ≡ link_of o (le_at 8 b (l.entries + 32 * i + 16))) where
    pub linked-more : LinkedTo i w → LinkedTo (i + 1) (stored 4 w (record_at (3 * l.count) 44 i + 24) k)
    unfolding entry_at
    linked-more before o read j m =
        let a = all_in o read t in
        let e = same_layout o read in
        let x = link b o a in
        let y : (entry_no o i).outer ≡ le_at 8 b (l.entries + 32 * i + 16) = rw (entry_no_lem a i (rw e h), e) in
        let few : k < 2 ^ 32 = omega (arith, link-le o (le_at 8 b (l.entries + 32 * i + 16)), entries-length a, ap (λ (z : Layout). z.count) e, entries-there) in
        by_cases (ℕ_discrete j i)
        (λ (z : j ≡ i). rw (z, y) (link-read b l t i k h few ∙ x))
        (λ (z : ¬ (j ≡ i)). link-other b l t i k h j (omega arith) ∙ before o read j (omega arith))

  -- all are linked
  pub all-linked : {w : List ℕ} → Entered b l l.count w → LinkedTo l.count w → (o : Objects) → run script 0 b ≡ gives o → ObjectsIn b o w
  unfolding link_of
  all-linked t links o read = let e = same_layout o read in record { all = all_in o read t; links = λ i h. rw e (links o read i (rw e at h)) }

  -- as the next pass takes it
  pub linked_of : {w : List ℕ} → ((o : Objects) → run script 0 b ≡ gives o → ObjectsIn b o w) → LinkedOf b w
  linked_of f =
      let (o, read, e) = accepted-objects (run script 0 b) accepted in
      record { objects = o; holds = f o read }
