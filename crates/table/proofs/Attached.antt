-- An entry added where a search for its key ends. Assumes nothing.
use mathlib.Core.Path.{◌≡◌, sym, ◌∙◌}
use mathlib.Core.Logic.{by_cases}
use mathlib.Core.List.{List}
use Prim.Native.Nat.{ℕ, ◌+◌, ◌^◌, ◌≤◌, ◌<◌}
use native.Mathlib.Decide.{ℕ_discrete}
use native.Mathlib.Omega.{arith}
use lib.ListN.{length}
use Rattle.table.specs.EntryLaws.{updated}
use Rattle.table.specs.Tree.{Place, In, spot}
use Rattle.table.specs.TreeLaws.{End, at_in, spot_end}
use Rattle.table.specs.Table.{record_at, link_at, Holds, Linked, Ended, attached, Added}
use Rattle.table.specs.TableLaws.{place-before}
use Rattle.table.specs.AddedLaws.{new, link-new, link-empty, link-kept, lo-new, hi-new, key-kept, new-kept}
use Rattle.table.proofs.Grown.{tree-more}

-- the link where a search ends is before the free records
pub ended-room : {n stride k : ℕ} {lo hi : ℕ → ℕ} {w : List ℕ} {a b place link : ℕ} → Holds n stride k lo hi w → 0 < n
    → Ended n stride lo hi w a b place link → place + 4 ≤ record_at n stride k
ended-room {n} {stride} {k} {lo} {hi} {w} {a} {b} t some e =
    let x = spot_end t.depth lo hi (link_at n stride w) n k t.tree a b some in
    rw e.at (place-before n stride t.wide k (spot n (link_at n stride w) lo hi a b) (at_in t.depth lo hi n k x.at))

module _ (n stride k a b : ℕ) (w : List ℕ) (some : 0 < n) (few : k + 1 < 2 ^ 32) (room : record_at n stride (k + 1) ≤ length w)
    (fa : a < 2 ^ 64) (fb : b < 2 ^ 64) (place link : ℕ) (none : link ≡ 0) where
  module _ (lo hi : ℕ → ℕ) (t : Holds n stride k lo hi w) (e : Ended n stride lo hi w a b place link) where
    abbrev spotted : Place
    spotted = spot n (link_at n stride w) lo hi a b

    ended : End t.depth lo hi n k a b spotted
    ended = spot_end t.depth lo hi (link_at n stride w) n k t.tree a b some

    inside : In n k spotted
    inside = at_in t.depth lo hi n k ended.at

    holds_more : a ≡ lo k → b ≡ hi k → Holds n stride (k + 1) lo hi (attached (record_at n stride k) a b place (k + 1) w)
    holds_more ea eb =
        let keys = key-kept n stride k a b w t.wide room spotted inside in
        rw e.at (record {
          few = t.few;
          wide = t.wide;
          room = rw (new-kept n stride k a b w t.wide room spotted inside).size room;
          los = λ i h. by_cases (ℕ_discrete i k)
              (λ (x : i ≡ k). rw x (lo-new n stride k a b w t.wide room spotted inside fa ∙ ea))
              (λ (x : ¬ (i ≡ k)). keys i 8 (omega arith) (omega arith) (omega arith) ∙ t.los i (omega arith));
          his = λ i h. by_cases (ℕ_discrete i k)
              (λ (x : i ≡ k). rw x (hi-new n stride k a b w t.wide room spotted inside fb ∙ eb))
              (λ (x : ¬ (i ≡ k)). keys i 16 (omega arith) (omega arith) (omega arith) ∙ t.his i (omega arith));
          depth = updated t.depth k ended.turns;
          tree = tree-more t.depth lo hi (link_at n stride w) (link_at n stride (new n stride k a b w t.wide room spotted inside)) n k ended.turns
              spotted t.tree some (rw (← ea) fa) (rw (← eb) fb) (rw (← ea, ← eb)) (rw (← ea, ← eb) ended.at) (sym e.linked ∙ none)
              (link-new n stride k a b w t.wide room spotted inside few)
              (link-empty n stride k a b w t.wide room spotted inside)
              (link-kept n stride k a b w t.wide room spotted inside);
        })

  pub added : Linked n stride k w → ((j : ℕ) (lo hi : ℕ → ℕ) → Holds n stride j lo hi w → Ended n stride lo hi w a b place link)
      → (w' : List ℕ) (at : ℕ) → at ≡ record_at n stride k → w' ≡ attached at a b place (k + 1) w → Added n stride k a b w w'
  added l ends w' at f g =
      let e = ends k l.lo l.hi l.holds in
      record {
        holds = λ lo hi t ea eb. rw (g, f) (holds_more lo hi t (ends k lo hi t) ea eb);
        wide = l.holds.wide;
        room = room;
        place = spot n (link_at n stride w) l.lo l.hi a b;
        inside = inside l.lo l.hi l.holds e;
        is = g ∙ rw (f, e.at);
      }
