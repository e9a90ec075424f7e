-- The search in the code: after d turns at a place. Assumes nothing.
use mathlib.Core.Path.{◌≡◌, refl, sym, ap, ◌∙◌}
use mathlib.Core.Logic.{by_cases}
use mathlib.Core.Bool.{Bool, true, false, ◌&&◌, false≢true}
use mathlib.Core.List.{List}
use Prim.Native.Nat.{ℕ, suc, ◌+◌, ◌-◌, ◌*◌, ◌^◌, ◌≤◌, ◌<◌}
use native.Mathlib.Decide.{dec_lt}
use native.Mathlib.Omega.{arith}
use lib.Dec.{eqb}
use lib.ListN.{length}
use Rattle.base.specs.Number.{le_at}
use Rattle.table.specs.Entries.{key_is}
use Rattle.table.specs.Tree.{turn, Place, head, below, bucket, stops, walk, spot, At}
use Rattle.table.specs.TreeLaws.{bucket-lt, at_in, stops-none, walk-stop, walk_turn, at-start, at-few, at_next, at-full}
use Rattle.table.specs.Table.{record_at, place_at, link_at, Holds, Ended}
use Rattle.table.specs.TableLaws.{record_next, place-before}

pub record Search (n stride k : ℕ) (lo hi : ℕ → ℕ) (w : List ℕ) (t : Holds n stride k lo hi w) (a b place d : ℕ) : Type 0 where
  pub spotted : Place
  pub here : At t.depth lo hi n k a b d spotted
  pub at : place ≡ place_at n stride spotted
  pub same : spot n (link_at n stride w) lo hi a b ≡ walk (link_at n stride w) lo hi a b (128 - d) d spotted

module _ {n stride k : ℕ} {lo hi : ℕ → ℕ} {w : List ℕ} (t : Holds n stride k lo hi w) (a b : ℕ) where
  pub search_start : (place : ℕ) → 0 < n → place ≡ 4 * bucket n a b → Search n stride k lo hi w t a b place 0
  unfolding spot
  search_start place h e =
      record {
        spotted = head (bucket n a b);
        here = at-start t.depth lo hi (link_at n stride w) n k t.tree a b h;
        at = e;
        same = refl;
      }

  -- the head can be read
  pub head-room : (r : ℕ) → 0 < n → r ≡ bucket n a b → 4 * r + 4 ≤ length w
  head-room r h e = let o = t.room in omega (arith, bucket-lt n a b h)

  module _ {place d : ℕ} (s : Search n stride k lo hi w t a b place d) where
    -- the link there can be read
    pub place-room : place + 4 ≤ length w
    place-room =
        let r = t.room in
        let i = at_in t.depth lo hi n k s.here in
        rw s.at (omega (arith, place-before n stride t.wide k s.spotted i))

    module _ {link : ℕ} (read : link ≡ le_at 4 w place) where
      linked : link ≡ link_at n stride w s.spotted
      linked = read ∙ ap (le_at 4 w) s.at

      search_end : stops lo hi a b link ≡ true → Ended n stride lo hi w a b place link
      search_end e =
          let x : spot n (link_at n stride w) lo hi a b ≡ s.spotted =
          s.same ∙ walk-stop lo hi a b (link_at n stride w) (128 - d) d s.spotted (rw linked at e) in
          record { at = rw x s.at; linked = rw x linked }

    -- the link leads to none
    pub search_none : 0 ≡ le_at 4 w place → Ended n stride lo hi w a b place 0
    search_none e = search_end e (stops-none lo hi a b 0 refl)

    -- it leads to entry i
    module _ {i : ℕ} (read : suc i ≡ le_at 4 w place) where
      link_is : suc i ≡ link_at n stride w s.spotted
      link_is = linked read

      more : 0 < link_at n stride w s.spotted
      more = omega (arith, link_is)

      inside : i < k
      inside = omega (arith, link_is, at-few t.depth lo hi (link_at n stride w) n k t.tree a b s.here)

      -- its record is there
      pub search_record : record_at n stride i + stride ≤ length w
      search_record = let r = t.room in omega (arith, record_next n stride i k inside)

      key : (eqb (le_at 8 w (record_at n stride i + 8)) a && eqb (le_at 8 w (record_at n stride i + 16)) b) ≡ key_is lo hi a b i
      unfolding key_is
      key = rw (t.los i inside, t.his i inside)

      stops_key : stops lo hi a b (suc i) ≡ key_is lo hi a b i
      unfolding stops
      stops_key = refl

      module _ (at : ℕ) (place_is : at ≡ record_at n stride i) (r : Bool)
          (test : r ≡ (eqb (le_at 8 w (at + 8)) a && eqb (le_at 8 w (at + 16)) b)) where
        is_key : r ≡ key_is lo hi a b i
        is_key = test ∙ rw place_is key

        pub search_hit : r ≡ true → Ended n stride lo hi w a b place (suc i)
        search_hit e = search_end read (stops_key ∙ sym is_key ∙ e)

        -- an entry without the key is passed, and a turn is left for it
        module _ (fa : a < 2 ^ 64) (fb : b < 2 ^ 64) (e : r ≡ false) where
          same_entry : link_at n stride w s.spotted - 1 ≡ i
          same_entry = omega (arith, link_is)

          pub turn-left : d < 128
          turn-left =
              by_cases (dec_lt d 128) (λ (o : d < 128). o)
              (λ (o : ¬ (d < 128)). absurd (false≢true (sym e ∙ is_key ∙ ap (key_is lo hi a b) (sym same_entry)
              ∙ at-full t.depth lo hi (link_at n stride w) n k t.tree a b fa fb s.here more (omega arith))))

          pub search_turn : (place' : ℕ) → place' ≡ at + 4 * turn d a b → Search n stride k lo hi w t a b place' (d + 1)
          search_turn place' f =
              let no : stops lo hi a b (link_at n stride w s.spotted) ≡ false =
              rw (← link_is) (stops_key ∙ sym is_key ∙ e) in
              let left : 128 - d ≡ suc (128 - (d + 1)) = let l = turn-left in omega arith in
              record {
                spotted = below (link_at n stride w s.spotted - 1) (turn d a b);
                here = at_next t.depth lo hi (link_at n stride w) n k t.tree a b s.here more;
                at = f ∙ rw (place_is, same_entry);
                same = s.same ∙ rw left (walk_turn lo hi a b (link_at n stride w) (128 - (d + 1)) d s.spotted no);
              }
