-- Laws of the texts that rows keep: what a change leaves of them, one row more, and all rows. Assumes nothing.
use Rattle.std.specs.Prelude.{◌≡◌, refl, ◌⊎◌, List, ℕ, zero, suc, ◌+◌, ◌-◌, ◌*◌, ◌^◌, ◌≤◌, ◌<◌, length, take, drop, get_or}
use Rattle.std.proofs.Common.{sym, ◌∙◌, ap, subst, inl, inr, ⊎_elim, add-zero, arith, length-drop}
use Rattle.std.proofs.Math.Logic.{by_cases}
use Rattle.std.proofs.Math.Decide.{dec_lt, ℕ_discrete}
use Rattle.base.specs.Number.{le_at}
use Rattle.base.specs.NumberLaws.{le_at-drop, le_at-part, le_at-same}
use Rattle.scriptblock.specs.Script.{Objects}
use Rattle.meaning.specs.Reference.{Ref, null}
use Rattle.meaning.specs.Scan.{Class}
use Rattle.base.specs.Output.{Wrote}
use Rattle.base.specs.OutputLaws.{drop-over, wrote-length, wrote-taken}
use Rattle.table.specs.Table.{cleared}
use Rattle.table.specs.TableLaws.{cleared-kept}
use Rattle.table.specs.Words.{mid, put, stored, Kept}
use Rattle.table.specs.WordLaws.{kept-part, kept_read, kept-none, kept_then, kept_wider, mid-length, put_inner, stored-kept, stored-read}
use Rattle.objects.specs.declared.object.Object.{Object}
use Rattle.resolve.specs.Classes.{ClassesIn}
use Rattle.resolve.specs.ClassesLaws.{classes-kept}
use Rattle.resolve.specs.Lent.{lent-rest}
use Rattle.resolve.specs.MarkLaws.{row-behind, marks-whole}
use Rattle.resolve.specs.Marks.{MarksKept}
use Rattle.resolve.specs.ResolvingLaws.{kept-drop}
use Rattle.resolve.specs.Rows.{row_at, led_at, class_number, columns_of, object_number, Tables, TargetIn, Resolved}
use Rattle.resolve.specs.RowsLaws.{class-inside, object-inside}
use Rattle.resolve.specs.declared.rows.Led.{Led}
use Rattle.pool.specs.Pool.{Stood, Leading, Texts, TextAt, TextIn, Left, Done, State, Earlier, noted, Put, Classed, RowStood, Pooled}

-- ---- what a change leaves

kept_back : {b e : ℕ} {w w' : List ℕ} → Kept b e w w' → Kept b e w' w
kept_back k = record { size = sym k.size; before = sym k.before; after = sym k.after }

-- numbers in a part that is as it was
part-read : (w w' : List ℕ) (m at : ℕ) → mid at m w' ≡ mid at m w → (c : ℕ) → c + 4 ≤ m → le_at 4 w' (at + c) ≡ le_at 4 w (at + c)
part-read w w' m at e c h = sym (le_at-part 4 at m w' c h) ∙ ap (λ (x : List ℕ). le_at 4 x c) e ∙ le_at-part 4 at m w c h

-- so a row's object
object-same : (w w' : List ℕ) (at : ℕ) → mid at 20 w' ≡ mid at 20 w → (led_at w' at).object ≡ (led_at w at).object
object-same w w' at e =
    let f = part-read w w' 20 at e in
    rw (f 4 (omega arith), f 8 (omega arith), f 12 (omega arith), f 16 (omega arith))

-- and its class
class_same : (w w' : List ℕ) (at : ℕ) → mid at 20 w' ≡ mid at 20 w → (led_at w' at).class ≡ (led_at w at).class
class_same w w' at e = rw (add-zero at) at (part-read w w' 20 at e 0 (omega arith))

-- texts that it doesn't touch
table_kept : (n : ℕ) {c : List ℕ} {xs : List Class} {w w' : List ℕ} {x y : ℕ} → Kept x y w w' → 64 * (n + length xs) ≤ x
    → ClassesIn c (2 * n) xs (drop (56 * n) w) → ClassesIn c (2 * n) xs (drop (56 * n) w')
table_kept n {x = x} {y = y} k h t =
    let g = kept_wider k x (x + y) (omega arith) (omega arith) in
    classes-kept (x - 56 * n) (x + y - 56 * n) t (kept-drop (56 * n) g (omega arith) (omega arith)) (omega arith)

-- script objects and classes are as they were
leading-kept : {c b : List ℕ} {n classes : ℕ} {w w' : List ℕ} {x y : ℕ} {u : Object} {o : Objects} {i : ℕ} {xs : List Class} → Kept x y w w'
    → 64 * (n + classes) ≤ x → Leading c b n classes w' u o i xs → Leading c b n classes w u o i xs
leading-kept {n = n} {y = y} k h l = record {
  stands = rw (kept_wider k (56 * n) y (omega arith) (omega arith)).before at l.stands;
  holds = table_kept n (kept_back k) (omega (arith, l.count)) l.holds;
  count = l.count;
}

texts-kept : {c b : List ℕ} {n classes objects : ℕ} {w w' : List ℕ} {x y class : ℕ} {u : Object} {bytes : List ℕ} → Kept x y w w' → 64 * (n + classes) ≤ x
    → Texts c b n classes objects w class u bytes → Texts c b n classes objects w' class u bytes
texts-kept {n = n} k h t = record {
  both = λ ne o i xs l. t.both ne o i xs (leading-kept k h l);
  alone = λ e xs l q. t.alone e xs (table_kept n (kept_back k) (omega arith) l) q;
}

-- the bytes, said in another way
pub texts_as : {c b : List ℕ} {n classes objects : ℕ} {w : List ℕ} {class : ℕ} {u : Object} {bytes bytes' : List ℕ}
    → Texts c b n classes objects w class u bytes → bytes' ≡ bytes → Texts c b n classes objects w class u bytes'
texts_as t e = rw e t

pub classed_kept : {c : List ℕ} {n classes : ℕ} {w w' : List ℕ} {x y : ℕ} → Kept x y w w' → 64 * (n + classes) ≤ x → Classed c n classes w → Classed c n classes w'
classed_kept {n = n} k h l = record { table = l.table; holds = table_kept n k (omega (arith, l.count)) l.holds; count = l.count }

module _ {c b : List ℕ} {n classes objects lo hi class : ℕ} {u : Object} {text size : ℕ} where
  text-kept : {w w' : List ℕ} {x y : ℕ} → TextAt c b n classes objects lo hi w class u text size → Kept x y w w' → 64 * (n + classes) ≤ x → (hi ≤ x) ⊎ (y ≤ lo)
      → TextAt c b n classes objects lo hi w' class u text size
  text-kept {w} {w'} {x} {y} t k h e =
      let z : (text + size ≤ x) ⊎ (y ≤ text) = ⊎_elim (λ g. inl (omega (arith, t.before))) (λ g. inr (omega (arith, t.after))) e in
      record {
        after = t.after;
        before = t.before;
        is = texts_as (texts-kept k h t.is) (kept-part k text size z);
      }

  text_wider : {w : List ℕ} (lo' hi' : ℕ) → lo' ≤ lo → hi ≤ hi' → TextAt c b n classes objects lo hi w class u text size → TextAt c b n classes objects lo' hi' w class u text size
  text_wider lo' hi' g h t = record { after = omega (arith, t.after); before = omega (arith, t.before); is = t.is }

done_wider : {c b : List ℕ} {n classes objects lo hi k : ℕ} {w : List ℕ} (lo' hi' : ℕ) → lo' ≤ lo → hi ≤ hi' → Done c b n classes objects lo hi k w → Done c b n classes objects lo' hi' k w
done_wider lo' hi' g h t = record { texts = λ r l. record { kept = λ ne. text_wider lo' hi' g h ((t.texts r l).kept ne) } }

module _ {c b : List ℕ} {n classes objects gap rows lo hi k : ℕ} {v w : List ℕ} (t : State c b n classes objects gap rows lo hi k v w) where
  -- nothing of the first k rows, nor of their texts
  pub state-kept : {w' : List ℕ} {x y : ℕ} → Kept x y w w' → 64 * (n + classes) ≤ gap → gap ≤ x → y ≤ length w
      → ((r : ℕ) → r < rows → (row_at w r + 20 ≤ x) ⊎ (y ≤ row_at w r)) → ((r : ℕ) → r < rows → (row_at w r + 28 + 4 ≤ x) ⊎ (y ≤ row_at w r + 28))
      → ((r : ℕ) → r < k → (row_at w r + 28 ≤ x) ⊎ (y ≤ row_at w r)) → (hi ≤ x) ⊎ (y ≤ lo)
      → State c b n classes objects gap rows lo hi k v w'
  state-kept {w'} {x} {y} d front start stop rest marked done apart = record {
    left = record {
      kept = kept_then t.left.kept (kept_wider d gap (length v) start (omega (arith, t.left.kept.size)));
      columns = λ r h. kept-part d (row_at v r) 20 (rw t.left.kept.size at (rest r h)) ∙ t.left.columns r h;
      marks = λ r h. kept-part d (row_at v r + 28) 4 (rw t.left.kept.size at (marked r h)) ∙ t.left.marks r h;
    };
    done = record { texts = λ r h. rw d.size (row r h) };
  }
    where
      narrow : (r : ℕ) → r < k → (row_at w r + 20 ≤ x) ⊎ (y ≤ row_at w r)
      narrow r h = ⊎_elim (λ (g : row_at w r + 28 ≤ x). inl (omega arith)) (λ (g : y ≤ row_at w r). inr g) (done r h)

      row : (r : ℕ) → r < k → TextIn c b n classes objects lo hi w' (led_at w' (row_at w r))
      row r h =
          let f = part-read w w' 28 (row_at w r) (kept-part d (row_at w r) 28 (done r h)) in
          record {
            kept = λ ne.
                rw (f 4 (omega arith), f 8 (omega arith), f 12 (omega arith), f 16 (omega arith), f 20 (omega arith), f 24 (omega arith))
                (rw (class_same w w' (row_at w r) (kept-part d (row_at w r) 20 (narrow r h)))
                (text-kept ((t.done.texts r h).kept (λ z. ne (f 24 (omega arith) ∙ z))) d (omega arith) apart));
          }

  pub state_wider : (hi' : ℕ) → hi ≤ hi' → State c b n classes objects gap rows lo hi' k v w
  state_wider hi' h = record { left = t.left; done = done_wider lo hi' (omega arith) h t.done }

-- ---- a row keeps a text

module _ (at text size : ℕ) (w : List ℕ) (room : at + 28 ≤ length w) where
  first : Kept (at + 20) (at + 20 + 4) w (stored 4 w (at + 20) text)
  first = stored-kept 4 w (at + 20) text (omega arith)

  noted-kept : Kept (at + 20) (at + 28) w (noted at text size w)
  unfolding noted
  noted-kept =
      kept_then (kept_wider first (at + 20) (at + 28) (omega arith) (omega arith))
      (kept_wider (stored-kept 4 (stored 4 w (at + 20) text) (at + 24) size (omega (arith, first.size))) (at + 20) (at + 28) (omega arith) (omega arith))

  noted-text : text < 2 ^ 32 → le_at 4 (noted at text size w) (at + 20) ≡ text
  unfolding noted
  noted-text h =
      kept_read (stored-kept 4 (stored 4 w (at + 20) text) (at + 24) size (omega (arith, first.size))) 4 (at + 20) (inl (omega arith))
      ∙ stored-read 4 w (at + 20) text (omega arith) h

  noted-size : size < 2 ^ 32 → le_at 4 (noted at text size w) (at + 24) ≡ size
  unfolding noted
  noted-size h = stored-read 4 (stored 4 w (at + 20) text) (at + 24) size (omega (arith, first.size)) h

-- the next one
module _ {c b : List ℕ} {n classes objects gap rows lo hi r : ℕ} {v w w' : List ℕ} {text size : ℕ} (t : State c b n classes objects gap rows lo hi r v w)
    (is : w' ≡ noted (row_at w r) text size w) (front : 64 * (n + classes) ≤ gap) (start : gap ≤ hi) (room : hi + 32 * rows ≤ length w) (inside : r < rows)
    (p : (size ≡ 0 → ⊥) → text < 2 ^ 32) (q : size < 2 ^ 32)
    (own : (size ≡ 0 → ⊥) → TextAt c b n classes objects lo hi w (led_at w (row_at w r)).class (led_at w (row_at w r)).object text size) where
  here : row_at w r + 28 ≤ length w
  here = omega arith

  change : Kept (row_at w r + 20) (row_at w r + 28) w w'
  change = rw is (noted-kept (row_at w r) text size w here)

  others : (i : ℕ) → i < rows → (row_at w i + 20 ≤ row_at w r + 20) ⊎ (row_at w r + 28 ≤ row_at w i)
  others i h =
      by_cases (dec_lt i r)
      (λ (g : i < r). inr (omega arith))
      (λ (g : ¬ (i < r)). inl (omega arith))

  marked : (i : ℕ) → i < rows → (row_at w i + 28 + 4 ≤ row_at w r + 20) ⊎ (row_at w r + 28 ≤ row_at w i + 28)
  marked i h =
      by_cases (dec_lt r i)
      (λ (g : r < i). inl (omega arith))
      (λ (g : ¬ (r < i)). inr (omega arith))

  base : State c b n classes objects gap rows lo hi r v w'
  base = state-kept t change front (omega arith) (omega arith) others marked (λ i h. inr (omega arith)) (inl (omega arith))

  mine : TextIn c b n classes objects lo hi w' (led_at w' (row_at w r))
  mine =
      let y : le_at 4 w' (row_at w r + 24) ≡ size = rw is (noted-size (row_at w r) text size w here q) in
      let g = kept-part change (row_at w r) 20 (inl (omega arith)) in
      let z = object-same w w' (row_at w r) g in
      let a = class_same w w' (row_at w r) g in
      let x : (size ≡ 0 → ⊥) → le_at 4 w' (row_at w r + 20) ≡ text = λ ne. rw is (noted-text (row_at w r) text size w here (p ne)) in
      record {
        kept = λ no.
            let ne : size ≡ 0 → ⊥ = λ e. no (y ∙ e) in
            rw (x ne, y, a)
            (subst (λ (u : Object). TextAt c b n classes objects lo hi w' (led_at w (row_at w r)).class u text size) (sym z)
            (text-kept (own ne) change (omega arith) (inl (omega arith))));
      }

  pub state-next : State c b n classes objects gap rows lo hi (r + 1) v w'
  state-next = record {
    left = base.left;
    done = record {
      texts = λ i h. by_cases (ℕ_discrete i r)
          (λ (e : i ≡ r). rw (e, change.size) mine)
          (λ (e : ¬ (i ≡ r)). base.done.texts i (omega arith));
    };
  }

-- it keeps none
pub state_empty : {c b : List ℕ} {n classes objects gap rows lo hi r : ℕ} {v w w' : List ℕ} → State c b n classes objects gap rows lo hi r v w
    → w' ≡ noted (row_at w r) 0 0 w → 64 * (n + classes) ≤ gap → gap ≤ hi → hi + 32 * rows ≤ length w → r < rows → State c b n classes objects gap rows lo hi (r + 1) v w'
state_empty t is front start room inside =
    state-next t is front start room inside (λ ne. absurd (ne refl)) (omega arith) (λ ne. absurd (ne refl))

-- ---- all rows

pub state-none : (c b : List ℕ) (n classes objects gap rows lo : ℕ) (w : List ℕ) → State c b n classes objects gap rows lo lo 0 w w
state-none c b n classes objects gap rows lo w = record {
  left = record { kept = kept-none gap (length w) w; columns = λ r h. refl; marks = λ r h. refl };
  done = record { texts = λ r h. absurd (omega arith) };
}

-- a row, seen from behind the objects
module _ (a r : ℕ) (w : List ℕ) (room : a + 32 * (r + 1) ≤ length w) where
  behind-first : le_at 4 (drop a w) (row_at (drop a w) r) ≡ le_at 4 w (row_at w r)
  behind-first = let z : a + row_at (drop a w) r ≡ row_at w r = omega (arith, length-drop a w) in le_at-drop 4 a w (row_at (drop a w) r) ∙ ap (le_at 4 w) z

  pub led-behind : led_at (drop a w) (row_at (drop a w) r) ≡ led_at w (row_at w r)
  led-behind = let f = row-behind a r w room in rw (behind-first, f 4, f 8, f 12, f 16, f 20, f 24)

-- a row of a resolved buffer leads to no class or to one of the table, and to no object or to one of the block
row-stood : {c b : List ℕ} {o : Objects} {n : ℕ} {xs : List Class} {lookups : ℕ} {refs : List Ref} {w : List ℕ} → Resolved c b o n xs lookups refs w
    → 56 * n + 32 * length refs ≤ length w → (r : ℕ) → r < length refs → RowStood c b n (length xs) r w
row-stood {c} {b} {o} {n} {xs} {lookups} {refs} {w} t room r h =
    record {
      classed = record { table = xs; holds = t.tables.classes; count = refl };
      class-inside = omega (arith, class, class-inside xs ref);
      stood = λ ne. go (object_number lookups xs o ref) object ne (object-inside t.tables lookups ref);
    }
  where
    ref : Ref
    ref = get_or refs r null

    class : (led_at w (row_at w r)).class ≡ class_number xs ref
    class = ap (λ (l : Led). l.class) (sym (led-behind (56 * n) r w (omega arith))) ∙ (t.targets.targets r h).class

    object : (led_at w (row_at w r)).object ≡ columns_of b o (object_number lookups xs o ref)
    object =
        let a = t.targets.targets r h in
        ap (λ (l : Led). l.object) (sym (led-behind (56 * n) r w (omega arith))) ∙ rw (a.outer, a.start, a.size, a.number)

    go : (k : ℕ) → (led_at w (row_at w r)).object ≡ columns_of b o k → ((led_at w (row_at w r)).object.outer ≡ 0 → ⊥) → k ≤ n
        → Stood b (take (56 * n) w) (led_at w (row_at w r)).object
    go zero e ne l = absurd (ne (ap (λ (u : Object). u.outer) e))
    go (suc i) e ne l = record { objects = o; number = i; stands = record { holds = t.tables.objects; inside = omega (arith, t.tables.count); is = e } }

-- the gap stands behind the classes, and before so many rows
module _ {c b : List ℕ} {o : Objects} {n : ℕ} {xs : List Class} {lookups : ℕ} {refs : List Ref} {w : List ℕ} (t : Resolved c b o n xs lookups refs w)
    {gap rows : ℕ} (start : gap ≡ 64 * (n + length xs)) (count : length refs ≡ rows) (room : gap + 32 * rows ≤ length w) where
  module _ {w' : List ℕ} (l : Left gap rows w w') where
    tables : Tables c b o n xs w'
    tables =
        let k = l.kept in
        let front : take (56 * n) w' ≡ take (56 * n) w = (kept_wider k (56 * n) (length w) (omega arith) (omega arith)).before in
        record {
          bytes = t.tables.bytes;
          count = t.tables.count;
          room = rw k.size t.tables.room;
          objects = rw front t.tables.objects;
          classes = table_kept n k (omega arith) t.tables.classes;
        }

    -- a row leads where it led
    target : (r : ℕ) → r < length refs → TargetIn b o xs lookups (drop (56 * n) w') (row_at (drop (56 * n) w') r) (get_or refs r null)
    target r h =
        let a = t.targets.targets r h in
        let f = part-read w w' 20 (row_at w r) (l.columns r (omega arith)) in
        let e : row_at w' r ≡ row_at w r = rw l.kept.size in
        let old = row-behind (56 * n) r w (omega arith) in
        let new = row-behind (56 * n) r w' (omega (arith, l.kept.size)) in
        let g : (c : ℕ) → c + 4 ≤ 20 → le_at 4 (drop (56 * n) w') (row_at (drop (56 * n) w') r + c) ≡ le_at 4 (drop (56 * n) w) (row_at (drop (56 * n) w) r + c) =
        λ c h. new c ∙ rw e (f c h) ∙ sym (old c) in
        record {
          class = rw (add-zero (row_at (drop (56 * n) w') r), add-zero (row_at (drop (56 * n) w) r)) at (g 0 (omega arith)) ∙ a.class;
          outer = g 4 (omega arith) ∙ a.outer;
          start = g 8 (omega arith) ∙ a.start;
          size = g 12 (omega arith) ∙ a.size;
          number = g 16 (omega arith) ∙ a.number;
        }

    pub left-resolved : Resolved c b o n xs lookups refs w'
    left-resolved = record { tables = tables; targets = record { room = omega (arith, length-drop (56 * n) w', l.kept.size); targets = target } }

  module _ {classes objects lo hi k : ℕ} {w' : List ℕ} (same : length xs ≡ classes) (z : State c b n classes objects gap rows lo hi k w w') where
    -- so the next row
    pub state-stood : (r : ℕ) → r < rows → RowStood c b n classes r w'
    state-stood r h = rw (← same) (row-stood (left-resolved z.left) (omega (arith, z.left.kept.size)) r (omega arith))

    -- all are gone through
    pub state-all : rows ≤ k → hi ≤ length w → Pooled c b o n xs lookups objects refs w'
    state-all all h = record {
      resolved = left-resolved z.left;
      texts = record { texts = λ r g. rw same ((done_wider 0 (length w') (omega arith) (omega (arith, z.left.kept.size)) z.done).texts r (omega arith)) };
    }

pub pooled_none : {c b : List ℕ} {o : Objects} {n : ℕ} {xs : List Class} {lookups : ℕ} (objects : ℕ) {refs : List Ref} {w : List ℕ}
    → Resolved c b o n xs lookups refs w → length refs ≡ 0 → Pooled c b o n xs lookups objects refs w
pooled_none objects t e = record { resolved = t; texts = record { texts = λ r h. absurd (omega arith) } }

-- ---- a class and an object that came before

-- their texts are this row's
pub shared : {c b : List ℕ} {n classes objects gap rows lo hi r : ℕ} {v w : List ℕ} → State c b n classes objects gap rows lo hi r v w
    → {class : ℕ} {u : Object} {m : Led} {k : ℕ} → class ≡ (led_at w (row_at w r)).class → u ≡ (led_at w (row_at w r)).object → m ≡ led_at w (row_at w k)
    → Earlier w r class u k → (m.size ≡ 0 → ⊥)
    → TextAt c b n classes objects lo hi w (led_at w (row_at w r)).class (led_at w (row_at w r)).object m.text m.size
shared {c} {b} {n} {classes} {objects} {gap} {rows} {lo} {hi} {r} {v} {w} t {class} {u} {m} {k} i p q e ne =
    let x : (led_at w (row_at w k)).object ≡ (led_at w (row_at w r)).object = e.same ∙ p in
    let y : (led_at w (row_at w k)).class ≡ (led_at w (row_at w r)).class = e.class-same ∙ i in
    let z = subst (λ (y : Led). TextAt c b n classes objects lo hi w (led_at w (row_at w k)).class (led_at w (row_at w k)).object y.text y.size) (sym q)
    ((t.done.texts k e.small).kept (λ z. ne (ap (λ (y : Led). y.size) q ∙ z))) in
    subst (λ (y : ℕ). TextAt c b n classes objects lo hi w y (led_at w (row_at w r)).object m.text m.size) y
    (subst (λ (y : Object). TextAt c b n classes objects lo hi w (led_at w (row_at w k)).class y m.text m.size) x z)

-- ---- marks stay

pub left-marks : (n : ℕ) {gap rows : ℕ} {w w' : List ℕ} → Left gap rows w w' → 56 * n + 32 * rows ≤ length w → MarksKept n rows w w'
left-marks n {gap} {rows} {w} {w'} l room =
    marks-whole n rows w w' room l.kept.size (λ r h. le_at-same 4 w' w (row_at w r + 28) (row_at w r + 28) (l.marks r h))

-- ---- slots set to 0

pub slots_cleared : (gap rows slots : ℕ) (w : List ℕ) {p : List ℕ} → slots ≤ rows → gap + 64 * rows ≤ length w → p ≡ cleared slots (mid gap (length w - gap) w)
    → Left gap rows w (put gap (length w - gap) w p)
slots_cleared gap rows slots w {p} few room e =
    let m : length (mid gap (length w - gap) w) ≡ length w - gap = mid-length gap (length w - gap) w (omega arith) in
    let c : Kept 0 (4 * slots) (mid gap (length w - gap) w) p = rw e (cleared-kept slots (mid gap (length w - gap) w) (omega arith)) in
    let k = put_inner gap (length w - gap) w c (omega arith) (omega arith) (omega arith) in
    record {
      kept = kept_wider k gap (length w) (omega arith) (omega arith);
      columns = λ r h. kept-part k (row_at w r) 20 (inr (omega arith));
      marks = λ r h. kept-part k (row_at w r + 28) 4 (inr (omega arith));
    }

-- ---- a text more

-- bytes were put from a place on
module _ (free : ℕ) (w : List ℕ) {a p : List ℕ} {k : ℕ} (room : free ≤ length w) (v : Wrote (mid free (length w - free) w) a p k) where
  wrote_kept : Kept 0 k (mid free (length w - free) w) p
  wrote_kept = record { size = wrote-length v; before = refl; after = rw v.is (drop-over (mid free (length w - free) w) a k (sym v.size)) }

  lent : length (mid free (length w - free) w) ≡ length w - free
  lent = mid-length free (length w - free) w (omega arith)

  pub put-kept-only : Kept free (free + k) w (put free (length w - free) w p)
  put-kept-only =
      rw (add-zero free) at (put_inner free (length w - free) w wrote_kept (omega arith) (omega arith) (omega (arith, v.fits, lent)))

  pub put-there : mid free k (put free (length w - free) w p) ≡ a
  put-there = ap (take k) (lent-rest free w p room) ∙ wrote-taken v

-- the slot was set
pub slot_kept : (w : List ℕ) (slot x : ℕ) {w₁ : List ℕ} → w₁ ≡ stored 4 w slot x → slot + 4 ≤ length w → Kept slot (slot + 4) w w₁
slot_kept w slot x e h = rw e (stored-kept 4 w slot x h)

pub stood_still : {b : List ℕ} {u : Object} (n : ℕ) (w : List ℕ) {w₁ : List ℕ} {x y : ℕ} → Kept x y w w₁ → 56 * n ≤ x → Stood b (take (56 * n) w) u
    → Stood b (take (56 * n) w₁) u
stood_still n w {w₁} {x} {y} k h s = rw (kept_wider k (56 * n) y h (omega arith)).before s

-- and nothing of rows and texts is changed
pub slot_set : {c b : List ℕ} {n classes objects gap rows lo free r : ℕ} {v w w₁ : List ℕ} {slot : ℕ} → Kept slot (slot + 4) w w₁
    → State c b n classes objects gap rows lo free r v w → 64 * (n + classes) ≤ gap → gap ≤ slot → slot + 4 ≤ lo → lo ≤ free → free + 32 * rows ≤ length w → r < rows
    → State c b n classes objects gap rows lo free r v w₁
slot_set one t front low high start room inside =
    state-kept t one front low (omega arith) (λ i h. inr (omega arith)) (λ i h. inr (omega arith)) (λ i h. inr (omega arith)) (inr high)

-- then the texts were put, and the row keeps them
module _ {c b : List ℕ} {n classes objects gap rows lo free r : ℕ} {v w w₁ w₂ w₃ : List ℕ} {slot size class : ℕ} {u : Object} (one : Kept slot (slot + 4) w w₁)
    (t : State c b n classes objects gap rows lo free r v w) (two : Put c b n classes objects rows free class u w₁ w₂ size) (three : w₃ ≡ noted (row_at w₂ r) free size w₂)
    (at-class : class ≡ (led_at w (row_at w r)).class) (at-u : u ≡ (led_at w (row_at w r)).object) (front : 64 * (n + classes) ≤ gap) (low : gap ≤ slot) (high : slot + 4 ≤ lo) (start : lo ≤ free)
    (room : free + 32 * rows ≤ length w) (inside : r < rows) where
  first_step_lem : State c b n classes objects gap rows lo free r v w₁
  first_step_lem = slot_set one t front low high start room inside

  second-step : State c b n classes objects gap rows lo (free + size) r v w₂
  second-step =
      let s = one.size in
      let y = two.within in
      state_wider
      (state-kept first_step_lem two.kept front (omega arith) (omega arith) (λ i h. inr (omega arith)) (λ i h. inr (omega arith)) (λ i h. inr (omega arith))
      (inl (omega arith)))
      (free + size) (omega arith)

  object_still : (led_at w₂ (row_at w₂ r)).object ≡ u
  object_still =
      let s = one.size in
      let y = two.within in
      let z : row_at w₂ r ≡ row_at w r = rw (two.kept.size, s) in
      rw z
      (object-same w₁ w₂ (row_at w r) (kept-part two.kept (row_at w r) 20 (inr (omega arith)))
      ∙ object-same w w₁ (row_at w r) (kept-part one (row_at w r) 20 (inr (omega arith)))
      ∙ sym at-u)

  class_still : (led_at w₂ (row_at w₂ r)).class ≡ class
  class_still =
      let s = one.size in
      let y = two.within in
      let z : row_at w₂ r ≡ row_at w r = rw (two.kept.size, s) in
      rw z
      (class_same w₁ w₂ (row_at w r) (kept-part two.kept (row_at w r) 20 (inr (omega arith)))
      ∙ class_same w w₁ (row_at w r) (kept-part one (row_at w r) 20 (inr (omega arith)))
      ∙ sym at-class)

  own-text : TextAt c b n classes objects lo (free + size) w₂ (led_at w₂ (row_at w₂ r)).class (led_at w₂ (row_at w₂ r)).object free size
  own-text =
      subst (λ (y : ℕ). TextAt c b n classes objects lo (free + size) w₂ y (led_at w₂ (row_at w₂ r)).object free size) (sym class_still)
      (subst (λ (y : Object). TextAt c b n classes objects lo (free + size) w₂ class y free size) (sym object_still)
      (record { after = start; before = omega arith; is = texts-kept two.kept (omega arith) two.is }))

  pub state-added : State c b n classes objects gap rows lo (free + size) (r + 1) v w₃
  state-added =
      let s = one.size in
      let y = two.within in
      let z = two.kept.size in
      state-next second-step three front (omega arith) (omega arith) inside (λ ne. two.small) (omega (arith, two.few)) (λ ne. own-text)
