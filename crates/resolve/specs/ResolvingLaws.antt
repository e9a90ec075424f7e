-- Laws of rows that are resolved: how many bytes a row's texts take, what is kept of it, and one row more. Assumes nothing.
use Rattle.std.specs.Prelude.{◌≡◌, ◌⊎◌, List, [], ◌∷◌, drop, get_or, Option as Maybe, None, Some}
use Rattle.std.proofs.Math.Path.{refl}
use Rattle.std.proofs.Common.{sym, ◌∙◌, ap, inl, inr, length-drop, drop-drop}
use Rattle.std.proofs.Math.Logic.{by_cases}
use Rattle.std.proofs.Math.Option.{Option, none, some}
use Prim.Native.Nat.{ℕ, zero, suc, ◌+◌, ◌-◌, ◌*◌, ◌/◌, ◌^◌, ◌≤◌, ◌<◌}
use Rattle.std.proofs.Math.Decide.{dec_lt, ℕ_discrete}
use native.Mathlib.Omega.{arith}
use Rattle.std.proofs.Math.ListN.{length, take}
use Rattle.base.specs.Never.{never}
use Rattle.base.specs.Number.{le_at}
use Rattle.base.specs.NumberLaws.{Bytes, bytes-part, drop-take, le_at-drop, le_at-lt}
use Rattle.text.specs.Utf8.{utf8_one, utf8}
use Rattle.scriptblock.specs.Script.{Objects}
use Rattle.meaning.specs.Path.{Path}
use Rattle.meaning.specs.Reference.{Ref, null}
use Rattle.meaning.specs.Report.{or_unknown, size}
use Rattle.meaning.specs.Resolve.{Limits, path_text}
use Rattle.meaning.specs.Scan.{Class}
use Rattle.table.specs.Words.{Kept}
use Rattle.table.specs.WordLaws.{kept_read, kept_wider}
use Rattle.table.specs.Table.{record_at, place_at, link_at, Holds}
use Rattle.table.specs.Tree.{spot}
use Rattle.objects.specs.Work.{object_no}
use Rattle.objects.specs.PathLaws.{link_at_lem, columns-at}
use Rattle.objects.specs.Told.{told, path_bytes}
use Rattle.objects.specs.declared.object.Object.{Object}
use Rattle.objects.specs.declared.path.Path.{Path as Told}
use Rattle.resolve.specs.Classes.{class_no}
use Rattle.resolve.specs.ClassesLaws.{classes-kept}
use Rattle.resolve.specs.Lent.{lent-part}
use Rattle.resolve.specs.Stores.{Cell, no_cell, stores, stores-kept, stores-read}
use Rattle.resolve.specs.Rows.{class_number, object_number, columns_of, path_by, row_at, Read, Means, WordsIn, TargetIn, Tables, Kept as KeptRows, Resolved, Leads, limits_of, target_size}
use Rattle.resolve.specs.RowsLaws.{class-inside, object-inside, native-by, class-found, class-lost-by}
use Rattle.resolve.specs.Resolving.{targeted, RowIn, RowResolved}

-- ---- how many bytes a path takes, or `?`

pub unknown-size : size (or_unknown none) ≡ 1
unfolding utf8_one
unknown-size = refl

module _ {r : Maybe Told} (x : Option Path) (q : r ≡ told x) where
  pub told-unknown : r ≡ None → size (or_unknown (path_text x)) ≡ 1
  told-unknown e = go x (sym e ∙ q)
    where
      go : (x : Option Path) → ◌≡◌ {A = Maybe Told} None (told x) → size (or_unknown (path_text x)) ≡ 1
      go none z = unknown-size
      go (some p) z = never (cc)

  pub told-known : (p : Told) → r ≡ Some p → (p.len ≡ size (or_unknown (path_text x))) × (p.len ≡ length (path_bytes x))
  told-known p e = go x (sym e ∙ q)
    where
      go : (x : Option Path) → Some p ≡ told x → (p.len ≡ size (or_unknown (path_text x))) × (p.len ≡ length (path_bytes x))
      go none z = never (cc)
      go (some y) z = (cc, cc)

-- ---- and both texts of a row

module _ {s b : List ℕ} {o : Objects} {n : ℕ} {xs : List Class} {w : List ℕ} (t : Tables s b o n xs w) {lookups : ℕ} {ref : Ref} {class object : ℕ}
    (l : Leads xs o lookups ref class object) (objects : ℕ) {native : ℕ} (q : native ≡ size (or_unknown (path_text (path_by objects o object)))) where
  native-size : native ≡ size (or_unknown (path_text (path_by objects o (object_number lookups xs o ref))))
  native-size = q ∙ rw l.object-is

  pub size-lost : class ≡ 0 → 2 * native ≡ target_size (limits_of lookups objects) xs o ref
  unfolding target_size
  size-lost z =
      let m = limits_of lookups objects in
      rw (class-lost-by t m ref (sym l.class-is ∙ z), native-by t m ref) (omega (arith, native-size))

  pub size-found : {i own : ℕ} → class ≡ suc i → own ≡ length (utf8 (class_no xs i).path) → native + own ≡ target_size (limits_of lookups objects) xs o ref
  unfolding target_size
  size-found {i} z p =
      let m = limits_of lookups objects in
      let k : class_number xs ref ≡ i + 1 = omega (arith, l.class-is) in
      rw (class-found m xs o ref i k, native-by t m ref) (omega (arith, native-size, p))

-- ---- what four bytes hold

-- so many entries that links of four bytes reach them
pub holds-few : {n stride k : ℕ} {lo hi : ℕ → ℕ} {w : List ℕ} → Holds n stride k lo hi w → Bytes w → k < 2 ^ 32
holds-few {n} {stride} {k} {lo} {hi} {w} t bs = go k refl
  where
    go : (j : ℕ) → k ≡ j → j < 2 ^ 32
    go zero e = omega arith
    go (suc j) e = omega (arith, t.tree.finds j (omega arith), le_at-lt 4 w (place_at n stride (spot n (link_at n stride w) lo hi (lo j) (hi j))) bs)

-- each column of an object fits
pub record Small (u : Object) : Type 0 where
  pub outer : u.outer < 2 ^ 32
  pub start : u.start < 2 ^ 32
  pub size : u.size < 2 ^ 32
  pub number : u.number < 2 ^ 32

module _ {s b : List ℕ} {o : Objects} {n : ℕ} {xs : List Class} {w : List ℕ} (t : Tables s b o n xs w) (bs : Bytes w) where
  pub class-small : (ref : Ref) → class_number xs ref < 2 ^ 32
  class-small ref = omega (arith, class-inside xs ref, holds-few t.classes.keys (rw (lent-part (56 * n) w) at (bytes-part (length w - 56 * n) (56 * n) w bs)))

  pub object-small : (k : ℕ) → k ≤ n → Small (columns_of b o k)
  unfolding object_no
  object-small zero h = record { outer = omega arith; start = omega arith; size = omega arith; number = omega arith }
  object-small (suc i) h =
      let v = take (56 * n) w in
      let z : 56 * i < length v = omega (arith, t.objects.all.entered.size, t.count) in
      let at = record_at (3 * (length v / 56)) 44 i in
      let c = columns-at t.objects i z refl in
      let vs = bytes-part (56 * n) 0 w bs in
      record {
        outer = omega (arith, link_at_lem t.objects i z refl refl, le_at-lt 4 v (at + 24) vs);
        start = omega (arith, c.start, le_at-lt 4 v (at + 28) vs);
        size = omega (arith, c.size, le_at-lt 4 v (at + 32) vs);
        number = omega (arith, c.number, le_at-lt 4 v (at + 36) vs);
      }

-- ---- a row's columns, stored

-- they are read back
pub record Back (at number : ℕ) (u : Object) (w : List ℕ) : Type 0 where
  pub class : le_at 4 w at ≡ number
  pub outer : le_at 4 w (at + 4) ≡ u.outer
  pub start : le_at 4 w (at + 8) ≡ u.start
  pub size : le_at 4 w (at + 12) ≡ u.size
  pub number_is : le_at 4 w (at + 16) ≡ u.number

module _ (at class : ℕ) (u : Object) where
  abbrev cells : List Cell
  cells =
      record { width = 4; from = 0; value = class }
      ∷ record { width = 4; from = 4; value = u.outer }
      ∷ record { width = 4; from = 8; value = u.start }
      ∷ record { width = 4; from = 12; value = u.size }
      ∷ record { width = 4; from = 16; value = u.number }
      ∷ []

  module _ (w : List ℕ) (room : at + 20 ≤ length w) where
    first : at + 0 ≡ at
    first = omega arith

    targeted-is : stores cells at w ≡ targeted at class u w
    unfolding stores targeted
    targeted-is = rw first

    -- only the first of the row's bytes are written
    pub targeted-kept : Kept at (at + 20) w (targeted at class u w)
    targeted-kept = rw (targeted-is, first) at (stores-kept cells 0 20 at w (omega arith) room)

    -- and they read back
    column-back : (j : ℕ) → j < 5 → (get_or cells j no_cell).value < 256 ^ (get_or cells j no_cell).width
        → le_at (get_or cells j no_cell).width (targeted at class u w) (at + (get_or cells j no_cell).from) ≡ (get_or cells j no_cell).value
    column-back j h f = rw targeted-is at (stores-read cells 0 20 at w (omega arith) room j h f)

    pub targeted-back : class < 2 ^ 32 → Small u → Back at class u (targeted at class u w)
    targeted-back h g = record {
      class = rw first at (column-back 0 (omega arith) h);
      outer = column-back 1 (omega arith) g.outer;
      start = column-back 2 (omega arith) g.start;
      size = column-back 3 (omega arith) g.size;
      number_is = column-back 4 (omega arith) g.number;
    }

-- ---- a change of the work buffer, behind a place

pub kept-drop : {b e : ℕ} {w w' : List ℕ} (a : ℕ) → Kept b e w w' → a ≤ b → b ≤ e → Kept (b - a) (e - a) (drop a w) (drop a w')
kept-drop {b} {e} {w} {w'} a k h g =
    let z : a + (e - a) ≡ e = omega arith in
    record {
      size = simp length-drop (rw k.size);
      before = sym (drop-take a b w') ∙ ap (drop a) k.before ∙ drop-take a b w;
      after = rw (drop-drop (e - a) a w', drop-drop (e - a) a w, z) k.after;
    }

-- ---- one row

module _ {s b : List ℕ} {o : Objects} {n : ℕ} {xs : List Class} {r : ℕ} {ref : Ref} {w : List ℕ} (t : RowIn s b o n xs r ref w) where
  pub row_room : 56 * n + 32 * (r + 1) ≤ length w
  row_room = omega (arith, t.apart, t.tables.room, length-drop (56 * n) w)

  -- its place in the whole buffer
  row-place : row_at w r ≡ 56 * n + row_at (drop (56 * n) w) r
  row-place = omega (arith, row_room, length-drop (56 * n) w)

  -- what code reads there
  pub row-means : {x y : ℕ} → x ≡ le_at 8 w (row_at w r) → y ≡ le_at 8 w (row_at w r + 8) → Means x y ref
  row-means p q =
      let z : row_at w r + 8 ≡ 56 * n + (row_at (drop (56 * n) w) r + 8) = omega (arith, row-place) in
      record {
        lo = p ∙ rw row-place (sym (le_at-drop 8 (56 * n) w (row_at (drop (56 * n) w) r))) ∙ t.words.lo;
        hi = q ∙ rw z (sym (le_at-drop 8 (56 * n) w (row_at (drop (56 * n) w) r + 8))) ∙ t.words.hi;
        read = t.read;
      }

  module _ {w' : List ℕ} (k : Kept (row_at w r) (row_at w r + 20) w w') where
    behind : Kept (row_at (drop (56 * n) w) r) (row_at (drop (56 * n) w) r + 20) (drop (56 * n) w) (drop (56 * n) w')
    behind =
        let p : row_at w r - 56 * n ≡ row_at (drop (56 * n) w) r = omega (arith, row-place) in
        let q : row_at w r + 20 - 56 * n ≡ row_at (drop (56 * n) w) r + 20 = omega (arith, row-place) in
        rw (p, q) at (kept-drop (56 * n) k (omega (arith, row-place)) (omega arith))

    -- the tables stay
    pub row-tables : Tables s b o n xs w'
    row-tables =
        let f = kept_wider k (56 * n) (row_at w r + 20) (omega (arith, row-place)) (omega arith) in
        record {
          bytes = t.tables.bytes;
          count = t.tables.count;
          room = rw k.size t.tables.room;
          objects = rw f.before t.tables.objects;
          classes = classes-kept (row_at (drop (56 * n) w) r) (row_at (drop (56 * n) w) r + 20) t.tables.classes behind (omega (arith, t.apart));
        }

  -- the row is resolved
  module _ (m : Limits) {class : ℕ} {u : Object} {w' : List ℕ} {at : ℕ} (place : at ≡ row_at w r) (q : w' ≡ targeted at class u w) (bs : Bytes w')
      (c : class ≡ class_number xs ref) (i : u ≡ columns_of b o (object_number m.lookups xs o ref)) where
    fits : row_at w r + 20 ≤ length w
    fits = omega (arith, row_room)

    change : Kept (row_at w r) (row_at w r + 20) w w'
    change = rw (q, place) (targeted-kept (row_at w r) class u w fits)

    back : Back (row_at w r) class u w'
    back = rw (q, place) (targeted-back (row_at w r) class u w fits (rw c (class-small (row-tables change) bs ref))
        (rw i (object-small (row-tables change) bs (object_number m.lookups xs o ref) (object-inside t.tables m.lookups ref))))

    -- a column of the row, seen from behind the objects
    row_same : 56 * n + row_at (drop (56 * n) w') r ≡ row_at w r
    row_same = omega (arith, row_room, length-drop (56 * n) w', change.size)

    column : (p q : ℕ) {v : ℕ} → 56 * n + p ≡ q → le_at 4 w' q ≡ v → le_at 4 (drop (56 * n) w') p ≡ v
    column p q z e = le_at-drop 4 (56 * n) w' p ∙ rw z e

    pub row-resolved : {total : ℕ} → total ≡ target_size m xs o ref → RowResolved m b o n xs r ref w w' total
    row-resolved e =
        let p = row_at (drop (56 * n) w') r in
        let a = row_at w r in
        record {
          change = change;
          target = record {
            class = column p a row_same (back.class ∙ c);
            outer = column (p + 4) (a + 4) (omega (arith, row_same)) (back.outer ∙ rw i);
            start = column (p + 8) (a + 8) (omega (arith, row_same)) (back.start ∙ rw i);
            size = column (p + 12) (a + 12) (omega (arith, row_same)) (back.size ∙ rw i);
            number = column (p + 16) (a + 16) (omega (arith, row_same)) (back.number_is ∙ rw i);
          };
          size = e;
        }

-- ---- all rows, one after another

-- the first i are resolved, the others are as they were kept
pub record Part (lookups : ℕ) (s b : List ℕ) (o : Objects) (n : ℕ) (xs : List Class) (refs : List Ref) (i : ℕ) (w : List ℕ) : Type 0 where
  pub tables : Tables s b o n xs w
  pub apart : record_at (2 * n) 64 (length xs) + 32 * length refs ≤ length (drop (56 * n) w)
  pub done : (r : ℕ) → r < i → TargetIn b o xs lookups (drop (56 * n) w) (row_at (drop (56 * n) w) r) (get_or refs r null)
  pub left : (r : ℕ) → i ≤ r → r < length refs → WordsIn (drop (56 * n) w) (row_at (drop (56 * n) w) r) (get_or refs r null)
  pub read : (r : ℕ) → r < length refs → Read (get_or refs r null)

-- a row stays where nothing within its bytes changes
module _ {w w' : List ℕ} {at : ℕ} {ref : Ref} (same : (k p : ℕ) → at ≤ p → p + k ≤ at + 32 → le_at k w' p ≡ le_at k w p) where
  pub words_same : WordsIn w at ref → WordsIn w' at ref
  words_same t = record { lo = same 8 at (omega arith) (omega arith) ∙ t.lo; hi = same 8 (at + 8) (omega arith) (omega arith) ∙ t.hi }

  target-same : {b : List ℕ} {o : Objects} {xs : List Class} {lookups : ℕ} → TargetIn b o xs lookups w at ref → TargetIn b o xs lookups w' at ref
  target-same t = record {
    class = same 4 at (omega arith) (omega arith) ∙ t.class;
    outer = same 4 (at + 4) (omega arith) (omega arith) ∙ t.outer;
    start = same 4 (at + 8) (omega arith) (omega arith) ∙ t.start;
    size = same 4 (at + 12) (omega arith) (omega arith) ∙ t.size;
    number = same 4 (at + 16) (omega arith) (omega arith) ∙ t.number;
  }

-- a row's bytes are apart from those that are written of another
rows_apart : (l i r : ℕ) → (r ≡ i → ⊥) → 32 * (i + 1) ≤ l → 32 * (r + 1) ≤ l → (k p : ℕ) → l - 32 * (r + 1) ≤ p → p + k ≤ l - 32 * (r + 1) + 32
    → (p + k ≤ l - 32 * (i + 1)) ⊎ (l - 32 * (i + 1) + 20 ≤ p)
rows_apart l i r ne a b k p x y =
    by_cases (dec_lt r i)
    (λ (h : r < i). inr (omega arith))
    (λ (h : ¬ (r < i)). inl (omega arith))

module _ {lookups : ℕ} {s b : List ℕ} {o : Objects} {n : ℕ} {xs : List Class} {refs : List Ref} {w : List ℕ} where
  pub part_none : KeptRows s b o n xs refs w → Part lookups s b o n xs refs 0 w
  part_none t = record {
    tables = t.tables;
    apart = t.apart;
    done = λ r h. absurd (omega arith);
    left = λ r z h. t.rows.words r h;
    read = t.rows.read;
  }

  module _ {i : ℕ} (t : Part lookups s b o n xs refs i w) where
    pub part-all : length refs ≤ i → Resolved s b o n xs lookups refs w
    part-all h = record { tables = t.tables; targets = record { room = omega (arith, t.apart); targets = λ r g. t.done r (omega arith) } }

    module _ (h : i < length refs) where
      -- the next row is there, and once it is resolved one more is
      pub part-row : RowIn s b o n xs i (get_or refs i null) w
      part-row = record { tables = t.tables; apart = omega (arith, t.apart); words = t.left i (omega arith) h; read = t.read i h }

      module _ {objects : ℕ} {w' : List ℕ} {x : ℕ} (c : RowResolved (limits_of lookups objects) b o n xs i (get_or refs i null) w w' x) where
        kept : Kept (row_at (drop (56 * n) w) i) (row_at (drop (56 * n) w) i + 20) (drop (56 * n) w) (drop (56 * n) w')
        kept = behind part-row c.change

        other : (r : ℕ) → r < length refs → (r ≡ i → ⊥) → (k p : ℕ) → row_at (drop (56 * n) w) r ≤ p → p + k ≤ row_at (drop (56 * n) w) r + 32
            → le_at k (drop (56 * n) w') p ≡ le_at k (drop (56 * n) w) p
        other r g ne k p l u =
            kept_read kept k p (rows_apart (length (drop (56 * n) w)) i r ne (omega (arith, t.apart)) (omega (arith, t.apart)) k p l u)

        pub part-more : Part lookups s b o n xs refs (i + 1) w'
        part-more = record {
          tables = row-tables part-row c.change;
          apart = rw kept.size t.apart;
          done = λ r g. by_cases (ℕ_discrete r i)
              (λ (z : r ≡ i). rw z c.target)
              (λ (z : ¬ (r ≡ i)). rw kept.size (target-same (other r (omega arith) z) (t.done r (omega arith))));
          left = λ r l g. rw kept.size (words_same (other r g (λ z. omega arith)) (t.left r (omega arith) g));
          read = t.read;
        }
