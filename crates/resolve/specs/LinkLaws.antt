-- Laws of classes that are linked to their supers' classes: how they are kept then, and that all else stays. Assumes nothing.
use Rattle.std.specs.Prelude.{◌≡◌, ◌⊎◌, List, [], ◌∷◌, ℕ, suc, ◌+◌, ◌-◌, ◌*◌, ◌^◌, ◌≤◌, ◌<◌, length, drop}
use Rattle.std.proofs.Math.Path.{refl}
use Rattle.std.proofs.Common.{sym, ◌∙◌, ap, inl, inr, arith, length-drop}
use Rattle.std.proofs.Math.Logic.{by_cases}
use Rattle.std.proofs.Math.Option.{some}
use Rattle.std.proofs.Math.Decide.{ℕ_discrete, dec_lt}
use Rattle.base.specs.Number.{le_at}
use Rattle.base.specs.NumberLaws.{le_at-drop}
use Rattle.base.specs.Seek.{seek}
use Rattle.scriptblock.specs.Script.{Objects}
use Rattle.meaning.specs.Key.{Key, public, same_key}
use Rattle.meaning.specs.Reference.{Ref, meant}
use Rattle.meaning.specs.Scan.{Class}
use Rattle.table.specs.Words.{stored, Kept}
use Rattle.table.specs.WordLaws.{kept_read, kept-none, kept_wider}
use Rattle.table.specs.Table.{record_at}
use Rattle.table.specs.TableLaws.{record_next, record_other, holds-column}
use Rattle.resolve.specs.Classes.{class_no, SuperIn, link}
use Rattle.resolve.specs.ClassesLaws.{seek-inside, seek-key, class_same, super-same}
use Rattle.resolve.specs.ChainLaws.{keeps-key, keeps-look, keeps-link, keeps-none, class-room, super-keeps, seek-le}
use Rattle.resolve.specs.Stores.{Cell, stores, stores-kept, stores-read}
use Rattle.resolve.specs.Rows.{class_number, row_at, Keeps, Tables, Kept as KeptRows, SomeTables, SomeClasses, super_at, ClassLinked, LinkedTo, SuperOnly}
use Rattle.resolve.specs.ResolvingLaws.{kept-drop, words_same}
use Rattle.resolve.specs.Marks.{MarksKept}
use Rattle.resolve.specs.MarkLaws.{marks-whole}

-- tables with no row
pub tables-kept : {s b : List ℕ} {o : Objects} {n : ℕ} {xs : List Class} {w : List ℕ} → Tables s b o n xs w → KeptRows s b o n xs [] w
tables-kept t = record {
  tables = t;
  rows = record { room = omega arith; words = λ r h. absurd (omega arith); read = λ r h. absurd (omega arith) };
  apart = omega (arith, t.classes.keys.room);
}

-- class i's record is inside; so are the records of as many classes as were found
pub record_room : {n : ℕ} {w : List ℕ} (i : ℕ) → SomeClasses n (i + 1) w → 56 * n + record_at (2 * n) 64 i + 64 ≤ length w
record_room i t = class-room t.some.holds i (omega (arith, t.inside))

pub found-few : {n k : ℕ} {w : List ℕ} (key : Key) (t : SomeTables n w)
    → ((s b : List ℕ) (o : Objects) (xs : List Class) → Tables s b o n xs w → k ≡ seek (λ (c : Class). same_key c.key key) xs) → 64 * k ≤ length w
found-few {n} {k} {w} key t q =
    omega (
      arith,
      seek-le t.classes key k (q t.corpus t.block t.objects t.classes t.holds),
      t.holds.classes.keys.room,
      length-drop (56 * n) w,
    )

-- ---- the two numbers stored in a record

module _ (at v : ℕ) where
  abbrev cells : List Cell
  cells = record { width = 8; from = 24; value = v } ∷ record { width = 8; from = 32; value = 0 } ∷ []

  abbrev pub linked : List ℕ → List ℕ
  linked w = stored 8 (stored 8 w (at + 24) v) (at + 32) 0

  module _ (w : List ℕ) (room : at + 64 ≤ length w) where
    linked-is : stores cells at w ≡ linked w
    unfolding stores
    linked-is = refl

    linked-kept : Kept (at + 24) (at + 40) w (linked w)
    linked-kept = rw linked-is at (stores-kept cells 24 40 at w (omega arith) (omega arith))

    linked-lo : v < 2 ^ 64 → le_at 8 (linked w) (at + 24) ≡ v
    linked-lo f = rw linked-is at (stores-read cells 24 40 at w (omega arith) (omega arith) 0 (omega arith) f)

    linked-hi : le_at 8 (linked w) (at + 32) ≡ 0
    linked-hi = rw linked-is at (stores-read cells 24 40 at w (omega arith) (omega arith) 1 (omega arith) (omega arith))

-- ---- class i, left as it is

pub only_none : (n i : ℕ) (w : List ℕ) → SuperOnly n i w w
only_none n i w = record { kept = kept-none (super_at n i) (super_at n i + 16) w }

module _ {s b : List ℕ} {o : Objects} {n : ℕ} {xs : List Class} {w : List ℕ} (t : Tables s b o n xs w) {i at : ℕ} (h : i < length xs)
    (place : at ≡ 56 * n + record_at (2 * n) 64 i) {lo hi : ℕ} (p : lo ≡ le_at 8 w (at + 24)) (q : hi ≡ le_at 8 w (at + 32)) where
  keeps : Keeps xs lo hi (class_no xs i).super
  keeps = super-keeps t i h place p q

  lo-is : le_at 8 w (super_at n i) ≡ lo
  lo-is = let z : super_at n i ≡ at + 24 = omega arith in rw z (sym p)

  hi-is : le_at 8 w (super_at n i + 8) ≡ hi
  hi-is = let z : super_at n i + 8 ≡ at + 32 = omega arith in rw z (sym q)

  -- it means no key, or is linked already
  pub linked_already : hi ≡ 0 → ClassLinked n xs i w w
  linked_already z = record { found = λ k e. (lo-is ∙ number k e, hi-is ∙ z); none = λ e. (refl, refl) }
    where
      number : (k : ℕ) → class_number xs (class_no xs i).super ≡ k + 1 → lo ≡ 2 ^ 63 + k
      number k e =
          by_cases (dec_lt lo (2 ^ 63))
          (λ (g : lo < 2 ^ 63). absurd (omega (arith, keeps-none keeps t.classes z g)))
          (λ (g : ¬ (lo < 2 ^ 63)). omega (arith, keeps-link keeps t.classes z (omega arith)))

  -- no class has its key
  pub linked-lost : 0 < hi → {k : ℕ} → k ≡ seek (λ (c : Class). same_key c.key (public lo hi)) xs → k ≡ 0 → ClassLinked n xs i w w
  linked-lost g f z =
      record { found = λ j e. absurd (omega (arith, f, keeps-look keeps t.classes g)); none = λ e. (refl, refl) }

-- ---- class i, linked to class k

module _ {s b : List ℕ} {o : Objects} {n : ℕ} {xs : List Class} {refs : List Ref} {w : List ℕ} (t : KeptRows s b o n xs refs w) {i at : ℕ} (h : i < length xs)
    (place : at ≡ 56 * n + record_at (2 * n) 64 i) {lo hi k : ℕ} (p : lo ≡ le_at 8 w (at + 24)) (q : hi ≡ le_at 8 w (at + 32)) (hash : 0 < hi)
    (f : suc k ≡ seek (λ (c : Class). same_key c.key (public lo hi)) xs) (few : 2 ^ 63 + k < 2 ^ 64)
    {w' : List ℕ} (e : w' ≡ linked at (2 ^ 63 + k) w) where
  room : at + 64 ≤ length w
  room = omega (arith, class-room t.tables i h)

  change : Kept (at + 24) (at + 40) w w'
  change = rw e (linked-kept at (2 ^ 63 + k) w room)

  behind : Kept (record_at (2 * n) 64 i + 24) (record_at (2 * n) 64 i + 40) (drop (56 * n) w) (drop (56 * n) w')
  behind =
      let a : at + 24 - 56 * n ≡ record_at (2 * n) 64 i + 24 = omega arith in
      let d : at + 40 - 56 * n ≡ record_at (2 * n) 64 i + 40 = omega arith in
      rw (a, d) at (kept-drop (56 * n) change (omega arith) (omega arith))

  -- its super means that class
  means : meant (class_no xs i).super ≡ some (class_no xs k).key
  means =
      keeps-key (super-keeps t.tables i h place p q) hash
      ∙ ap (λ (x : Key). some x) (sym (seek-key xs (public lo hi) k (sym f ∙ omega arith)))

  inside : k < length xs
  inside = seek-inside xs (public lo hi) k (sym f ∙ omega arith)

  own : SuperIn xs (class_no xs i).super (le_at 8 (drop (56 * n) w') (record_at (2 * n) 64 i + 24)) (le_at 8 (drop (56 * n) w') (record_at (2 * n) 64 i + 32))
  own =
      let a : 56 * n + (record_at (2 * n) 64 i + 24) ≡ at + 24 = omega arith in
      let d : 56 * n + (record_at (2 * n) 64 i + 32) ≡ at + 32 = omega arith in
      link k inside means
      (le_at-drop 8 (56 * n) w' (record_at (2 * n) 64 i + 24) ∙ rw (a, e) (linked-lo at (2 ^ 63 + k) w room few))
      (le_at-drop 8 (56 * n) w' (record_at (2 * n) 64 i + 32) ∙ rw (d, e) (linked-hi at (2 ^ 63 + k) w room))

  -- the other records, and its other columns
  other : (j m c : ℕ) → c + m ≤ 64 → (i ≡ j → ⊥) → le_at m (drop (56 * n) w') (record_at (2 * n) 64 j + c) ≡ le_at m (drop (56 * n) w) (record_at (2 * n) 64 j + c)
  other j m c u z =
      kept_read behind m (record_at (2 * n) 64 j + c)
      (record_other (2 * n) 64 i (record_at (2 * n) 64 i + 24) (record_at (2 * n) 64 i + 40) (omega arith) (omega arith) j c m z u)

  same : (j m c : ℕ) → c + m ≤ 64 → (c + m ≤ 24) ⊎ (40 ≤ c) → le_at m (drop (56 * n) w') (record_at (2 * n) 64 j + c) ≡ le_at m (drop (56 * n) w) (record_at (2 * n) 64 j + c)
  same j m c u v = go (ℕ_discrete i j) v
    where
      go : Dec (i ≡ j) → (c + m ≤ 24) ⊎ (40 ≤ c) → le_at m (drop (56 * n) w') (record_at (2 * n) 64 j + c) ≡ le_at m (drop (56 * n) w) (record_at (2 * n) 64 j + c)
      go (yes z) (inl l) = kept_read behind m (record_at (2 * n) 64 j + c) (inl (omega arith))
      go (yes z) (inr l) = kept_read behind m (record_at (2 * n) 64 j + c) (inr (omega arith))
      go (no z) l = other j m c u z

  supers : (j : ℕ) → j < length xs → Dec (i ≡ j)
      → SuperIn xs (class_no xs j).super (le_at 8 (drop (56 * n) w') (record_at (2 * n) 64 j + 24)) (le_at 8 (drop (56 * n) w') (record_at (2 * n) 64 j + 32))
  supers j g (yes z) = rw (← z) own
  supers j g (no z) = super-same (t.tables.classes.supers j g) (other j 8 24 (omega arith) z) (other j 8 32 (omega arith) z)

  pub class-linked : KeptRows s b o n xs refs w'
  class-linked = record {
    tables = record {
      bytes = t.tables.bytes;
      count = t.tables.count;
      room = rw change.size t.tables.room;
      objects = rw (kept_wider change (56 * n) (at + 40) (omega arith) (omega arith)).before t.tables.objects;
      classes = record {
        keys = holds-column t.tables.classes.keys behind i (omega arith) (omega arith);
        columns = λ j g. class_same (t.tables.classes.columns j g) (λ m c l u. same j m c u (inr l));
        supers = λ j g. supers j g (ℕ_discrete i j);
      };
    };
    rows = record {
      room = rw behind.size t.rows.room;
      words = λ r g. rw behind.size (words_same
          (λ m x l u. kept_read behind m x (inr (omega (arith, record_next (2 * n) 64 i (length xs) h, t.apart))))
          (t.rows.words r g));
      read = t.rows.read;
    };
    apart = rw behind.size t.apart;
  }

  pub class-only : SuperOnly n i w w'
  class-only =
      let a : super_at n i ≡ at + 24 = omega arith in
      let d : super_at n i + 16 ≡ at + 40 = omega arith in
      record { kept = rw (d, a) change }

  pub class_now : ClassLinked n xs i w w'
  class_now =
      let a : super_at n i ≡ at + 24 = omega arith in
      let d : super_at n i + 8 ≡ at + 32 = omega arith in
      let is = keeps-look (super-keeps t.tables i h place p q) t.tables.classes hash in
      record {
        found = λ j g.
            let z : 2 ^ 63 + k ≡ 2 ^ 63 + j = omega (arith, f, is) in
            (rw (a, e) (linked-lo at (2 ^ 63 + k) w room few ∙ z), rw (d, e) (linked-hi at (2 ^ 63 + k) w room));
        none = λ g. absurd (omega (arith, f, is));
      }

-- ---- the first classes, one after another

pub linked-none : (n : ℕ) (xs : List Class) (w : List ℕ) → LinkedTo n xs 0 w w
linked-none n xs w = record { linked = λ i h. absurd (omega arith); others = λ a m h. refl }

-- one class more
module _ {n : ℕ} {xs : List Class} {k : ℕ} {u v w : List ℕ} (t : LinkedTo n xs k u v) (e : ClassLinked n xs k v w) (only : SuperOnly n k v w) where
  -- what a class's super is kept in lies outside another's
  outside : (i j a : ℕ) → (i ≡ j → ⊥) → super_at n i ≤ a → a ≤ super_at n i + 8 → (a + 8 ≤ super_at n j) ⊎ (super_at n j + 16 ≤ a)
  outside i j a z l h = by_cases (dec_lt i j) (λ (g : i < j). inl (omega arith)) (λ (g : ¬ (i < j)). inr (omega arith))

  new : ClassLinked n xs k u w
  new =
      let a = t.others (super_at n k) 8 (λ i h. outside k i (super_at n k) (λ z. omega arith) (omega arith) (omega arith)) in
      let d = t.others (super_at n k + 8) 8 (λ i h. outside k i (super_at n k + 8) (λ z. omega arith) (omega arith) (omega arith)) in
      record { found = e.found; none = λ z. ((e.none z).0 ∙ a, (e.none z).1 ∙ d) }

  old : (i : ℕ) → i < k → ClassLinked n xs i u w
  old i h =
      let a = kept_read only.kept 8 (super_at n i) (outside i k (super_at n i) (λ z. omega arith) (omega arith) (omega arith)) in
      let d = kept_read only.kept 8 (super_at n i + 8) (outside i k (super_at n i + 8) (λ z. omega arith) (omega arith) (omega arith)) in
      let x = t.linked i h in
      record { found = λ j z. (a ∙ (x.found j z).0, d ∙ (x.found j z).1); none = λ z. (a ∙ (x.none z).0, d ∙ (x.none z).1) }

  pub linked-more : LinkedTo n xs (k + 1) u w
  linked-more = record {
    linked = λ i h. go i h (ℕ_discrete k i);
    others = λ a m h. kept_read only.kept m a (h k (omega arith)) ∙ t.others a m (λ i g. h i (omega arith));
  }
    where
      go : (i : ℕ) → i < k + 1 → Dec (k ≡ i) → ClassLinked n xs i u w
      go i h (yes z) = rw (← z) new
      go i h (no z) = old i (omega arith)

-- rows stand behind the classes, so their marks stay
pub linked-marks : {s b : List ℕ} {o : Objects} {n rows : ℕ} {xs : List Class} {refs : List Ref} {k : ℕ} {w w' : List ℕ} → KeptRows s b o n xs refs w
    → length refs ≡ rows → k ≤ length xs → LinkedTo n xs k w w' → length w' ≡ length w → MarksKept n rows w w'
linked-marks {n = n} {rows} {xs} {refs} {k} {w} {w'} t count h l size =
    let d = length-drop (56 * n) w in
    marks-whole n rows w w' (omega (arith, t.apart, t.tables.room, d)) size
    (λ r g. l.others (row_at w r + 28) 4 (λ i u. inr (omega (arith, record_next (2 * n) 64 i (length xs) (omega arith), t.apart, t.tables.room, d))))
