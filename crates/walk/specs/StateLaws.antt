-- Laws of the walk's state: how it goes on with an export's row and with its class, and that it stays what it is once nothing more is entered.
-- Assumes nothing.
use Rattle.std.specs.Prelude.{◌≡◌, Bool, true, false, not, ◌&&◌, eqb, take, drop}
use Rattle.std.proofs.Math.Path.{refl, sym}
use Rattle.std.proofs.Common.{◌∙◌, ap, add-one, eq-eqb, ne_eqb, length-drop}
use mathlib.Core.List.{List, [], ◌∷◌, ◌++◌, map-append, append_assoc, append-nil}
use Rattle.std.proofs.Math.Option.{none}
use Prim.Native.Nat.{ℕ, zero, suc, ◌+◌, ◌*◌, ◌-◌, ◌/◌, ◌^◌, ◌≤◌, ◌<◌}
use Rattle.std.proofs.Math.Decide.{ℕ_discrete}
use native.Mathlib.Omega.{arith}
use Rattle.std.proofs.Math.ListN.{length, get_or, length-append}
use Rattle.std.proofs.lemmas.List.{length-map}
use Rattle.base.specs.Find.{kept}
use Rattle.base.specs.Index.{kind}
use Rattle.base.specs.Never.{never}
use Rattle.base.specs.NumberLaws.{Bytes}
use Rattle.scriptblock.specs.Script.{Objects}
use Rattle.scriptblock.specs.declared.script.Entry.{Entry}
use Rattle.zen.specs.Zen.{Read, no_export}
use Rattle.zen.specs.declared.tables.Export.{Export}
use Rattle.meaning.specs.Call.{Placed}
use Rattle.meaning.specs.ClassTest.{names_class}
use Rattle.meaning.proofs.ClassTest.{class-test-none}
use Rattle.meaning.specs.Path.{object_at, path_of}
use Rattle.meaning.specs.Reference.{Package}
use Rattle.meaning.specs.Report.{class_ref}
use Rattle.meaning.specs.Scan.{is_class, class_at, candidate_kind, is_candidate}
use Rattle.objects.specs.Work.{ObjectsIn}
use Rattle.objects.specs.WorkLaws.{parts_of_lem, entries-length}
use Rattle.table.specs.Table.{cleared}
use Rattle.table.specs.TableLaws.{cleared-kept}
use Rattle.table.specs.Words.{put}
use Rattle.packages.specs.Meaning.{words_of}
use Rattle.packages.specs.Walk.{place_of, package_at}
use Rattle.packages.specs.declared.entries.Words.{Words}
use Rattle.resolve.specs.Classes.{Classes, Entered, Stands}
use Rattle.resolve.specs.ClassesLaws.{classes-none}
use Rattle.walk.specs.Found.{Found, classes_in, base_size, head_size, with_export, with_exports, with_package, found_in, count_of, State}
use Rattle.walk.specs.FoundLaws.{found-once}
use Rattle.walk.specs.KeptLaws.{worded-kept, kept_row, kept-class}
use Rattle.resolve.specs.Lent.{lent-front, lent-rest, lent_length}
use Rattle.walk.specs.RepeatLaws.{twice-more, twice-last}
use Rattle.resolve.specs.Rows.{worded, row_at, Kept}
use Rattle.walk.specs.Steps.{with_row, with_class, with_own, opened_as, closed_as, Behind}
use Rattle.walk.specs.declared.walk.Census.{Census}
use Rattle.walk.specs.declared.walk.Entering.TheVariants.{Open, Full, Repeated}

-- ---- what an export adds

module _ (r : Read) (e : Export) where
  pub candidate-not : candidate_kind r e ≡ 0 → is_candidate r e ≡ false
  candidate-not h = rw (eq-eqb (candidate_kind r e) 0 h)

  pub candidate-is : (candidate_kind r e ≡ 0 → ⊥) → is_candidate r e ≡ true
  candidate-is h = rw (ne_eqb (candidate_kind r e) 0 h)

module _ (p : Package) (i : ℕ) (f : Found) where
  abbrev export : Export
  export = get_or p.read.exports i no_export

  pub row-none : is_candidate p.read export ≡ false → with_row p i f ≡ f
  unfolding with_row
  row-none e = let z : f.size + 0 ≡ f.size = omega arith in rw (e, append-nil f.refs, z)

  pub row_more : is_candidate p.read export ≡ true
      → with_row p i f ≡ record { placed = f.placed; refs = f.refs ++ (class_ref p export ∷ []); size = f.size + base_size p export }
  unfolding with_row
  row_more e = rw e

  pub class-none : (limit : ℕ) (o : Objects) (j : ℕ) → is_class limit o export ≡ false → with_class limit o j p i f ≡ f
  unfolding with_class
  class-none limit o j e = rw (e, append-nil f.placed)

  pub class-more : (limit : ℕ) (o : Objects) (j : ℕ) → is_class limit o export ≡ true → with_class limit o j p i f ≡ with_own j p i f
  unfolding with_class with_own
  class-more limit o j e = rw e

  -- its row first, then its class
  pub export-both : (limit : ℕ) (o : Objects) (j : ℕ) → with_export limit o j p i f ≡ with_class limit o j p i (with_row p i f)
  unfolding with_export with_class with_row
  export-both limit o j = refl

-- ---- behind

behind-same : (f : Found) → Behind f f
behind-same f = record { more = []; placed = sym (append-nil f.placed); rows = omega arith }

behind-then : {f g h : Found} → Behind f g → Behind g h → Behind f h
behind-then {f} {g} {h} a b = record {
  more = a.more ++ b.more;
  placed = b.placed ∙ (rw a.placed (append_assoc f.placed a.more b.more));
  rows = omega (arith, a.rows, b.rows);
}

module _ (limit : ℕ) (o : Objects) (j : ℕ) (p : Package) where
  pub row-behind : (i : ℕ) (f : Found) → Behind f (with_row p i f)
  unfolding with_row
  row-behind i f =
      let e = get_or p.read.exports i no_export in
      record { more = []; placed = sym (append-nil f.placed); rows = omega (arith, length-append f.refs (kept (is_candidate p.read e) (class_ref p e) [])) }

  pub class-behind : (i : ℕ) (f : Found) → Behind f (with_class limit o j p i f)
  unfolding with_class
  class-behind i f =
      let e = get_or p.read.exports i no_export in
      record { more = kept (is_class limit o e) (record { block = j; class = class_at p i e }) []; placed = refl; rows = omega arith }

  export-behind : (i : ℕ) (f : Found) → Behind f (with_export limit o j p i f)
  export-behind i f = rw (export-both p i f limit o j) (behind-then (row-behind i f) (class-behind i (with_row p i f)))

  -- more exports of a package
  pub exports-behind : (f : Found) (i m : ℕ) → i ≤ m → Behind (with_exports limit o j p i f) (with_exports limit o j p m f)
  unfolding with_exports
  exports-behind f i zero h = let z : i ≡ 0 = omega arith in rw z (behind-same (with_exports limit o j p 0 f))
  exports-behind f i (suc m) h = go (ℕ_discrete i (suc m)) (exports-behind f i m)
    where
      go : Dec (i ≡ suc m) → (i ≤ m → Behind (with_exports limit o j p i f) (with_exports limit o j p m f))
          → Behind (with_exports limit o j p i f) (with_export limit o j p m (with_exports limit o j p m f))
      go (yes e) ih = rw e (behind-same (with_exports limit o j p (suc m) f))
      go (no e) ih = behind-then (ih (omega arith)) (export-behind m (with_exports limit o j p m f))

  head-behind : (f : Found) → Behind f (with_exports limit o j p 0 f)
  unfolding with_exports
  head-behind f = record { more = []; placed = sym (append-nil f.placed); rows = omega arith }

  pub package_behind : (f : Found) → Behind f (with_package limit o j p f)
  package_behind f = behind-then (head-behind f) (exports-behind f 0 (length p.read.exports) (omega arith))

  -- one more
  pub exports-next : (i : ℕ) (f : Found) → with_exports limit o j p (i + 1) f ≡ with_export limit o j p i (with_exports limit o j p i f)
  unfolding with_exports
  exports-next i f = rw (add-one i)

-- one package more
pub found-next : (limit : ℕ) (o : Objects) (s : List ℕ) (at i : ℕ)
    → found_in limit o s at (i + 1) ≡ with_package limit o (i + 2) (package_at s (place_of s at i)) (found_in limit o s at i)
unfolding found_in
found-next limit o s at i = rw (add-one i)

-- ---- nothing more is entered

module _ {s b : List ℕ} {o : Objects} {n : ℕ} {f : Found} {t : Census} {w : List ℕ} (k : State s b o n f t w) where
  -- it stays so whatever is found behind, and whatever the buffer holds
  pub state_closed : (t.state ≡ Open → ⊥) → {f' : Found} → Behind f f' → {w' : List ℕ} → length w' ≡ length w → State s b o n f' t w'
  state_closed c {f'} h {w'} e = record {
    entered = λ z. absurd (c z);
    room = λ z. absurd (c z);
    holds = λ z. absurd (c z);
    full = λ z. omega (arith, k.full z, h.rows, ap length h.placed, length-append f.placed h.more);
    twice = λ j z. rw h.placed (twice-more f.placed h.more 24 j (k.twice j z));
  }

  -- ---- as long as all is entered

  module _ (a : t.state ≡ Open) where
    pub state-count : length (classes_in f) ≡ t.classes
    state-count = length-map f.placed (λ (x : Placed). x.class) ∙ sym (k.entered a).0

    pub state-classes : Classes (2 * n) t.classes (drop (56 * n) w)
    state-classes = record { corpus = s; classes = classes_in f; count = state-count; holds = (k.holds a).tables.classes }

    -- no room for one more of either
    pub state-full : {f' : Found} → length w < 64 * (n + count_of f') → {w' : List ℕ} → length w' ≡ length w → State s b o n f' (closed_as t Full) w'
    state-full h {w'} e = record {
      entered = λ z. never (cc);
      room = λ z. never (cc);
      holds = λ z. never (cc);
      full = λ z. omega arith;
      twice = λ j z. never (cc);
    }

    -- a section without its rows
    pub state-head : (limit j : ℕ) (p : Package) {z : ℕ} → z ≡ t.size + head_size p
        → State s b o n (with_exports limit o j p 0 f) (opened_as t.classes t.rows z) w
    unfolding with_exports
    state-head limit j p e = record {
      entered = λ y. ((k.entered a).0, (k.entered a).1, omega (arith, k.entered a));
      room = λ y. k.room a;
      holds = λ y. k.holds a;
      full = λ y. never (cc);
      twice = λ j z. never (cc);
    }

    -- ---- an export's row

    module _ (p : Package) (i : ℕ) (c : is_candidate p.read (get_or p.read.exports i no_export) ≡ true) where
      pub state-row-full : length w / 64 ≤ n + t.classes + t.rows → State s b o n (with_row p i f) (closed_as t Full) w
      state-row-full h =
          rw (row_more p i f c) (state-full (omega (arith, k.entered a, length-append f.refs (class_ref p (get_or p.read.exports i no_export) ∷ []))) refl)

      pub state-row : n + t.classes + t.rows < length w / 64 → (m : Words) → m ≡ words_of (class_ref p (get_or p.read.exports i no_export))
          → m.lo < 2 ^ 64 → m.hi < 2 ^ 64 → (mark : ℕ) → {ys : List ℕ} → ys ≡ worded (row_at (drop (56 * n) w) t.rows) m mark (drop (56 * n) w)
          → {z : ℕ} → z ≡ t.size + base_size p (get_or p.read.exports i no_export)
          → State s b o n (with_row p i f) (opened_as t.classes (t.rows + 1) z) (put (56 * n) (length w - 56 * n) w ys)
      state-row h m is lo hi mark {ys} q {z} e =
          let x = get_or p.read.exports i no_export in
          let (cs, rs, sz) = k.entered a in
          let l = length-append f.refs (class_ref p x ∷ []) in
          let room : 64 * (n + (length (classes_in f) + length f.refs) + 1) ≤ length w = omega (arith, state-count) in
          let made = kept_row (k.holds a) room (class_ref p x) (record { home = p; index = x.class; is = refl }) m is lo hi mark in
          let came : Kept s b o n (classes_in f) (f.refs ++ (class_ref p x ∷ [])) (put (56 * n) (length w - 56 * n) w ys) = rw (q, rs) made in
          let v = drop (56 * n) w in
          let size : length ys ≡ length v = rw q (worded-kept (row_at v t.rows) m mark v (omega (arith, length-drop (56 * n) w))).size in
          let whole = lent_length (56 * n) w ys (k.holds a).tables.room size in
          rw (row_more p i f c) (record {
            entered = λ y. (cs, omega arith, omega arith);
            room = λ y. omega arith;
            holds = λ y. came;
            full = λ y. never (cc);
            twice = λ j z. never (cc);
          })

    -- ---- its class

    module _ (p : Package) (i j : ℕ) where
      abbrev own : Placed
      own = record { block = j; class = class_at p i (get_or p.read.exports i no_export) }

      pub state-class-full : length w / 64 ≤ n + t.classes + t.rows → State s b o n (with_own j p i f) (closed_as t Full) w
      unfolding with_own
      state-class-full h = state-full (omega (arith, k.entered a, length-append f.placed (own ∷ []))) refl

      pub state-class : n + t.classes + t.rows < length w / 64 → {ys : List ℕ}
          → Entered s (2 * n) (classes_in f) (class_at p i (get_or p.read.exports i no_export)) (drop (56 * n) w) ys
          → State s b o n (with_own j p i f) (opened_as (t.classes + 1) t.rows t.size) (put (56 * n) (length w - 56 * n) w ys)
      unfolding with_own
      state-class h {ys} e =
          let (cs, rs, sz) = k.entered a in
          let l = length-append f.placed (own ∷ []) in
          let room : 64 * (n + (length (classes_in f) + length f.refs) + 1) ≤ length w = omega (arith, state-count) in
          let came = kept-class (k.holds a) room (class_at p i (get_or p.read.exports i no_export)) ys e in
          let whole = lent_length (56 * n) w ys (k.holds a).tables.room e.kept.size in
          record {
            entered = λ y. (omega arith, rs, sz);
            room = λ y. omega arith;
            holds = λ y. rw (map-append (λ (x : Placed). x.class) f.placed (own ∷ [])) came;
            full = λ y. never (cc);
            twice = λ j z. never (cc);
          }

      -- a class before it has its key
      pub state-twice : Stands (classes_in f) (class_at p i (get_or p.read.exports i no_export)) → {w' : List ℕ}
          → State s b o n (with_own j p i f) (closed_as t (Repeated j)) w'
      unfolding with_own
      state-twice e {w'} = record {
        entered = λ y. never (cc);
        room = λ y. never (cc);
        holds = λ y. never (cc);
        full = λ y. never (cc);
        twice = λ q z. let same : j ≡ q = cc in rw (← same) (twice-last f.placed own (found-once f (k.holds a).tables.classes) e);
      }

-- ---- at the start: a table with no class

pub state-none : (limit : ℕ) (s : List ℕ) (at : ℕ) {b : List ℕ} {o : Objects} {n : ℕ} (w : List ℕ) → Bytes b → length b < 2 ^ 32 → n ≡ o.layout.count → 64 * n ≤ length w
    → ObjectsIn b o (take (56 * n) w) → {ys : List ℕ} → ys ≡ cleared (2 * n) (drop (56 * n) w)
    → State s b o n (found_in limit o s at 0) (opened_as 0 0 9) (put (56 * n) (length w - 56 * n) w ys)
unfolding found_in
state-none limit s at {b} {o} {n} w y small e h k {ys} q =
    let v = drop (56 * n) w in
    let d = length-drop (56 * n) w in
    let len : length ys ≡ length v = rw q (cleared-kept (2 * n) v (omega arith)).size in
    let low : 56 * n ≤ length w = omega arith in
    let whole = lent_length (56 * n) w ys low len in
    let rest = lent-rest (56 * n) w ys low in
    let few : 2 * n < 2 ^ 32 = omega (arith, (parts_of_lem k.all).size) in
    record {
      entered = λ z. (refl, refl, refl);
      room = λ z. omega arith;
      holds = λ z. record {
        tables = record {
          bytes = y;
          count = e;
          room = omega arith;
          objects = rw (lent-front (56 * n) w ys low) k;
          classes = rw (rest, q) (classes-none s (2 * n) v few (omega arith));
        };
        rows = record { room = omega arith; words = λ r l. absurd (omega arith); read = λ r l. absurd (omega arith) };
        apart = rw rest (omega arith);
      };
      full = λ z. never (cc);
      twice = λ j z. never (cc);
    }

-- ---- a class: its hash is not 0, and there is a script object

module _ (limit : ℕ) (o : Objects) (e : Export) (c : is_class limit o e ≡ true) where
  last-two : (x y z u : Bool) → x && y && z && u ≡ true → (z ≡ true) × (u ≡ true)
  last-two true true true true h = (refl, refl)
  last-two false y z u h = never (cc)
  last-two true false z u h = never (cc)
  last-two true true false u h = never (cc)
  last-two true true true false h = never (cc)

  tests : (not (eqb e.hash 0) ≡ true) × (names_class (path_of limit o e.class) ≡ true)
  unfolding is_class
  tests = last-two (eqb (kind e.class) 1) _ (not (eqb e.hash 0)) (names_class (path_of limit o e.class)) c

  pub class-hash : e.hash ≡ 0 → ⊥
  class-hash z = let h = tests.0 in let q = eq-eqb e.hash 0 z in let x : ◌≡◌ {A = ℕ} 0 1 = cc in omega arith

  class-entries : (es : List Entry) → o.entries ≡ es → 0 < length es
  class-entries [] q =
      let h = tests.1 in
      let n : object_at o e.class ≡ none = rw q in
      let g = class-test-none o limit e.class n in
      never (cc)
  class-entries (x ∷ es) q = omega arith

  pub class-some : {b : List ℕ} {n : ℕ} {w : List ℕ} → n ≡ o.layout.count → ObjectsIn b o w → 0 < n
  class-some q k = omega (arith, class-entries o.entries refl, entries-length k.all)
