-- Laws of a reference's chain: its steps, and where it leads by number. Assumes nothing.
use Rattle.std.specs.Prelude.{◌≡◌, ◌⊎◌, List, length}
use Rattle.std.proofs.Math.Path.{refl}
use Rattle.std.proofs.Common.{sym, ◌∙◌, ap, inl, inr, arith, length-drop}
use Rattle.std.proofs.Math.Logic.{by_cases}
use Rattle.std.proofs.Math.Option.{Option, none, some}
use Prim.Native.Nat.{ℕ, zero, suc, ◌+◌, ◌-◌, ◌*◌, ◌^◌, ◌≤◌, ◌<◌}
use Rattle.std.proofs.Math.Decide.{dec_lt}
use Rattle.std.proofs.Math.Numerals.{add-one}
use Rattle.base.specs.Find.{option, get}
use Rattle.base.specs.FindLaws.{none-some}
use Rattle.base.specs.Index.{kind, import_name, import_hash}
use Rattle.base.specs.Never.{never}
use Rattle.base.specs.Number.{le_at}
use Rattle.base.specs.NumberLaws.{le_at-drop}
use Rattle.base.specs.Seek.{seek}
use Rattle.scriptblock.specs.Script.{Objects}
use Rattle.zen.specs.declared.tables.Export.{Export}
use Rattle.meaning.specs.Key.{Key, public, same_key}
use Rattle.meaning.specs.Reference.{Package, Ref, script, import, export, null, bad, ref_by, export_ref, import_ref, ref_in, meant}
use Rattle.meaning.specs.Scan.{Class, class_at}
use Rattle.meaning.specs.Resolve.{look, own_chain, ending, follow}
use Rattle.table.specs.Table.{record_at}
use Rattle.objects.specs.Numbers.{number_of}
use Rattle.packages.specs.MeaningLaws.{Nowhere, words-key, words-object, words-nowhere}
use Rattle.packages.specs.Row.{export_no}
use Rattle.packages.specs.Walk.{block_at, package_at}
use Rattle.resolve.specs.Classes.{class_no, ClassIn, SuperIn, words, link, ClassesIn}
use Rattle.resolve.specs.ClassesLaws.{by_number, look-seek, seek-inside, seek-own, seek-none, super-same}
use Rattle.resolve.specs.Rows.{class_number, object_number, Read, Means, Keeps, Tables, SomeClasses}

-- the second of the two words of a record's super
pub word_behind : (w : List ℕ) (at : ℕ) → le_at 8 w (at + 24 + 8) ≡ le_at 8 w (at + 32)
word_behind w at = ap (le_at 8 w) (omega arith)

-- ---- a chain of so many lookups, from a reference that means a key and from one that means none

key-ending : (r : Ref) {k : Key} → meant r ≡ some k → ending r ≡ none
key-ending (script g) e = none-some e
key-ending (import k name hash) e = refl
key-ending (export k name) e = refl
key-ending null e = none-some e
key-ending (bad t) e = none-some e

module _ (f : Key → Option Class) (r : Ref) where
  pub follow_end : (l : ℕ) → meant r ≡ none → follow l f r ≡ ending r
  unfolding own_chain
  follow_end zero e = refl
  follow_end (suc l) e = rw e

  module _ {k : Key} (e : meant r ≡ some k) where
    follow-none : follow 0 f r ≡ none
    unfolding own_chain
    follow-none = key-ending r e

    pub follow-lost : (l : ℕ) → f k ≡ none → follow l f r ≡ none
    unfolding own_chain
    follow-lost zero n = key-ending r e
    follow-lost (suc l) n = rw (e, n) (key-ending r e)

    follow-step : (l : ℕ) {c : Class} → f k ≡ some c → follow (suc l) f r ≡ follow l f c.super
    unfolding own_chain
    follow-step l n = rw (e, n)

-- ---- by number

module _ (xs : List Class) (r : Ref) where
  pub class_no-key : meant r ≡ none → class_number xs r ≡ 0
  unfolding class_number
  class_no-key e = rw e

  pub class-key : {k : Key} → meant r ≡ some k → class_number xs r ≡ seek (λ (c : Class). same_key c.key k) xs
  unfolding class_number
  class-key e = rw e

  -- the class that has the key, by its number
  pub class-look : {k : Key} → meant r ≡ some k → look xs k ≡ by_number xs (class_number xs r)
  class-look {k} e = look-seek xs k ∙ rw (class-key e)

  pub class_in : (i : ℕ) → class_number xs r ≡ i + 1 → i < length xs
  class_in i q = go (meant r) refl
    where
      go : (x : Option Key) → meant r ≡ x → i < length xs
      go none e = absurd (omega (arith, class_no-key e))
      go (some k) e = seek-inside xs k i (sym (class-key e) ∙ q)

module _ (xs : List Class) (o : Objects) (r : Ref) where
  module _ {k : Key} (e : meant r ≡ some k) where
    pub object-none : object_number 0 xs o r ≡ 0
    unfolding object_number
    object-none = rw (follow-none (look xs) r e)

    pub object-lost : (l : ℕ) → class_number xs r ≡ 0 → object_number l xs o r ≡ 0
    unfolding object_number
    object-lost l z = rw (follow-lost (look xs) r e l (class-look xs r e ∙ rw z))

    pub object-step : (l i : ℕ) → class_number xs r ≡ i + 1 → object_number (suc l) xs o r ≡ object_number l xs o (class_no xs i).super
    unfolding object_number
    object-step l i z = rw (follow-step (look xs) r e l {c = class_no xs i} (class-look xs r e ∙ rw (z, add-one i)))

  -- a reference that has a class: no lookup is left; one lookup more
  pub object-stop : (i : ℕ) → suc i ≡ class_number xs r → (l : ℕ) → l ≡ 0 → object_number l xs o r ≡ 0
  object-stop i q l z = rw z (go (meant r) refl)
    where
      go : (x : Option Key) → meant r ≡ x → object_number 0 xs o r ≡ 0
      go none e = absurd (omega (arith, q, class_no-key xs r e))
      go (some key) e = object-none e

  pub object-next : (i : ℕ) → suc i ≡ class_number xs r → (l : ℕ) → 0 < l → object_number l xs o r ≡ object_number (l - 1) xs o (class_no xs i).super
  object-next i q l p = let z : l ≡ suc (l - 1) = omega arith in ap (λ (j : ℕ). object_number j xs o r) z ∙ go (meant r) refl
    where
      go : (x : Option Key) → meant r ≡ x → object_number (suc (l - 1)) xs o r ≡ object_number (l - 1) xs o (class_no xs i).super
      go none e = absurd (omega (arith, q, class_no-key xs r e))
      go (some key) e = object-step e (l - 1) i (sym q ∙ omega arith)

  object_end : (l : ℕ) → meant r ≡ none → object_number l xs o r ≡ option 0 (number_of o.entries) (ending r)
  unfolding object_number
  object_end l e = rw (follow_end (look xs) r l e)

  pub object-script : (l g : ℕ) → r ≡ script g → object_number l xs o r ≡ number_of o.entries g
  object-script l g q = object_end l (ap meant q) ∙ rw q

-- a reference that leads nowhere has no class and leads to no object
module _ {s : List ℕ} {n : ℕ} {xs : List Class} {w : List ℕ} (t : ClassesIn s n xs w) (r : Ref) where
  pub class-nowhere : Nowhere r → class_number xs r ≡ 0
  class-nowhere (inl (e, z)) = class_no-key xs r e
  class-nowhere (inr (i, e)) = class-key xs r e ∙ seek-none t i

  pub object-nowhere : (o : Objects) (l : ℕ) → Nowhere r → object_number l xs o r ≡ 0
  object-nowhere o l (inl (e, z)) = object_end xs o r l e ∙ rw z
  object-nowhere o l (inr (i, e)) = object-lost xs o r e l (class-key xs r e ∙ seek-none t i)

-- ---- from the words of a reference

module _ {x y : ℕ} {r : Ref} (m : Means x y r) where
  pub means-key : 0 < y → meant r ≡ some (public x y)
  means-key h = rw (m.lo, m.hi) (words-key r (rw m.hi at h))

  pub means-script : y ≡ 0 → 0 < x → r ≡ script x
  means-script z h = rw m.lo (words-object r (sym m.hi ∙ z) (rw m.lo at h))

  pub means-nowhere : y ≡ 0 → x ≡ 0 → Nowhere r
  means-nowhere z q = rw m.read.is (words-nowhere m.read.home m.read.index (rw (← m.read.is) (sym m.hi ∙ z)) (rw (← m.read.is) (sym m.lo ∙ q)))

  -- no class: without a key, or by a look-up
  pub means_no_key : {s : List ℕ} {n : ℕ} {xs : List Class} {w : List ℕ} → ClassesIn s n xs w → y ≡ 0 → class_number xs r ≡ 0
  means_no_key {xs = xs} t z = go x refl
    where
      go : (k : ℕ) → x ≡ k → class_number xs r ≡ 0
      go zero q = class-nowhere t r (means-nowhere z q)
      go (suc k) q = class_no-key xs r (ap meant (means-script z (omega arith)))

  -- what a look-up of the words finds
  pub means-class : (xs : List Class) → 0 < y → class_number xs r ≡ seek (λ (c : Class). same_key c.key (public x y)) xs
  means-class xs h = class-key xs r (means-key h)

-- ---- from what a class's super is kept as

-- a script object's index is below 2^63: its kind is 1
script-small : (q : Package) (x g : ℕ) → ref_in q x ≡ script g → g < 2 ^ 63
unfolding ref_in
script-small q x g = go (kind x) refl
  where
    exported : (o : Option Export) → export_ref q x o ≡ script g → g < 2 ^ 63
    exported none e = never (cc)
    exported (some u) e = never (cc)

    imported : (o : Option (List ℕ)) (h : Option ℕ) → import_ref q x o h ≡ script g → g < 2 ^ 63
    imported none h e = never (cc)
    imported (some t) none e = never (cc)
    imported (some t) (some h) e = never (cc)

    go : (k : ℕ) → kind x ≡ k → ref_by q x k ≡ script g → g < 2 ^ 63
    go zero h e = exported (get q.read.exports x) e
    go (suc zero) h e = let z : x ≡ g = cc in omega (arith, h)
    go (suc (suc zero)) h e = imported (get q.read.imported (import_name x)) (get q.read.hashes (import_hash x)) e
    go (suc (suc (suc k))) h e = never (cc)

pub means-keeps : {x y : ℕ} {r : Ref} (xs : List Class) → Means x y r → Keeps xs x y r
means-keeps xs m = record { super = words m.lo m.hi; read = m.read }

-- in words, where the second number isn't 0 or the first is below 2^63
module _ {xs : List Class} {x y : ℕ} {r : Ref} (m : Keeps xs x y r) where
  keeps-means : (0 < y) ⊎ (x < 2 ^ 63) → Means x y r
  keeps-means h = go m.super h
    where
      go : SuperIn xs r x y → (0 < y) ⊎ (x < 2 ^ 63) → Means x y r
      go (words p q) h = record { lo = p; hi = q; read = m.read }
      go (link k l e p q) (inl h) = absurd (omega arith)
      go (link k l e p q) (inr h) = absurd (omega arith)

  pub keeps-key : 0 < y → meant r ≡ some (public x y)
  keeps-key h = means-key (keeps-means (inl h)) h

  module _ {s : List ℕ} {n : ℕ} {w : List ℕ} (t : ClassesIn s n xs w) where
    -- its class: looked up, linked, none
    pub keeps-look : 0 < y → class_number xs r ≡ seek (λ (c : Class). same_key c.key (public x y)) xs
    keeps-look h = class-key xs r (keeps-key h)

    pub keeps-link : y ≡ 0 → 2 ^ 63 ≤ x → class_number xs r ≡ x - 2 ^ 63 + 1
    keeps-link z h = go m.super
      where
        go : SuperIn xs r x y → class_number xs r ≡ x - 2 ^ 63 + 1
        go (words p q) =
            let g = means-script (record { lo = p; hi = q; read = m.read }) z (omega arith) in
            absurd (omega (arith, script-small m.read.home m.read.index x (sym m.read.is ∙ g)))
        go (link k l e p q) = let j : k ≡ x - 2 ^ 63 = omega arith in rw (← j) (class-key xs r e ∙ seek-own t k l)

    pub keeps-none : y ≡ 0 → x < 2 ^ 63 → class_number xs r ≡ 0
    keeps-none z h = means_no_key (keeps-means (inr h)) t z

    -- it has no class: where it leads
    module _ (o : Objects) (l : ℕ) (none : class_number xs r ≡ 0) where
      pub keeps-lost : 0 < y → object_number l xs o r ≡ 0
      keeps-lost h = object-lost xs o r (keeps-key h) l none

      small : y ≡ 0 → x < 2 ^ 63
      small z = by_cases (dec_lt x (2 ^ 63)) (λ (h : x < 2 ^ 63). h) (λ (h : ¬ (x < 2 ^ 63)). absurd (omega (arith, keeps-link z (omega arith))))

      pub keeps-object : y ≡ 0 → 0 < x → object_number l xs o r ≡ number_of o.entries x
      keeps-object z h = object-script xs o r l x (means-script (keeps-means (inr (small z))) z h)

      pub keeps-nowhere : y ≡ 0 → x ≡ 0 → object_number l xs o r ≡ 0
      keeps-nowhere z q = object-nowhere t r o l (means-nowhere (keeps-means (inr (small z))) z q)

-- ---- a class's super

super-read : {s : List ℕ} {x : Class} {w : List ℕ} {at : ℕ} → ClassIn s x w at → Read x.super
unfolding class_at
super-read {s} t = record {
  home = package_at s t.place;
  index = (export_no (block_at s t.place) t.export).parent;
  is = ap (λ (c : Class). c.super) t.is;
}

module _ {s b : List ℕ} {o : Objects} {n : ℕ} {xs : List Class} {w : List ℕ} (t : Tables s b o n xs w) (i : ℕ) (h : i < length xs) where
  pub class-room : 56 * n + record_at (2 * n) 64 i + 64 ≤ length w
  class-room = omega (arith, t.classes.keys.room, t.room, length-drop (56 * n) w)

  pub super-keeps : {at x y : ℕ} → at ≡ 56 * n + record_at (2 * n) 64 i → x ≡ le_at 8 w (at + 24) → y ≡ le_at 8 w (at + 32)
      → Keeps xs x y (class_no xs i).super
  super-keeps {at} place p q =
      let a : at + 24 ≡ 56 * n + (record_at (2 * n) 64 i + 24) = omega arith in
      let d : at + 32 ≡ 56 * n + (record_at (2 * n) 64 i + 32) = omega arith in
      record {
        super = super-same (t.classes.supers i h)
            (p ∙ rw a (sym (le_at-drop 8 (56 * n) w (record_at (2 * n) 64 i + 24))))
            (q ∙ rw d (sym (le_at-drop 8 (56 * n) w (record_at (2 * n) 64 i + 32))));
        read = super-read (t.classes.columns i h);
      }

-- ---- a class that was found, or 0

pub seek-le : (xs : List Class) (key : Key) (k : ℕ) → k ≡ seek (λ (c : Class). same_key c.key key) xs → k ≤ length xs
seek-le xs key zero q = omega arith
seek-le xs key (suc i) q = omega (arith, seek-inside xs key i (sym q ∙ omega arith))

pub classes-room : {n k i : ℕ} {w : List ℕ} → SomeClasses n k w → k ≡ suc i → 56 * n + record_at (2 * n) 64 i + 64 ≤ length w
classes-room {i = i} t found = class-room t.some.holds i (omega (arith, t.inside))

-- ---- a chain on its way: what (x, y) keep, with class k - 1 or none, leads in `left` lookups where r leads in all

pub record Onward (lookups : ℕ) (xs : List Class) (o : Objects) (r : Ref) (x y k left : ℕ) : Type 0 where
  pub ref : Ref
  pub keeps : Keeps xs x y ref
  pub class : k ≡ class_number xs ref
  pub same : object_number lookups xs o r ≡ object_number left xs o ref

pub onward_start : {lookups x y k : ℕ} {xs : List Class} {o : Objects} {r : Ref} → Keeps xs x y r → k ≡ class_number xs r → Onward lookups xs o r x y k lookups
onward_start {r = r} m q = record { ref = r; keeps = m; class = q; same = refl }

module _ {lookups : ℕ} {xs : List Class} {o : Objects} {r : Ref} {x y k left : ℕ} (c : Onward lookups xs o r x y k left) where
  module _ {i : ℕ} (found : k ≡ suc i) where
    -- no lookup is left
    pub onward_stop : left ≡ 0 → 0 ≡ object_number lookups xs o r
    onward_stop z = sym (c.same ∙ object-stop xs o c.ref i (sym found ∙ c.class) left z)

    -- one lookup more
    pub onward_next : 0 < left → {u v j : ℕ} → Keeps xs u v (class_no xs i).super → j ≡ class_number xs (class_no xs i).super → Onward lookups xs o r u v j (left - 1)
    onward_next l m q = record { ref = (class_no xs i).super; keeps = m; class = q; same = c.same ∙ object-next xs o c.ref i (sym found ∙ c.class) left l }

  -- it ends: no class has the key; it names a script object; it leads nowhere
  module _ (z : k ≡ 0) {s b : List ℕ} {n : ℕ} {w : List ℕ} (t : Tables s b o n xs w) where
    pub onward_lost : 0 < y → 0 ≡ object_number lookups xs o r
    onward_lost h = sym (c.same ∙ keeps-lost c.keeps t.classes o left (sym c.class ∙ z) h)

    pub onward_object : y ≡ 0 → 0 < x → number_of o.entries x ≡ object_number lookups xs o r
    onward_object e h = sym (c.same ∙ keeps-object c.keeps t.classes o left (sym c.class ∙ z) e h)

    pub onward_nowhere : y ≡ 0 → x ≡ 0 → 0 ≡ object_number lookups xs o r
    onward_nowhere e q = sym (c.same ∙ keeps-nowhere c.keeps t.classes o left (sym c.class ∙ z) e q)
