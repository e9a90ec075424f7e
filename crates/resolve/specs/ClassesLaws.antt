-- Laws of the classes in the work buffer: they stay where only bytes behind them change, and a look-up by a key is the class table's. Assumes
-- nothing.
use Rattle.std.specs.Prelude.{◌≡◌, refl, Bool, ℕ, zero, suc, ◌+◌, ◌-◌, ◌*◌, ◌^◌, ◌≤◌, ◌<◌, length, get_or, None}
use Rattle.std.proofs.Common.{sym, ◌∙◌, inl, add-one, arith, ne_eqb}
use Rattle.std.proofs.Math.Path.{ap}
use mathlib.Core.List.{List, [], ◌∷◌}
use Rattle.std.proofs.Math.Option.{Option, none, some}
use Rattle.base.specs.Find.{find as first_of}
use Rattle.base.specs.Number.{le_at}
use Rattle.base.specs.NumberLaws.{Bytes}
use Rattle.base.specs.Seek.{seek}
use Rattle.base.specs.SeekLaws.{Never, First, never-seek, first-seek, seek-never, seek-first}
use Rattle.text.specs.Utf8.{utf8}
use Rattle.meaning.specs.Key.{Key, public, same_key}
use Rattle.meaning.specs.KeyLaws.{same_key→eq, same_key-true, same_key-false, public-hash}
use Rattle.meaning.specs.Reference.{Package, Ref}
use Rattle.meaning.specs.Resolve.{look}
use Rattle.meaning.specs.Scan.{Class, class_at, class_path}
use Rattle.zen.specs.declared.tables.Export.{Export}
use Rattle.packages.specs.ClassPath.{path_bytes, home-name, path-is}
use Rattle.packages.specs.Meaning.{keyed, key_words}
use Rattle.packages.specs.Package.{read_in, PackageIn}
use Rattle.packages.specs.Row.{export_no, home_in, row_in}
use Rattle.packages.specs.Walk.{block_at, Site}
use Rattle.packages.specs.declared.package.Parts.{Parts}
use Rattle.packages.specs.declared.entries.Words.{Words}
use Rattle.table.specs.Entries.{find}
use Rattle.table.specs.EntryLaws.{find-le, find-key, find_none}
use Rattle.table.specs.Table.{record_at, Table, cleared}
use Rattle.table.specs.TableLaws.{record_next, holds-table, holds-distinct, holds-behind, holds-cleared}
use Rattle.table.specs.Words.{Kept}
use Rattle.table.specs.WordLaws.{kept_read}
use Rattle.resolve.specs.Classes.{class_no, class_from, home_of, names_of, ClassIn, SuperIn, ClassesIn}

-- ---- a class's key

-- its key by its package and its export
pub class-key : (p : Package) (i : ℕ) (e : Export) → (class_at p i e).key ≡ public p.id e.hash
unfolding class_at
class-key p i e = refl

-- the words of a key whose hash is not 0 are its id and its hash
pub key_words_lem : (id hash : ℕ) → (hash ≡ 0 → ⊥) → key_words (public id hash) ≡ record { lo = id; hi = hash }
unfolding key_words keyed
key_words_lem id hash h = rw (ne_eqb hash 0 h)

-- a key with a hash that is not 0
pub record Hashed (k : Key) : Type 0 where
  pub id : ℕ
  pub hash : ℕ
  pub is : k ≡ public id hash
  pub some : hash ≡ 0 → ⊥

pub class-hashed : {s : List ℕ} {x : Class} {w : List ℕ} {at : ℕ} → ClassIn s x w at → Hashed x.key
class-hashed {s} c = record {
  id = _;
  hash = _;
  is = ap (λ (y : Class). y.key) c.is ∙ class-key _ c.export _;
  some = c.hashed;
}

hashed-lo : {k : Key} (h : Hashed k) → (key_words k).lo ≡ h.id
hashed-lo h = ap (λ (k : Key). (key_words k).lo) h.is ∙ ap (λ (v : Words). v.lo) (key_words_lem h.id h.hash h.some)

hashed-hi : {k : Key} (h : Hashed k) → (key_words k).hi ≡ h.hash
hashed-hi h = ap (λ (k : Key). (key_words k).hi) h.is ∙ ap (λ (v : Words). v.hi) (key_words_lem h.id h.hash h.some)

-- so it is the key of its words
pub hashed-key : {k : Key} → Hashed k → (a b : ℕ) → (key_words k).lo ≡ a → (key_words k).hi ≡ b → k ≡ public a b
hashed-key h a b p q = let x = hashed-lo h in let y = hashed-hi h in let z = h.is in cc

hashed-not : {k : Key} → Hashed k → (i : ℕ) → k ≡ public i 0 → ⊥
hashed-not h i e = h.some (public-hash (sym h.is ∙ e))

-- ---- a class by the block b of its package

module _ {b : List ℕ} {p : Parts} (a : PackageIn b p) {s : List ℕ} {at : ℕ} (z : Site s at b) where
  pub block-home : home_in b p ≡ home_of (block_at s at)
  block-home = ap (home_in b) a.parts ∙ ap home_of z.is

  pub block-names : (i : ℕ) → row_in b p None i ≡ names_of (block_at s at) i
  block-names i = ap (λ (q : Parts). row_in b q None i) a.parts ∙ ap (λ (x : List ℕ). names_of x i) z.is

  pub block-path : Bytes b → (i : ℕ) → i < p.count → path_bytes b (home_in b p) (row_in b p None i) ≡ utf8 (class_from s at i).path
  unfolding class_at
  block-path y i l = path-is a y i l (home_in b p) (home-name a y) None ∙ ap (λ (x : List ℕ). utf8 (class_path (read_in x) (export_no x i))) z.is

-- ---- what a record says, by its columns alone, the super's apart

pub class_same : {s : List ℕ} {x : Class} {w w' : List ℕ} {at : ℕ} → ClassIn s x w at
    → ((k c : ℕ) → 40 ≤ c → c + k ≤ 64 → le_at k w' (at + c) ≡ le_at k w (at + c)) → ClassIn s x w' at
class_same r same = record {
  place = r.place;
  export = r.export;
  site = r.site;
  read = r.read;
  there = r.there;
  hashed = r.hashed;
  is = r.is;
  short = r.short;
  size_in_lem = same 4 40 (omega arith) (omega arith) ∙ r.size_in_lem;
  place_in = same 4 44 (omega arith) (omega arith) ∙ r.place_in;
  export_in_lem = same 4 48 (omega arith) (omega arith) ∙ r.export_in_lem;
  home_in_lem = same 4 52 (omega arith) (omega arith) ∙ r.home_in_lem;
  own_in = same 4 56 (omega arith) (omega arith) ∙ r.own_in;
  outer_in = same 4 60 (omega arith) (omega arith) ∙ r.outer_in;
}

-- a super kept in the same two numbers
pub super-same : {xs : List Class} {r : Ref} {lo hi lo' hi' : ℕ} → SuperIn xs r lo hi → lo' ≡ lo → hi' ≡ hi → SuperIn xs r lo' hi'
super-same c p q = rw (p, q) c

-- ---- the table

-- with no class
pub classes-none : (s : List ℕ) (n : ℕ) (w : List ℕ) → n < 2 ^ 32 → 4 * n ≤ length w → ClassesIn s n [] (cleared n w)
classes-none s n w few room = record {
  keys = holds-cleared n w room 64 (λ i. (key_words (class_no [] i).key).lo) (λ i. (key_words (class_no [] i).key).hi) few (omega arith);
  columns = λ i h. absurd (omega arith);
  supers = λ i h. absurd (omega arith);
}

module _ {s : List ℕ} {n : ℕ} {xs : List Class} {w : List ℕ} where
  pub classes-room : ClassesIn s n xs w → record_at n 64 (length xs) ≤ length w
  classes-room t = t.keys.room

  pub classes-table : ClassesIn s n xs w → Table n 64 w
  classes-table t = holds-table t.keys

-- only bytes behind the records changed
pub classes-kept : {s : List ℕ} {n : ℕ} {xs : List Class} {w w' : List ℕ} (b e : ℕ) → ClassesIn s n xs w → Kept b e w w' → record_at n 64 (length xs) ≤ b
    → ClassesIn s n xs w'
classes-kept {s} {n} {xs} {w} {w'} b e t k h = record {
  keys = holds-behind t.keys k h;
  columns = λ i g. class_same (t.columns i g) (λ j c l u. same i g j c u);
  supers = λ i g. super-same (t.supers i g) (same i g 8 24 (omega arith)) (same i g 8 32 (omega arith));
}
  where
    same : (i : ℕ) → i < length xs → (j c : ℕ) → c + j ≤ 64 → le_at j w' (record_at n 64 i + c) ≡ le_at j w (record_at n 64 i + c)
    same i g j c u = kept_read k j (record_at n 64 i + c) (inl (omega (arith, record_next n 64 i (length xs) g)))

-- ---- a class by its number

abbrev pub by_number : List Class → ℕ → Option Class
by_number xs zero = none
by_number xs (suc i) = some (class_no xs i)

module _ {A : Type 0} (f : A → Bool) (d : A) where
  none_first : (l : List A) → Never f d l → first_of f l ≡ none
  none_first [] n = refl
  none_first (x ∷ l) n = rw (n 0 (omega arith)) (none_first l (λ j h. n (suc j) (omega arith)))

  some_first : (l : List A) (k : ℕ) → First f d l k → first_of f l ≡ some (get_or l k d)
  some_first [] k g = absurd (omega (arith, g.here))
  some_first (x ∷ l) zero g = rw g.passes
  some_first (x ∷ l) (suc k) g =
      rw (g.before 0 (omega arith)) (some_first l k (record { here = omega (arith, g.here); passes = g.passes; before = λ j h. g.before (suc j) (omega arith) }))

pub look-seek : (xs : List Class) (k : Key) → look xs k ≡ by_number xs (seek (λ (c : Class). same_key c.key k) xs)
look-seek xs k = go (seek f xs) refl
  where
    f : Class → Bool
    f c = same_key c.key k

    go : (r : ℕ) → seek f xs ≡ r → look xs k ≡ by_number xs r
    go zero e = none_first f (class_no [] 0) xs (seek-never f (class_no [] 0) xs e)
    go (suc i) e = some_first f (class_no [] 0) xs i (seek-first f (class_no [] 0) xs i (e ∙ sym (add-one i)))

pub seek-inside : (xs : List Class) (key : Key) (k : ℕ) → seek (λ (c : Class). same_key c.key key) xs ≡ k + 1 → k < length xs
seek-inside xs key k e = (seek-first (λ (c : Class). same_key c.key key) (class_no [] 0) xs k e).here

pub seek-key : (xs : List Class) (key : Key) (k : ℕ) → seek (λ (c : Class). same_key c.key key) xs ≡ k + 1 → (class_no xs k).key ≡ key
seek-key xs key k e = same_key→eq (class_no xs k).key key (rw (seek-first (λ (c : Class). same_key c.key key) (class_no [] 0) xs k e).passes tt)

-- ---- looked up

module _ {s : List ℕ} {n : ℕ} {xs : List Class} {w : List ℕ} (t : ClassesIn s n xs w) where
  abbrev los : ℕ → ℕ
  los i = (key_words (class_no xs i).key).lo

  abbrev his : ℕ → ℕ
  his i = (key_words (class_no xs i).key).hi

  -- no two classes have one key
  pub classes-distinct : (i j : ℕ) → i < j → j < length xs → (class_no xs i).key ≡ (class_no xs j).key → ⊥
  classes-distinct i j h l e =
      (holds-distinct t.keys).apart i j h l (ap (λ (k : Key). (key_words k).lo) e) (ap (λ (k : Key). (key_words k).hi) e)

  -- the table finds the class that has a key
  pub look-number : (lo hi : ℕ) → 0 < hi → find (λ i. (key_words (class_no xs i).key).lo) (λ i. (key_words (class_no xs i).key).hi) lo hi (length xs)
      ≡ seek (λ (c : Class). same_key c.key (public lo hi)) xs
  look-number lo hi p = go (find los his lo hi (length xs)) refl
    where
      f : Class → Bool
      f c = same_key c.key (public lo hi)

      words : (j : ℕ) → j < length xs → (class_no xs j).key ≡ public lo hi → (los j ≡ lo) × (his j ≡ hi)
      words j h e =
          let v = key_words_lem lo hi (λ z. omega arith) in
          (ap (λ (k : Key). (key_words k).lo) e ∙ ap (λ (u : Words). u.lo) v, ap (λ (k : Key). (key_words k).hi) e ∙ ap (λ (u : Words). u.hi) v)

      go : (r : ℕ) → find los his lo hi (length xs) ≡ r → r ≡ seek f xs
      go zero e =
          sym (never-seek f (class_no [] 0) xs (λ j h. same_key-false (class_no xs j).key (public lo hi)
          (λ q. find_none los his lo hi (length xs) e j h (words j h q).0 (words j h q).1)))
      go (suc i) e =
          let z : find los his lo hi (length xs) - 1 ≡ i = omega arith in
          let k = rw z at (find-key los his lo hi (length xs) (omega arith)) in
          let l : i < length xs = omega (arith, find-le los his lo hi (length xs)) in
          let own : (class_no xs i).key ≡ public lo hi = hashed-key (class-hashed (t.columns i l)) lo hi k.0 k.1 in
          sym (first-seek f (class_no [] 0) xs i (record {
            here = l;
            passes = same_key-true (class_no xs i).key (public lo hi) own;
            before = λ j h. same_key-false (class_no xs j).key (public lo hi) (λ q. classes-distinct j i h l (q ∙ sym own));
          }) ∙ add-one i)

  -- and by its own key each is found
  pub seek-own : (k : ℕ) → k < length xs → seek (λ (c : Class). same_key c.key (class_no xs k).key) xs ≡ k + 1
  seek-own k l =
      first-seek (λ (c : Class). same_key c.key (class_no xs k).key) (class_no [] 0) xs k (record {
        here = l;
        passes = same_key-true (class_no xs k).key (class_no xs k).key refl;
        before = λ j h. same_key-false (class_no xs j).key (class_no xs k).key (classes-distinct j k h l);
      })

  -- no class has a hash of 0
  pub seek-none : (i : ℕ) → seek (λ (c : Class). same_key c.key (public i 0)) xs ≡ 0
  seek-none i =
      never-seek (λ (c : Class). same_key c.key (public i 0)) (class_no [] 0) xs
      (λ j h. same_key-false (class_no xs j).key (public i 0) (hashed-not (class-hashed (t.columns j h)) i))

  pub look_none : (i : ℕ) → look xs (public i 0) ≡ none
  look_none i = look-seek xs (public i 0) ∙ ap (by_number xs) (seek-none i)
