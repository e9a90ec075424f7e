-- Laws of what an index means: a reference by the index's kind, a kind by the parts, the words that a caller looks up. Assumes nothing.
use Rattle.std.specs.Prelude.{◌≡◌, Bool, cond, ◌&&◌, ◌⊎◌, ltb, length, get_or}
use Rattle.std.proofs.Math.Path.{refl, ap}
use Rattle.std.proofs.Common.{sym, ◌∙◌, inl, inr, arith, ltb-true, ltb-false, eqb-true}
use Rattle.std.proofs.Math.Bool.{true, false}
use mathlib.Core.List.{List, [], ◌∷◌}
use Rattle.std.proofs.Math.Option.{Option, none, some}
use Prim.Native.Nat.{ℕ, zero, suc, ◌≤◌, ◌<◌}
use Rattle.std.proofs.Math.Decide.{ℕ_discrete}
use Rattle.std.proofs.lemmas.Bool.{eqb-false}
use Rattle.std.proofs.Math.Dec.{eqb}
use Rattle.base.specs.Find.{get}
use Rattle.ids.specs.Id.{id_of}
use Rattle.base.specs.Index.{kind, import_name, import_hash}
use Rattle.base.specs.Never.{never}
use Rattle.zen.specs.Zen.{no_export, export_name, imported_name}
use Rattle.zen.specs.declared.tables.Export.{Export}
use Rattle.meaning.specs.Key.{Key, public}
use Rattle.meaning.specs.Reference.{Package, Ref, script, import, export, null, bad, bad_import, bad_export, ref_by, export_ref, import_ref, ref_in, meant}
use Rattle.meaning.specs.Resolve.{ending}
use Rattle.packages.specs.Package.{read_in, package_in, PackageIn}
use Rattle.packages.specs.PackageLaws.{export_count_lem, public-count, imported_count_lem}
use Rattle.packages.specs.Meaning.{ref_kind, kind_on, kind_by, nowhere, keyed, key_words, words_of}
use Rattle.packages.specs.declared.package.Parts.{Parts}

-- ---- an element by its number

module _ {A : Type 0} where
  pub get-there : (l : List A) (d : A) (i : ℕ) → i < length l → get l i ≡ some (get_or l i d)
  get-there [] d i h = absurd (omega arith)
  get-there (x ∷ l) d zero h = refl
  get-there (x ∷ l) d (suc i) h = get-there l d i (omega arith)

  pub get_none : (l : List A) (i : ℕ) → length l ≤ i → get l i ≡ none
  get_none [] i h = refl
  get_none (x ∷ l) zero h = absurd (omega arith)
  get_none (x ∷ l) (suc i) h = get_none l i (omega arith)

-- ---- a reference, by the kind of the index

module _ (q : Package) (x : ℕ) where
  pub ref-script : kind x ≡ 1 → ref_in q x ≡ script x
  unfolding ref_in
  ref-script e = ap (ref_by q x) e

  pub ref-null : 3 ≤ kind x → ref_in q x ≡ null
  unfolding ref_in
  ref-null h = go (kind x) h
    where
      go : (k : ℕ) → 3 ≤ k → ref_by q x k ≡ null
      go zero h = absurd (omega arith)
      go (suc zero) h = absurd (omega arith)
      go (suc (suc zero)) h = absurd (omega arith)
      go (suc (suc (suc k))) h = refl

  module _ (e : kind x ≡ 0) where
    pub ref-export : x < length q.read.exports
        → ref_in q x ≡ export (public q.id (get_or q.read.exports x no_export).hash) (export_name q.read (get_or q.read.exports x no_export))
    unfolding ref_in
    ref-export h = ap (ref_by q x) e ∙ ap (export_ref q x) (get-there q.read.exports no_export x h)

    pub ref-no_export : length q.read.exports ≤ x → ref_in q x ≡ bad (bad_export q.read x)
    unfolding ref_in
    ref-no_export h = ap (ref_by q x) e ∙ ap (export_ref q x) (get_none q.read.exports x h)

  module _ (e : kind x ≡ 2) where
    pub ref-import : import_name x < length q.read.imported → import_hash x < length q.read.hashes
        → ref_in q x
        ≡ import (public (id_of (imported_name q.read (import_name x))) (get_or q.read.hashes (import_hash x) 0)) (imported_name q.read (import_name x)) (get_or q.read.hashes (import_hash x) 0)
    unfolding ref_in
    ref-import h g =
        ap (ref_by q x) e
        ∙ (rw (get-there q.read.imported [] (import_name x) h, get-there q.read.hashes 0 (import_hash x) g))

    pub ref_no_name : length q.read.imported ≤ import_name x → ref_in q x ≡ bad (bad_import q.read x)
    unfolding ref_in
    ref_no_name h = ap (ref_by q x) e ∙ rw (get_none q.read.imported (import_name x) h)

    pub ref_no_hash : length q.read.hashes ≤ import_hash x → ref_in q x ≡ bad (bad_import q.read x)
    unfolding ref_in
    ref_no_hash h = ap (ref_by q x) e ∙ rw (get_none q.read.hashes (import_hash x) h) (go (get q.read.imported (import_name x)))
      where
        go : (o : Option (List ℕ)) → import_ref q x o none ≡ bad (bad_import q.read x)
        go none = refl
        go (some t) = refl

-- ---- what a kind says of an index

pub record Says (p : Parts) (x k : ℕ) : Type 0 where
  pub script : k ≡ 0 → kind x ≡ 1
  pub import : k ≡ 2 → (kind x ≡ 2) × (import_name x < p.imported.count) × (import_hash x < p.publics)
  pub export : k ≡ 4 → (kind x ≡ 0) × (x < p.count)
  pub null : k ≡ 6 → 3 ≤ kind x
  pub bad_import_lem : k ≡ 7 → kind x ≡ 2 → (p.imported.count ≤ import_name x) ⊎ (p.publics ≤ import_hash x)
  pub bad_export_lem : k ≡ 7 → (kind x ≡ 2 → ⊥) → (kind x ≡ 0) × (p.count ≤ x)
  pub other : (k ≡ 0 → ⊥) → (k ≡ 2 → ⊥) → (k ≡ 4 → ⊥) → (k ≡ 6 → ⊥) → k ≡ 7

module _ (p : Parts) (x : ℕ) where
  says-export : (t : Bool) → kind x ≡ 0 → ltb x p.count ≡ t → Says p x (cond t 4 7)
  says-export true e h = record {
    script = λ z. absurd (omega arith);
    import = λ z. absurd (omega arith);
    export = λ z. (e, ltb-true x p.count h);
    null = λ z. absurd (omega arith);
    bad_import_lem = λ z y. absurd (omega arith);
    bad_export_lem = λ z y. absurd (omega arith);
    other = λ a b c d. absurd (c refl);
  }
  says-export false e h = record {
    script = λ z. absurd (omega arith);
    import = λ z. absurd (omega arith);
    export = λ z. absurd (omega arith);
    null = λ z. absurd (omega arith);
    bad_import_lem = λ z y. absurd (omega arith);
    bad_export_lem = λ z y. (e, ltb-false x p.count h);
    other = λ a b c d. refl;
  }

  says-bad : kind x ≡ 2 → (p.imported.count ≤ import_name x) ⊎ (p.publics ≤ import_hash x) → Says p x 7
  says-bad e h = record {
    script = λ z. absurd (omega arith);
    import = λ z. absurd (omega arith);
    export = λ z. absurd (omega arith);
    null = λ z. absurd (omega arith);
    bad_import_lem = λ z y. h;
    bad_export_lem = λ z y. absurd (y e);
    other = λ a b c d. refl;
  }

  says-import : (s t : Bool) → kind x ≡ 2 → ltb (import_name x) p.imported.count ≡ s → ltb (import_hash x) p.publics ≡ t → Says p x (cond (s && t) 2 7)
  says-import true true e h g = record {
    script = λ z. absurd (omega arith);
    import = λ z. (e, ltb-true (import_name x) p.imported.count h, ltb-true (import_hash x) p.publics g);
    export = λ z. absurd (omega arith);
    null = λ z. absurd (omega arith);
    bad_import_lem = λ z y. absurd (omega arith);
    bad_export_lem = λ z y. absurd (omega arith);
    other = λ a b c d. absurd (b refl);
  }
  says-import true false e h g = says-bad e (inr (ltb-false (import_hash x) p.publics g))
  says-import false t e h g = says-bad e (inl (ltb-false (import_name x) p.imported.count h))

  says-script : kind x ≡ 1 → Says p x 0
  says-script e = record {
    script = λ z. e;
    import = λ z. absurd (omega arith);
    export = λ z. absurd (omega arith);
    null = λ z. absurd (omega arith);
    bad_import_lem = λ z y. absurd (omega arith);
    bad_export_lem = λ z y. absurd (omega arith);
    other = λ a b c d. absurd (a refl);
  }

  says-null : 3 ≤ kind x → Says p x 6
  says-null h = record {
    script = λ z. absurd (omega arith);
    import = λ z. absurd (omega arith);
    export = λ z. absurd (omega arith);
    null = λ z. h;
    bad_import_lem = λ z y. absurd (omega arith);
    bad_export_lem = λ z y. absurd (omega arith);
    other = λ a b c d. absurd (d refl);
  }

  pub kind-says : Says p x (kind_by p x)
  unfolding kind_by
  kind-says = go (kind x) refl
    where
      go : (k : ℕ) → kind x ≡ k → Says p x (kind_on p x k)
      go zero e = says-export (ltb x p.count) e refl
      go (suc zero) e = says-script e
      go (suc (suc zero)) e = says-import (ltb (import_name x) p.imported.count) (ltb (import_hash x) p.publics) e refl refl
      go (suc (suc (suc k))) e = says-null (omega arith)

-- ---- in a package: the reference, by the kind that its parts give

module _ {b : List ℕ} {p : Parts} (a : PackageIn b p) (id x : ℕ) where
  pub in_script : kind_by p x ≡ 0 → ref_in (package_in id b) x ≡ script x
  in_script e = ref-script (package_in id b) x ((kind-says p x).script e)

  pub in_null : kind_by p x ≡ 6 → ref_in (package_in id b) x ≡ null
  in_null e = ref-null (package_in id b) x ((kind-says p x).null e)

  pub in_export : kind_by p x ≡ 4
      → ref_in (package_in id b) x ≡ export (public id (get_or (read_in b).exports x no_export).hash) (export_name (read_in b) (get_or (read_in b).exports x no_export))
  in_export e = let (k, h) = (kind-says p x).export e in ref-export (package_in id b) x k (rw (← export_count_lem a) h)

  pub in_import : kind_by p x ≡ 2
      → ref_in (package_in id b) x
      ≡ import (public (id_of (imported_name (read_in b) (import_name x))) (get_or (read_in b).hashes (import_hash x) 0)) (imported_name (read_in b) (import_name x)) (get_or (read_in b).hashes (import_hash x) 0)
  in_import e =
      let (k, h, g) = (kind-says p x).import e in
      ref-import (package_in id b) x k (rw (← imported_count_lem a) h) (rw (← public-count a) g)

  pub in_bad_export : kind_by p x ≡ 7 → (kind x ≡ 2 → ⊥) → ref_in (package_in id b) x ≡ bad (bad_export (read_in b) x)
  in_bad_export e n = let (k, h) = (kind-says p x).bad_export_lem e n in ref-no_export (package_in id b) x k (rw (← export_count_lem a) h)

  pub in_bad_import : kind_by p x ≡ 7 → kind x ≡ 2 → ref_in (package_in id b) x ≡ bad (bad_import (read_in b) x)
  in_bad_import e k = go ((kind-says p x).bad_import_lem e k)
    where
      go : (p.imported.count ≤ import_name x) ⊎ (p.publics ≤ import_hash x) → ref_in (package_in id b) x ≡ bad (bad_import (read_in b) x)
      go (inl h) = ref_no_name (package_in id b) x k (rw (← imported_count_lem a) h)
      go (inr h) = ref_no_hash (package_in id b) x k (rw (← public-count a) h)

-- ---- the words: what a caller finds by them

module _ (id hash : ℕ) where
  keyed-key : 0 < (keyed id hash).hi → public id hash ≡ public (keyed id hash).lo (keyed id hash).hi
  unfolding keyed
  keyed-key = go (eqb hash 0)
    where
      go : (t : Bool) → 0 < (cond t nowhere (record { lo = id; hi = hash })).hi
          → public id hash ≡ public (cond t nowhere (record { lo = id; hi = hash })).lo (cond t nowhere (record { lo = id; hi = hash })).hi
      go true h = absurd (omega arith)
      go false h = refl

  keyed-zero : (keyed id hash).hi ≡ 0 → (hash ≡ 0) × ((keyed id hash).lo ≡ 0)
  unfolding keyed
  keyed-zero = go (eqb hash 0) refl
    where
      go : (t : Bool) → eqb hash 0 ≡ t → (cond t nowhere (record { lo = id; hi = hash })).hi ≡ 0
          → (hash ≡ 0) × ((cond t nowhere (record { lo = id; hi = hash })).lo ≡ 0)
      go true e h = (eqb-true hash 0 e, refl)
      go false e h = absurd (eqb-false hash 0 e h)

key-found : (k : Key) → 0 < (key_words k).hi → some k ≡ some (public (key_words k).lo (key_words k).hi)
unfolding key_words
key-found (public id hash) h = ap some (keyed-key id hash h)

key-lost : (k : Key) → (key_words k).hi ≡ 0 → ((key_words k).lo ≡ 0) × ((i : ℕ) × (some k ≡ some (public i 0)))
unfolding key_words
key-lost (public id hash) h = let (z, l) = keyed-zero id hash h in (l, (id, rw z))

-- a second word that isn't 0: the class with that key
pub words-key : (r : Ref) → 0 < (words_of r).hi → meant r ≡ some (public (words_of r).lo (words_of r).hi)
unfolding words_of
words-key (script g) h = absurd (omega arith)
words-key (import k name hash) h = key-found k h
words-key (export k name) h = key-found k h
words-key null h = absurd (omega arith)
words-key (bad t) h = absurd (omega arith)

-- else a first word that isn't 0: the script object with that index
pub words-object : (r : Ref) → (words_of r).hi ≡ 0 → 0 < (words_of r).lo → r ≡ script (words_of r).lo
unfolding words_of
words-object (script g) h l = refl
words-object (import k name hash) h l = absurd (omega (arith, (key-lost k h).0))
words-object (export k name) h l = absurd (omega (arith, (key-lost k h).0))
words-object null h l = absurd (omega arith)
words-object (bad t) h l = absurd (omega arith)

-- both 0: the reference leads nowhere, or means a hash of 0, which no class has (meaning/Sanity.antt: `hash-zero`)
abbrev pub Nowhere : Ref → Type 0
Nowhere r = ((meant r ≡ none) × (ending r ≡ none)) ⊎ ((i : ℕ) × (meant r ≡ some (public i 0)))

words-none : (r : Ref) → (r ≡ script 0 → ⊥) → (words_of r).hi ≡ 0 → (words_of r).lo ≡ 0 → Nowhere r
unfolding words_of
words-none (script g) n h l = absurd (n (ap script l))
words-none (import k name hash) n h l = inr (key-lost k h).1
words-none (export k name) n h l = inr (key-lost k h).1
words-none null n h l = inl (refl, refl)
words-none (bad t) n h l = inl (refl, refl)

-- a script object's index is not 0: its kind is 1
no_object_lem : (q : Package) (x : ℕ) → ref_in q x ≡ script 0 → ⊥
unfolding ref_in
no_object_lem q x = go (kind x) refl
  where
    exported : (o : Option Export) → export_ref q x o ≡ script 0 → ⊥
    exported none e = never (cc)
    exported (some u) e = never (cc)

    imported : (o : Option (List ℕ)) (h : Option ℕ) → import_ref q x o h ≡ script 0 → ⊥
    imported none h e = never (cc)
    imported (some t) none e = never (cc)
    imported (some t) (some h) e = never (cc)

    go : (k : ℕ) → kind x ≡ k → ref_by q x k ≡ script 0 → ⊥
    go zero h e = exported (get q.read.exports x) e
    go (suc zero) h e = let z : x ≡ 0 = cc in omega (arith, h)
    go (suc (suc zero)) h e = imported (get q.read.imported (import_name x)) (get q.read.hashes (import_hash x)) e
    go (suc (suc (suc k))) h e = never (cc)

pub words-nowhere : (q : Package) (x : ℕ) → (words_of (ref_in q x)).hi ≡ 0 → (words_of (ref_in q x)).lo ≡ 0 → Nowhere (ref_in q x)
words-nowhere q x h l = words-none (ref_in q x) (no_object_lem q x) h l

-- ---- the kind by the parts is the reference's

pub kind_by_lem : {b : List ℕ} {p : Parts} → PackageIn b p → (id x : ℕ) → kind_by p x ≡ ref_kind (ref_in (package_in id b) x)
kind_by_lem {b} {p} a id x = go (ℕ_discrete (kind_by p x) 0) (ℕ_discrete (kind_by p x) 2) (ℕ_discrete (kind_by p x) 4) (ℕ_discrete (kind_by p x) 6)
  where
    seven : kind_by p x ≡ 7 → Dec (kind x ≡ 2) → kind_by p x ≡ ref_kind (ref_in (package_in id b) x)
    seven e (yes k) = e ∙ sym (ap ref_kind (in_bad_import a id x e k))
    seven e (no k) = e ∙ sym (ap ref_kind (in_bad_export a id x e k))

    go : Dec (kind_by p x ≡ 0) → Dec (kind_by p x ≡ 2) → Dec (kind_by p x ≡ 4) → Dec (kind_by p x ≡ 6) → kind_by p x ≡ ref_kind (ref_in (package_in id b) x)
    go (yes e) i j k = e ∙ sym (ap ref_kind (in_script a id x e))
    go (no h) (yes e) j k = e ∙ sym (ap ref_kind (in_import a id x e))
    go (no h) (no i) (yes e) k = e ∙ sym (ap ref_kind (in_export a id x e))
    go (no h) (no i) (no j) (yes e) = e ∙ sym (ap ref_kind (in_null a id x e))
    go (no h) (no i) (no j) (no k) = seven ((kind-says p x).other h i j k) (ℕ_discrete (kind x) 2)
