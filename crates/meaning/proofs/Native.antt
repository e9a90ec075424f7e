-- The native class that `native_of` gives is the one that the chains of document 01 lead to, and where there is none it gives none.
use Rattle.std.specs.Prelude.{◌≡◌, ◌↔◌, Bool}
use Rattle.std.proofs.Math.Path.{refl}
use Rattle.std.proofs.Common.{sym, ◌∙◌, add-one, eqb-true, eqb→eq}
use Rattle.std.proofs.Math.Bool.{true, false}
use mathlib.Core.List.{List, [], ◌∷◌, ◌++◌, map, reverse, reverse-cons, map-append, append_assoc, append-nil, Memᴰ}
use Rattle.std.proofs.Math.Option.{Option, none, some}
use Prim.Native.Nat.{ℕ, zero, suc, ◌+◌, ◌≤◌}
use native.Mathlib.Omega.{arith}
use Rattle.std.proofs.Math.Dec.{eqb, eqb_refl}
use Rattle.std.proofs.Math.ListN.{length, length-map, length-reverse}
use Rattle.base.specs.Find.{option}
use Rattle.base.specs.FindLaws.{none-some, find-some, find-member}
use Rattle.base.specs.Index.{kind}
use Rattle.base.specs.Literal.{quoted}
use Rattle.scriptblock.specs.Script.{Objects, object_name}
use Rattle.scriptblock.specs.ScriptGood.{Good}
use Rattle.scriptblock.proofs.ScriptGood.{apart_members}
use Rattle.scriptblock.specs.declared.script.Entry.{Entry}
use Rattle.meaning.specs.Path.{Path, object_at, separator, added, start, beyond, through, path_of}
use Rattle.meaning.specs.Reference.{Ref}
use Rattle.meaning.specs.Scan.{Class}
use Rattle.meaning.specs.Resolve.{Limits, look, follow, native_of}
use Rattle.meaning.specs.Chain.{Outers, outermost, within, NativeKnown, dotted, joined, chain_path}
use Rattle.meaning.specs.OwnChain.{OneEach}
use Rattle.meaning.proofs.OwnChain.{follow_sound, follow_complete}

-- the path's text, one name more
dotted_snoc : (ns : List (List ℕ)) (n : List ℕ) → dotted (ns ++ n ∷ []) ≡ dotted ns ++ (quoted "." ++ n)
dotted_snoc [] n = rw append-nil
dotted_snoc (m ∷ ns) n = rw (dotted_snoc ns n, append_assoc m (dotted ns) (quoted "." ++ n))

joined_snoc : (ns : List (List ℕ)) (n : List ℕ) → joined (ns ++ n ∷ []) ≡ joined ns ++ separator (length ns) ++ n
joined_snoc [] n = refl
joined_snoc (a ∷ []) n = simp append_assoc
joined_snoc (a ∷ b ∷ []) n = simp (append_assoc, append-nil)
joined_snoc (a ∷ b ∷ c ∷ ns) n = rw (dotted_snoc ns n) (simp append_assoc)

module _ (o : Objects) where
  path-last : (e : Entry) → added (object_name o e) (some start) ≡ some (chain_path o (e ∷ []))
  unfolding chain_path
  path-last e = refl

  path-more : (e : Entry) (es : List Entry) → added (object_name o e) (some (chain_path o es)) ≡ some (chain_path o (e ∷ es))
  unfolding chain_path
  path-more e es =
      let n : length (map (object_name o) (reverse es)) ≡ length es = length-map (reverse es) (object_name o) ∙ length-reverse es in
      rw (reverse-cons e es, map-append (object_name o) (reverse es) (e ∷ []), joined_snoc (map (object_name o) (reverse es)) (object_name o e), n, add-one)

  -- an outer chain of at most n objects from g, and its path
  abbrev Nested : ℕ → ℕ → Path → Type 0
  Nested n g p = (es : List Entry) × Outers o g es × (length es ≤ n) × (p ≡ chain_path o es)

  pub path_sound : (n g : ℕ) (p : Path) → path_of n o g ≡ some p → Nested n g p
  unfolding path_of
  path_sound zero g p e = none-some e
  path_sound (suc n) g p e = go (object_at o g) refl (path_sound n) e
    where
      up : (u : Entry) → Memᴰ u o.entries → u.global ≡ g → (b : Bool) → eqb (kind u.outer) 3 ≡ b → (x : Option Path)
          → ((q : Path) → x ≡ some q → Nested n u.outer q) → added (object_name o u) (beyond b x) ≡ some p → Nested (suc n) g p
      up u m i true k x ih e = (u ∷ [], outermost m i (eqb-true (kind u.outer) 3 k), omega arith, let s : p ≡ chain_path o (u ∷ []) = cc (path-last u) in s)
      up u m i false k none ih e = none-some e
      up u m i false k (some q) ih e =
          let (es, chain, few, is) = ih q refl in
          (u ∷ es, within m i chain, omega arith, let s : p ≡ chain_path o (u ∷ es) = cc (path-more u es) in s)

      go : (x : Option Entry) → object_at o g ≡ x → ((h : ℕ) (q : Path) → path_of n o h ≡ some q → Nested n h q)
          → through (path_of n o) o x ≡ some p → Nested (suc n) g p
      go none f ih e = none-some e
      go (some u) f ih e =
          let (m, i) = find-some (λ d. eqb d.global g) o.entries u f in
          up u m (eqb→eq u.global g i) (eqb (kind u.outer) 3) refl (path_of n o u.outer) (ih u.outer) e

  module _ (good : Good o) where
    -- the block's object by its global index
    pub object-member : (e : Entry) → Memᴰ e o.entries → object_at o e.global ≡ some e
    object-member e m = find-member (λ d. eqb d.global e.global) o.entries e m (eqb_refl e.global)
        (λ d n h. apart_members o.entries good.apart d e n m (eqb→eq d.global e.global h))

    outers-kind : {g : ℕ} {es : List Entry} → Outers o g es → kind g ≡ 1
    outers-kind (outermost {e} m i k) = rw i at (good.entered e m).0
    outers-kind (within {e} m i c) = rw i at (good.entered e m).0

    pub path_complete : (n : ℕ) {g : ℕ} {es : List Entry} → Outers o g es → length es ≤ n → path_of n o g ≡ some (chain_path o es)
    unfolding path_of
    path_complete zero (outermost m i k) few = absurd (omega arith)
    path_complete zero (within m i c) few = absurd (omega arith)
    path_complete (suc n) (outermost {e} m i k) few = rw (← i, object-member e m, k) (path-last e)
    path_complete (suc n) (within {e} {es} m i c) few =
        rw (← i, object-member e m, outers-kind c, path_complete n c (omega arith)) (path-more e es)

    -- all outer chains from an index have one path
    pub outers_unique : {g : ℕ} {es fs : List Entry} → Outers o g es → Outers o g fs → chain_path o es ≡ chain_path o fs
    outers_unique {g} {es} {fs} c d =
        let p : path_of (length es + length fs) o g ≡ some (chain_path o es) = path_complete (length es + length fs) c (omega arith) in
        let q : path_of (length es + length fs) o g ≡ some (chain_path o fs) = path_complete (length es + length fs) d (omega arith) in
        cc

module _ (m : Limits) (t : List Class) (o : Objects) (one : OneEach t) (good : Good o) (r : Ref) where
  -- THE THEOREM: a native class is given exactly where the chains of document 01 lead to one, and is that script object's path
  abbrev Known : Path → Type 0
  Known p = (k : NativeKnown m t o r) × (p ≡ chain_path o k.objects)

  pub native-known : (p : Path) → (native_of m (look t) o r ≡ some p) ↔ Known p
  unfolding native_of
  native-known p = (λ e. forth (follow m.lookups (look t) r) refl e, back)
    where
      forth : (x : Option ℕ) → follow m.lookups (look t) r ≡ x → option none (path_of m.objects o) x ≡ some p → Known p
      forth none f e = none-some e
      forth (some g) f e =
          let (cs, chain, lookups) = follow_sound t m.lookups r g f in
          let (es, outers, few, is) = path_sound o m.objects g p e in
          (record { classes = cs; index = g; objects = es; chain = chain; lookups = lookups; outers = outers; few = few }, is)

      back : Known p → option none (path_of m.objects o) (follow m.lookups (look t) r) ≡ some p
      back (k, is) = rw (follow_complete t one m.lookups k.index k.chain k.lookups, path_complete o good m.objects k.outers k.few, is)

  -- it is `path_of` of the index that the chain leads to
  pub native-path : (k : NativeKnown m t o r)
      → (native_of m (look t) o r ≡ some (chain_path o k.objects)) × (path_of m.objects o k.index ≡ some (chain_path o k.objects))
  native-path k = ((native-known (chain_path o k.objects)).1 (k, refl), path_complete o good m.objects k.outers k.few)

  -- and otherwise none is given
  pub native-unknown : (native_of m (look t) o r ≡ none) ↔ (NativeKnown m t o r → ⊥)
  native-unknown = (λ e k. none-some (sym e ∙ (native-path k).0), λ h. go (native_of m (look t) o r) refl h)
    where
      go : (x : Option Path) → native_of m (look t) o r ≡ x → (NativeKnown m t o r → ⊥) → native_of m (look t) o r ≡ none
      go none e h = e
      go (some p) e h = absurd (h ((native-known p).0 e).0)
