-- Theorems that shut out mistaken readings (document 01, "Mistaken readings"): "A path of `?` taken for unknown (flags differ). A
-- reference of hash 0 matched. The suffix tested on the rendered name." Assumes nothing.
use Rattle.std.specs.Prelude.{◌≡◌, Bool, true, false, not, ◌&&◌, eqb}
use Rattle.std.proofs.Math.Path.{refl}
use Rattle.std.proofs.Common.{sym, ◌∙◌, ap, eq-eqb}
use mathlib.Core.List.{List, [], ◌∷◌, Memᴰ}
use Rattle.std.proofs.Math.Option.{Option, none, some}
use Prim.Native.Nat.{ℕ, zero, suc, ◌+◌, ◌*◌, ◌^◌}
use Rattle.std.proofs.Math.Dec.{T}
use Rattle.text.specs.Affix.{ends_with}
use Rattle.text.specs.AffixLaws.{rendered-ends}
use Rattle.base.specs.Find.{option, kept}
use Rattle.base.specs.FindLaws.{find_none, flat-some}
use Rattle.base.specs.Index.{kind}
use Rattle.base.specs.Literal.{quoted}
use Rattle.scriptblock.specs.Script.{Objects}
use Rattle.scriptblock.specs.declared.script.Layout.{Layout}
use Rattle.zen.specs.Zen.{Read, base_of, export_name}
use Rattle.zen.specs.declared.tables.Export.{Export}
use Rattle.meaning.specs.Key.{Key, public, same_key}
use Rattle.meaning.specs.KeyLaws.{same_key→eq, public-hash}
use Rattle.meaning.specs.Path.{Path, path_of}
use Rattle.meaning.specs.Reference.{Package, Ref, import, export, meant}
use Rattle.meaning.specs.Scan.{Class, class_at, is_class, classes_from, classes_of, table, outer_of, gen_variable, candidate_kind}
use Rattle.meaning.specs.Resolve.{Limits, look, own_chain, ending, follow, native_of, resolve, path_text}
use Rattle.meaning.specs.Report.{flag, or_unknown}

-- ---- a reference of hash 0

and-third : (a b c d : Bool) → T (a && b && c && d) → T c
and-third true true true d h = tt
and-third true true false d h = h
and-third true false c d h = absurd h
and-third false b c d h = absurd h

-- no class has hash 0
module _ (limit : ℕ) (o : Objects) where
  class-hash : (e : Export) → T (is_class limit o e) → e.hash ≡ 0 → ⊥
  unfolding is_class
  class-hash e h z =
      let t : T (not (eqb e.hash 0)) = and-third (eqb (kind e.class) 1) (not (eqb (kind e.parent) 3)) (not (eqb e.hash 0)) _ h in
      rw (eq-eqb e.hash 0 z) at t

  class_of : (p : Package) (i : ℕ) (es : List Export) (c : Class) → Memᴰ c (classes_from limit o p i es)
      → (e : Export) × (c.key ≡ public p.id e.hash) × T (is_class limit o e)
  unfolding class_at
  class_of p i [] c m = elim m [ ]
  class_of p i (e ∷ es) c m = go (is_class limit o e) refl (class_of p (i + 1) es c) m
    where
      Is : Type 0
      Is = (e : Export) × (c.key ≡ public p.id e.hash) × T (is_class limit o e)

      go : (b : Bool) → is_class limit o e ≡ b → (Memᴰ c (classes_from limit o p (i + 1) es) → Is)
          → Memᴰ c (kept b (class_at p i e) (classes_from limit o p (i + 1) es)) → Is
      go true t ih (Memᴰ.head q) = (e, ap (λ (c : Class). c.key) q, rw t tt)
      go true t ih (Memᴰ.tail m) = ih m
      go false t ih m = ih m

  member-hash : (ps : List Package) (c : Class) (id : ℕ) → Memᴰ c (table limit o ps) → c.key ≡ public id 0 → ⊥
  unfolding classes_of
  member-hash ps c id m z =
      let (p, in-corpus, in-package) = flat-some (classes_of limit o) ps m in
      let (e, is, class) = class_of p 0 p.read.exports c in-package in
      class-hash e class (public-hash (sym is ∙ z))

  -- so a key of hash 0 finds nothing
  pub hash-zero : (ps : List Package) (id : ℕ) → look (table limit o ps) (public id 0) ≡ none
  hash-zero ps id =
      find_none (λ c. same_key c.key (public id 0)) (table limit o ps) (λ c m t. member-hash ps c id m (same_key→eq c.key (public id 0) t))

-- a reference that means such a key is unresolved, and its native class is unknown
module _ (m : Limits) (o : Objects) (ps : List Package) (id : ℕ) (name : List ℕ) where
  -- the look-up of the packages
  abbrev look_in : Key → Option Class
  look_in = look (table m.objects o ps)

  -- a reference whose key no class has ends its chain
  native-none : (r : Ref) (k : Key) (f : Key → Option Class) → meant r ≡ some k → f k ≡ none → ending r ≡ none → native_of m f o r ≡ none
  unfolding native_of own_chain
  native-none r k f means e end = go m.lookups
    where
      go : (n : ℕ) → option none (path_of m.objects o) (follow n f r) ≡ none
      go zero = rw end
      go (suc n) = rw (means, e, end)

  pub import-zero : (hash : ℕ)
      → (resolve m look_in o (import (public id 0) name hash) ≡ record { kind = 3; class = none }) × (native_of m look_in o (import (public id 0) name hash) ≡ none)
  unfolding resolve
  import-zero hash = let e = hash-zero m.objects o ps id in (rw e, native-none (import (public id 0) name hash) (public id 0) look_in refl e refl)

  pub export-zero :
      (resolve m look_in o (export (public id 0) name) ≡ record { kind = 5; class = none }) × (native_of m look_in o (export (public id 0) name) ≡ none)
  unfolding resolve
  export-zero = let e = hash-zero m.objects o ps id in (rw e, native-none (export (public id 0) name) (public id 0) look_in refl e refl)

-- ---- a path of `?`

-- it has the text of an unknown one, and its flag is 1
pub question-known : (m : Limits) (f : Key → Option Class) (o : Objects) (r : Ref) (p : Path) → native_of m f o r ≡ some p → p.text ≡ quoted "?"
    → (flag (native_of m f o r) ≡ 1) × (or_unknown (path_text (native_of m f o r)) ≡ or_unknown (path_text none)) × (flag {A = Path} none ≡ 0)
question-known m f o r p e t = (rw e, rw (e, t), refl)

-- there is one: the object named `?`
pub question-path : (l : Layout)
    → path_of 65 (record { layout = l; names = quoted "?" ∷ []; entries = record { index = 0; number = 0; global = 2 ^ 62; outer = 3 * 2 ^ 62 } ∷ [] }) (2 ^ 62)
    ≡ some (record { text = quoted "?"; depth = 1 })
unfolding path_of
question-path l = refl

-- ---- the suffix

-- the kind is the base's and the outer's, whatever the number
pub kind_of-base : (r : Read) (d e : Export) → base_of r d ≡ base_of r e → d.outer ≡ e.outer → candidate_kind r d ≡ candidate_kind r e
unfolding candidate_kind outer_of
kind_of-base r d e b u = rw (b, u)

-- a numbered candidate of kind 1 would be none by its rendered name
pub kind-not-rendered : (r : Read) (e : Export) (n : ℕ) → ends_with (base_of r e) gen_variable ≡ true → e.number ≡ suc n
    → (candidate_kind r e ≡ 1) × (ends_with (export_name r e) gen_variable ≡ false)
unfolding candidate_kind
kind-not-rendered r e n b s = (rw b, rw s (rendered-ends (base_of r e) n (95 ∷ 71 ∷ 69 ∷ 78 ∷ 95 ∷ 86 ∷ 65 ∷ 82 ∷ 73 ∷ 65 ∷ 66 ∷ 76 ∷ []) 69 refl))
