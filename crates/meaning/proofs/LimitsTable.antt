-- Within more objects (document 02, Q-5: "the object limit governs the class test as well"): a known path stays, a class stays a class, and so
-- every class of the table is one of the table within more objects.
use Rattle.std.specs.Prelude.{◌≡◌, refl, ◌⊎◌, Bool, ◌&&◌, ℕ, ◌+◌, ◌≤◌, eqb}
use Rattle.std.proofs.Common.{inl, inr, le_trans}
use Rattle.std.proofs.Math.Bool.{true, false, not}
use mathlib.Core.List.Memᴰ
use mathlib.Core.List.{List, [], ◌∷◌, Memᴰ}
use Rattle.std.proofs.Math.Option.{Option, none, some}
use Rattle.base.specs.Find.{kept}
use Rattle.base.specs.Index.{kind}
use Rattle.base.specs.Never.{never}
use Rattle.scriptblock.specs.Script.{Objects}
use Rattle.scriptblock.specs.ScriptGood.{Good}
use Rattle.zen.specs.declared.tables.Export.{Export}
use Rattle.meaning.specs.Path.{Path, path_of}
use Rattle.meaning.specs.Reference.{Package}
use Rattle.meaning.specs.Scan.{is_class, Class, class_at, classes_from, classes_of, table}
use Rattle.meaning.specs.ClassTest.{names_class}
use Rattle.meaning.proofs.Native.{path_sound, path_complete}

module _ (o : Objects) (good : Good o) {n₁ n₂ : ℕ} (more : n₁ ≤ n₂) where
  -- a known path is known, and the same
  pub path_stays : (g : ℕ) (p : Path) → path_of n₁ o g ≡ some p → path_of n₂ o g ≡ some p
  path_stays g p e =
      let (es, outers, few, is) = path_sound o n₁ g p e in
      rw is (path_complete o good n₂ outers (le_trans few more))

  -- an export that is told to be a class is one
  pub class_stays : (e : Export) → is_class n₁ o e ≡ true → is_class n₂ o e ≡ true
  unfolding is_class
  class_stays e =
      go (eqb (kind e.class) 1 && not (eqb (kind e.parent) 3) && not (eqb e.hash 0)) (path_of n₁ o e.class) (path_stays e.class)
    where
      go : (b : Bool) (x : Option Path) → ((p : Path) → x ≡ some p → path_of n₂ o e.class ≡ some p)
          → b && names_class x ≡ true → b && names_class (path_of n₂ o e.class) ≡ true
      go true none stays h = never (cc)
      go true (some p) stays h = rw (stays p refl) h
      go false x stays h = never (cc)

  classes_stay : (p : Package) (i : ℕ) (es : List Export) (c : Class) → Memᴰ c (classes_from n₁ o p i es) → Memᴰ c (classes_from n₂ o p i es)
  classes_stay p i [] c m = m
  classes_stay p i (e ∷ es) c m = go (is_class n₁ o e) (is_class n₂ o e) (class_stays e) (classes_stay p (i + 1) es c) m
    where
      go : (b₁ b₂ : Bool) → (b₁ ≡ true → b₂ ≡ true) → {l₁ l₂ : List Class} → (Memᴰ c l₁ → Memᴰ c l₂)
          → Memᴰ c (kept b₁ (class_at p i e) l₁) → Memᴰ c (kept b₂ (class_at p i e) l₂)
      go true true stays ih (Memᴰ.head q) = Memᴰ.head q
      go true true stays ih (Memᴰ.tail m) = Memᴰ.tail (ih m)
      go true false stays ih m = never (cc (stays refl))
      go false true stays ih m = Memᴰ.tail (ih m)
      go false false stays ih m = ih m

  -- THE TABLE holds every class that it holds within fewer objects
  pub table_stays : (ps : List Package) (c : Class) → Memᴰ c (table n₁ o ps) → Memᴰ c (table n₂ o ps)
  unfolding classes_of
  table_stays [] c m = m
  table_stays (p ∷ ps) c m = go (Memᴰ.append_cases (classes_of n₁ o p) m) (table_stays ps c)
    where
      go : Memᴰ c (classes_of n₁ o p) ⊎ Memᴰ c (table n₁ o ps) → (Memᴰ c (table n₁ o ps) → Memᴰ c (table n₂ o ps))
          → Memᴰ c (table n₂ o (p ∷ ps))
      go (inl m) ih = Memᴰ.append_left (table n₂ o ps) (classes_stay p 0 p.read.exports c m)
      go (inr m) ih = Memᴰ.append_right (classes_of n₂ o p) (ih m)
