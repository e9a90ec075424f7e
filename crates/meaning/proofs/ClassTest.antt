-- The class test (document 01: "a class path whose part after the last `.` or `:` ends in `Class`"): as `Class` holds no separator, the
-- part, the path and the innermost object's rendered name pass it together. Code tests the name. Assumes nothing.
use Rattle.std.specs.Prelude.{◌≡◌, Bool, cond, not, ◌&&◌, eqb, length, take, get_or}
use Rattle.std.proofs.Math.Path.{refl, sym}
use Rattle.std.proofs.Common.{◌∙◌, ap, ne_eqb}
use Rattle.std.proofs.Math.Bool.{true, false}
use mathlib.Core.List.{List, [], ◌∷◌, ◌++◌, append_assoc}
use Rattle.std.proofs.Math.Option.{Option, none, some}
use Prim.Native.Nat.{ℕ, zero, suc, ◌-◌}
use Rattle.std.proofs.Math.Numerals.{add-one}
use Rattle.std.proofs.Math.Dec.{eqb-suc-zero}
use Rattle.text.specs.Affix.{ends_with}
use Rattle.text.specs.AffixLaws.{ends_append, ends-true, rendered-ends, rendered-plain}
use Rattle.base.specs.Index.{kind}
use Rattle.base.specs.Literal.{quoted}
use Rattle.text.specs.Name.{suffix}
use Rattle.base.specs.Never.{never}
use Rattle.scriptblock.specs.Script.{Objects, object_name}
use Rattle.scriptblock.specs.declared.script.Entry.{Entry}
use Rattle.zen.specs.declared.tables.Export.{Export}
use Rattle.base.specs.Find.{option}
use Rattle.meaning.specs.Path.{Path, object_at, separator, added, beyond, through, path_of}
use Rattle.meaning.specs.Scan.{class_end, one_of, last_from, last_part, is_class}
pub use Rattle.meaning.specs.ClassTest.{is_known, names_class}

some-path : {p q : Path} → some p ≡ some q → p ≡ q
some-path e = cc

abbrev is_separator : ℕ → Bool
is_separator c = one_of (quoted ".:") c

-- no `.` and no `:` in a text
abbrev Plain : List ℕ → Type 0
Plain [] = Unit {0}
Plain (c ∷ t) = (is_separator c ≡ false) × Plain t

plain-not : (x : List ℕ) (c : ℕ) (y : List ℕ) → Plain (x ++ c ∷ y) → is_separator c ≡ false
plain-not [] c y p = p.0
plain-not (d ∷ x) c y p = plain-not x c y p.1

-- an ending with no separator lies behind each separator
behind : (x : List ℕ) (c : ℕ) (y f e : List ℕ) → is_separator c ≡ true → Plain e → x ++ c ∷ y ≡ f ++ e → (g : List ℕ) × (y ≡ g ++ e)
behind [] c y [] e s p q = never (cc (plain-not [] c y (rw (sym q) at p)))
behind [] c y (d ∷ f) e s p q = (f, cc)
behind (b ∷ x) c y [] e s p q = never (cc (plain-not (b ∷ x) c y (rw (sym q) at p)))
behind (b ∷ x) c y (d ∷ f) e s p q = behind x c y f e s p (cc)

same_test : (a b : Bool) → (a ≡ true → b ≡ true) → (b ≡ true → a ≡ true) → a ≡ b
same_test true b f g = sym (f refl)
same_test false true f g = g refl
same_test false false f g = refl

module _ (e : List ℕ) (p : Plain e) where
  ends-behind : (x : List ℕ) (c : ℕ) (y : List ℕ) → is_separator c ≡ true → ends_with y e ≡ ends_with (x ++ c ∷ y) e
  ends-behind x c y s = same_test (ends_with y e) (ends_with (x ++ c ∷ y) e) forth back
    where
      forth : ends_with y e ≡ true → ends_with (x ++ c ∷ y) e ≡ true
      forth h = rw (ends-true y e h, ← append_assoc x (c ∷ take (length y - length e) y) e) (ends_append (x ++ c ∷ take (length y - length e) y) e)

      back : ends_with (x ++ c ∷ y) e ≡ true → ends_with y e ≡ true
      back h =
          let t = x ++ c ∷ y in
          let (g, q) = behind x c y (take (length t - length e) t) e s p (ends-true t e h) in
          rw q (ends_append g e)

  last-ends : (w t : List ℕ) → ends_with (last_from (w ++ t) t) e ≡ ends_with (w ++ t) e
  last-ends w [] = refl
  last-ends w (c ∷ t) = go (is_separator c) refl (last-ends [] t) (last-ends (w ++ c ∷ []) t)
    where
      go : (b : Bool) → is_separator c ≡ b → ends_with (last_from t t) e ≡ ends_with t e
          → ends_with (last_from ((w ++ c ∷ []) ++ t) t) e ≡ ends_with ((w ++ c ∷ []) ++ t) e
          → ends_with (cond b (last_from t t) (last_from (w ++ c ∷ t) t)) e ≡ ends_with (w ++ c ∷ t) e
      go true s whole more = whole ∙ ends-behind w c t s
      go false s whole more = rw (append_assoc w (c ∷ []) t) at more

  -- the part after the last separator ends in it where the whole text does
  pub part-ends : (t : List ℕ) → ends_with (last_part t) e ≡ ends_with t e
  unfolding last_part
  part-ends t = last-ends [] t

  separator-is : (d : ℕ) → (c : ℕ) × (separator (suc d) ≡ c ∷ []) × (is_separator c ≡ true)
  separator-is zero = (46, refl, refl)
  separator-is (suc zero) = (58, refl, refl)
  separator-is (suc (suc d)) = (46, refl, refl)

  name-ends : (t : List ℕ) (d : ℕ) (name : List ℕ) → ends_with (t ++ separator (suc d) ++ name) e ≡ ends_with name e
  name-ends t d name =
      let (c, is, s) = separator-is d in
      rw (is, append_assoc t (c ∷ []) name) (sym (ends-behind t c name s))

  -- a known path has an object, and ends in it where its innermost object's name does
  module _ (o : Objects) where
    path-deep : (n g : ℕ) (p : Path) → path_of n o g ≡ some p → (d : ℕ) × (p.depth ≡ suc d)
    unfolding path_of
    path-deep zero g p h = never (cc)
    path-deep (suc n) g p h = go (object_at o g) h
      where
        deep : (name : List ℕ) (x : Option Path) → added name x ≡ some p → (d : ℕ) × (p.depth ≡ suc d)
        deep name none h = never (cc)
        deep name (some q) h = (q.depth, sym (ap (λ (x : Path). x.depth) (some-path h)) ∙ add-one q.depth)

        go : (x : Option Entry) → through (path_of n o) o x ≡ some p → (d : ℕ) × (p.depth ≡ suc d)
        go none h = never (cc)
        go (some u) h = deep (object_name o u) (beyond (eqb (kind u.outer) 3) (path_of n o u.outer)) h

    path-ends : (n g : ℕ) (u : Entry) → object_at o g ≡ some u
        → option false (λ (p : Path). ends_with p.text e) (path_of n o g) ≡ is_known (path_of n o g) && ends_with (object_name o u) e
    unfolding path_of
    path-ends zero g u at = refl
    path-ends (suc n) g u at = rw at (go (eqb (kind u.outer) 3) (path_of n o u.outer) (path-deep n u.outer))
      where
        go : (b : Bool) (x : Option Path) → ((p : Path) → x ≡ some p → (d : ℕ) × (p.depth ≡ suc d))
            → option false (λ (p : Path). ends_with p.text e) (added (object_name o u) (beyond b x))
            ≡ is_known (added (object_name o u) (beyond b x)) && ends_with (object_name o u) e
        go true x deep = refl
        go false none deep = refl
        go false (some p) deep = let (d, is) = deep p refl in rw is (name-ends p.text d (object_name o u))

class-plain : Plain class_end
class-plain = (refl, (refl, (refl, (refl, (refl, tt)))))

-- THE TEST: by the path's last part, or a known path and its innermost object's rendered name
pub class-test : (o : Objects) (n g : ℕ) (u : Entry) → object_at o g ≡ some u
    → names_class (path_of n o g) ≡ is_known (path_of n o g) && ends_with (object_name o u) class_end
class-test o n g u at = parts (path_of n o g) ∙ path-ends class_end class-plain o n g u at
  where
    parts : (x : Option Path) → names_class x ≡ option false (λ (p : Path). ends_with p.text class_end) x
    parts none = refl
    parts (some p) = part-ends class_end class-plain p.text

-- where no object has the index, it fails
pub class-test-none : (o : Objects) (n g : ℕ) → object_at o g ≡ none → names_class (path_of n o g) ≡ false
unfolding path_of
class-test-none o zero g at = refl
class-test-none o (suc n) g at = rw at

-- a rendered name ends in `Class` where it has no number and its base does: `Class` number 1 is `Class_0`
pub class-name : (o : Objects) (u : Entry) → ends_with (object_name o u) class_end ≡ eqb u.number 0 && ends_with (get_or o.names u.index []) class_end
class-name o u = go u.number (get_or o.names u.index [])
  where
    go : (n : ℕ) (t : List ℕ) → ends_with (t ++ suffix n) class_end ≡ eqb n 0 && ends_with t class_end
    go zero t = rendered-plain t class_end
    go (suc n) t = rw (eqb-suc-zero n) (rendered-ends t n (67 ∷ 108 ∷ 97 ∷ 115 ∷ []) 115 refl)

-- so a name with a number doesn't; one without does where its base does
pub name_numbered_lem : (o : Objects) (u : Entry) → (u.number ≡ 0 → ⊥) → ends_with (object_name o u) class_end ≡ false
name_numbered_lem o u n = class-name o u ∙ rw (ne_eqb u.number 0 n)

pub name-plain : (o : Objects) (u : Entry) → u.number ≡ 0 → ends_with (object_name o u) class_end ≡ ends_with (get_or o.names u.index []) class_end
name-plain o u z = class-name o u ∙ rw z

-- so a class is told by its class's object
pub class-by-name : (limit : ℕ) (o : Objects) (e : Export) (u : Entry) → object_at o e.class ≡ some u
    → is_class limit o e
    ≡ eqb (kind e.class) 1 && not (eqb (kind e.parent) 3) && not (eqb e.hash 0) && (is_known (path_of limit o e.class) && ends_with (object_name o u) class_end)
unfolding is_class
class-by-name limit o e u at = rw (class-test o limit e.class u at)
