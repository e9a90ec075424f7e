-- Laws of where a row leads: its class and its native class by number. Assumes nothing.
use Rattle.std.specs.Prelude.{◌≡◌, List, ℕ, zero, suc, ◌+◌, ◌≤◌, length}
use Rattle.std.proofs.Math.Path.{refl}
use Rattle.std.proofs.Common.{sym, ◌∙◌, ap, arith, add-one}
use Rattle.std.proofs.Math.Option.{Option, none, some}
use Rattle.base.specs.Find.{option}
use Rattle.base.specs.FindLaws.{none-some}
use Rattle.scriptblock.specs.Script.{Objects}
use Rattle.scriptblock.specs.ScriptGood.{Good}
use Rattle.scriptblock.proofs.ScriptGood.{script-good}
use Rattle.meaning.specs.Key.{Key}
use Rattle.meaning.specs.Path.{path_of}
use Rattle.meaning.specs.Reference.{Ref, script, import, export, null, bad, meant}
use Rattle.meaning.specs.Scan.{Class}
use Rattle.meaning.specs.Resolve.{Limits, look, follow, ending, native_of, resolve, found_or, path_text, class_text}
use Rattle.objects.specs.Numbers.{number_of}
use Rattle.objects.specs.NumberLaws.{number-le, path-found, path-missing}
use Rattle.objects.specs.WorkLaws.{entries-length}
use Rattle.resolve.specs.Classes.{class_no}
use Rattle.resolve.specs.ClassesLaws.{by_number}
use Rattle.resolve.specs.ChainLaws.{class_no-key, class-look, class_in, follow_end, follow-lost}
use Rattle.resolve.specs.Rows.{class_number, object_number, path_by, Tables}

-- ---- numbers lead inside

module _ (xs : List Class) (r : Ref) where
  pub class-inside : class_number xs r ≤ length xs
  class-inside = go (class_number xs r) refl
    where
      go : (k : ℕ) → class_number xs r ≡ k → k ≤ length xs
      go zero q = omega arith
      go (suc i) q = omega (arith, class_in xs r i (q ∙ omega arith))

pub object-inside : {s b : List ℕ} {o : Objects} {n : ℕ} {xs : List Class} {w : List ℕ} → Tables s b o n xs w → (lookups : ℕ) (r : Ref) → object_number lookups xs o r ≤ n
unfolding object_number
object-inside {o = o} {n = n} {xs = xs} t lookups r = go (follow lookups (look xs) r)
  where
    go : (x : Option ℕ) → option 0 (number_of o.entries) x ≤ n
    go none = omega arith
    go (some g) = omega (arith, number-le o.entries g, entries-length t.objects.all, t.count)

-- ---- the native class

-- the path of a global index, by number
path_by_lem : (limit : ℕ) (o : Objects) → Good o → (g : ℕ) → path_of limit o g ≡ path_by limit o (number_of o.entries g)
path_by_lem limit o good g = go (number_of o.entries g) refl
  where
    go : (k : ℕ) → number_of o.entries g ≡ k → path_of limit o g ≡ path_by limit o k
    go zero q = path-missing limit o g q
    go (suc i) q = path-found limit o good g i (q ∙ omega arith)

module _ {s b : List ℕ} {o : Objects} {n : ℕ} {xs : List Class} {w : List ℕ} (t : Tables s b o n xs w) (m : Limits) where
  pub native-by : (r : Ref) → native_of m (look xs) o r ≡ path_by m.objects o (object_number m.lookups xs o r)
  unfolding native_of object_number
  native-by r = go (follow m.lookups (look xs) r)
    where
      go : (x : Option ℕ) → option none (path_of m.objects o) x ≡ path_by m.objects o (option 0 (number_of o.entries) x)
      go none = refl
      go (some g) = path_by_lem m.objects o (script-good b o t.objects.all.read) g

-- ---- the class

found-class : (k : ℕ) (x : Option (List ℕ)) → (found_or k x).class ≡ x
found-class k none = refl
found-class k (some t) = refl

module _ (m : Limits) (xs : List Class) (o : Objects) where
  class-named : (r : Ref) {k : Key} → meant r ≡ some k → (resolve m (look xs) o r).class ≡ class_text (look xs k)
  unfolding resolve
  class-named (script g) e = none-some e
  class-named (import j name hash) {k} e = let q : j ≡ k = cc in rw (← q) (found-class 2 (class_text (look xs j)))
  class-named (export j name) {k} e = let q : j ≡ k = cc in rw (← q) (found-class 4 (class_text (look xs j)))
  class-named null e = none-some e
  class-named (bad t) e = none-some e

  class-native : (r : Ref) → meant r ≡ none → (resolve m (look xs) o r).class ≡ path_text (native_of m (look xs) o r)
  unfolding resolve native_of
  class-native (script g) e = found-class 0 (path_text (path_of m.objects o g)) ∙ rw (follow_end (look xs) (script g) m.lookups refl)
  class-native (import j name hash) e = none-some (sym e)
  class-native (export j name) e = none-some (sym e)
  class-native null e = rw (follow_end (look xs) null m.lookups refl)
  class-native (bad t) e = rw (follow_end (look xs) (bad t) m.lookups refl)

  native-lost : (r : Ref) {k : Key} → meant r ≡ some k → look xs k ≡ none → native_of m (look xs) o r ≡ none
  unfolding native_of
  native-lost r e n = rw (follow-lost (look xs) r e m.lookups n)

  module _ (r : Ref) where
    -- of a reference that means a key: that of the class of that number
    pub class-by : {k : Key} → meant r ≡ some k → (resolve m (look xs) o r).class ≡ class_text (by_number xs (class_number xs r))
    class-by e = class-named r e ∙ ap class_text (class-look xs r e)

    pub class-found : (i : ℕ) → class_number xs r ≡ i + 1 → (resolve m (look xs) o r).class ≡ some (class_no xs i).path
    class-found i q = go (meant r) refl
      where
        go : (x : Option Key) → meant r ≡ x → (resolve m (look xs) o r).class ≡ some (class_no xs i).path
        go none e = absurd (omega (arith, class_no-key xs r e))
        go (some k) e = class-by e ∙ rw (q, add-one i)

    -- of one that has no class of the table: its native class is its class, the script object that it names or none
    pub class-lost : class_number xs r ≡ 0 → (resolve m (look xs) o r).class ≡ path_text (native_of m (look xs) o r)
    class-lost q = go (meant r) refl
      where
        go : (x : Option Key) → meant r ≡ x → (resolve m (look xs) o r).class ≡ path_text (native_of m (look xs) o r)
        go none e = class-native r e
        go (some k) e = let n : look xs k ≡ none = class-look xs r e ∙ rw q in class-named r e ∙ rw (n, native-lost r e n)

    -- null and bad
    pub class-none : meant r ≡ none → ending r ≡ none → (resolve m (look xs) o r).class ≡ none
    unfolding native_of
    class-none e n = class-native r e ∙ rw (follow_end (look xs) r m.lookups e, n)

-- the same by number
pub class-lost-by : {s b : List ℕ} {o : Objects} {n : ℕ} {xs : List Class} {w : List ℕ} → Tables s b o n xs w → (m : Limits) (r : Ref) → class_number xs r ≡ 0
    → (resolve m (look xs) o r).class ≡ path_text (path_by m.objects o (object_number m.lookups xs o r))
class-lost-by {o = o} {xs = xs} t m r q = class-lost m xs o r q ∙ ap path_text (native-by t m r)
