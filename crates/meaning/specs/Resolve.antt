-- `resolve` (document 01): class kinds 0 to 7, class and native class. The limits are arguments: those of the
-- call. Assumes nothing.
use Rattle.std.specs.Prelude.{List, [], ◌∷◌, ℕ, zero, suc, ◌+◌}
use Rattle.std.proofs.Math.Option.{Option, none, some}
use Rattle.base.specs.Find.{find, option}
use Rattle.scriptblock.specs.Script.{Objects}
use Rattle.meaning.specs.Key.{Key, same_key}
use Rattle.meaning.specs.Path.{Path, path_of}
use Rattle.meaning.specs.Reference.{Ref, script, import, export, null, bad, meant}
use Rattle.meaning.specs.Scan.{Class}

pub record Limits : Type 0 where
  pub lookups : ℕ
  pub objects : ℕ

abbrev pub limits_of : ℕ → ℕ → Limits
limits_of lookups objects = record { lookups = lookups; objects = objects }

-- the class that has a key
abbrev pub look : List Class → Key → Option Class
look t k = find (λ c. same_key c.key k) t

-- a chain as it is walked: the classes looked up, and the reference left at its end
pub record Walk : Type 0 where
  pub classes : List Class
  pub left : Ref

-- one lookup more, from r: none where no class has the key that r means
abbrev pub stepped : (Ref → Walk) → Ref → Option Class → Walk
stepped on r none = record { classes = []; left = r }
stepped on r (some c) = record { classes = c ∷ (on c.super).classes; left = (on c.super).left }

-- "A row's own chain is the longest it has within the lookup limit"; "a lookup is one step from a key to its class's super, the class
-- itself being the first"; "a key that no class has is no lookup and ends the chain"
unfoldable pub own_chain : ℕ → (Key → Option Class) → Ref → Walk
own_chain zero f r = record { classes = []; left = r }
own_chain (suc lookups) f r = stepped (own_chain lookups f) r (option none f (meant r))

-- "the script object whose global index is the reference left at its end"
abbrev pub ending : Ref → Option ℕ
ending (script g) = some g
ending (import k name hash) = none
ending (export k name) = none
ending null = none
ending (bad t) = none

abbrev pub follow : ℕ → (Key → Option Class) → Ref → Option ℕ
follow lookups f r = ending (own_chain lookups f r).left

-- the path that a reference's native class has
unfoldable pub native_of : Limits → (Key → Option Class) → Objects → Ref → Option Path
native_of m f o r = option none (path_of m.objects o) (follow m.lookups f r)

-- a reference resolved: its class kind, and the class's text, if it was found
pub record Resolved : Type 0 where
  pub kind : ℕ
  pub class : Option (List ℕ)

abbrev pub found_or : ℕ → Option (List ℕ) → Resolved
found_or k none = record { kind = k + 1; class = none }
found_or k (some t) = record { kind = k; class = some t }

abbrev pub path_text : Option Path → Option (List ℕ)
path_text none = none
path_text (some p) = some p.text

abbrev pub class_text : Option Class → Option (List ℕ)
class_text none = none
class_text (some c) = some c.path

-- "script found, script unresolved, import found, import unresolved, export found, export unresolved, null, bad"
unfoldable pub resolve : Limits → (Key → Option Class) → Objects → Ref → Resolved
resolve m f o (script g) = found_or 0 (path_text (path_of m.objects o g))
resolve m f o (import k name hash) = found_or 2 (class_text (f k))
resolve m f o (export k name) = found_or 4 (class_text (f k))
resolve m f o null = record { kind = 6; class = none }
resolve m f o (bad t) = record { kind = 7; class = none }
