-- Document 01, "Chain", in its words: chains of classes, outer chains of script objects, and what it is that a native class is known.
-- "The class whose key" is a member of the table, not the answer of a look-up. Assumes nothing.
use Rattle.std.specs.Prelude.{◌≡◌, ℕ, ◌≤◌, length}
use mathlib.Core.List.{List, [], ◌∷◌, ◌++◌, map, reverse, Memᴰ}
use Rattle.std.proofs.Math.Option.{some}
use Rattle.base.specs.Index.{kind}
use Rattle.base.specs.Literal.{quoted}
use Rattle.scriptblock.specs.Script.{Objects, object_name}
use Rattle.scriptblock.specs.declared.script.Entry.{Entry}
use Rattle.meaning.specs.Path.{Path}
use Rattle.meaning.specs.Scan.{Class}
use Rattle.meaning.specs.Reference.{Ref, script, meant}
use Rattle.meaning.specs.Resolve.{Limits}

-- "a list of classes, perhaps empty", between its first reference and "the reference left at its end"; t: the classes there are
pub data Chain (t : List Class) : Ref → List Class → Ref → Type 0 where
  empty : {r : Ref} → Chain t r [] r
  -- "Each class listed is the one whose key the reference before it means"; each later reference is "the super of the class just
  -- listed, read in that class's package"
  listed : {r last : Ref} {c : Class} {cs : List Class} → Memᴰ c t → meant r ≡ some c.key → Chain t c.super cs last → Chain t r (c ∷ cs) last

-- "An outer chain starts with the script object itself; each next is the block's object (a known one) whose global index is the outer
-- of the one before. It ends in a null index where its last object's outer has kind 3"
pub data Outers (o : Objects) : ℕ → List Entry → Type 0 where
  outermost : {g : ℕ} {e : Entry} → Memᴰ e o.entries → e.global ≡ g → kind e.outer ≡ 3 → Outers o g (e ∷ [])
  within : {g : ℕ} {e : Entry} {es : List Entry} → Memᴰ e o.entries → e.global ≡ g → Outers o e.outer es → Outers o g (e ∷ es)

-- "some chain, as document 01 defines it, of at most 64 class lookups leads from the row's class reference to a script object whose
-- outer chain, of at most 65 known objects, ends in a null index"; document 02, Q-5: "demand 3 counts by both" limits of the call
pub record NativeKnown (m : Limits) (t : List Class) (o : Objects) (r : Ref) : Type 0 where
  pub classes : List Class
  pub index : ℕ
  pub objects : List Entry
  pub chain : Chain t r classes (script index)
  pub lookups : length classes ≤ m.lookups
  pub outers : Outers o index objects
  pub few : length objects ≤ m.objects

-- the names behind the third, each behind a `.`
abbrev pub dotted : List (List ℕ) → List ℕ
dotted [] = []
dotted (n ∷ ns) = quoted "." ++ (n ++ dotted ns)

-- "Names are joined outermost first: `:` before the third, `.` before every other but the first"
abbrev pub joined : List (List ℕ) → List ℕ
joined [] = []
joined (a ∷ []) = a
joined (a ∷ b ∷ []) = a ++ (quoted "." ++ b)
joined (a ∷ b ∷ c ∷ ns) = a ++ (quoted "." ++ (b ++ (quoted ":" ++ (c ++ dotted ns))))

-- the path of the script object that an outer chain starts with
unfoldable pub chain_path : Objects → List Entry → Path
chain_path o es = record { text = joined (map (object_name o) (reverse es)); depth = length es }
