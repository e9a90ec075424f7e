-- What an index means, in numbers: a reference's kind, and the two words by which code looks a class or a script object up. Assumes nothing.
use Rattle.std.specs.Prelude.{Bool, cond, ◌&&◌, ℕ, zero, suc, ltb, eqb}
use Rattle.base.specs.Index.{kind, import_name, import_hash}
use Rattle.meaning.specs.Key.{Key, public}
use Rattle.meaning.specs.Reference.{Ref, script, import, export, null, bad}
use Rattle.packages.specs.declared.package.Parts.{Parts}
use Rattle.packages.specs.declared.entries.Words.{Words}

-- "class kinds 0 to 7: script found, script unresolved, import found, import unresolved, export found, export unresolved, null, bad":
-- the kind that a reference has where it is found
abbrev pub ref_kind : Ref → ℕ
ref_kind (script g) = 0
ref_kind (import k name hash) = 2
ref_kind (export k name) = 4
ref_kind null = 6
ref_kind (bad t) = 7

-- the same by how much of each there is: "Where name p, hash h or that export doesn't exist, the reference is bad"
abbrev pub is_import : Parts → ℕ → Bool
is_import p x = ltb (import_name x) p.imported.count && ltb (import_hash x) p.publics

abbrev pub kind_on : Parts → ℕ → ℕ → ℕ
kind_on p x zero = cond (ltb x p.count) 4 7
kind_on p x (suc zero) = 0
kind_on p x (suc (suc zero)) = cond (is_import p x) 2 7
kind_on p x (suc (suc (suc k))) = 6

unfoldable pub kind_by : Parts → ℕ → ℕ
kind_by p x = kind_on p x (kind x)

-- no class and no script object
abbrev pub nowhere : Words
nowhere = record { lo = 0; hi = 0 }

-- the key (id, hash): no class has a hash of 0, so it leads nowhere
unfoldable pub keyed : ℕ → ℕ → Words
keyed id hash = cond (eqb hash 0) nowhere (record { lo = id; hi = hash })

unfoldable pub key_words : Key → Words
key_words (public id hash) = keyed id hash

-- a script object is looked up by its index
unfoldable pub words_of : Ref → Words
words_of (script g) = record { lo = g; hi = 0 }
words_of (import k name hash) = key_words k
words_of (export k name) = key_words k
words_of null = nowhere
words_of (bad t) = nowhere
