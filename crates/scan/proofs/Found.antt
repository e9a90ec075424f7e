-- An object that was looked for by its global index. Assumes nothing.
use mathlib.Core.Path.{◌≡◌, sym, ◌∙◌, ap}
use mathlib.Core.List.{List}
use mathlib.Core.Option.{none, some}
use Prim.Native.Nat.{ℕ, suc, ◌+◌, ◌<◌}
use native.Mathlib.Omega.{arith}
use lib.ListN.{length, get_or}
use Rattle.base.specs.Reading.{gives, run}
use Rattle.scriptblock.specs.Objects.{entry_number}
use Rattle.scriptblock.specs.Script.{Objects, script}
use Rattle.scriptblock.proofs.ScriptAccepted.{entries_of_lem}
use Rattle.scriptblock.specs.ScriptAnswers.{entries_of, no_entry}
use Rattle.scriptblock.proofs.ScriptFacts.{number_is}
use Rattle.scriptblock.specs.declared.script.Entry.{Entry}
use Rattle.meaning.specs.Path.{object_at}
use Rattle.scan.specs.ObjectLaws.{object-none, object-some}

-- none has it
module _ (s : List ℕ) (g : ℕ) (f : 0 ≡ entry_number g (entries_of (run script 0 s))) (o : Objects) (q : run script 0 s ≡ gives o) where
  pub no_number : entry_number g o.entries ≡ 0
  no_number = sym (f ∙ ap (entry_number g) (entries_of_lem q))

  pub found_none : object_at o g ≡ none
  found_none = object-none o g no_number

-- entry k has it
module _ (s : List ℕ) (g k : ℕ) (f : suc k ≡ entry_number g (entries_of (run script 0 s))) where
  -- it is one of the block's
  pub found_inside : k < length (entries_of (run script 0 s))
  found_inside = (number_is g (entries_of (run script 0 s)) k (omega (arith, f))).0

  module _ (o : Objects) (q : run script 0 s ≡ gives o) where
    pub found_number : entry_number g o.entries ≡ k + 1
    found_number = omega (arith, sym (f ∙ ap (entry_number g) (entries_of_lem q)))

    pub found_some : {u : Entry} → u ≡ get_or (entries_of (run script 0 s)) k no_entry → object_at o g ≡ some u
    found_some e = object-some o g k (omega (arith, found_number)) ∙ ap some (sym (e ∙ ap (λ es. get_or es k no_entry) (entries_of_lem q)))
