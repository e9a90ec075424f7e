-- What the answer of `check_script` says of each exported function's answer. Assumes nothing.
use Rattle.std.specs.Prelude.{Result, Err, Ok, MatchResult}
use mathlib.Core.Path.{◌≡◌, sym, ◌∙◌}
use mathlib.Core.List.{List, []}
use Prim.Native.Nat.{ℕ, ◌≤◌, ◌<◌}
use native.Mathlib.Omega.{arith}
use lib.ListN.{length, get_or}
use Rattle.base.specs.Reading.{refused}
use Rattle.base.specs.Refusal.{number, numbered}
use Rattle.base.specs.declared.refusal.Refusal.{Refusal}
use Rattle.scriptblock.proofs.ScriptAccepted.{accepted-objects, rejected-objects, script-parts, entry-count}
use Rattle.scriptblock.specs.ScriptAnswers.{script_answer, entries_of, no_entry}
use Rattle.scriptblock.specs.declared.script.Entry.{Entry}
use Rattle.scriptblock.specs.declared.script.Layout.{Layout}
use Rattle.zenapi.specs.Answers.{script_in, none, refusal, object_fields, object_answer}
use Rattle.zenapi.proofs.Cells.{cell_at, cell-past}

module _ (b : List ℕ) where
  module _ (q : ℕ) (d : script_answer (script_in b) ≡ Err q) where
    gone : script_in b ≡ refused q
    gone = rejected-objects (script_in b) d

    pub told : q ≡ refusal (script_in b)
    unfolding refusal
    told = rw gone

    pub no_object_lem : (i k : ℕ) → none ≡ object_answer (script_in b) i k
    unfolding object_answer entries_of
    no_object_lem i k = rw gone (cell-past object_fields [] i k (omega arith))

  module _ (l : Layout) (accepted : script_answer (script_in b) ≡ Ok l) where
    pub passed : 0 ≡ refusal (script_in b)
    unfolding refusal
    passed = let (o, y, z) = accepted-objects (script_in b) accepted in rw y

    entries : length (entries_of (script_in b)) ≡ l.count
    entries = entry-count b l (script-parts b l accepted)

    module _ (i : ℕ) where
      pub object-here : i < l.count → i < length (entries_of (script_in b))
      object-here h = rw entries h

      pub object-past : (k : ℕ) → l.count ≤ i → none ≡ object_answer (script_in b) i k
      unfolding object_answer
      object-past k h = cell-past object_fields (entries_of (script_in b)) i k (rw entries h)

      pub object-there : (k : ℕ) (x : Entry) (r : ℕ) → i < l.count → x ≡ get_or (entries_of (script_in b)) i no_entry → r ≡ get_or (object_fields x) k none
          → r ≡ object_answer (script_in b) i k
      unfolding object_answer
      object-there k x r h = cell_at object_fields (entries_of (script_in b)) i no_entry k (object-here h)

  -- the refusal's number, or 0
  pub refused-as : (x : Result Layout Refusal) (r : ℕ) → numbered x ≡ script_answer (script_in b) → MatchResult x (λ l. r ≡ 0) (λ e. r ≡ number e)
      → r ≡ refusal (script_in b)
  refused-as (Ok l) r q m = m ∙ passed l (sym q)
  refused-as (Err e) r q m = m ∙ told (number e) (sym q)
