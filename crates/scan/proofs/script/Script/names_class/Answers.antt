-- `scan::script::Script::names_class` meets its contract: the innermost object's name ends in `Class`, and its path is known. Assumes nothing.
use mathlib.Core.Path.{◌≡◌, sym, ◌∙◌}
use mathlib.Core.Bool.{Bool, true, false}
use mathlib.Core.List.{List}
use Prim.Native.Nat.{ℕ, suc, ◌<◌}
use lib.ListN.{length, get_or}
use Rattle.text.specs.Affix.{ends_with}
use Rattle.base.specs.Reading.{gives, run}
use Rattle.scriptblock.specs.Objects.{entry_number}
use Rattle.scriptblock.specs.Script.{Objects, script, object_name}
use Rattle.scriptblock.proofs.ScriptAccepted.{script-parts, entry-count}
use Rattle.scriptblock.specs.ScriptAnswers.{script_answer, entries_of, no_entry}
use Rattle.scriptblock.specs.declared.script.Layout.{Layout}
use Rattle.std.specs.Prelude.{Ok}
use Rattle.meaning.specs.ClassTest.{is_known, names_class}
use Rattle.meaning.specs.Path.{path_of}
use Rattle.meaning.specs.Scan.{class_end}
use Rattle.scan.specs.ObjectLaws.{names-none, names-plain, names-known}
use Rattle.scan.proofs.Found.{found_inside, found_number, no_number}
use Rattle.scan.proofs.script.Script.names_class.Goals as goal

module _ (limit index : ℕ) (s : List ℕ) (o : Objects) (r : run script 0 s ≡ gives o) where
  missing : 0 ≡ entry_number index (entries_of (run script 0 s)) → false ≡ names_class (path_of limit o index)
  missing q = sym (names-none limit o index (no_number s index q o r))

  module _ (k : ℕ) (q : suc k ≡ entry_number index (entries_of (run script 0 s))) (b : Bool)
      (is : b ≡ ends_with (object_name o (get_or o.entries k no_entry)) class_end) where
    plain : b ≡ false → false ≡ names_class (path_of limit o index)
    plain z = sym (names-plain limit o index k (found_number s index k q o r) (sym is ∙ z))

    known : b ≡ true → (x : Bool) → x ≡ is_known (path_of limit o index) → x ≡ names_class (path_of limit o index)
    known z x y = y ∙ sym (names-known limit o index k (found_number s index k q o r) (sym is ∙ z))

counted : (s : List ℕ) (l : Layout) → script_answer (run script 0 s) ≡ Ok l → (i : ℕ) → i < length (entries_of (run script 0 s)) → i < l.count
counted s l a i h = rw (entry-count s l (script-parts s l a)) at h

pub returns-in_default : goal.returns-in_default
returns-in_default c = λ o q. missing _ _ _ o q c.in_default.ensures

pub ends_in_class-requires : goal.ends_in_class-requires
ends_in_class-requires c = counted _ _ c.args.self.now.block.accepted _ (found_inside _ _ _ c.in-Some.ensures)

pub returns-then-ends_in_class : goal.returns-then-ends_in_class
returns-then-ends_in_class c = λ o q.
    known _ _ _ o q _ c.in-Some.ensures _ (c.ends_in_class.ensures o q) c.if-ends_in_class.true _ (c.known.ensures o q)

pub returns-else-ends_in_class : goal.returns-else-ends_in_class
returns-else-ends_in_class c = λ o q.
    c.if-ends_in_class.false ∙ plain _ _ _ o q _ c.in-Some.ensures _ (c.ends_in_class.ensures o q) c.if-ends_in_class.false
