-- The call (document 01, "The call", "Questions in order"; clause a): the returned number and the report buffer after it, for every
-- corpus and both buffers. Assumes nothing.
use Rattle.std.specs.Prelude.{Bool, true, false, ◌&&◌, ◌||◌, List, [], ◌∷◌, ◌++◌, map, ℕ, ◌+◌, ◌*◌, leb, length}
use Rattle.std.proofs.Math.Option.{Option, none, some}
use Rattle.base.specs.Answer.{refusal}
use Rattle.base.specs.Find.{or_else, sum}
use Rattle.base.specs.House.{longest_output}
use Rattle.base.specs.Output.{over}
use Rattle.base.specs.Reading.{Out, refused, gives, run, run_block}
use Rattle.scriptblock.specs.Script.{Objects, script}
use Rattle.zen.specs.Zen.{package_block}
use Rattle.meaning.specs.Frame.{Part, Corpus, framed}
use Rattle.meaning.specs.Key.{Key, same_key}
use Rattle.meaning.specs.Reference.{Package}
use Rattle.meaning.specs.Scan.{Class, classes_of, candidates, table}
use Rattle.meaning.specs.Resolve.{Limits}
use Rattle.meaning.specs.Report.{report_of}

-- what was asked for, or refused by a question, which names a block
pub data Answer (A : Type 0) : Type 0 where
  refused_in : ℕ → ℕ → Answer A
  accepted : A → Answer A

module _ {A B : Type 0} where
  infixl 20 ◌>>=◌
  infixl 20 ◌>>◌
  abbrev pub ◌>>=◌ : Answer A → (A → Answer B) → Answer B
  ◌>>=◌ (refused_in q j) k = refused_in q j
  ◌>>=◌ (accepted a) k = k a

  abbrev pub ◌>>◌ : Answer A → Answer B → Answer B
  ◌>>◌ m n = m >>= (λ a. n)

-- question q, which names block j
abbrev pub need : Bool → ℕ → ℕ → Answer (Unit {0})
need true q j = accepted tt
need false q j = refused_in q j

abbrev pub in_block : {A : Type 0} → ℕ → Out A → Answer A
in_block j (refused q) = refused_in q j
in_block j (gives a) = accepted a

-- "the blocks in corpus order, each to its end": packages, from block j
abbrev pub read_from : ℕ → List Part → Answer (List Package)
read_from j [] = accepted []
read_from j (p ∷ ps) = do
  r ← in_block j (run_block package_block p.block)
  rs ← read_from (j + 1) ps
  accepted (record { id = p.id; read = r } ∷ rs)

-- a class and the block that it stands in
pub record Placed : Type 0 where
  pub block : ℕ
  pub class : Class

-- the classes of packages, the first of which is block j, "in package and export order"
abbrev pub placed_from : ℕ → Objects → ℕ → List Package → List Placed
placed_from limit o j [] = []
placed_from limit o j (p ∷ ps) = map (λ (c : Class). record { block = j; class = c }) (classes_of limit o p) ++ placed_from limit o (j + 1) ps

abbrev pub has_key : List Key → Key → Bool
has_key [] k = false
has_key (x ∷ l) k = same_key x k || has_key l k

-- "the first class [..] whose key an earlier one has"; seen: the keys of those before
abbrev pub first_repeat : List Key → List Placed → Option Placed
first_repeat seen [] = none
first_repeat seen (c ∷ cs) = or_else (has_key seen c.class.key) c (first_repeat (c.class.key ∷ seen) cs)

-- "no class key twice? 24 (block of the first class ..)"
abbrev pub none_twice : Option Placed → Answer (Unit {0})
none_twice none = accepted tt
none_twice (some c) = refused_in 24 c.block

-- what a corpus holds: script objects, packages, and how many classes and candidates they have
pub record Opened : Type 0 where
  pub objects : Objects
  pub packages : List Package
  pub classes : ℕ
  pub rows : ℕ

unfoldable pub holding : Limits → Objects → List Package → Opened
holding m o ps = record { objects = o; packages = ps; classes = length (table m.objects o ps); rows = sum (λ (p : Package). length (candidates p.read)) ps }

-- a framed corpus, to its end: script block, packages, 24
unfoldable pub opened_in : Limits → Corpus → Answer Opened
opened_in m c = do
  o ← in_block 1 (run script 0 c.script)
  ps ← read_from 2 c.parts
  none_twice (first_repeat [] (placed_from m.objects o 2 ps))
  accepted (holding m o ps)

unfoldable pub opened : Limits → List ℕ → Answer Opened
opened m corpus = do
  c ← in_block 0 (framed corpus)
  opened_in m c

-- "64 × (script objects + classes + candidates) bytes"
unfoldable pub work_bytes : Opened → ℕ
work_bytes d = 64 * (length d.objects.entries + d.classes + d.rows)

-- "Work at least 64 × (..) bytes? 25. Report at most 4,294,967,299 bytes, and within its buffer? 26"
unfoldable pub weighed : Limits → ℕ → ℕ → Opened → Answer (List ℕ)
weighed m work room d = do
  need (leb (work_bytes d) work) 25 0
  need (leb (length (report_of m d.objects d.packages)) longest_output && leb (length (report_of m d.objects d.packages)) room) 26 0
  accepted (report_of m d.objects d.packages)

-- 1, 2, the blocks and 24; then 25 and 26
unfoldable pub answer : Limits → List ℕ → ℕ → ℕ → Answer (List ℕ)
answer m corpus work room = do
  d ← opened m corpus
  weighed m work room d

-- "Accepted: the report's length. Refused: bit 63 set, the refusal in bits 32 to 39, the block in bits 0 to 31"
unfoldable pub number_of : Answer (List ℕ) → ℕ
number_of (refused_in q j) = refusal q j
number_of (accepted report) = length report

-- the report buffer after the call: "bytes past the report and the whole buffer on refusal being unchanged"
unfoldable pub buffer_after : Answer (List ℕ) → List ℕ → List ℕ
buffer_after (refused_in q j) old = old
buffer_after (accepted report) old = over old report

-- THE CALL within limits that it may have (Limited.antt: question 29): the number that it returns and what the report buffer then holds; of the work
-- buffer only the length counts
pub record Outcome : Type 0 where
  pub number : ℕ
  pub report : List ℕ

unfoldable pub outcome : Limits → List ℕ → List ℕ → List ℕ → Outcome
outcome m corpus work old = record {
  number = number_of (answer m corpus (length work) (length old));
  report = buffer_after (answer m corpus (length work) (length old)) old;
}

-- "64 lookups at most", "at most 65 objects": document 01's limits, and those of a later call "without limits of its own"
abbrev pub limits : Limits
limits = record { lookups = 64; objects = 65 }
