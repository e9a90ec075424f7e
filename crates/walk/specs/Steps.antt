-- The walk's steps: what an export's row adds to what was found and what its class adds, what the steps are lent, and how far they can count.
-- Assumes nothing.
use Rattle.std.specs.Prelude.{◌≡◌, cond, List, [], ◌∷◌, ◌++◌, ℕ, ◌+◌, ◌*◌, ◌≤◌, length, drop, get_or}
use Rattle.base.specs.Find.{kept}
use Rattle.base.specs.Number.{be_at}
use Rattle.scriptblock.specs.Script.{Objects}
use Rattle.zen.specs.Zen.{no_export}
use Rattle.meaning.specs.Call.{Placed}
use Rattle.meaning.specs.Reference.{Package}
use Rattle.meaning.specs.Report.{class_ref}
use Rattle.meaning.specs.Scan.{is_class, class_at, is_candidate}
use Rattle.packages.specs.Walk.{Site}
use Rattle.resolve.specs.Marks.{MarksIn}
use Rattle.walk.specs.Found.{Found, State, base_size}
use Rattle.walk.specs.declared.walk.Census.{Census}
use Rattle.walk.specs.declared.walk.Entering.{Entering}
use Rattle.walk.specs.declared.walk.Entering.TheVariants.{Open}
use Rattle.walk.specs.declared.walk.Visit.{Visit}

-- export i of package p, which is block j, added: its row, and its class
unfoldable pub with_row : Package → ℕ → Found → Found
with_row p i f =
    let e = get_or p.read.exports i no_export in
    record {
      placed = f.placed;
      refs = f.refs ++ kept (is_candidate p.read e) (class_ref p e) [];
      size = f.size + cond (is_candidate p.read e) (base_size p e) 0;
    }

unfoldable pub with_class : ℕ → Objects → ℕ → Package → ℕ → Found → Found
with_class limit o j p i f =
    let e = get_or p.read.exports i no_export in
    record {
      placed = f.placed ++ kept (is_class limit o e) (record { block = j; class = class_at p i e }) [];
      refs = f.refs;
      size = f.size;
    }

-- the same of an export that is a class
unfoldable pub with_own : ℕ → Package → ℕ → Found → Found
with_own j p i f = record {
  placed = f.placed ++ (record { block = j; class = class_at p i (get_or p.read.exports i no_export) } ∷ []);
  refs = f.refs;
  size = f.size;
}

-- a count as long as all is entered
abbrev pub opened_as : ℕ → ℕ → ℕ → Census
opened_as classes rows size = record { state = Open; classes = classes; rows = rows; size = size }

-- a count that goes no further, for that reason
abbrev pub closed_as : Census → Entering → Census
closed_as t state = record { state = state; classes = t.classes; rows = t.rows; size = t.size }

-- f' was found behind f
pub record Behind (f f' : Found) : Type 0 where
  pub more : List Placed
  pub placed : f'.placed ≡ f.placed ++ more
  pub rows : length f.refs ≤ length f'.refs

-- package i, at a place of the corpus s: the first is block 2
abbrev pub visit_at : List ℕ → ℕ → ℕ → Visit
visit_at s at i = record { at = at; id = be_at 8 s at; block = i + 2 }

-- d is the block of the package of the corpus s that is visited
pub record Visited (s : List ℕ) (v : Visit) (d : List ℕ) : Type 0 where
  pub site : Site s v.at d
  pub id : v.id ≡ be_at 8 s v.at

-- so much was found of some corpus, one of whose packages is visited
pub record SomeState (b : List ℕ) (n : ℕ) (v : Visit) (d : List ℕ) (t : Census) (w : List ℕ) : Type 0 where
  pub corpus : List ℕ
  pub objects : Objects
  pub found : Found
  pub visited : Visited corpus v d
  pub holds : State corpus b objects n found t w

-- as long as all is entered, the rows have these marks, one each
pub record Marked (n : ℕ) (marks : List ℕ) (t : Census) (w : List ℕ) : Type 0 where
  pub count : t.state ≡ Open → length marks ≡ t.rows
  pub holds : t.state ≡ Open → MarksIn marks (drop (56 * n) w)

-- the most that one row takes without its class and native class, and a section without its rows
abbrev pub row_most : ℕ
row_most = 524417

abbrev pub head_most : ℕ
head_most = 131109

-- k exports later there are at most k more of each
pub record Grown (k : ℕ) (t t' : Census) : Type 0 where
  pub classes : t'.classes ≤ t.classes + k
  pub rows : t'.rows ≤ t.rows + k
  pub size : t'.size ≤ t.size + row_most * k

-- behind x bytes of packages: each takes 12 bytes at least and each of its exports 72
pub record Small (x : ℕ) (t : Census) : Type 0 where
  pub classes : 72 * t.classes ≤ x
  pub rows : 72 * t.rows ≤ x
  pub size : t.size ≤ 9 + 10926 * x
