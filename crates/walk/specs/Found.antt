-- What the walk over the packages finds, export by export: classes with their blocks, what the rows' class indices mean, and how many bytes the
-- report takes without the rows' classes and native classes. Assumes nothing.
use Rattle.std.specs.Prelude.{◌≡◌, cond, List, [], ◌++◌, map, ℕ, zero, suc, ◌+◌, ◌*◌, ◌≤◌, ◌<◌, length, take, get_or}
use Rattle.base.specs.Find.{kept}
use Rattle.scriptblock.specs.Script.{Objects}
use Rattle.zen.specs.Zen.{no_export, export_name, package_name}
use Rattle.zen.specs.declared.tables.Export.{Export}
use Rattle.meaning.specs.Reference.{Package, Ref, ref_text}
use Rattle.meaning.specs.Scan.{Class, is_class, class_at, is_candidate, instance_name, outer_name}
use Rattle.meaning.specs.Report.{size, class_ref}
use Rattle.meaning.specs.Call.{refused_in, Placed, first_repeat, none_twice}
use Rattle.objects.specs.Work.{ObjectsIn}
use Rattle.packages.specs.Walk.{place_of, package_at}
use Rattle.resolve.specs.Rows.{Kept}
use Rattle.walk.specs.declared.walk.Census.{Census}
use Rattle.walk.specs.declared.walk.Entering.TheVariants.{Open, Full, Repeated}

pub record Found : Type 0 where
  pub placed : List Placed
  pub refs : List Ref
  pub size : ℕ

abbrev pub classes_in : Found → List Class
classes_in f = map (λ (x : Placed). x.class) f.placed

-- a row without its class and native class: length field, six bytes, six lengths; instance, name, outer's name, reference
unfoldable pub base_size : Package → Export → ℕ
base_size p e = 34 + size (instance_name p.read e) + size (export_name p.read e) + size (outer_name p.read e) + size (ref_text (class_ref p e))

-- a section without its rows: id, name with its length, two counts
unfoldable pub head_size : Package → ℕ
head_size p = 20 + size (package_name p.read)

-- export i of package p, which is block j, added to what was found
unfoldable pub with_export : ℕ → Objects → ℕ → Package → ℕ → Found → Found
with_export limit o j p i f =
    let e = get_or p.read.exports i no_export in
    record {
      placed = f.placed ++ kept (is_class limit o e) (record { block = j; class = class_at p i e }) [];
      refs = f.refs ++ kept (is_candidate p.read e) (class_ref p e) [];
      size = f.size + cond (is_candidate p.read e) (base_size p e) 0;
    }

-- the first i exports of a package
unfoldable pub with_exports : ℕ → Objects → ℕ → Package → ℕ → Found → Found
with_exports limit o j p zero f = record { placed = f.placed; refs = f.refs; size = f.size + head_size p }
with_exports limit o j p (suc i) f = with_export limit o j p i (with_exports limit o j p i f)

abbrev pub with_package : ℕ → Objects → ℕ → Package → Found → Found
with_package limit o j p f = with_exports limit o j p (length p.read.exports) f

-- the first n packages from a place of the corpus on, the first of which is block 2; a report starts with nine bytes
unfoldable pub found_in : ℕ → Objects → List ℕ → ℕ → ℕ → Found
found_in limit o s at zero = record { placed = []; refs = []; size = 9 }
found_in limit o s at (suc n) = with_package limit o (n + 2) (package_at s (place_of s at n)) (found_in limit o s at n)

-- how many more there can be: the room of so many records of 64 bytes
abbrev pub count_of : Found → ℕ
count_of f = length f.placed + length f.refs

-- the n script objects of the block b stand linked in front, and there is room for a record of 64 bytes for each
pub record Linked (b : List ℕ) (n : ℕ) (w : List ℕ) : Type 0 where
  pub objects : Objects
  pub count : n ≡ objects.layout.count
  pub room : 64 * n ≤ length w
  pub holds : ObjectsIn b objects (take (56 * n) w)

-- what is known where so much was found: as long as all is entered, that it is; else that there is no room for it, or which block repeats a key
pub record State (s b : List ℕ) (o : Objects) (n : ℕ) (f : Found) (t : Census) (w : List ℕ) : Type 0 where
  pub entered : t.state ≡ Open → (t.classes ≡ length f.placed) × (t.rows ≡ length f.refs) × (t.size ≡ f.size)
  pub room : t.state ≡ Open → 64 * (n + count_of f) ≤ length w
  pub holds : t.state ≡ Open → Kept s b o n (classes_in f) f.refs w
  pub full : t.state ≡ Full → length w < 64 * (n + count_of f)
  pub twice : (j : ℕ) → t.state ≡ Repeated j → none_twice (first_repeat [] f.placed) ≡ refused_in 24 j
