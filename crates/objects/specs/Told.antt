-- What is told of a path, and its bytes. Assumes nothing.
use Rattle.std.specs.Prelude.{◌≡◌, List, [], ℕ, ◌≤◌, length, Option, Some, None}
use Rattle.std.proofs.Math.Option.{Option as Maybe, none, some}
use Rattle.base.specs.Output.{over}
use Rattle.text.specs.Utf8.{utf8}
use Rattle.scriptblock.specs.Script.{Objects}
use Rattle.meaning.specs.Path.{Path}
use Rattle.objects.specs.Numbers.{path_no}
use Rattle.objects.specs.Work.{Stands}
use Rattle.objects.specs.declared.object.Object.{Object}
use Rattle.objects.specs.declared.path.Path.{Path as Told}

-- a path that is known: how many bytes, of how many objects
abbrev pub known : ℕ → ℕ → Option Told
known n d = Some (record { len = n; objects = d })

-- "All text leaves as UTF-8": how many bytes, of how many objects
abbrev pub told : Maybe Path → Option Told
told none = None
told (some p) = known (length (utf8 p.text)) p.depth

-- the bytes, none where the path is unknown
abbrev pub path_bytes : Maybe Path → List ℕ
path_bytes none = []
path_bytes (some p) = utf8 p.text

-- a path was written to the front of a buffer: what is told, and what the buffer is now
pub record Written (x : Maybe Path) (old new : List ℕ) (r : Option Told) : Type 0 where
  pub answer : r ≡ told x
  pub buffer : new ≡ over old (path_bytes x)

-- the columns u are those of an object whose path the buffer has room for
pub record Roomy (b w : List ℕ) (u : Object) (limit : ℕ) (out : List ℕ) : Type 0 where
  pub objects : Objects
  pub number : ℕ
  pub stands : Stands b objects w number u
  pub room : length (path_bytes (path_no limit objects number)) ≤ length out
