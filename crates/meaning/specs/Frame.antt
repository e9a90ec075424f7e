-- The corpus (document 01: "Corpus, big-endian"; questions 1 and 2). Assumes nothing.
use Rattle.std.specs.Prelude.{cond, ◌&&◌, List, ℕ, leb, eqb}
use Rattle.base.specs.House.{be_number}
use Rattle.base.specs.Reading.{Reading, Out, refused, gives, give, ◌>>=◌, ◌>>◌, taken, bytes_left, ask, rows, run}

-- a package of a corpus: its id and its block
pub record Part : Type 0 where
  pub id : ℕ
  pub block : List ℕ

pub record Corpus : Type 0 where
  pub script : List ℕ
  pub parts : List Part

-- "version byte 1"
abbrev pub corpus_version : ℕ
corpus_version = 1

-- "an 8-byte id, a 4-byte length and bytes"
unfoldable pub part : Reading Part
part = do
  id ← be_number 8
  n ← be_number 4
  block ← taken n
  give (record { id = id; block = block })

-- "4-byte package count, then per package .."
unfoldable pub packages : Reading (List Part)
packages = do
  count ← be_number 4
  rows count part

-- length of what follows, version byte 1, script block, packages
unfoldable pub frame : Reading Corpus
frame = do
  n ← be_number 4
  left ← bytes_left
  ask (eqb n left && leb 1 n) 1
  version ← be_number 1
  ask (eqb version corpus_version) 2
  size ← be_number 4
  block ← taken size
  ps ← packages
  rest ← bytes_left
  ask (eqb rest 0) 1
  give (record { script = block; parts = ps })

-- "Does every further part lie inside": every failed question of the framing but 2 is 1
abbrev pub frame_answer : {A : Type 0} → Out A → Out A
frame_answer (refused q) = refused (cond (eqb q 2) 2 1)
frame_answer (gives a) = gives a

unfoldable pub framed : List ℕ → Out Corpus
framed s = frame_answer (run frame 0 s)
