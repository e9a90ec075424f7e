-- A look-up table in a lent buffer: n heads of buckets, of 4 bytes each, and behind them a record of `stride` bytes for each entry:
-- bytes 0 and 4 are its links to the left and to the right, 8 and 16 the halves of its key; those from 24 on belong to the caller.
-- Assumes nothing.
use Rattle.std.specs.Prelude.{◌≡◌, List, ◌++◌, ℕ, ◌+◌, ◌*◌, ◌^◌, ◌≤◌, ◌<◌, length, drop, replicate}
use Rattle.base.specs.Number.{le_at}
use Rattle.table.specs.Words.{stored}
use Rattle.table.specs.Tree.{Place, head, below, In, spot, Tree}

-- where entry i's record is
abbrev pub record_at : ℕ → ℕ → ℕ → ℕ
record_at n stride i = 4 * n + stride * i

-- where a link is, and the link
abbrev pub place_at : ℕ → ℕ → Place → ℕ
place_at n stride (head h) = 4 * h
place_at n stride (below i s) = record_at n stride i + 4 * s

abbrev pub link_at : ℕ → ℕ → List ℕ → Place → ℕ
link_at n stride w p = le_at 4 w (place_at n stride p)

-- the table holds the first k of the entries whose keys are (lo i, hi i)
pub record Holds (n stride k : ℕ) (lo hi : ℕ → ℕ) (w : List ℕ) : Type 0 where
  pub few : n < 2 ^ 32
  pub wide : 24 ≤ stride
  pub room : record_at n stride k ≤ length w
  pub los : (i : ℕ) → i < k → le_at 8 w (record_at n stride i + 8) ≡ lo i
  pub his : (i : ℕ) → i < k → le_at 8 w (record_at n stride i + 16) ≡ hi i
  -- how deep each entry is in its bucket
  pub depth : ℕ → ℕ
  pub tree : Tree depth lo hi (link_at n stride w) n k

-- it holds k entries, whatever their keys
pub record Linked (n stride k : ℕ) (w : List ℕ) : Type 0 where
  pub lo : ℕ → ℕ
  pub hi : ℕ → ℕ
  pub holds : Holds n stride k lo hi w

-- it holds some entries
pub record Table (n stride : ℕ) (w : List ℕ) : Type 0 where
  pub count : ℕ
  pub linked : Linked n stride count w

-- where a search for (a, b) ends: the place of a link, and the link
pub record Ended (n stride : ℕ) (lo hi : ℕ → ℕ) (w : List ℕ) (a b place link : ℕ) : Type 0 where
  pub at : place ≡ place_at n stride (spot n (link_at n stride w) lo hi a b)
  pub linked : link ≡ link_at n stride w (spot n (link_at n stride w) lo hi a b)

-- all heads cleared
unfoldable pub cleared : ℕ → List ℕ → List ℕ
cleared n w = replicate (4 * n) 0 ++ drop (4 * n) w

-- the record at a place filled with the key (a, b) and no links
unfoldable pub filled : ℕ → ℕ → ℕ → List ℕ → List ℕ
filled at a b w = stored 8 (stored 8 (stored 4 (stored 4 w at 0) (at + 4) 0) (at + 8) a) (at + 16) b

-- and a link to it set
unfoldable pub attached : ℕ → ℕ → ℕ → ℕ → ℕ → List ℕ → List ℕ
attached at a b place link w = stored 4 (filled at a b w) place link

-- w' is the table w with entry k, of the key (a, b), added: its record and one link before it are written, all else is as it was
pub record Added (n stride k a b : ℕ) (w w' : List ℕ) : Type 0 where
  pub holds : (lo hi : ℕ → ℕ) → Holds n stride k lo hi w → a ≡ lo k → b ≡ hi k → Holds n stride (k + 1) lo hi w'
  pub wide : 24 ≤ stride
  pub room : record_at n stride (k + 1) ≤ length w
  pub place : Place
  pub inside : In n k place
  pub is : w' ≡ attached (record_at n stride k) a b (place_at n stride place) (k + 1) w
