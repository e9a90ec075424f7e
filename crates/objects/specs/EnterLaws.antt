-- Laws of entering the objects of a block that was opened: question 12 by the table, and what a record needs to hold. Assumes nothing.
use Rattle.std.specs.Prelude.{◌≡◌, refl, Bool, true, false, List, ℕ, ◌+◌, ◌-◌, ◌*◌, ◌^◌, ◌≤◌, ◌<◌, length, Ok, Option, Some, None, is_some}
use Rattle.std.proofs.Common.{sym, ◌∙◌, ap, arith}
use Rattle.base.specs.Never.{never}
use Rattle.base.specs.OneMore.{one_more}
use Rattle.base.specs.NumberLaws.{Bytes, le_at-lt}
use Rattle.base.specs.Reading.{Got, bad, got, walk}
use Rattle.text.specs.Utf8.{utf8}
use Rattle.batch.specs.FoundBatch.{found-held}
use Rattle.batch.specs.Places.{place_at, Held}
use Rattle.batch.specs.Holds.{name_at, holds-name, holds-own, holds-short}
use Rattle.scriptblock.specs.Script.{Start, opening}
use Rattle.scriptblock.specs.ScriptAnswers.{opened_by, opened, entry_at, fresh_at}
use Rattle.scriptblock.specs.ScriptFaults.{entry_of, fresh-seen, all-fresh}
use Rattle.scriptblock.proofs.ScriptLaws.{opening-got}
use Rattle.scriptblock.specs.declared.script.Entry.{Entry}
use Rattle.scriptblock.specs.declared.script.Layout.{Layout}
use Rattle.table.specs.Entries.{find}
use Rattle.table.specs.EntryLaws.{find-le, find-key, find_none}
use Rattle.table.specs.Table.{record_at, Holds as TableHolds, Added}
use Rattle.objects.specs.Work.{first_of, second_of, one_if, described, Entered}
use Rattle.objects.specs.WorkLaws.{entered-more}

-- what is open: its names are held
pub open_held : (b : List ℕ) {l : Layout} → opened b ≡ Ok l → Bytes b → Held b l.names
unfolding opened opened_by
open_held b {l} q bs = go (walk opening b 0) refl q
  where
    go : (g : Got Start) → walk opening b 0 ≡ g → opened_by g ≡ Ok l → Held b l.names
    go (bad r) e q = never (cc)
    go (got o n) e q = let z : o.layout ≡ l = cc in rw z at (found-held b 0 o.layout.names bs (opening-got b o n e).found)

-- an answer and the number that it is one less than
more-some : (r : Option ℕ) → true ≡ is_some r → 0 < one_more r
more-some None e = never (cc)
more-some (Some k) e = omega arith

-- question 12: r is what the table answers to entry i's global index
module _ (b : List ℕ) (l : Layout) (i : ℕ) {e : Entry} (is : e ≡ entry_of b l i) {w : List ℕ} (t : Entered b l i w) (r : Option ℕ)
    (found : (los his : ℕ → ℕ) → TableHolds (3 * l.count) 44 i los his w → one_more r ≡ find los his (first_of e.global) (second_of e.global) i) where
  abbrev los : ℕ → ℕ
  los j = first_of (entry_of b l j).global

  abbrev his : ℕ → ℕ
  his j = second_of (entry_of b l j).global

  answer : one_more r ≡ find los his (first_of e.global) (second_of e.global) i
  answer = found los his t.keys

  pub is-new : r ≡ None → fresh_at b l.entries i e.global ≡ true
  is-new z = all-fresh b l.entries i e.global λ j h q. find_none los his (first_of e.global) (second_of e.global) i (sym answer ∙ ap one_more z) j h (ap first_of q) (ap second_of q)

  pub is-old : true ≡ is_some r → fresh_at b l.entries i e.global ≡ false
  is-old p =
      let f = find los his (first_of e.global) (second_of e.global) i in
      let m = more-some r p in
      let s = find-key los his (first_of e.global) (second_of e.global) i (omega (arith, answer)) in
      fresh-seen b l.entries i e.global (f - 1) (omega (arith, answer, find-le los his (first_of e.global) (second_of e.global) i))
      s.1

one_if-le : (t : Bool) → one_if t ≤ 1
one_if-le true = omega arith
one_if-le false = omega arith

-- one more, in a block shorter than 2^32 bytes: all that is stored fits
module _ (b : List ℕ) (l : Layout) (bs : Bytes b) (d : Held b l.names) (short : length b < 2 ^ 32) {i : ℕ} {w v w' : List ℕ} (t : Entered b l i w) (h : i < l.count) where
  pub entered-next : {e : Entry} → e ≡ entry_of b l i → e.index < l.names.count → Added (3 * l.count) 44 i (first_of e.global) (second_of e.global) w v
      → w' ≡ described (record_at (3 * l.count) 44 i) (place_at b l.names e.index) e.number (length (utf8 (name_at b (place_at b l.names e.index) e.number))) v
      → Entered b l (i + 1) w'
  unfolding entry_at
  entered-next {e} is m a q =
      let p = place_at b l.names e.index in
      let k = holds-own (holds-name b l.names bs d e.index m) in
      let n : e.number < 2 ^ 32 = rw is (le_at-lt 4 b (l.entries + 32 * i + 4) bs) in
      entered-more b l t h is a q (omega (arith, k.inside)) (omega (arith, k.small, one_if-le p.wide)) n (omega (arith, holds-short k e.number))
