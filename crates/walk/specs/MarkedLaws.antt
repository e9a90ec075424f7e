-- Laws of the rows' marks as the walk goes on: one row more, a class entered, a package more, and nothing more. Assumes nothing.
use Rattle.std.specs.Prelude.{◌≡◌, refl, List, [], ◌∷◌, ◌++◌, ℕ, ◌+◌, ◌*◌, ◌-◌, ◌/◌, ◌^◌, ◌≤◌, ◌<◌, length, drop, get_or}
use Rattle.std.proofs.Common.{◌∙◌, inr, add-one, arith, length-append, length-drop}
use Rattle.std.proofs.Math.Decide.{ℕ_discrete}
use Rattle.std.proofs.Math.ListN.{get_or-append}
use Rattle.std.proofs.lemmas.List.{get_or_at}
use Rattle.base.specs.Number.{le_at}
use Rattle.meaning.specs.Scan.{Class}
use Rattle.table.specs.Table.{record_at}
use Rattle.table.specs.Words.{put, Kept as Changed}
use Rattle.table.specs.WordLaws.{kept_read}
use Rattle.packages.specs.Walk.{place_of}
use Rattle.packages.specs.declared.entries.Words.{Words}
use Rattle.resolve.specs.Classes.{Entered}
use Rattle.resolve.specs.Lent.{lent-rest}
use Rattle.resolve.specs.MarkLaws.{marks-none}
use Rattle.resolve.specs.Marks.{marks_at, marks_in, MarksIn}
use Rattle.resolve.specs.Rows.{row_at, worded}
use Rattle.walk.specs.KeptLaws.{worded-kept, worded-mark}
use Rattle.walk.specs.Steps.{opened_as, Marked}
use Rattle.walk.specs.declared.walk.Census.{Census}
use Rattle.walk.specs.declared.walk.Entering.TheVariants.{Open}

-- ---- the marks of rows

-- they are as they were where only bytes before them changed
marks-before : {l w w' : List ℕ} (b e : ℕ) → MarksIn l w → Changed b e w w' → e + 32 * length l ≤ length w → MarksIn l w'
marks-before {l} {w} {w'} b e t k h = record {
  room = rw k.size t.room;
  is = λ r g. rw k.size (kept_read k 4 (row_at w r + 28) (inr (omega arith)) ∙ t.is r g);
}

-- one more
module _ {l w : List ℕ} (t : MarksIn l w) (room : 32 * (length l + 1) ≤ length w) (m : Words) (mark : ℕ) (small : mark < 2 ^ 32) where
  abbrev at : ℕ
  at = row_at w (length l)

  change : Changed at (at + 32) w (worded at m mark w)
  change = worded-kept at m mark w (omega arith)

  count : length (l ++ (mark ∷ [])) ≡ length l + 1
  count = length-append l (mark ∷ [])

  mark_in : (r : ℕ) → r < length (l ++ (mark ∷ [])) → Dec (r ≡ length l) → le_at 4 (worded at m mark w) (row_at w r + 28) ≡ get_or (l ++ (mark ∷ [])) r 0
  mark_in r h (yes e) = rw (e, get_or_at l mark [] 0 (length l) refl) (worded-mark at m mark w (omega arith) small)
  mark_in r h (no e) =
      let k : r < length l = omega (arith, count) in
      rw (get_or-append l (mark ∷ []) 0 r k) (kept_read change 4 (row_at w r + 28) (inr (omega arith)) ∙ t.is r k)

  marks-more : MarksIn (l ++ (mark ∷ [])) (worded at m mark w)
  marks-more = record { room = rw (change.size, count) room; is = λ r h. rw change.size (mark_in r h (ℕ_discrete r (length l))) }

-- ---- as the walk goes on

-- nothing more is entered
pub marked_closed : {n : ℕ} {l : List ℕ} {t : Census} {w : List ℕ} → (t.state ≡ Open → ⊥) → Marked n l t w
marked_closed c = record { count = λ z. absurd (c z); holds = λ z. absurd (c z) }

-- at the start
pub marked-none : (n : ℕ) (s : List ℕ) (at : ℕ) (w : List ℕ) → Marked n (marks_in s at 0) (opened_as 0 0 9) w
unfolding marks_in
marked-none n s _ w = record { count = λ z. refl; holds = λ z. marks-none (drop (56 * n) w) }

module _ {n : ℕ} {l : List ℕ} {t : Census} {w : List ℕ} (k : Marked n l t w) (a : t.state ≡ Open) where
  -- no row more
  pub marked-same : {u : Census} → u.rows ≡ t.rows → Marked n l u w
  marked-same e = record { count = λ z. omega (arith, k.count a); holds = λ z. k.holds a }

  -- the part behind the script objects was lent and came back as ys
  module _ (room : n + t.classes + t.rows < length w / 64) {ys : List ℕ} where
    rest : drop (56 * n) (put (56 * n) (length w - 56 * n) w ys) ≡ ys
    rest = lent-rest (56 * n) w ys (omega arith)

    pub marked_row : {u : Census} (m : Words) (mark : ℕ) → mark < 2 ^ 32 → ys ≡ worded (row_at (drop (56 * n) w) t.rows) m mark (drop (56 * n) w)
        → u.rows ≡ t.rows + 1 → Marked n (l ++ (mark ∷ [])) u (put (56 * n) (length w - 56 * n) w ys)
    marked_row m mark small q e = record {
      count = λ z. omega (arith, k.count a, length-append l (mark ∷ []));
      holds = λ z. rw (rest, q, ← k.count a) (marks-more (k.holds a) (omega (arith, k.count a, length-drop (56 * n) w)) m mark small);
    }

    pub marked-class : {u : Census} {s : List ℕ} {xs : List Class} {x : Class} → Entered s (2 * n) xs x (drop (56 * n) w) ys → length xs ≡ t.classes
        → u.rows ≡ t.rows → Marked n l u (put (56 * n) (length w - 56 * n) w ys)
    marked-class {xs = xs} e c q = record {
      count = λ z. omega (arith, k.count a);
      holds = λ z. rw rest (marks-before 0 (record_at (2 * n) 64 (length xs + 1)) (k.holds a) e.kept (omega (arith, k.count a, length-drop (56 * n) w)));
    }

-- one package more
pub marks-next : (s : List ℕ) (at i : ℕ) → marks_in s at (i + 1) ≡ marks_in s at i ++ marks_at s (place_of s at i)
unfolding marks_in
marks-next s at i = rw (add-one i)
