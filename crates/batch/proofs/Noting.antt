-- Notes of where every step-th name starts: how they are taken, and what the nearest says of a name.
use mathlib.Core.Path.{◌≡◌, sym, ◌∙◌, ap}
use mathlib.Core.List.{List}
use Prim.Native.Nat.{ℕ, ◌+◌, ◌*◌, ◌-◌, ◌/◌, ◌≤◌, ◌<◌}
use native.Mathlib.Omega.{arith}
use native.Mathlib.Nat.{mul-le-mul_left, mul-suc, mul_comm, div-mul-le_self, div-lt_iff_lt-mul}
use native.Mathlib.Numerals.{add-one}
use native.Mathlib.Decide.{ℕ_discrete, dec_le}
use lib.Arith.{lt_of_le-ne}
use lib.ListN.{length, get_or, set, length-set}
use lib.Seq.{get_or-set_same, get_or-set_other}
use Rattle.batch.specs.Batch.{head_at}
use Rattle.batch.specs.Places.{name_start, Held}
use Rattle.batch.specs.PlacesLaws.{start_mono, start-add, start-le}
use Rattle.batch.specs.Notes.{note_count, step_of, Noted}
use Rattle.batch.specs.declared.names.Names.{Names}

-- ---- notes are taken

-- one note more: those before it stay
one_more : (f : ℕ → ℕ) (notes : List ℕ) (k v : ℕ) → k < length notes → v ≡ f k → ((j : ℕ) → j < k → get_or notes j 0 ≡ f j)
    → (j : ℕ) → j < k + 1 → get_or (set notes k v) j 0 ≡ f j
one_more f notes k v l e g j i = go (ℕ_discrete j k)
  where
    go : Dec (j ≡ k) → get_or (set notes k v) j 0 ≡ f j
    go (yes q) = rw (q, get_or-set_same notes k v 0 l) e
    go (no q) = get_or-set_other notes k j v 0 q ∙ g j (lt_of_le-ne (omega arith) q)

-- each of the first k names is noted; p is where the next starts among the strings
pub record Each (s : List ℕ) (n : Names) (notes : List ℕ) (p k : ℕ) : Type 0 where
  pub size : length notes ≡ note_count
  pub start : p ≡ name_start s n.headers n.strings k - n.strings
  pub noted : (j : ℕ) → j < k → get_or notes j 0 ≡ name_start s n.headers n.strings j - n.strings

pub each_first : (s : List ℕ) (n : Names) (notes : List ℕ) → length notes ≡ note_count → Each s n notes 0 0
unfolding name_start
each_first s n notes l = record { size = l; start = omega arith; noted = λ j i. absurd (omega arith) }

module _ {s : List ℕ} {n : Names} {notes : List ℕ} {p k : ℕ} (e : Each s n notes p k) where
  -- the place fits a note
  pub each-small : Held s n → k ≤ n.count → p < 4294967296
  each-small d l = omega (arith, e.start, start-le s n.headers n.strings k n.count l, d.inside, d.span)

  pub each_next : k < note_count → Each s n (set notes k p) (p + (head_at s (n.headers + 2 * k)).size) (k + 1)
  unfolding name_start
  each_next l =
      let a = start-add s n.headers n.strings k 1 in
      let m = start_mono s n.headers n.strings k in
      let z = e.start in
      record {
        size = simp length-set e.size;
        start = rw a (omega arith);
        noted = one_more (λ j. name_start s n.headers n.strings j - n.strings) notes k p (omega (arith, e.size)) z e.noted;
      }

-- the header of the next is in the block
pub each-head : {s : List ℕ} {n : Names} {k : ℕ} → Held s n → k < n.count → n.headers + 2 * k + 2 ≤ length s
each-head d l = omega (arith, d.heads)

step-one : (count : ℕ) → count < note_count → step_of count ≡ 1
step-one count c = omega arith

-- all of them are noted
pub each_end : {s : List ℕ} {n : Names} {notes : List ℕ} {p k : ℕ} → Each s n notes p k → n.count < note_count → n.count ≤ k → Noted s n notes
each_end {s} {n} {notes} {p} {k} e c l = record { at = λ j a b. go j (rw (step-one n.count c) at b) }
  where
    go : (j : ℕ) → 1 * j < n.count → get_or notes j 0 ≡ name_start s n.headers n.strings (step_of n.count * j) - n.strings
    go j b = let q : 1 * j ≡ j = omega arith in rw (step-one n.count c, q) (e.noted j (omega arith))

next-step : (step k : ℕ) → step * (k + 1) ≡ step * k + step
next-step step k = rw (add-one k) (mul-suc step k)

-- every step-th name up to the k-th note is noted; p is where the next starts
pub record Going (s : List ℕ) (n : Names) (step : ℕ) (notes : List ℕ) (p k : ℕ) : Type 0 where
  pub few : step * k ≤ n.count
  pub start : p ≡ name_start s n.headers n.strings (step * k)
  pub noted : (j : ℕ) → j < k → get_or notes j 0 ≡ name_start s n.headers n.strings (step * j) - n.strings

pub going_first : (s : List ℕ) (n : Names) (step : ℕ) (notes : List ℕ) → Going s n step notes n.strings 0
unfolding name_start
going_first s n step notes =
    let e : step * 0 ≡ 0 = omega arith in
    record { few = omega arith; start = rw e; noted = λ j i. absurd (omega arith) }

module _ {s : List ℕ} {n : Names} {step : ℕ} {notes : List ℕ} {p k : ℕ} (g : Going s n step notes p k) where
  going_note : k < length notes → (j : ℕ) → j < k + 1 → get_or (set notes k (p - n.strings)) j 0 ≡ name_start s n.headers n.strings (step * j) - n.strings
  going_note l = one_more (λ j. name_start s n.headers n.strings (step * j) - n.strings) notes k (p - n.strings) l (ap (λ x. x - n.strings) g.start) g.noted

  -- a noted name is not behind the last
  pub going_inside : (n.strings ≤ p) × (p ≤ name_start s n.headers n.strings n.count)
  going_inside = rw g.start (start_mono s n.headers n.strings (step * k), start-le s n.headers n.strings (step * k) n.count g.few)

  module _ (i : step ≤ n.count - step * k) where
    pub going_next : k < length notes → Going s n step (set notes k (p - n.strings)) (name_start s (n.headers + 2 * (step * k)) p step) (k + 1)
    going_next l =
        let z = next-step step k in
        record { few = omega (arith, g.few); start = rw (z, g.start) (sym (start-add s n.headers n.strings (step * k) step)); noted = going_note l }

    -- nor is the next
    pub going_step : (n.headers + 2 * (step * k) + 2 * step ≤ n.headers + 2 * n.count)
        × (name_start s (n.headers + 2 * (step * k)) p step ≤ name_start s n.headers n.strings n.count)
    going_step =
        let u = start-le s n.headers n.strings (step * k + step) n.count (omega (arith, g.few)) in
        (omega (arith, g.few), rw (g.start, ← start-add s n.headers n.strings (step * k) step) u)

  -- the last note is before the last name
  pub going_last : k < length notes → n.count - step * k < step → (j : ℕ) → step * j < n.count
      → get_or (set notes k (p - n.strings)) j 0 ≡ name_start s n.headers n.strings (step * j) - n.strings
  going_last l i j b = going_note l j (go (dec_le (k + 1) j))
    where
      go : Dec (k + 1 ≤ j) → j < k + 1
      go (yes y) = absurd (omega (arith, mul-le-mul_left step y, next-step step k, g.few))
      go (no y) = omega arith

-- the step is the notes' own: they are done with the last name, or with the last note
module _ {s : List ℕ} {n : Names} {notes : List ℕ} {p k : ℕ} (g : Going s n (step_of n.count) notes p k) where
  pub going_end : k < length notes → n.count - step_of n.count * k < step_of n.count → Noted s n (set notes k (p - n.strings))
  going_end l i = record { at = λ j a b. going_last g l i j b }

  pub going_full : note_count ≤ k → Noted s n notes
  going_full l = record { at = λ j a b. g.noted j (omega arith) }

-- ---- a name is reached

-- the nearest note before name i is one of them
note-few : (count i : ℕ) → i < count → i / step_of count < note_count
note-few count i l = (div-lt_iff_lt-mul {k = step_of count} {x = i} {y = note_count} (omega arith)).1 (omega arith)

note-before : (step i : ℕ) → step * (i / step) ≤ i
note-before step i = rw (mul_comm step (i / step)) (div-mul-le_self i step)

-- from a note on
from-note : (s : List ℕ) (h p x m i : ℕ) → m ≤ i → x ≡ name_start s h p m - p → name_start s (h + 2 * m) (p + x) (i - m) ≡ name_start s h p i
from-note s h p x m i l q =
    let z = start_mono s h p m in
    let e : p + x ≡ name_start s h p m = omega arith in
    let f : m + (i - m) ≡ i = omega arith in
    rw (e, ← start-add s h p m (i - m), f)

module _ (s : List ℕ) (n : Names) (notes : List ℕ) (d : Held s n) (m : Noted s n notes) (i : ℕ) (l : i < n.count) where
  -- name i starts in the block
  pub start-inside : name_start s n.headers n.strings i ≤ length s
  start-inside = omega (arith, start-le s n.headers n.strings i n.count (omega arith), d.inside, d.ends)

  -- each name has its note
  pub near-start : n.count < note_count → n.strings + get_or notes i 0 ≡ name_start s n.headers n.strings i
  near-start c =
      let e = step-one n.count c in
      let q : 1 * i ≡ i = omega arith in
      let z : get_or notes i 0 ≡ name_start s n.headers n.strings i - n.strings = rw (e, q) at (m.at i (omega arith) (rw (e, q) l)) in
      omega (arith, start_mono s n.headers n.strings i)

  -- what the nearest note says of name i
  pub record Near (step : ℕ) : Type 0 where
    pub few : i / step < note_count
    pub before : step * (i / step) ≤ i
    pub head : n.headers + 2 * i + 2 ≤ length s
    pub note : n.strings + get_or notes (i / step) 0 ≤ length s
    pub start : name_start s (n.headers + 2 * (step * (i / step))) (n.strings + get_or notes (i / step) 0) (i - step * (i / step)) ≡ name_start s n.headers n.strings i
    pub inside : name_start s n.headers n.strings i ≤ length s

  pub near : (step : ℕ) → step ≡ step_of n.count → Near step
  near step e =
      let b = note-before step i in
      let f = rw (← e) at (note-few n.count i l) in
      let st = from-note s n.headers n.strings (get_or notes (i / step) 0) (step * (i / step)) i b (rw (← e) at (m.at (i / step)) f (omega arith)) in
      let q = start_mono s (n.headers + 2 * (step * (i / step))) (n.strings + get_or notes (i / step) 0) (i - step * (i / step)) in
      let p = start-inside in
      record { few = f; before = b; head = omega (arith, d.heads); note = omega arith; start = st; inside = p }
