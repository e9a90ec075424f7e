-- Laws of names by number: where each starts, and the text at its place.
use Rattle.std.specs.Prelude.{◌≡◌, refl, List, [], Bool, true, false, ℕ, zero, suc, ◌+◌, ◌*◌, ◌-◌, ◌%◌, ◌≤◌, ◌<◌, leb, length, take, drop, get_or}
use Rattle.std.proofs.Math.Path.{sym}
use Rattle.std.proofs.Common.{◌∙◌, ap, arith, zero-add, suc-add, mod-lt, sub-one}
use Rattle.std.proofs.Math.ListN.{length-take}
use Rattle.base.specs.Choose.{pick}
use Rattle.base.specs.NumberLaws.{Bytes, bytes-part}
use Rattle.text.specs.Utf16.{is_well, Scalars}
use Rattle.text.specs.Name.{decoded, base}
use Rattle.text.specs.Units.{units_of}
use Rattle.text.specs.UnitsLaws.{base-units, units_of-narrow, units_of-length}
use Rattle.batch.specs.Batch.{head_of, head_at}
use Rattle.batch.specs.Places.{name_start, texts_at, place_at, part_at, Held}
use Rattle.batch.specs.declared.names.Head.{Head}
use Rattle.batch.specs.declared.names.Names.{Names}

pub start_none : (s : List ℕ) (h p i : ℕ) → i ≤ 0 → name_start s h p i ≡ p
unfolding name_start
start_none s h p zero l = refl
start_none s h p (suc i) l = absurd (omega arith)

pub start-step : (s : List ℕ) (h p i : ℕ) → 0 < i → name_start s h p i ≡ name_start s (h + 2) (p + (head_at s h).size) (i - 1)
unfolding name_start
start-step s h p zero l = absurd (omega arith)
start-step s h p (suc i) l = rw (sub-one)

pub start_mono : (s : List ℕ) (h p i : ℕ) → p ≤ name_start s h p i
unfolding name_start
start_mono s h p zero = omega arith
start_mono s h p (suc i) = let z = start_mono s (h + 2) (p + (head_at s h).size) i in omega arith

-- j names and then i
pub start-add : (s : List ℕ) (h p j i : ℕ) → name_start s h p (j + i) ≡ name_start s (h + 2 * j) (name_start s h p j) i
unfolding name_start
start-add s h p zero i = let e : h + 2 * 0 ≡ h = omega arith in rw (zero-add i, e)
start-add s h p (suc j) i =
    let e : h + 2 + 2 * j ≡ h + 2 * suc j = omega arith in
    rw (suc-add j i) (start-add s (h + 2) (p + (head_at s h).size) j i ∙ rw e)

pub start-le : (s : List ℕ) (h p j k : ℕ) → j ≤ k → name_start s h p j ≤ name_start s h p k
start-le s h p j k l =
    let e : j + (k - j) ≡ k = omega arith in
    let z = start_mono s (h + 2 * j) (name_start s h p j) (k - j) in
    let y = rw e at (start-add s h p j (k - j)) in
    omega arith

-- as many texts as names, and the text of each is the one at its place
pub texts-length : (s : List ℕ) (h p k : ℕ) → length (texts_at s h p k) ≡ k
unfolding texts_at
texts-length s h p zero = refl
texts-length s h p (suc k) = ap suc (texts-length s (h + 2) (p + (head_at s h).size) k)

texts_at_lem : (s : List ℕ) (h p k i : ℕ) → i < k → get_or (texts_at s h p k) i [] ≡ base (head_at s (h + 2 * i)).wide (take (head_at s (h + 2 * i)).size (drop (name_start s h p i) s))
unfolding texts_at name_start
texts_at_lem s h p zero i l = absurd (omega arith)
texts_at_lem s h p (suc k) zero l = let e : h + 2 * 0 ≡ h = omega arith in rw e
texts_at_lem s h p (suc k) (suc i) l =
    let e : h + 2 * suc i ≡ h + 2 + 2 * i = omega arith in
    rw e (texts_at_lem s (h + 2) (p + (head_at s h).size) k i (omega arith))

-- a header says at most 32,767 units, of one byte or of two
abbrev head_with : Bool → ℕ → Head
head_with t n = pick t (record { wide = true; size = 2 * n }) (record { wide = false; size = n })

head-fits : (t : Bool) (n : ℕ) → n < 32768 → ((head_with t n).size < 65536) × ((l : List ℕ) → length l ≤ (head_with t n).size → length (units_of (head_with t n).wide l) < 32768)
head-fits true n h = (omega arith, λ l i. rw (units_of-length l) (omega arith))
head-fits false n h = (omega arith, λ l i. rw (units_of-narrow l) (omega arith))

head_small : (s : List ℕ) (h : ℕ) → Bytes s → ((head_at s h).size < 65536) × ((l : List ℕ) → length l ≤ (head_at s h).size → length (units_of (head_at s h).wide l) < 32768)
unfolding head_at head_of
head_small s h b = head-fits (leb 128 (get_or s h 0)) (get_or s h 0 % 128 * 256 + get_or s (h + 1) 0) (omega (arith, mod-lt (get_or s h 0) {m = 128} (omega arith), b (h + 1)))

-- name i of a batch
module _ (s : List ℕ) (n : Names) (i : ℕ) (l : i < n.count) where
  pub place-text : base (place_at s n i).wide (part_at s (place_at s n i)) ≡ get_or (texts_at s n.headers n.strings n.count) i []
  unfolding place_at
  place-text = sym (texts_at_lem s n.headers n.strings n.count i l)

  pub place-size : Bytes s → (place_at s n i).size < 65536
  unfolding place_at
  place-size b = (head_small s (n.headers + 2 * i) b).0

  pub place-units : Bytes s → length (units_of (place_at s n i).wide (part_at s (place_at s n i))) < 32768
  unfolding place_at
  place-units b = (head_small s (n.headers + 2 * i) b).1 _ (simp length-take (omega arith))

  module _ (d : Held s n) where
    -- its bytes are among the strings
    pub place_inside : (n.strings ≤ (place_at s n i).start) × ((place_at s n i).start + (place_at s n i).size ≤ n.«end»)
    unfolding place_at name_start
    place_inside =
        let e = start-add s n.headers n.strings i 1 in
        let u = start-le s n.headers n.strings (i + 1) n.count (omega arith) in
        (start_mono s n.headers n.strings i, omega (arith, d.inside))

    pub place-well : is_well (decoded (place_at s n i).wide (part_at s (place_at s n i))) ≡ true
    place-well = d.well i l

    pub place-scalars : Bytes s → Scalars (get_or (texts_at s n.headers n.strings n.count) i [])
    place-scalars b = rw (← place-text) (base-units (place_at s n i).wide (part_at s (place_at s n i)) (bytes-part (place_at s n i).size (place_at s n i).start s b) place-well).1
