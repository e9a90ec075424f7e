-- Laws of the units that names bring: how many they are, and how a window of them is filled name by name. Assumes nothing.
use Rattle.std.specs.Prelude.{◌≡◌, Bool, true, false, List, [], ◌∷◌, ◌++◌, map, get_or, take, drop}
use Rattle.std.proofs.Math.Path.{refl, ap, ap₂}
use Rattle.std.proofs.Common.{sym, ◌∙◌, append-nil, sub-one, arith, length-append, length-take, length-drop, take-append-drop, drop_of_length-le, take_all, take_at, drop_at, take-add, drop-drop, length-take-le}
use Rattle.std.proofs.Math.Bool.{cond}
use Rattle.std.proofs.Math.Logic.{by_cases}
use Prim.Native.Nat.{ℕ, zero, suc, ◌+◌, ◌-◌, ◌*◌, ◌/◌, ◌≤◌, ◌<◌, min}
use Rattle.std.proofs.Math.Decide.{dec_lt}
use Rattle.std.proofs.Math.ListN.{length}
use Rattle.std.proofs.lemmas.List.{length-map}
use Rattle.std.proofs.Math.Seq.{take-length, drop-length, get_or-take}
use Rattle.text.specs.UnitBytesLaws.{unit_bytes-length, unit_bytes_append}
use Rattle.ids.specs.LowerLaws.{lowered-units}
use Rattle.text.specs.Name.{decoded, base, suffix}
use Rattle.base.specs.NumberLaws.{Bytes, bytes-part}
use Rattle.base.specs.Output.{over, Wrote}
use Rattle.base.specs.OutputLaws.{wrote_none, wrote_as, wrote-rest, wrote-room}
use Rattle.text.specs.Units.{units_of}
use Rattle.ids.specs.LoweredUnits.{name_units}
use Rattle.text.specs.UnitsLaws.{base-units, units_of-narrow, units_of-length}
use Rattle.text.specs.Utf16.{is_well, unit_bytes}
use Rattle.batch.specs.Holds.{text_at, Holds}
use Rattle.batch.specs.Places.{part_at}
use Rattle.batch.specs.declared.places.Place.{Place}
use Rattle.meaning.specs.Verify.{slash}
use Rattle.hashes.specs.Chain.{no_name, place_no, number_no, piece, pieces, piece_count, chain_units, Named, Sized}
use Rattle.batch.specs.declared.places.Name.{Name}

-- ---- how many

units-count : (wide : Bool) (part more : List ℕ) → Bytes part → is_well (decoded wide part) ≡ true
    → length (name_units (base wide part) more) ≡ length (units_of wide part) + length more
unfolding name_units
units-count wide part more y w = rw (length-append, lowered-units, (base-units wide part y w).0)

part_count : (wide : Bool) (part : List ℕ) → length (units_of wide part) ≡ cond wide (length part / 2) (length part)
part_count true part = units_of-length part
part_count false part = rw (units_of-narrow part)

module _ {b : List ℕ} (y : Bytes b) (p : Place) (d : Holds b p (text_at b p)) (number : ℕ) where
  part-size : length (part_at b p) ≡ p.size
  part-size = length-take-le p.size (drop p.start b) (simp length-drop (omega (arith, d.inside)))

  pub piece-length : length (piece b p number) ≡ cond p.wide (p.size / 2) p.size + (1 + length (suffix number))
  unfolding piece
  piece-length =
      let e = units-count p.wide (part_at b p) (suffix number) (bytes-part p.size p.start b y) d.well in
      let f : length (units_of p.wide (part_at b p)) ≡ cond p.wide (p.size / 2) p.size = part_count p.wide (part_at b p)
      ∙ ap (λ (n : ℕ). cond p.wide (n / 2) n) part-size in
      omega (arith, e, f)

-- by its place
pub piece_count_lem : {b : List ℕ} → Bytes b → (p : Place) → Holds b p (text_at b p) → (number : ℕ) → piece_count p number ≡ length (piece b p number)
unfolding piece_count
piece_count_lem y p d number = sym (piece-length y p d number)

-- one object more
pub pieces-next : (b : List ℕ) (c : List Name) (k : ℕ) → pieces b c (k + 1) ≡ piece b (place_no c k) (number_no c k) ++ pieces b c k
unfolding pieces
pieces-next b c k = let e : k + 1 ≡ suc k = omega arith in rw e

pub pieces_none : (b : List ℕ) (c : List Name) → pieces b c 0 ≡ []
unfolding pieces
pieces_none b c = refl

pub pieces-some : (b : List ℕ) (c : List Name) (k : ℕ) → 0 < length (pieces b c k) → 0 < k
unfolding pieces
pieces-some b c zero h = absurd (omega arith)
pieces-some b c (suc k) h = omega arith

-- the first n objects bring the same in a longer chain
pub pieces-take : (b : List ℕ) (c : List Name) (n k : ℕ) → k ≤ n → pieces b (take n c) k ≡ pieces b c k
unfolding pieces
pieces-take b c n zero h = refl
pieces-take b c n (suc k) h =
    let e : get_or (take n c) k no_name ≡ get_or c k no_name = get_or-take n c k no_name (omega arith) in
    ap₂ (λ (u : Name) (l : List ℕ). piece b u.place u.number ++ l) e (pieces-take b c n k (omega arith))

piece-some : (b : List ℕ) (p : Place) (number : ℕ) → 0 < length (piece b p number)
unfolding piece
piece-some b p number = omega arith

pub pieces-full : (b : List ℕ) (c : List Name) (k : ℕ) → 0 < k → 0 < length (pieces b c k)
pieces-full b c k h =
    let e : k ≡ k - 1 + 1 = omega arith in
    let p = piece b (place_no c (k - 1)) (number_no c (k - 1)) in
    omega (
      arith,
      ap (λ (n : ℕ). length (pieces b c n)) e,
      ap length (pieces-next b c (k - 1)),
      length-append p (pieces b c (k - 1)),
      piece-some b (place_no c (k - 1)) (number_no c (k - 1)),
    )

pub count_next : {b : List ℕ} → Bytes b → (c : List Name) (k : ℕ) → Holds b (place_no c k) (text_at b (place_no c k)) → (total r : ℕ) → total ≡ length (pieces b c k)
    → r ≡ piece_count (place_no c k) (number_no c k) → total + r ≡ length (pieces b c (k + 1))
count_next {b} y c k d total r e q =
    omega (arith, q ∙ piece_count_lem y (place_no c k) d (number_no c k), ap length (pieces-next b c k), length-append (piece b (place_no c k) (number_no c k)) (pieces b c k))

-- ---- a piece, from a place on

module _ (b : List ℕ) (p : Place) (number : ℕ) where
  pub piece-size : length (piece b p number) ≡ suc (length (name_units (text_at b p) (suffix number)))
  unfolding piece
  piece-size = refl

  pub piece-behind : (from n : ℕ) → 0 < from
      → unit_bytes (take n (drop (from - 1) (name_units (text_at b p) (suffix number)))) ≡ unit_bytes (take n (drop from (piece b p number)))
  unfolding piece
  piece-behind zero n h = absurd (omega arith)
  piece-behind (suc from) n h = rw (sub-one)

  pub piece-front : (from n : ℕ) → from ≤ 0 → 0 < n
      → 47 ∷ 0 ∷ [] ++ unit_bytes (take (n - 1) (drop 0 (name_units (text_at b p) (suffix number)))) ≡ unit_bytes (take n (drop from (piece b p number)))
  unfolding piece
  piece-front zero zero h m = absurd (omega arith)
  piece-front zero (suc n) h m = rw (sub-one)
  piece-front (suc from) n h m = absurd (omega arith)

-- ---- the path's units are the names', slashed, but for the first `/`

map-take : (f : ℕ → ℕ) (n : ℕ) (l : List ℕ) → take n (map f l) ≡ map f (take n l)
map-take f zero l = refl
map-take f (suc n) [] = refl
map-take f (suc n) (x ∷ l) = rw (map-take f n l)

map-drop : (f : ℕ → ℕ) (n : ℕ) (l : List ℕ) → drop n (map f l) ≡ map f (drop n l)
map-drop f zero l = refl
map-drop f (suc n) [] = refl
map-drop f (suc n) (x ∷ l) = map-drop f n l

pub chain-window : (b : List ℕ) (c : List Name) (from n : ℕ)
    → map slash (take n (drop (from + 1) (pieces b c (length c)))) ≡ take n (drop from (chain_units b c))
unfolding chain_units
chain-window b c from n =
    let d = length c in
    let e : 1 + from ≡ from + 1 = omega arith in
    let us : List ℕ = map slash (pieces b c d) in
    let behind : drop from (drop 1 us) ≡ map slash (drop (from + 1) (pieces b c d)) =
    drop-drop from 1 us ∙ ap (λ (k : ℕ). drop k us) e ∙ map-drop slash (from + 1) (pieces b c d) in
    sym (ap (take n) behind ∙ map-take slash n (drop (from + 1) (pieces b c d)))

pub chain_length : (b : List ℕ) (c : List Name) (n : ℕ) → length (pieces b c (length c)) ≡ n + 1 → length (chain_units b c) ≡ n
unfolding chain_units
chain_length b c n e = length-drop 1 (map slash (pieces b c (length c))) ∙ rw (length-map (pieces b c (length c)) slash, e) (omega arith)

-- so many units of a path take twice as many bytes
pub window-size : {b : List ℕ} {c : List Name} {n : ℕ} → Sized b c n → (from m : ℕ) → from + m ≤ n → length (unit_bytes (take m (drop from (chain_units b c)))) ≡ 2 * m
window-size {b} {c} {n} t from m h =
    unit_bytes-length (take m (drop from (chain_units b c)))
    ∙ ap (λ (k : ℕ). 2 * k) (length-take-le m (drop from (chain_units b c)) (simp length-drop (omega (arith, chain_length b c n t.count))))

-- a buffer that is written to its end
pub wrote-full : {s a o : List ℕ} {r : ℕ} → Wrote s a o r → length a ≡ length s → o ≡ a
unfolding over
wrote-full {s} {a} w e = let l : length s ≤ length a = omega arith in w.is ∙ rw (drop_of_length-le s l, append-nil)

-- ---- a window, name by name

take-both : (n : ℕ) (xs ys : List ℕ) → take n (xs ++ ys) ≡ take n xs ++ take (n - length xs) ys
take-both zero xs ys = let e : 0 - length xs ≡ 0 = omega arith in rw e
take-both (suc n) [] ys = let e : suc n - 0 ≡ suc n = omega arith in rw e
take-both (suc n) (x ∷ xs) ys = let e : suc n - suc (length xs) ≡ n - length xs = omega arith in rw (e, take-both n xs ys)

drop-both : (n : ℕ) (xs ys : List ℕ) → drop n (xs ++ ys) ≡ drop n xs ++ drop (n - length xs) ys
drop-both zero xs ys = let e : 0 - length xs ≡ 0 = omega arith in rw e
drop-both (suc n) [] ys = let e : suc n - 0 ≡ suc n = omega arith in rw e
drop-both (suc n) (x ∷ xs) ys = let e : suc n - suc (length xs) ≡ n - length xs = omega arith in rw (e, drop-both n xs ys)

drop-least : (n : ℕ) (xs : List ℕ) → drop n xs ≡ drop (min n (length xs)) xs
drop-least n xs =
    by_cases (dec_lt n (length xs))
    (λ (h : n < length xs). let e : min n (length xs) ≡ n = omega arith in rw e)
    (λ (h : ¬ (n < length xs)). let e : min n (length xs) ≡ length xs = omega arith in let l : length xs ≤ n = omega arith in
    rw (e, drop_of_length-le xs l, drop-length xs))

take-least : (n : ℕ) (xs : List ℕ) → take n xs ≡ take (min n (length xs)) xs
take-least n xs =
    by_cases (dec_lt n (length xs))
    (λ (h : n < length xs). let e : min n (length xs) ≡ n = omega arith in rw e)
    (λ (h : ¬ (n < length xs)). let e : min n (length xs) ≡ length xs = omega arith in let l : length xs ≤ n = omega arith in
    rw (e, take_all n xs l, take-length xs))

-- what lies in the first of two pieces, and in the second
sub-least : (a b : ℕ) {c : ℕ} → c ≡ min a b → a - b ≡ a - c
sub-least a b e = omega arith

window-split : (left skip past here : ℕ) (xs ys : List ℕ) → past ≡ min skip (length xs) → here ≡ min left (length xs - past)
    → take left (drop skip (xs ++ ys)) ≡ take here (drop past xs) ++ take (left - here) (drop (skip - past) ys)
window-split left skip past here xs ys ep eh =
    let n : length (drop past xs) ≡ length xs - past = length-drop past xs in
    let d : drop skip xs ≡ drop past xs = drop-least skip xs ∙ rw (← ep) in
    let a : take left (drop past xs) ≡ take here (drop past xs) = take-least left (drop past xs) ∙ rw (n, ← eh) in
    let i : skip - length xs ≡ skip - past = sub-least skip (length xs) ep in
    let k : left - (length xs - past) ≡ left - here = sub-least left (length xs - past) eh in
    rw (drop-both skip xs ys, d, i, take-both left (drop past xs) (drop (skip - past) ys), n, a, k)

-- the part of object u, which is object k, of a window that passes over `skip` units of what it and the k objects inside it bring, and takes `left`
pub record Part (b : List ℕ) (c : List Name) (u : Name) (k skip left count past here : ℕ) : Type 0 where
  pub bytes : Bytes b
  pub named : Named b c
  pub most : k < length c
  pub object : u ≡ get_or c k no_name
  pub room : skip + left ≤ length (pieces b c (k + 1))
  pub counts : count ≡ piece_count u.place u.number
  pub passed : past ≡ min skip count
  pub taken : here ≡ min left (count - past)

module _ {b : List ℕ} {c : List Name} {u : Name} {k skip left count past here : ℕ} (t : Part b c u k skip left count past here) where
  abbrev own : List ℕ
  own = piece b u.place u.number

  pub own-holds : Holds b u.place (text_at b u.place)
  own-holds = rw t.object (t.named.holds k t.most)

  counted : count ≡ length own
  counted = t.counts ∙ piece_count_lem t.bytes u.place own-holds u.number

  next : pieces b c (k + 1) ≡ own ++ pieces b c k
  next = pieces-next b c k ∙ ap (λ (v : Name). piece b v.place v.number ++ pieces b c k) (sym t.object)

  pub own-fits : past + here ≤ length own
  own-fits = within counted t.passed t.taken
    where
      within : {n : ℕ} → count ≡ n → past ≡ min skip count → here ≡ min left (count - past) → past + here ≤ n
      within e p h = omega arith

  pub own_split : unit_bytes (take left (drop skip (pieces b c (k + 1))))
      ≡ unit_bytes (take here (drop past own)) ++ unit_bytes (take (left - here) (drop (skip - past) (pieces b c k)))
  own_split =
      let e = window-split left skip past here own (pieces b c k) (t.passed ∙ ap (min skip) counted)
      (t.taken ∙ ap (λ (n : ℕ). min left (n - past)) counted) in
      ap (λ (l : List ℕ). unit_bytes (take left (drop skip l))) next ∙ ap unit_bytes e
      ∙ unit_bytes_append (take here (drop past own)) (take (left - here) (drop (skip - past) (pieces b c k)))

  pub own-after : skip - past + (left - here) ≤ length (pieces b c k)
  own-after = beyond counted t.passed t.taken (omega (arith, t.room, ap length next, length-append own (pieces b c k)))
    where
      beyond : {n m : ℕ} → count ≡ n → past ≡ min skip count → here ≡ min left (count - past) → skip + left ≤ n + m → skip - past + (left - here) ≤ m
      beyond e p h r = omega arith

  pub own-size : length (unit_bytes (take here (drop past own))) ≡ 2 * here
  own-size =
      unit_bytes-length (take here (drop past own)) ∙ ap (λ (n : ℕ). 2 * n) (length-take-le here (drop past own) (simp length-drop (omega (arith, own-fits))))

-- the first `at` bytes of x are written to the front of s, and rest is what is still to be written
pub record Filled (s x o rest : List ℕ) (at : ℕ) : Type 0 where
  pub wrote : Wrote s (take at x) o at
  pub left : drop at x ≡ rest

pub filled_none : (s x : List ℕ) → Filled s x s x 0
filled_none s x = record { wrote = wrote_none s; left = refl }

module _ {s x o rest : List ℕ} {at : ℕ} (w : Filled s x o rest at) where
  pub filled-all : rest ≡ [] → Wrote s x o at
  filled-all e = wrote_as w.wrote (sym (append-nil (take at x)) ∙ rw (← e, ← w.left) (take-append-drop at x))

  -- one part more
  module _ (y rest' : List ℕ) (e : rest ≡ y ++ rest') where
    pub filled-room : length x ≤ length s → length y ≤ length (take (length o - at) (drop at o))
    filled-room h =
        wrote-room w.wrote (length y)
        (omega (arith, w.wrote.size, length-take at x, ap length w.left, ap length e, length-append y rest', length-drop at x))

    pub filled_more : {p : List ℕ} {m : ℕ} → Wrote (take (length o - at) (drop at o)) y p m
        → Filled s x (take at o ++ (p ++ drop (length o - at) (drop at o))) rest' (at + m)
    filled_more {p} {m} v =
        let l : length y ≡ m = sym v.size in
        let next : drop at x ≡ y ++ rest' = w.left ∙ e in
        record {
          wrote = wrote_as (wrote-rest w.wrote v) (sym (take-add at m x ∙ rw (next, take_at y rest' m l)));
          left = sym (drop-drop m at x) ∙ rw (next, drop_at y rest' m l);
        }

-- the object's part has room where the window has, and is written next
module _ {b : List ℕ} {c : List Name} {u : Name} {k skip left count past here : ℕ} (t : Part b c u k skip left count past here) {s x o : List ℕ} {at : ℕ}
    (w : Filled s x o (unit_bytes (take left (drop skip (pieces b c (k + 1))))) at) where
  abbrev part : List ℕ
  part = unit_bytes (take here (drop past (piece b u.place u.number)))

  abbrev others : List ℕ
  others = unit_bytes (take (left - here) (drop (skip - past) (pieces b c k)))

  pub part_room : length x ≤ length s → 2 * here ≤ length (take (length o - at) (drop at o))
  part_room h = omega (arith, own-size t, filled-room w part others (own_split t) h)

  pub part_filled : {p : List ℕ} {m : ℕ} → Wrote (take (length o - at) (drop at o)) part p m
      → Filled s x (take at o ++ (p ++ drop (length o - at) (drop at o))) others (at + m)
  part_filled v = filled_more w part others (own_split t) v
