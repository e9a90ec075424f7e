-- Laws of numbers in a buffer, over the width. Assumes nothing.
use Rattle.std.specs.Prelude.{◌≡◌, refl, ◌⊎◌, List, ◌++◌, ℕ, ◌+◌, ◌-◌, ◌^◌, ◌≤◌, ◌<◌, length, take, drop}
use Rattle.std.proofs.Common.{sym, ◌∙◌, ap, ⊎_elim, append_assoc, mod-eq_of_lt, arith, length-append, length-drop, take-append-drop, take-take, take-add, drop-drop, take_at, drop_at, length-take-le}
use Rattle.std.proofs.lemmas.List.{take-append-le, drop-append-le}
use Rattle.base.specs.Number.{le_at, le_bytes}
use Rattle.base.specs.NumberLaws.{drop-take, le_at-same, length-le_bytes, le-le_bytes}
use Rattle.table.specs.Words.{mid, put, stored, Kept}

-- ---- what a change leaves

-- what a change doesn't touch is as it was
pub kept-part : {b e : ℕ} {w w' : List ℕ} → Kept b e w w' → (a k : ℕ) → (a + k ≤ b) ⊎ (e ≤ a) → mid a k w' ≡ mid a k w
kept-part {b} {e} {w} {w'} t a k = ⊎_elim low high
  where
    front : (x : List ℕ) → a + k ≤ b → mid a k (take b x) ≡ mid a k x
    front x h = let l : k ≤ b - a = omega arith in rw (drop-take a b x, take-take k (b - a) (drop a x) l)

    back : (x : List ℕ) → e ≤ a → mid (a - e) k (drop e x) ≡ mid a k x
    back x h = let s : e + (a - e) ≡ a = omega arith in rw (drop-drop (a - e) e x, s)

    low : a + k ≤ b → mid a k w' ≡ mid a k w
    low h = sym (front w' h) ∙ ap (mid a k) t.before ∙ front w h

    high : e ≤ a → mid a k w' ≡ mid a k w
    high h = sym (back w' h) ∙ ap (mid (a - e) k) t.after ∙ back w h

-- so a number that is not touched is as it was
pub kept_read : {b e : ℕ} {w w' : List ℕ} → Kept b e w w' → (k a : ℕ) → (a + k ≤ b) ⊎ (e ≤ a) → le_at k w' a ≡ le_at k w a
kept_read {b} {e} {w} {w'} t k a h = le_at-same k w' w a a (kept-part t a k h)

pub kept-none : (b e : ℕ) (w : List ℕ) → Kept b e w w
kept-none b e w = record { size = refl; before = refl; after = refl }

pub kept_then : {b e : ℕ} {u v w : List ℕ} → Kept b e u v → Kept b e v w → Kept b e u w
kept_then s t = record { size = t.size ∙ s.size; before = t.before ∙ s.before; after = t.after ∙ s.after }

-- the same of a wider range
pub kept_wider : {b e : ℕ} {w w' : List ℕ} → Kept b e w w' → (b' e' : ℕ) → b' ≤ b → e ≤ e' → Kept b' e' w w'
kept_wider {b} {e} {w} {w'} t b' e' h g =
    let s : e + (e' - e) ≡ e' = omega arith in
    record {
      size = t.size;
      before = sym (take-take b' b w' h) ∙ ap (take b') t.before ∙ take-take b' b w h;
      after = rw (← s) (sym (drop-drop (e' - e) e w') ∙ ap (drop (e' - e)) t.after ∙ drop-drop (e' - e) e w);
    }

-- ---- a part that was lent

pub mid-length : (a k : ℕ) (w : List ℕ) → a + k ≤ length w → length (mid a k w) ≡ k
mid-length a k w h = length-take-le k (drop a w) (simp length-drop (omega arith))

-- ys came back for it
module _ (a k : ℕ) (w ys : List ℕ) (room : a + k ≤ length w) (same : length ys ≡ length (mid a k w)) where
  -- it is what came back
  pub put-part : mid a k (put a k w ys) ≡ ys
  put-part =
      ap (take k) (drop_at (take a w) (ys ++ drop k (drop a w)) a (length-take-le a w (omega arith)))
      ∙ take_at ys (drop k (drop a w)) k (same ∙ mid-length a k w room)

  -- the rest is as it was
  pub put-kept : Kept a (a + k) w (put a k w ys)
  put-kept =
      let l : length (take a w) ≡ a = length-take-le a w (omega arith) in
      let n : length ys ≡ k = same ∙ mid-length a k w room in
      let m : length (take a w ++ ys) ≡ a + k = simp length-append (omega arith) in
      record {
        size = simp (length-append, length-drop) (omega arith);
        before = take_at (take a w) (ys ++ drop k (drop a w)) a l;
        after = rw (← append_assoc, drop_at (take a w ++ ys) (drop k (drop a w)) (a + k) m, drop-drop k a w);
      }

-- a change within the part is one of the whole
pub put_inner : {b e : ℕ} {ys : List ℕ} (a k : ℕ) (w : List ℕ) → Kept b e (mid a k w) ys → a + k ≤ length w → b ≤ k → e ≤ k
    → Kept (a + b) (a + e) w (put a k w ys)
put_inner {b} {e} {ys} a k w t room l u =
    let x = drop a w in
    let m = mid-length a k w room in
    let back : drop a (put a k w ys) ≡ ys ++ drop k x = drop_at (take a w) (ys ++ drop k x) a (length-take-le a w (omega arith)) in
    record {
      size = (put-kept a k w ys room t.size).size;
      before = rw (
        take-add a b (put a k w ys),
        take-add a b w,
        (put-kept a k w ys room t.size).before,
        back,
        take-append-le b ys (drop k x) (omega (arith, t.size)),
        t.before,
        take-take b k x l,
      );
      after = rw (
        ← drop-drop e a (put a k w ys),
        ← drop-drop e a w,
        back,
        drop-append-le e ys (drop k x) (omega (arith, t.size)),
        t.after,
        ← drop-append-le e (take k x) (drop k x) (omega arith),
        take-append-drop k x,
      );
    }

-- ---- a store

module _ (k : ℕ) (w : List ℕ) (at v : ℕ) (room : at + k ≤ length w) where
  bytes : length (le_bytes k v) ≡ length (mid at k w)
  bytes = length-le_bytes k v ∙ sym (mid-length at k w room)

  -- what was stored is read
  pub stored-read : v < 256 ^ k → le_at k (stored k w at v) at ≡ v
  unfolding stored le_at
  stored-read h = rw (put-part at k w (le_bytes k v) room bytes, le-le_bytes k v) (mod-eq_of_lt h)

  -- the rest is as it was
  pub stored-kept : Kept at (at + k) w (stored k w at v)
  unfolding stored
  stored-kept = put-kept at k w (le_bytes k v) room bytes

  pub stored-length : length (stored k w at v) ≡ length w
  stored-length = stored-kept.size
