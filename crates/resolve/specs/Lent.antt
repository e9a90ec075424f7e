-- The rest of a buffer lent from a place on, `&mut w[a..]`: what is lent, and the buffer when ys came back. Assumes nothing.
use Rattle.std.specs.Prelude.{◌≡◌, List, ◌++◌, ℕ, ◌-◌, ◌≤◌, length, take, drop}
use Rattle.std.proofs.Common.{append-nil, arith, length-append, length-drop, drop_of_length-le, length-take-le, take_all, take_at, drop_at}
use Rattle.table.specs.Words.{put}

module _ (a : ℕ) (w : List ℕ) where
  -- what is lent is all that stands from there on
  pub lent-part : take (length w - a) (drop a w) ≡ drop a w
  lent-part = take_all (length w - a) (drop a w) (simp length-drop (omega arith))

  module _ (ys : List ℕ) (room : a ≤ length w) where
    -- nothing stands behind it
    lent_is : put a (length w - a) w ys ≡ take a w ++ ys
    lent_is = rw (drop_of_length-le (drop a w) {i = length w - a} (simp length-drop (omega arith)), append-nil ys)

    -- what stands before is as it was, then what came back
    pub lent-front : take a (put a (length w - a) w ys) ≡ take a w
    lent-front = rw lent_is (take_at (take a w) ys a (length-take-le a w room))

    pub lent-rest : drop a (put a (length w - a) w ys) ≡ ys
    lent-rest = rw lent_is (drop_at (take a w) ys a (length-take-le a w room))

    pub lent_length : length ys ≡ length (drop a w) → length (put a (length w - a) w ys) ≡ length w
    lent_length e = rw (lent_is, length-append (take a w) ys, length-take-le a w room, e, length-drop a w) (omega arith)
