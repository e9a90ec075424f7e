-- Laws of text of characters of one and two bytes: bytes that are right one by one are UTF-8, and how it is measured. Assumes nothing.
use Rattle.std.specs.Prelude.{◌≡◌, Bool, not, ◌&&◌, List, ℕ, ◌+◌, ◌-◌, take, drop}
use Rattle.std.proofs.Math.Bool.{true}
use Rattle.decode.specs.Latin.{all_low}
use Rattle.decode.specs.Narrow.{all_right, ends}

-- ---- a window of bytes, one by one: what is seen of them so far, where y is the last of them, and what is left

pub record Far (z : ℕ) (v : List ℕ) (y : ℕ) (r : List ℕ) (bad high : Bool) (u : ℕ) : Type 0 where
  pub right : all_right z v ≡ (not bad && all_right y r)
  pub low : all_low v ≡ (not high && all_low r)
  pub units : ends v ≡ u + ends r

pub record Good (s : List ℕ) (from at u : ℕ) (latin : Bool) : Type 0 where
  pub right : all_right 0 (take (at - from) (drop from s)) ≡ true
  pub low : latin ≡ all_low (take (at - from) (drop from s))
  pub units : u ≡ ends (take (at - from) (drop from s))
