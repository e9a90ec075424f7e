-- What the steps that open a corpus know of it: those of every call that lends one. Assumes nothing.
use Rattle.std.specs.Prelude.{◌≡◌, List, [], ℕ, ◌+◌, ◌-◌, take, drop, Ok}
use Rattle.std.proofs.Math.Option.{Option}
use Rattle.base.specs.NumberLaws.{Bytes}
use Rattle.scriptblock.specs.Script.{Objects}
use Rattle.meaning.specs.Call.{Placed, placed_from, first_repeat}
use Rattle.meaning.specs.Frame.{framed}
use Rattle.packages.specs.Framing.{framed_as}
use Rattle.packages.specs.Walk.{packages_at, AllRead}
use Rattle.packages.specs.declared.frame.Frame.{Frame}
use Rattle.walk.specs.Found.{Found, found_in}

-- the corpus c is framed, and s is its script block
pub record Begun (c : List ℕ) (f : Frame) (s : List ℕ) : Type 0 where
  pub bytes : Bytes c
  pub frames : framed_as (framed c) ≡ Ok f
  pub block : s ≡ take (f.«end» - 9) (drop 9 c)

-- its packages are accepted
abbrev pub Packages : List ℕ → Frame → Type 0
Packages c f = AllRead c (f.«end» + 4) f.count

-- what they hold
abbrev pub found_by : ℕ → Objects → List ℕ → Frame → Found
found_by limit o c f = found_in limit o c (f.«end» + 4) f.count

-- the first class whose key stands before it
abbrev pub first_in : ℕ → Objects → List ℕ → Frame → Option Placed
first_in limit o c f = first_repeat [] (placed_from limit o 2 (packages_at c (f.«end» + 4) f.count))
