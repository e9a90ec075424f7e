-- The work buffer with the script objects in front, as they are entered and linked. Assumes nothing.
use Rattle.std.specs.Prelude.{Ok}
use mathlib.Core.Path.{◌≡◌, sym, ap}
use mathlib.Core.List.{List, ◌++◌}
use Prim.Native.Nat.{ℕ, ◌*◌, ◌≤◌}
use native.Mathlib.Omega.{arith}
use lib.ListN.{length, take, drop, length-append, length-drop}
use lib.Seq.{take_at, length-take-le}
use Rattle.base.specs.Reading.{gives, run}
use Rattle.scriptblock.specs.Script.{Objects, script}
use Rattle.scriptblock.specs.ScriptAnswers.{script_answer}
use Rattle.scriptblock.proofs.ScriptFacts.{script-facts}
use Rattle.scriptblock.specs.declared.script.Layout.{Layout}
use Rattle.objects.specs.Work.{Entered, ObjectsIn}
use Rattle.walk.specs.Found.{Linked}

-- the part that is lent
pub front_length : (n : ℕ) (w : List ℕ) → 64 * n ≤ length w → length (take (56 * n) w) ≡ 56 * n
front_length n w room = length-take-le (56 * n) w (omega arith)

-- the buffer with another part in its place
swapped-length : (n : ℕ) (w p : List ℕ) → 64 * n ≤ length w → length p ≡ 56 * n → length (p ++ drop (56 * n) w) ≡ length w
swapped-length n w p room e = omega (arith, length-append p (drop (56 * n) w), length-drop (56 * n) w)

-- the objects of an accepted block came back entered, as p, and are to be linked
pub record Filled (s : List ℕ) (l : Layout) (w p : List ℕ) : Type 0 where
  pub room : 64 * l.count ≤ length w
  pub accepted : script_answer (run script 0 s) ≡ Ok l
  pub entered : Entered s l l.count p

module _ {s : List ℕ} {l : Layout} {w p : List ℕ} (z : Filled s l w p) where
  abbrev size : ℕ
  size = 56 * l.count

  pub filled-front : take size (p ++ drop size w) ≡ p
  filled-front = take_at p (drop size w) size z.entered.size

  -- they came back linked, as p'
  module _ {p' : List ℕ} (k : (o : Objects) → run script 0 s ≡ gives o → ObjectsIn s o p') where
    linked-size : length p' ≡ size
    linked-size = let (o, x) = script-facts s l z.accepted in rw x.layout at (k o x.is).all.entered.size

    pub linked-length : length (p' ++ drop size (p ++ drop size w)) ≡ length w
    linked-length =
        let e = swapped-length l.count w p z.room z.entered.size in
        rw (swapped-length l.count (p ++ drop size w) p' (rw e z.room) linked-size) e

    pub linked-after : Linked s l.count (p' ++ drop size (p ++ drop size w))
    linked-after =
        let (o, x) = script-facts s l z.accepted in
        record {
          objects = o;
          count = sym (ap (λ (y : Layout). y.count) x.layout);
          room = rw linked-length z.room;
          holds = rw (take_at p' (drop size (p ++ drop size w)) size linked-size) (k o x.is);
        }
