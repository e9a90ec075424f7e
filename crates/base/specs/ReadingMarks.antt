-- Which bits of each byte count; and whatever agrees there reads the same.
use Rattle.std.specs.Prelude.{◌≡◌, Bool, true, false, leb, get_or}
use Rattle.std.proofs.Math.Path.{refl, ap}
use Rattle.std.proofs.Common.{sym, ◌∙◌, ap₂, arith, leb-true, length-append, take_all, take-take, get_or-take}
use mathlib.Core.List.{List, [], ◌∷◌, ◌++◌}
use Prim.Native.Nat.{ℕ, zero, suc, ◌+◌, ◌-◌, ◌%◌, ◌^◌, ◌≤◌, min}
use Rattle.std.proofs.Math.ListN.{length, take, drop, replicate, length-drop, length-take}
use Rattle.std.proofs.lemmas.List.{length-replicate}
use Rattle.std.proofs.Math.Decide.{dec_le}
use Rattle.base.specs.Never.{never}
use Rattle.base.specs.Choose.{choose}
use Rattle.base.specs.Reading.{refused, Got, bad, got, Reading, give, refuse, bytes, part, pass, left, here, run, walk, Block, from, run_block}
use Rattle.base.specs.NumberLaws.{drop-take}
use Rattle.base.specs.ReadingLaws.{pick-by, bad-got, out, run-walk}

pub data Mark : Type 0 where
  -- every bit counts; only the low k; none
  whole : Mark
  low : ℕ → Mark
  none : Mark

abbrev pub Same : Mark → ℕ → ℕ → Type 0
Same whole x y = x ≡ y
Same (low k) x y = x % 2 ^ k ≡ y % 2 ^ k
Same none x y = Unit {0}

-- two lists of one length, the same wherever a bit counts
abbrev pub Agree : List Mark → List ℕ → List ℕ → Type 0
Agree [] [] [] = Unit {0}
Agree [] [] (y ∷ t) = ⊥
Agree [] (x ∷ s) t = ⊥
Agree (m ∷ ms) [] t = ⊥
Agree (m ∷ ms) (x ∷ s) [] = ⊥
Agree (m ∷ ms) (x ∷ s) (y ∷ t) = Same m x y × Agree ms s t

module _ {A : Type 0} where
  -- what a reading does not reach, behind its end or behind a refusal, does not count
  abbrev pub marks : Reading A → ℕ → List ℕ → List Mark
  marks (give a) at s = replicate (length s) none
  marks (refuse e) at s = replicate (length s) none
  marks (bytes n f) at s = choose (leb n (length s)) (λ _. replicate n whole ++ marks (f (take n s)) (at + n) (drop n s)) (λ _. replicate (length s) none)
  marks (part k f) at [] = []
  marks (part k f) at (x ∷ s) = low k ∷ marks (f (x % 2 ^ k)) (at + 1) s
  marks (pass n p) at s = choose (leb n (length s)) (λ _. replicate n none ++ marks p (at + n) (drop n s)) (λ _. replicate (length s) none)
  marks (left f) at s = marks (f (length s)) at s
  marks (here f) at s = marks (f at) at s

module _ {A : Type 0} where
  abbrev pub marks_from : Block A → List ℕ → Got ℕ → List Mark
  marks_from c b (bad r) = marks c.start 0 b
  marks_from c b (got size at) = replicate at whole ++ (marks (c.rest size) at (drop at (take size b)) ++ replicate (length b - at - (size - at)) none)

  unfoldable pub marks_block : Block A → List ℕ → List Mark
  marks_block c b = marks_from c b (walk c.start b 0)

  -- behind a start that was read: its own bytes count, and those behind the size don't
  pub block-marks : (c : Block A) (b : List ℕ) {size at : ℕ} → walk c.start b 0 ≡ got size at
      → marks_block c b ≡ replicate at whole ++ (marks (c.rest size) at (drop at (take size b)) ++ replicate (length b - at - (size - at)) none)
  unfolding marks_block
  block-marks c b q = rw q

pub agree-length : (ms : List Mark) (s t : List ℕ) → Agree ms s t → length s ≡ length t
agree-length [] [] [] a = refl
agree-length [] [] (y ∷ t) a = absurd a
agree-length [] (x ∷ s) t a = absurd a
agree-length (m ∷ ms) [] t a = absurd a
agree-length (m ∷ ms) (x ∷ s) [] a = absurd a
agree-length (m ∷ ms) (x ∷ s) (y ∷ t) a = ap suc (agree-length ms s t a.1)

agree-whole : (n : ℕ) (ms : List Mark) (s t : List ℕ) → Agree (replicate n whole ++ ms) s t → (take n s ≡ take n t) × Agree ms (drop n s) (drop n t)
agree-whole zero ms s t a = (refl, a)
agree-whole (suc n) ms [] t a = absurd a
agree-whole (suc n) ms (x ∷ s) [] a = absurd a
agree-whole (suc n) ms (x ∷ s) (y ∷ t) a =
    let (e, r) = agree-whole n ms s t a.1 in
    (ap₂ (λ x l. x ∷ l) a.0 e, r)

agree-none : (n : ℕ) (ms : List Mark) (s t : List ℕ) → Agree (replicate n none ++ ms) s t → Agree ms (drop n s) (drop n t)
agree-none zero ms s t a = a
agree-none (suc n) ms [] t a = absurd a
agree-none (suc n) ms (x ∷ s) [] a = absurd a
agree-none (suc n) ms (x ∷ s) (y ∷ t) a = agree-none n ms s t a.1

agree-take : (ms ns : List Mark) (s t : List ℕ) → Agree (ms ++ ns) s t → Agree ms (take (length ms) s) (take (length ms) t)
agree-take [] ns s t a = tt
agree-take (m ∷ ms) ns [] t a = absurd a
agree-take (m ∷ ms) ns (x ∷ s) [] a = absurd a
agree-take (m ∷ ms) ns (x ∷ s) (y ∷ t) a = (a.0, agree-take ms ns s t a.1)

module _ {A : Type 0} where
  -- THE THEOREM, once for every format
  pub agree_same : (p : Reading A) (at : ℕ) (s t : List ℕ) → Agree (marks p at s) s t → run p at t ≡ run p at s
  agree_same (give a) at s t g = refl
  agree_same (refuse e) at s t g = refl
  agree_same (bytes n f) at s t g =
      rw (← agree-length (marks (bytes n f) at s) s t g) (go (leb n (length s)) g (λ a. agree_same (f (take n s)) (at + n) (drop n s) (drop n t) a))
    where
      go : (b : Bool) → Agree (choose b (λ _. replicate n whole ++ marks (f (take n s)) (at + n) (drop n s)) (λ _. replicate (length s) none)) s t
          → (Agree (marks (f (take n s)) (at + n) (drop n s)) (drop n s) (drop n t)
          → run (f (take n s)) (at + n) (drop n t) ≡ run (f (take n s)) (at + n) (drop n s))
          → choose b (λ _. run (f (take n t)) (at + n) (drop n t)) (λ _. refused 3) ≡ choose b (λ _. run (f (take n s)) (at + n) (drop n s)) (λ _. refused 3)
      go true g ih = let (e, r) = agree-whole n (marks (f (take n s)) (at + n) (drop n s)) s t g in rw (← e) (ih r)
      go false g ih = refl
  agree_same (part k f) at [] [] g = refl
  agree_same (part k f) at [] (y ∷ t) g = absurd g
  agree_same (part k f) at (x ∷ s) [] g = absurd g
  agree_same (part k f) at (x ∷ s) (y ∷ t) g = rw (← g.0) (agree_same (f (x % 2 ^ k)) (at + 1) s t g.1)
  agree_same (pass n p) at s t g =
      rw (← agree-length (marks (pass n p) at s) s t g) (go (leb n (length s)) g (λ a. agree_same p (at + n) (drop n s) (drop n t) a))
    where
      go : (b : Bool) → Agree (choose b (λ _. replicate n none ++ marks p (at + n) (drop n s)) (λ _. replicate (length s) none)) s t
          → (Agree (marks p (at + n) (drop n s)) (drop n s) (drop n t) → run p (at + n) (drop n t) ≡ run p (at + n) (drop n s))
          → choose b (λ _. run p (at + n) (drop n t)) (λ _. refused 3) ≡ choose b (λ _. run p (at + n) (drop n s)) (λ _. refused 3)
      go true g ih = ih (agree-none n (marks p (at + n) (drop n s)) s t g)
      go false g ih = refl
  agree_same (left f) at s t g = rw (← agree-length (marks (f (length s)) at s) s t g) (agree_same (f (length s)) at s t g)
  agree_same (here f) at s t g = agree_same (f at) at s t g

  pub marks-length : (p : Reading A) (at : ℕ) (s : List ℕ) → length (marks p at s) ≡ length s
  marks-length (give a) at s = length-replicate (length s) none
  marks-length (refuse e) at s = length-replicate (length s) none
  marks-length (bytes n f) at s = go (leb n (length s)) refl (marks-length (f (take n s)) (at + n) (drop n s))
    where
      go : (b : Bool) → leb n (length s) ≡ b → length (marks (f (take n s)) (at + n) (drop n s)) ≡ length (drop n s)
          → length (choose b (λ _. replicate n whole ++ marks (f (take n s)) (at + n) (drop n s)) (λ _. replicate (length s) none)) ≡ length s
      go true e ih =
          let l = leb-true n (length s) e in
          rw (length-append (replicate n whole) (marks (f (take n s)) (at + n) (drop n s)), length-replicate n whole, ih, length-drop n s) (omega arith)
      go false e ih = length-replicate (length s) none
  marks-length (part k f) at [] = refl
  marks-length (part k f) at (x ∷ s) = ap suc (marks-length (f (x % 2 ^ k)) (at + 1) s)
  marks-length (pass n p) at s = go (leb n (length s)) refl (marks-length p (at + n) (drop n s))
    where
      go : (b : Bool) → leb n (length s) ≡ b → length (marks p (at + n) (drop n s)) ≡ length (drop n s)
          → length (choose b (λ _. replicate n none ++ marks p (at + n) (drop n s)) (λ _. replicate (length s) none)) ≡ length s
      go true e ih =
          let l = leb-true n (length s) e in
          rw (length-append (replicate n none) (marks p (at + n) (drop n s)), length-replicate n none, ih, length-drop n s) (omega arith)
      go false e ih = length-replicate (length s) none
  marks-length (left f) at s = marks-length (f (length s)) at s
  marks-length (here f) at s = marks-length (f at) at s

  walk_mono : (p : Reading A) (s : List ℕ) (at : ℕ) {a : A} {m : ℕ} → walk p s at ≡ got a m → at ≤ m
  walk_mono (give b) s at {a} {m} q = let z : at ≡ m = cc in omega arith
  walk_mono (refuse e) s at q = bad-got q
  walk_mono (bytes n f) s at {a} {m} q =
      pick-by (leb (at + n) (length s)) (walk (f (take n (drop at s))) s (at + n)) 3 q λ l r.
      let z = walk_mono (f (take n (drop at s))) s (at + n) r in omega arith
  walk_mono (part k f) s at {a} {m} q =
      pick-by (leb (at + 1) (length s)) (walk (f (get_or s at 0 % 2 ^ k)) s (at + 1)) 3 q λ l r.
      let z = walk_mono (f (get_or s at 0 % 2 ^ k)) s (at + 1) r in omega arith
  walk_mono (pass n p) s at {a} {m} q = pick-by (leb (at + n) (length s)) (walk p s (at + n)) 3 q λ l r. let z = walk_mono p s (at + n) r in omega arith
  walk_mono (left f) s at q = walk_mono (f (length s - at)) s at q
  walk_mono (here f) s at q = walk_mono (f at) s at q

-- a part of what is the same is the same
part_same : (at n m : ℕ) (s t : List ℕ) → at + n ≤ m → take m s ≡ take m t → take n (drop at t) ≡ take n (drop at s)
part_same at n m s t h e =
    let a : take n (drop at (take m s)) ≡ take n (drop at s) = rw (drop-take at m s) (take-take n (m - at) (drop at s) (omega arith)) in
    let b : take n (drop at (take m t)) ≡ take n (drop at t) = rw (drop-take at m t) (take-take n (m - at) (drop at t) (omega arith)) in
    sym b ∙ (rw (← e) refl ∙ a)

byte-same : (at m : ℕ) (s t : List ℕ) → at + 1 ≤ m → take m s ≡ take m t → get_or t at 0 ≡ get_or s at 0
byte-same at m s t h e = sym (get_or-take m t at 0 (omega arith)) ∙ (rw (← e) refl ∙ get_or-take m s at 0 (omega arith))

module _ {A : Type 0} where
  -- only the bytes up to where a reading stands count
  walk-front : (p : Reading A) (s t : List ℕ) (at : ℕ) {a : A} {m : ℕ} → length s ≡ length t → take m s ≡ take m t → walk p s at ≡ got a m
      → walk p t at ≡ got a m
  walk-front (give b) s t at l e q = q
  walk-front (refuse r) s t at l e q = q
  walk-front (bytes n f) s t at {a} {m} l e q =
      pick-by (leb (at + n) (length s)) (walk (f (take n (drop at s))) s (at + n)) 3 q λ h r.
      let o = walk_mono (f (take n (drop at s))) s (at + n) r in
      rw (← l, h, part_same at n m s t o e) (walk-front (f (take n (drop at s))) s t (at + n) l e r)
  walk-front (part k f) s t at {a} {m} l e q =
      pick-by (leb (at + 1) (length s)) (walk (f (get_or s at 0 % 2 ^ k)) s (at + 1)) 3 q λ h r.
      let o = walk_mono (f (get_or s at 0 % 2 ^ k)) s (at + 1) r in
      rw (← l, h, byte-same at m s t o e) (walk-front (f (get_or s at 0 % 2 ^ k)) s t (at + 1) l e r)
  walk-front (pass n p) s t at l e q =
      pick-by (leb (at + n) (length s)) (walk p s (at + n)) 3 q λ h r.
      rw (← l, h) (walk-front p s t (at + n) l e r)
  walk-front (left f) s t at l e q = rw (← l) (walk-front (f (length s - at)) s t at l e q)
  walk-front (here f) s t at l e q = walk-front (f at) s t at l e q

take_min : (n : ℕ) (l : List ℕ) → take (min n (length l)) l ≡ take n l
take_min n l = go (dec_le n (length l))
  where
    go : Dec (n ≤ length l) → take (min n (length l)) l ≡ take n l
    go (yes h) = let e : min n (length l) ≡ n = omega arith in rw e
    go (no h) = let e : min n (length l) ≡ length l = omega arith in rw e (take_all (length l) l (omega arith) ∙ sym (take_all n l (omega arith)))

module _ {A : Type 0} where
  -- a block whose start is refused
  from-bad : (k : ℕ → Reading A) (t : List ℕ) (w : Got ℕ) {r : ℕ} → out w ≡ refused r → from k t w ≡ refused r
  from-bad k t (bad e) {r} q = let z : e ≡ r = cc in rw z
  from-bad k t (got a n) q = never (cc)

module _ {A : Type 0} (c : Block A) (s t : List ℕ) where
  -- THE THEOREM for a block whose start says how much of it counts
  pub block_same : Agree (marks_block c s) s t → run_block c t ≡ run_block c s
  unfolding marks_block run_block
  block_same g = go (walk c.start s 0) refl g
    where
      go : (w : Got ℕ) → walk c.start s 0 ≡ w → Agree (marks_from c s w) s t → from c.rest t (walk c.start t 0) ≡ from c.rest s (walk c.start s 0)
      go (bad r) e a =
          let h : (t : List ℕ) → run c.start 0 t ≡ out (walk c.start t 0) = λ t. run-walk c.start t 0 (omega arith) in
          rw e (from-bad c.rest t (walk c.start t 0) (sym (h t) ∙ (agree_same c.start 0 s t a ∙ (h s ∙ ap out e))))
      go (got size at) e a =
          let l : length s ≡ length t = agree-length (marks_from c s (got size at)) s t a in
          let p = marks (c.rest size) at (drop at (take size s)) in
          let (u, v) = agree-whole at (p ++ replicate (length s - at - (size - at)) none) s t a in
          let w = agree-take p (replicate (length s - at - (size - at)) none) (drop at s) (drop at t) v in
          let n : length p ≡ min (size - at) (length s - at) =
          marks-length (c.rest size) at (drop at (take size s)) ∙ rw (drop-take at size s, length-take (size - at) (drop at s), length-drop at s) in
          let x : take (length p) (drop at s) ≡ drop at (take size s) =
          rw (n, ← length-drop at s, take_min (size - at) (drop at s)) (sym (drop-take at size s)) in
          let y : take (length p) (drop at t) ≡ drop at (take size t) =
          rw (n, l, ← length-drop at t, take_min (size - at) (drop at t)) (sym (drop-take at size t)) in
          rw (e, walk-front c.start s t 0 l u e) (agree_same (c.rest size) at (drop at (take size s)) (drop at (take size t)) (rw (x, y) at w))
