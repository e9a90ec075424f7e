-- Laws of the search for a pair, in any list of pairs that rises. Assumes nothing.
use Rattle.std.specs.Prelude.{◌≡◌, refl, Bool, true, ◌&&◌, List, [], ◌∷◌, ◌⊎◌, ℕ, zero, suc, ◌+◌, ◌*◌, ◌<◌, ltb, length, get_or}
use Rattle.std.proofs.Common.{inl, inr, arith, lt-ltb, le-ltb, ltb-true}
use Rattle.std.proofs.Math.Bool.{and-eq-true_iff}
use Rattle.std.proofs.Math.Logic.{by_cases}
use Rattle.std.proofs.Math.Decide.{dec_lt}
use Rattle.lower.specs.Lower.{second_of, flat}

-- ---- tests over a whole list

-- the firsts rise, and all are above a
unfoldable pub rising : ℕ → List (ℕ × ℕ) → Bool
rising a [] = true
rising a (p ∷ ps) = ltb a p.0 && rising p.0 ps

-- a test of each pair
unfoldable pub every : (ℕ → ℕ → Bool) → List (ℕ × ℕ) → Bool
every t [] = true
every t (p ∷ ps) = t p.0 p.1 && every t ps

-- what a test says of each pair it says of c and what the search finds for c, unless that is c
pub second-every : (t : ℕ → ℕ → Bool) (ps : List (ℕ × ℕ)) → every t ps ≡ true → (c : ℕ) → (second_of c ps ≡ c) ⊎ (t c (second_of c ps) ≡ true)
unfolding every second_of
second-every t [] e c = inl refl
second-every t (p ∷ ps) e c =
    let both = (and-eq-true_iff (t p.0 p.1) (every t ps)).0 e in
    by_cases (dec_lt c p.0)
    (λ (l : c < p.0). inl (rw (lt-ltb c p.0 l)))
    (λ (l : ¬ (c < p.0)). by_cases (dec_lt p.0 c)
    (λ (g : p.0 < c). rw (le-ltb c p.0 (omega arith), lt-ltb p.0 c g) (second-every t ps both.1 c))
    (λ (g : ¬ (p.0 < c)). let q : p.0 ≡ c = omega arith in inr (rw (le-ltb c p.0 (omega arith), le-ltb p.0 c (omega arith), ← q) both.0)))

-- ---- by place

abbrev pub first_at : List (ℕ × ℕ) → ℕ → ℕ
first_at ps i = (get_or ps i (0, 0)).0

abbrev pub second_at : List (ℕ × ℕ) → ℕ → ℕ
second_at ps i = (get_or ps i (0, 0)).1

pub flat-length : (ps : List (ℕ × ℕ)) → length (flat ps) ≡ 2 * length ps
unfolding flat
flat-length [] = refl
flat-length (p ∷ ps) = let e = flat-length ps in omega arith

twice : (i : ℕ) → 2 * suc i ≡ suc (suc (2 * i))
twice i = omega arith

twice-one : (i : ℕ) → 2 * suc i + 1 ≡ suc (suc (2 * i + 1))
twice-one i = omega arith

first_next : (p : ℕ × ℕ) (ps : List (ℕ × ℕ)) (i : ℕ) → first_at (p ∷ ps) (suc i) ≡ first_at ps i
first_next p ps i = refl

second-next : (p : ℕ × ℕ) (ps : List (ℕ × ℕ)) (i : ℕ) → second_at (p ∷ ps) (suc i) ≡ second_at ps i
second-next p ps i = refl

-- the same by their places in the flat list
pub first-flat : (ps : List (ℕ × ℕ)) (i : ℕ) → get_or (flat ps) (2 * i) 0 ≡ first_at ps i
unfolding flat
first-flat [] i = refl
first-flat (p ∷ ps) zero = refl
first-flat (p ∷ ps) (suc i) = rw (twice i, first_next p ps i) (first-flat ps i)

pub second-flat : (ps : List (ℕ × ℕ)) (i : ℕ) → get_or (flat ps) (2 * i + 1) 0 ≡ second_at ps i
unfolding flat
second-flat [] i = refl
second-flat (p ∷ ps) zero = refl
second-flat (p ∷ ps) (suc i) = rw (twice-one i, second-next p ps i) (second-flat ps i)

-- each first is above what the list is above
pub first_above : (a : ℕ) (ps : List (ℕ × ℕ)) → rising a ps ≡ true → (i : ℕ) → i < length ps → a < first_at ps i
unfolding rising
first_above a [] e i h = absurd (omega arith)
first_above a (p ∷ ps) e zero h = ltb-true a p.0 ((and-eq-true_iff (ltb a p.0) (rising p.0 ps)).0 e).0
first_above a (p ∷ ps) e (suc i) h =
    let both = (and-eq-true_iff (ltb a p.0) (rising p.0 ps)).0 e in
    let r = first_above p.0 ps both.1 i (omega arith) in
    omega (arith, r, ltb-true a p.0 both.0)

-- a later first is greater
pub first-later : (a : ℕ) (ps : List (ℕ × ℕ)) → rising a ps ≡ true → (i j : ℕ) → i < j → j < length ps → first_at ps i < first_at ps j
unfolding rising
first-later a [] e i j l h = absurd (omega arith)
first-later a (p ∷ ps) e i zero l h = absurd (omega arith)
first-later a (p ∷ ps) e zero (suc j) l h =
    first_above p.0 ps ((and-eq-true_iff (ltb a p.0) (rising p.0 ps)).0 e).1 j (omega arith)
first-later a (p ∷ ps) e (suc i) (suc j) l h =
    first-later p.0 ps ((and-eq-true_iff (ltb a p.0) (rising p.0 ps)).0 e).1 i j (omega arith) (omega arith)

-- the first at a place is found there
pub second_at_lem : (a : ℕ) (ps : List (ℕ × ℕ)) → rising a ps ≡ true → (i : ℕ) → i < length ps → second_of (first_at ps i) ps ≡ second_at ps i
unfolding rising second_of
second_at_lem a [] e i h = absurd (omega arith)
second_at_lem a (p ∷ ps) e zero h = rw (le-ltb p.0 p.0 (omega arith))
second_at_lem a (p ∷ ps) e (suc i) h =
    let both = (and-eq-true_iff (ltb a p.0) (rising p.0 ps)).0 e in
    let r = first_above p.0 ps both.1 i (omega arith) in
    rw (le-ltb (first_at ps i) p.0 (omega arith), lt-ltb p.0 (first_at ps i) r)
    (second_at_lem p.0 ps both.1 i (omega arith))

-- below the first at place 0 there is none
pub second_below : (c : ℕ) (ps : List (ℕ × ℕ)) → c < first_at ps 0 → second_of c ps ≡ c
unfolding second_of
second_below c [] h = refl
second_below c (p ∷ ps) h = rw (lt-ltb c p.0 h)

-- between the firsts at two neighbouring places, or behind the last, there is none
pub second-between : (a : ℕ) (ps : List (ℕ × ℕ)) → rising a ps ≡ true → (i c : ℕ) → i < length ps → first_at ps i < c
    → (suc i ≡ length ps) ⊎ (c < first_at ps (suc i)) → second_of c ps ≡ c
unfolding rising second_of
second-between a [] e i c h l n = refl
second-between a (p ∷ []) e zero c h l n = rw (le-ltb c p.0 (omega arith), lt-ltb p.0 c l)
second-between a (p ∷ q ∷ ps) e zero c h l (inl n) = absurd (omega arith)
second-between a (p ∷ q ∷ ps) e zero c h l (inr n) = rw (le-ltb c p.0 (omega arith), lt-ltb p.0 c l, lt-ltb c q.0 n)
second-between a (p ∷ ps) e (suc i) c h l n =
    let both = (and-eq-true_iff (ltb a p.0) (rising p.0 ps)).0 e in
    let r = first_above p.0 ps both.1 i (omega arith) in
    rw (le-ltb c p.0 (omega arith), lt-ltb p.0 c (omega arith)) (second-between p.0 ps both.1 i c (omega arith) l (go n))
  where
    go : (suc (suc i) ≡ suc (length ps)) ⊎ (c < first_at (p ∷ ps) (suc (suc i))) → (suc i ≡ length ps) ⊎ (c < first_at ps (suc i))
    go (inl n) = inl (omega arith)
    go (inr n) = inr n

-- where no pair has it as its first, there is none
pub second_none : (c : ℕ) (ps : List (ℕ × ℕ)) → ((i : ℕ) → i < length ps → ¬ (first_at ps i ≡ c)) → second_of c ps ≡ c
unfolding second_of
second_none c [] n = refl
second_none c (p ∷ ps) n =
    by_cases (dec_lt c p.0)
    (λ (l : c < p.0). rw (lt-ltb c p.0 l))
    (λ (l : ¬ (c < p.0)). by_cases (dec_lt p.0 c)
    (λ (g : p.0 < c). rw (le-ltb c p.0 (omega arith), lt-ltb p.0 c g) (second_none c ps (λ i h. n (suc i) (omega arith))))
    (λ (g : ¬ (p.0 < c)). absurd (n 0 (omega arith) (omega arith))))
