-- Laws of lowering by scripts: each is right by one computed test over its ranges. Assumes nothing.
use Rattle.std.specs.Prelude.{◌≡◌, refl, Bool, true, false, cond, ◌&&◌, List, [], ◌∷◌, ◌⊎◌, ℕ, ◌+◌, ◌-◌, ◌≤◌, ◌<◌, leb, ltb}
use Rattle.std.proofs.Math.Bool.{and-eq-true_iff}
use Rattle.std.proofs.Common.{inl, inr, arith, leb-true, ltb-true}
use Rattle.std.proofs.Math.Logic.{by_cases}
use Rattle.std.proofs.Math.Decide.{dec_lt}
use Rattle.lower.specs.Ascii.{lower_ascii}
use Rattle.lower.specs.Lower.{lower}
use Rattle.rules.specs.Quick.{among}
use Rattle.lower.proofs.LowerLaws.{or_cases}
use Rattle.rules.specs.QuickLaws.{agree, agree_at}
use Rattle.rules.specs.Caseless.{caseless}
use Rattle.rules.specs.CaselessLaws.{caseless-lower}
use Rattle.rules.specs.Scripts.{
  latins,
  latin_capitals,
  latin_pairs,
  latin_odds,
  latin_turn,
  is_latin,
  lower_latin,
  greeks,
  greek_capitals,
  greek_steps,
  step_in,
  is_greek,
  lower_greek,
  LowersBy,
}

-- ---- a test over some ranges

-- whether all of some ranges end below m, or there
unfoldable below : ℕ → List (ℕ × ℕ) → Bool
below m [] = true
below m (r ∷ rs) = leb r.1 m && below m rs

among_below : (m : ℕ) (rs : List (ℕ × ℕ)) → below m rs ≡ true → (c : ℕ) → among rs c ≡ true → c < m
unfolding below among
among_below m [] e c h = absurd (let z : ◌≡◌ {A = ℕ} 0 1 = cc in omega arith)
among_below m (r ∷ rs) e c h =
    let both = (and-eq-true_iff (leb r.1 m) (below m rs)).0 e in
    go (leb-true r.1 m both.0) (λ k. among_below m rs both.1 c k) (or_cases (leb r.0 c && ltb c r.1) (among rs c) h)
  where
    go : r.1 ≤ m → (among rs c ≡ true → c < m) → ((leb r.0 c && ltb c r.1) ≡ true) ⊎ (among rs c ≡ true) → c < m
    go l i (inl k) = omega (arith, ltb-true c r.1 ((and-eq-true_iff (leb r.0 c) (ltb c r.1)).0 k).1)
    go l i (inr k) = i k

-- whether g is f on some ranges
unfoldable agrees : (ℕ → ℕ) → (ℕ → ℕ) → List (ℕ × ℕ) → Bool
unfolding agree
agrees g f [] = true
agrees g f (r ∷ rs) = agree g f r.0 (r.1 - r.0) && agrees g f rs

among-agree : (g f : ℕ → ℕ) (rs : List (ℕ × ℕ)) → agrees g f rs ≡ true → (c : ℕ) → among rs c ≡ true → g c ≡ f c
unfolding agrees among
among-agree g f [] e c h = absurd (let z : ◌≡◌ {A = ℕ} 0 1 = cc in omega arith)
among-agree g f (r ∷ rs) e c h =
    let both = (and-eq-true_iff (agree g f r.0 (r.1 - r.0)) (agrees g f rs)).0 e in
    go both.0 (λ k. among-agree g f rs both.1 c k) (or_cases (leb r.0 c && ltb c r.1) (among rs c) h)
  where
    go : agree g f r.0 (r.1 - r.0) ≡ true → (among rs c ≡ true → g c ≡ f c) → ((leb r.0 c && ltb c r.1) ≡ true) ⊎ (among rs c ≡ true) → g c ≡ f c
    go a i (inl k) =
        let w = (and-eq-true_iff (leb r.0 c) (ltb c r.1)).0 k in
        let l = leb-true r.0 c w.0 in
        let h = ltb-true c r.1 w.1 in
        agree_at g f r.0 (r.1 - r.0) a c l (omega arith)
    go a i (inr k) = i k

-- ---- a unit stays one

-- a step of u: at most m, and none from U+2000 on
abbrev Step : ℕ → ℕ → ℕ → Type 0
Step m u n = (n ≤ m) × (0x2000 ≤ u → n ≡ 0)

one-step : (t : Bool) (d u : ℕ) → (t ≡ true → u < 0x2000) → Step d u (cond t d 0)
one-step true d u a = (omega arith, λ h. absurd (omega (arith, a refl)))
one-step false d u a = (omega arith, λ h. refl)

two_steps : {m k u n l : ℕ} → Step m u n → Step k u l → Step (m + k) u (n + l)
two_steps a b = (omega arith, λ h. omega (arith, a.1 h, b.1 h))

step-unit : {m u n : ℕ} → Step m u n → m ≤ 0x1000 → u < 65536 → u + n < 65536
step-unit {m} {u} {n} a k h =
    by_cases (dec_lt u 0x2000) (λ (l : u < 0x2000). omega arith) (λ (l : ¬ (u < 0x2000)). omega (arith, a.1 (omega arith)))

-- the steps of some ranges together, and whether all of these end below U+2000, or there
unfoldable total : List (ℕ × ℕ × ℕ) → ℕ
total [] = 0
total (r ∷ rs) = r.2 + total rs

unfoldable low : List (ℕ × ℕ × ℕ) → Bool
low [] = true
low (r ∷ rs) = leb r.1 0x2000 && low rs

steps : (rs : List (ℕ × ℕ × ℕ)) → low rs ≡ true → (u : ℕ) → Step (total rs) u (step_in rs u)
unfolding step_in total low
steps [] e u = (omega arith, λ h. refl)
steps (r ∷ rs) e u =
    let both = (and-eq-true_iff (leb r.1 0x2000) (low rs)).0 e in
    let l = leb-true r.1 0x2000 both.0 in
    two_steps (one-step (leb r.0 u && ltb u r.1) r.2 u (λ k. omega (arith, ltb-true u r.1 ((and-eq-true_iff (leb r.0 u) (ltb u r.1)).0 k).1)))
    (steps rs both.1 u)

pub turn_bit : (u : ℕ) → latin_turn u < 2
unfolding latin_turn
turn_bit u = omega arith

pub latin-unit : (u : ℕ) → u < 65536 → lower_latin u < 65536
unfolding lower_latin below latin_capitals latin_pairs
latin-unit u h =
    step-unit
    (two_steps (one-step (among latin_capitals u) 32 u (among_below 0x2000 latin_capitals refl u))
    (one-step (among latin_pairs u) (latin_turn u) u (among_below 0x2000 latin_pairs refl u))) (omega (arith, turn_bit u)) h

pub greek_unit : (u : ℕ) → u < 65536 → lower_greek u < 65536
unfolding lower_greek below greek_capitals greek_steps total low
greek_unit u h =
    step-unit (two_steps (one-step (among greek_capitals u) 32 u (among_below 0x2000 greek_capitals refl u)) (steps greek_steps refl u)) (omega arith) h

-- ---- each is right

pub caseless-script : LowersBy caseless lower_ascii
unfolding lower_ascii
caseless-script = record { none = refl; right = caseless-lower }

latin-agrees : agrees lower lower_latin latins ≡ true
unfolding agrees agree lower lower_latin latin_capitals latin_pairs latin_odds latin_turn among latins
latin-agrees = refl

pub latin-script : LowersBy is_latin lower_latin
unfolding is_latin lower_latin latin_capitals latin_pairs latin_odds latin_turn among below latins
latin-script = record {
  none = refl;
  right = λ u e. (among-agree lower lower_latin latins latin-agrees u e, among_below 0xD800 latins refl u e);
}

greek_agrees : agrees lower lower_greek greeks ≡ true
unfolding agrees agree lower lower_greek greek_capitals step_in greek_steps among greeks
greek_agrees = refl

pub greek_script : LowersBy is_greek lower_greek
unfolding is_greek lower_greek greek_capitals step_in greek_steps among below greeks
greek_script = record {
  none = refl;
  right = λ u e. (among-agree lower lower_greek greeks greek_agrees u e, among_below 0xD800 greeks refl u e);
}
