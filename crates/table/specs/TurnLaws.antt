-- Laws of turns: what is left of a key, and that 128 turns tell two keys apart. Assumes nothing.
use Rattle.std.specs.Prelude.{◌≡◌, refl, cond, ◌⊎◌, ℕ, zero, suc, ◌+◌, ◌-◌, ◌*◌, ◌/◌, ◌%◌, ◌^◌, ◌≤◌, ◌<◌, eqb, ltb}
use Rattle.std.proofs.Common.{sym, ◌∙◌, inl, inr, pow-suc, div-one, mul_comm, mod-lt, zero-lt-suc, add-one, arith, lt-ltb, le-ltb, eq-eqb, ne_eqb}
use Rattle.std.proofs.Math.Logic.{by_cases}
use Rattle.std.proofs.Math.Nat.{div-div-eq-div-mul}
use Rattle.std.proofs.Math.Decide.{ℕ_discrete}
use Rattle.base.specs.Choose.{lt_or_le}
use Rattle.table.specs.Tree.{halved, rest, next_rest, turn, Agree}

pub rest-first : (a b : ℕ) → rest 0 a b ≡ b
unfolding rest halved
rest-first a b = refl

pub rest-next : (d a b : ℕ) → next_rest (rest d a b) (d + 1) a ≡ rest (d + 1) a b
unfolding rest halved next_rest
rest-next d a b = go (lt_or_le d 63) (lt_or_le d 64)
  where
    go : (d < 63) ⊎ (63 ≤ d) → (d < 64) ⊎ (64 ≤ d) → cond (eqb (d + 1) 64) a (cond (ltb d 64) (halved d b) (halved (d - 64) a) / 2)
        ≡ cond (ltb (d + 1) 64) (halved (d + 1) b) (halved (d + 1 - 64) a)
    go (inl h) _ = rw (ne_eqb (d + 1) 64 (λ e. omega arith), lt-ltb d 64 (omega arith), lt-ltb (d + 1) 64 (omega arith), add-one d)
    go (inr h) (inl k) =
        let e : d + 1 ≡ 64 = omega arith in
        let z : d + 1 - 64 ≡ 0 = omega arith in
        rw (eq-eqb (d + 1) 64 e, le-ltb (d + 1) 64 (omega arith), z)
    go (inr h) (inr k) =
        let s : d + 1 - 64 ≡ suc (d - 64) = omega arith in
        rw (ne_eqb (d + 1) 64 (λ e. omega arith), le-ltb d 64 k, le-ltb (d + 1) 64 (omega arith), s)

pub turn_is : (d a b : ℕ) → rest d a b % 2 ≡ turn d a b
unfolding turn
turn_is d a b = refl

pub turn-lt : (d a b : ℕ) → turn d a b < 2
unfolding turn
turn-lt d a b = mod-lt _ (zero-lt-suc 1)

pub agree-none : (a b x y : ℕ) → Agree 0 a b x y
agree-none a b x y = record { same = λ e h. absurd (omega arith) }

-- two keys that agree with a third and then turn to the same side
pub agree-join : (d a b x y p q : ℕ) → Agree d a b x y → Agree d a b p q → turn d x y ≡ turn d p q → Agree (d + 1) x y p q
agree-join d a b x y p q f g h =
    record {
      same = λ e l. by_cases (ℕ_discrete e d) (λ (s : e ≡ d). rw s h) (λ (s : ¬ (e ≡ d)). sym (f.same e (omega arith)) ∙ g.same e (omega arith));
    }

halves : (u v : ℕ) → u / 2 ≡ v / 2 → u % 2 ≡ v % 2 → u ≡ v
halves u v e f = omega arith

-- numbers with the same bits and the same rest are the same
halved-same : (d u v : ℕ) → ((e : ℕ) → e < d → halved e u % 2 ≡ halved e v % 2) → halved d u ≡ halved d v → u ≡ v
unfolding halved
halved-same zero u v f p = p
halved-same (suc d) u v f p = halved-same d u v (λ e l. f e (omega arith)) (halves (halved d u) (halved d v) p (f d (omega arith)))

half_lt : (u m : ℕ) → u < 2 ^ suc m → u / 2 < 2 ^ m
half_lt u m h = let g : u < 2 ^ m * 2 = rw pow-suc at h in omega arith

halved-lt : (i j u : ℕ) → u < 2 ^ (i + j) → halved i u < 2 ^ j
unfolding halved
halved-lt zero j u f = let s : 0 + j ≡ j = omega arith in rw s at f
halved-lt (suc i) j u f =
    let s : i + suc j ≡ suc i + j = omega arith in
    half_lt (halved i u) j (halved-lt i (suc j) u (rw s f))

-- 64 bits tell two numbers apart
apart : (u v : ℕ) → u < 2 ^ 64 → v < 2 ^ 64 → ((e : ℕ) → e < 64 → halved e u % 2 ≡ halved e v % 2) → u ≡ v
apart u v lu lv f = halved-same 64 u v f (omega (arith, halved-lt 64 0 u lu, halved-lt 64 0 v lv))

-- the turns are the bits of the second half, then those of the first
turn-second : (e a b : ℕ) → e < 64 → turn e a b ≡ halved e b % 2
unfolding turn rest
turn-second e a b h = rw (lt-ltb e 64 h)

turn-first : (e a b : ℕ) → turn (64 + e) a b ≡ halved e a % 2
unfolding turn rest
turn-first e a b =
    let s : 64 + e - 64 ≡ e = omega arith in
    rw (le-ltb (64 + e) 64 (omega arith), s)

-- by shifts
halved_lem : (d u : ℕ) → halved d u ≡ u / 2 ^ d
unfolding halved
halved_lem zero u = sym (div-one u)
halved_lem (suc d) u = rw (halved_lem d u, div-div-eq-div-mul u (2 ^ d) 2, pow-suc 2 d, mul_comm (2 ^ d) 2)

pub turn_low : (d a b : ℕ) → d < 64 → turn d a b ≡ b / 2 ^ d % 2
turn_low d a b h = turn-second d a b h ∙ rw (halved_lem d b)

pub turn_high : (d a b : ℕ) → 64 ≤ d → turn d a b ≡ a / 2 ^ (d - 64) % 2
unfolding turn rest
turn_high d a b h = rw (le-ltb d 64 h, halved_lem (d - 64) a)

-- 128 turns tell two keys apart
pub agree-all : (d a b x y : ℕ) → 128 ≤ d → a < 2 ^ 64 → b < 2 ^ 64 → x < 2 ^ 64 → y < 2 ^ 64 → Agree d a b x y → (a ≡ x) × (b ≡ y)
agree-all d a b x y h la lb lx ly f = (
  apart a x la lx (λ e l. sym (turn-first e a b) ∙ (f.same (64 + e) (omega arith) ∙ turn-first e x y)),
  apart b y lb ly (λ e l. sym (turn-second e a b l) ∙ (f.same e (omega arith) ∙ turn-second e x y l)),
)
