-- Laws of lowering below U+0180, each range by one computed test: ASCII, Latin-1, Latin Extended-A. Assumes nothing.
use Rattle.std.specs.Prelude.{◌≡◌, refl, true, ◌&&◌, ℕ, ◌+◌, ◌%◌, ◌≤◌, ◌<◌}
use Rattle.std.proofs.Math.Bool.{and-eq-true_iff}
use Rattle.std.proofs.Math.Logic.{by_cases}
use Rattle.std.proofs.Math.Decide.{dec_lt}
use Rattle.std.proofs.Common.{arith}
use Rattle.lower.specs.Ascii.{lower_ascii}
use Rattle.lower.specs.Lower.{lower}
use Rattle.rules.specs.QuickLaws.{agree, agree_at, add, odd, even}

-- below U+00C0 only A to Z are lowered
ascii-range : agree lower lower_ascii 0 0xC0 ≡ true
unfolding agree lower lower_ascii
ascii-range = refl

pub lower_ascii_lem : (c : ℕ) → c < 0xC0 → lower c ≡ lower_ascii c
lower_ascii_lem c h = agree_at lower lower_ascii 0 0xC0 ascii-range c (omega arith) h

-- ---- the rest of Latin-1: two runs of capitals about the multiplication sign, then what stays
letters_range : (agree lower (add 32) 0xC0 23 && agree lower (add 32) 0xD8 7) ≡ true
unfolding agree lower
letters_range = refl

pub lower_letter : (c : ℕ) → 0xC0 ≤ c → c < 0xDF → ¬ (c ≡ 0xD7) → lower c ≡ c + 32
lower_letter c a b n =
    let both = (and-eq-true_iff (agree lower (add 32) 0xC0 23) (agree lower (add 32) 0xD8 7)).0 letters_range in
    by_cases (dec_lt c 0xD7)
    (λ (l : c < 0xD7). agree_at lower (add 32) 0xC0 23 both.0 c a (omega arith))
    (λ (l : ¬ (c < 0xD7)). agree_at lower (add 32) 0xD8 7 both.1 c (omega arith) (omega arith))

pub times_stays : lower 0xD7 ≡ 0xD7
unfolding lower
times_stays = refl

small-range : agree lower (λ c. c) 0xDF 33 ≡ true
unfolding agree lower
small-range = refl

pub lower-small : (c : ℕ) → 0xDF ≤ c → c < 0x100 → lower c ≡ c
lower-small c a b = agree_at lower (λ c. c) 0xDF 33 small-range c a b

-- ---- Latin Extended-A: capitals and small letters by turns

first_range : (agree lower odd 0x100 48 && agree lower odd 0x131 7) ≡ true
unfolding agree lower
first_range = refl

pub lower-first : (c : ℕ) → 0x100 ≤ c → c < 0x138 → ¬ (c ≡ 0x130) → lower c ≡ c + (c + 1) % 2
lower-first c a b n =
    let both = (and-eq-true_iff (agree lower odd 0x100 48) (agree lower odd 0x131 7)).0 first_range in
    by_cases (dec_lt c 0x130)
    (λ (l : c < 0x130). agree_at lower odd 0x100 48 both.0 c a (omega arith))
    (λ (l : ¬ (c < 0x130)). agree_at lower odd 0x131 7 both.1 c (omega arith) (omega arith))

second_range : agree lower even 0x138 17 ≡ true
unfolding agree lower
second_range = refl

pub lower-second : (c : ℕ) → 0x138 ≤ c → c < 0x149 → lower c ≡ c + c % 2
lower-second c a b = agree_at lower even 0x138 17 second_range c a b

third-range : agree lower odd 0x149 47 ≡ true
unfolding agree lower
third-range = refl

pub lower-third : (c : ℕ) → 0x149 ≤ c → c < 0x178 → lower c ≡ c + (c + 1) % 2
lower-third c a b = agree_at lower odd 0x149 47 third-range c a b

-- Y with diaeresis, whose small letter is Latin-1's
pub diaeresis : lower 0x178 ≡ 0xFF
unfolding lower
diaeresis = refl

last-range : agree lower even 0x179 6 ≡ true
unfolding agree lower
last-range = refl

pub lower_last : (c : ℕ) → 0x179 ≤ c → c < 0x17F → lower c ≡ c + c % 2
lower_last c a b = agree_at lower even 0x179 6 last-range c a b

-- the long s stays
pub long_stays : lower 0x17F ≡ 0x17F
unfolding lower
long_stays = refl
