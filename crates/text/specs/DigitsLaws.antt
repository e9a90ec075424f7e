-- Laws of decimal and hexadecimal digits. Assumes nothing.
use Rattle.std.specs.Prelude.{◌≡◌, refl, Bool, true, false, cond, ◌&&◌, List, [], ◌∷◌, ◌++◌, ℕ, zero, suc, ◌+◌, ◌*◌, ◌-◌, ◌/◌, ◌%◌, ◌^◌, ◌≤◌, ◌<◌, leb, ltb, length}
use Rattle.std.proofs.Common.{ap, sym, ◌∙◌, sub-one, arith, lt-ltb, le-ltb, le-leb, ltb-true, ltb-false, length-append}
use Rattle.std.proofs.Math.Bool.{and-eq-true_iff}
use Rattle.std.proofs.Math.Nat.{pow-succ', one-le-pow}
use Rattle.text.specs.Affix.{all_ascii}
use Rattle.text.specs.Digits.{digits, decimal, hex_digit, hex}

-- the bound on the number of digits does not matter where it is large enough
same_rest : (b : Bool) (f g n : ℕ) → ltb n 10 ≡ b → (10 ≤ n → digits f (n / 10) ≡ digits g (n / 10))
    → cond b ((48 + n) ∷ []) (digits f (n / 10) ++ (48 + n % 10) ∷ []) ≡ cond b ((48 + n) ∷ []) (digits g (n / 10) ++ (48 + n % 10) ∷ [])
same_rest true f g n e h = refl
same_rest false f g n e h = rw (h (ltb-false n 10 e))

digits_any : (f n : ℕ) → n < 10 ^ suc f → digits (suc f) n ≡ digits (suc (suc f)) n
unfolding digits
digits_any zero n h =
    let l : n < 10 = h in
    rw (lt-ltb _ _ l)
digits_any (suc f) n h = same_rest (ltb n 10) (suc f) (suc (suc f)) n refl (λ k. digits_any f (n / 10) (omega (arith, pow-succ' 10 (suc f))))

digits_more : (f n : ℕ) → 10 ≤ n → digits (suc f) n ≡ digits f (n / 10) ++ (48 + n % 10) ∷ []
unfolding digits
digits_more f n h = rw (le-ltb _ _ h)

-- a number's digits: those of its tenth, and the last one
pub decimal-last : {n : ℕ} → n < 10 → decimal n ≡ (48 + n) ∷ []
unfolding decimal digits
decimal-last h = rw (lt-ltb _ _ h)

pub decimal-more : (n : ℕ) → 10 ≤ n → n < 2 ^ 64 → decimal (n / 10) ++ (48 + n % 10) ∷ [] ≡ decimal n
unfolding decimal
decimal-more n h l =
    let m : n / 10 < 10 ^ 19 = omega arith in
    rw (digits_more 19 n h, digits_any 18 (n / 10) m)

pub decimal-length : (n : ℕ) → 10 ≤ n → n < 2 ^ 64 → length (decimal n) ≡ length (decimal (n / 10)) + 1
decimal-length n h l = rw (← decimal-more n h l) (simp length-append)

-- k + 1 digits from 10 ^ k on
pub decimal-size : (k n : ℕ) → n < 2 ^ 64 → 10 ^ k ≤ n → n < 10 * 10 ^ k → length (decimal n) ≡ k + 1
decimal-size zero n l h m = let o : n < 10 = omega arith in rw (decimal-last o)
decimal-size (suc k) n l h m =
    let p : 10 ^ suc k ≡ 10 * 10 ^ k = pow-succ' 10 k in
    let q : 0 < 10 ^ k = one-le-pow k 10 (omega arith) in
    let o : 10 ≤ n = omega arith in
    decimal-length n o l ∙ omega (arith, decimal-size k (n / 10) (omega arith) (omega arith) (omega arith))

-- two digits at a time
pub decimal-two : (n : ℕ) → 10 ≤ n → n < 100 → decimal n ≡ (48 + n / 10) ∷ (48 + n % 10) ∷ []
decimal-two n h l = let m : n / 10 < 10 = omega arith in rw (← decimal-more n h (omega arith), decimal-last m)

pub decimal-pair : (n : ℕ) → 100 ≤ n → n < 2 ^ 64 → (decimal (n / 100) ++ (48 + n / 10 % 10) ∷ []) ++ (48 + n % 10) ∷ [] ≡ decimal n
decimal-pair n h l =
    let e : n / 100 ≡ n / 10 / 10 = omega arith in
    rw (e, decimal-more (n / 10) (omega arith) (omega arith)) (decimal-more n (omega arith) l)

pub decimal-length-pair : (n : ℕ) → 100 ≤ n → n < 2 ^ 64 → length (decimal n) ≡ length (decimal (n / 100)) + 2
decimal-length-pair n h l = rw (← decimal-pair n h l) (simp length-append (omega arith))

-- a number has at most 20 digits, and at most k + 1 where it is below 10 ^ (k + 1)
digits-short : (f n : ℕ) → length (digits f n) ≤ f
unfolding digits
digits-short zero n = omega arith
digits-short (suc f) n = go (ltb n 10) (digits-short f (n / 10))
  where
    go : (b : Bool) → length (digits f (n / 10)) ≤ f → length (cond b ((48 + n) ∷ []) (digits f (n / 10) ++ (48 + n % 10) ∷ [])) ≤ suc f
    go true h = omega arith
    go false h = simp length-append (omega arith)

pub decimal-short : (n : ℕ) → length (decimal n) ≤ 20
unfolding decimal
decimal-short n = digits-short 20 n

digits-fit : (f k n : ℕ) → n < 10 ^ suc k → length (digits f n) ≤ suc k
unfolding digits
digits-fit zero k n h = omega arith
digits-fit (suc f) k n h = go (ltb n 10) k h refl (digits-fit f)
  where
    go : (b : Bool) (k : ℕ) → n < 10 ^ suc k → ltb n 10 ≡ b → ((k m : ℕ) → m < 10 ^ suc k → length (digits f m) ≤ suc k)
        → length (cond b ((48 + n) ∷ []) (digits f (n / 10) ++ (48 + n % 10) ∷ [])) ≤ suc k
    go true k h e ih = omega arith
    go false zero h e ih = absurd (let l : n < 10 = h in omega (arith, ltb-false n 10 e))
    go false (suc k) h e ih = simp length-append (omega (arith, ih k (n / 10) (omega (arith, pow-succ' 10 (suc k)))))

pub decimal-fits : (k n : ℕ) → n < 10 ^ suc k → length (decimal n) ≤ suc k
unfolding decimal
decimal-fits k n h = digits-fit 20 k n h

-- digits are ASCII
pub ascii_append : (s t : List ℕ) → all_ascii s ≡ true → all_ascii t ≡ true → all_ascii (s ++ t) ≡ true
ascii_append [] t e f = f
ascii_append (c ∷ s) t e f =
    let p = (and-eq-true_iff (ltb c 128) (all_ascii s)).0 e in
    rw p.0 (ascii_append s t p.1 f)

pub ascii-one : (c : ℕ) → c < 128 → all_ascii (c ∷ []) ≡ true
ascii-one c h = rw (lt-ltb _ _ h)

digits-ascii : (f n : ℕ) → all_ascii (digits f n) ≡ true
unfolding digits
digits-ascii zero n = refl
digits-ascii (suc f) n = go (ltb n 10) refl (digits-ascii f (n / 10))
  where
    go : (b : Bool) → ltb n 10 ≡ b → all_ascii (digits f (n / 10)) ≡ true → all_ascii (cond b ((48 + n) ∷ []) (digits f (n / 10) ++ (48 + n % 10) ∷ [])) ≡ true
    go true e h = ascii-one (48 + n) (omega (arith, ltb-true n 10 e))
    go false e h = ascii_append (digits f (n / 10)) ((48 + n % 10) ∷ []) h (ascii-one (48 + n % 10) (omega arith))

pub decimal-ascii : (n : ℕ) → all_ascii (decimal n) ≡ true
unfolding decimal
decimal-ascii n = digits-ascii 20 n

-- a decimal digit
abbrev pub is_digit : ℕ → Bool
is_digit c = leb 48 c && leb c 57

is_digit_lem : (d : ℕ) → d < 10 → is_digit (48 + d) ≡ true
is_digit_lem d h =
    let low : 48 ≤ 48 + d = omega arith in
    let high : 48 + d ≤ 57 = omega arith in
    rw (le-leb 48 (48 + d) low, le-leb (48 + d) 57 high)

-- the last character of a decimal number is a digit
pub digit_last : (n : ℕ) → (g : List ℕ) × (d : ℕ) × (decimal n ≡ g ++ d ∷ []) × (is_digit d ≡ true)
unfolding decimal digits
digit_last n = go (ltb n 10) refl
  where
    go : (b : Bool) → ltb n 10 ≡ b → (g : List ℕ) × (d : ℕ) × (decimal n ≡ g ++ d ∷ []) × (is_digit d ≡ true)
    go true e = ([], 48 + n, rw e, is_digit_lem n (ltb-true n 10 e))
    go false e = (digits 19 (n / 10), 48 + n % 10, rw e, is_digit_lem (n % 10) (omega arith))

-- the number that digits denote, after those that denote a
abbrev pub number : ℕ → List ℕ → ℕ
number a [] = a
number a (d ∷ s) = number (a * 10 + (d - 48)) s

number_append : (a : ℕ) (s t : List ℕ) → number a (s ++ t) ≡ number (number a s) t
number_append a [] t = refl
number_append a (d ∷ s) t = number_append (a * 10 + (d - 48)) s t

digits_number : (f n : ℕ) → n < 10 ^ f → number 0 (digits f n) ≡ n
unfolding digits
digits_number zero n h = let l : n < 1 = h in omega arith
digits_number (suc f) n h = go (ltb n 10) (digits_number f (n / 10) (omega (arith, pow-succ' 10 f)))
  where
    go : (b : Bool) → number 0 (digits f (n / 10)) ≡ n / 10 → number 0 (cond b ((48 + n) ∷ []) (digits f (n / 10) ++ (48 + n % 10) ∷ [])) ≡ n
    go true e = omega arith
    go false e = number_append 0 (digits f (n / 10)) ((48 + n % 10) ∷ []) ∙ rw e (omega arith)

-- decimal digits denote their number, so that no two numbers have the same
pub decimal-number : (n : ℕ) → n < 2 ^ 64 → number 0 (decimal n) ≡ n
unfolding decimal
decimal-number n h = digits_number 20 n (omega arith)

pub decimal_injective : (m n : ℕ) → m < 2 ^ 64 → n < 2 ^ 64 → decimal m ≡ decimal n → m ≡ n
decimal_injective m n h l e = sym (decimal-number m h) ∙ ap (number 0) e ∙ decimal-number n l

-- hexadecimal digits
pub length-hex : (k n : ℕ) → length (hex k n) ≡ k
unfolding hex
length-hex zero n = refl
length-hex (suc k) n = simp length-append (omega (arith, length-hex k (n / 16)))

pub hex-none : {k : ℕ} (n : ℕ) → k ≡ 0 → hex k n ≡ []
unfolding hex
hex-none n e = rw e

pub hex-more : (k n : ℕ) → (k ≡ 0 → ⊥) → hex (k - 1) (n / 16) ++ hex_digit (n % 16) ∷ [] ≡ hex k n
unfolding hex
hex-more zero n z = absurd (z refl)
hex-more (suc k) n z = rw sub-one

hex_digit-small : (d : ℕ) → d < 16 → hex_digit d < 128
hex_digit-small d h = go (ltb d 10)
  where
    go : (b : Bool) → cond b (48 + d) (87 + d) < 128
    go true = omega arith
    go false = omega arith

pub hex-ascii : (k n : ℕ) → all_ascii (hex k n) ≡ true
unfolding hex
hex-ascii zero n = refl
hex-ascii (suc k) n =
    ascii_append (hex k (n / 16)) (hex_digit (n % 16) ∷ []) (hex-ascii k (n / 16)) (ascii-one (hex_digit (n % 16)) (hex_digit-small (n % 16) (omega arith)))
