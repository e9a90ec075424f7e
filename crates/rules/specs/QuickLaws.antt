-- Laws of lowering by rules: a run of characters under one rule by one computed test over the run, a gap between the table's firsts by one
-- over the table. Assumes nothing.
use Rattle.std.specs.Prelude.{◌≡◌, refl, Bool, true, false, cond, Some, None, ◌&&◌, ◌||◌, List, [], ◌∷◌, ◌⊎◌, ℕ, zero, suc, ◌+◌, ◌%◌, ◌≤◌, ◌<◌, eqb, leb, ltb}
use Rattle.std.proofs.Common.{◌∙◌, inl, inr, arith, eqb-true, ne_eqb, le-ltb, leb-true, ltb-true}
use Rattle.std.proofs.Math.Bool.{and-eq-true_iff, and-false}
use Rattle.std.proofs.Math.Logic.{by_cases}
use Rattle.std.proofs.Math.Decide.{dec_lt}
use Rattle.std.proofs.lemmas.Bool.{lt-leb}
use Rattle.lower.specs.Table.{pairs}
use Rattle.lower.specs.Lower.{lower, second_of}
use Rattle.rules.specs.Quick.{among, askers, asks, quick, asked}
use Rattle.lower.specs.SearchLaws.{every, second-every}
use Rattle.lower.proofs.LowerLaws.{lower-is, lower-single, or_cases}

-- ---- rules

abbrev pub ask : ℕ → ℕ
ask c = 0x110000

abbrev pub add : ℕ → ℕ → ℕ
add d c = c + d

-- the next odd number, the next even one
abbrev pub odd : ℕ → ℕ
odd c = c + (c + 1) % 2

abbrev pub even : ℕ → ℕ
even c = c + c % 2

-- the capital sharp s, whose small letter is Latin-1's
abbrev pub sharp : ℕ → ℕ
sharp c = 0xDF

-- g is f on the characters from a up to and without b
abbrev pub Run : (ℕ → ℕ) → (ℕ → ℕ) → ℕ → ℕ → Type 0
Run g f a b = (c : ℕ) → a ≤ c → c < b → g c ≡ f c

-- ---- runs

-- whether g is f on the n characters from a on
unfoldable pub agree : (ℕ → ℕ) → (ℕ → ℕ) → ℕ → ℕ → Bool
agree g f a zero = true
agree g f a (suc n) = eqb (g a) (f a) && agree g f (a + 1) n

pub agree_at : (g f : ℕ → ℕ) (a n : ℕ) → agree g f a n ≡ true → (c : ℕ) → a ≤ c → c < a + n → g c ≡ f c
unfolding agree
agree_at g f a zero e c l h = absurd (omega arith)
agree_at g f a (suc n) e c l h =
    let both = (and-eq-true_iff (eqb (g a) (f a)) (agree g f (a + 1) n)).0 e in
    by_cases (dec_lt a c)
    (λ (k : a < c). agree_at g f (a + 1) n both.1 c (omega arith) (omega arith))
    (λ (k : ¬ (a < c)). let q : a ≡ c = omega arith in rw (← q) (eqb-true (g a) (f a) both.0))

-- ---- gaps

-- whether p is outside of a range
unfoldable pub outside : ℕ → ℕ → ℕ → ℕ → Bool
outside a b p q = ltb p a || leb b p

-- where no first of the table lies in a range, its characters stay
pub lower-gap : (a b : ℕ) → every (outside a b) pairs ≡ true → (c : ℕ) → a ≤ c → c < b → lower c ≡ c
unfolding outside
lower-gap a b e c l h = rw (lower-is c) (go (second-every (outside a b) pairs e c))
  where
    neither : (ltb c a ≡ true) ⊎ (leb b c ≡ true) → second_of c pairs ≡ c
    neither (inl k) = absurd (omega (arith, ltb-true c a k))
    neither (inr k) = absurd (omega (arith, leb-true b c k))

    go : (second_of c pairs ≡ c) ⊎ (outside a b c (second_of c pairs) ≡ true) → second_of c pairs ≡ c
    go (inl k) = k
    go (inr k) = neither (or_cases (ltb c a) (leb b c) k)

-- whether a range is apart from each of some
unfoldable pub away : ℕ → ℕ → List (ℕ × ℕ) → Bool
away a b [] = true
away a b (r ∷ rs) = (leb b r.0 || leb r.1 a) && away a b rs

among-away : (a b : ℕ) (rs : List (ℕ × ℕ)) → away a b rs ≡ true → (c : ℕ) → a ≤ c → c < b → among rs c ≡ false
unfolding away among
among-away a b [] e c l h = refl
among-away a b (r ∷ rs) e c l h =
    let both = (and-eq-true_iff (leb b r.0 || leb r.1 a) (away a b rs)).0 e in
    go (or_cases (leb b r.0) (leb r.1 a) both.0) (among-away a b rs both.1 c l h)
  where
    go : (leb b r.0 ≡ true) ⊎ (leb r.1 a ≡ true) → among rs c ≡ false → ((leb r.0 c && ltb c r.1) || among rs c) ≡ false
    go (inl k) i = let m = leb-true b r.0 k in rw (lt-leb r.0 c (omega arith)) i
    go (inr k) i = let m = leb-true r.1 a k in rw (le-ltb c r.1 (omega arith), and-false (leb r.0 c)) i

-- apart from those ranges the table is not asked
pub asks-away : (a b : ℕ) → away a b askers ≡ true → (c : ℕ) → a ≤ c → c < b → asks c ≡ false
unfolding asks
asks-away a b e c l h = among-away a b askers e c l h

pub quick-is : (c : ℕ) → quick c ≡ cond (asks c) 0x110000 (lower c)
unfolding quick
quick-is c = refl

-- an answer of the rules is one where it is less than what asks for the table
pub not-asked : (t : Bool) {v r : ℕ} → r ≡ cond t 0x110000 v → r < 0x110000 → r ≡ v
not-asked true e l = absurd (omega arith)
not-asked false e l = e

pub quick-answer : (c : ℕ) {r : ℕ} → r ≡ quick c → r < 0x110000 → r ≡ lower c
quick-answer c e l = not-asked (asks c) (e ∙ quick-is c) l

-- what the code answers: by a rule, and where the table is asked
pub ruled : {m n : ℕ} → m ≡ n → n < 0x110000 → Some n ≡ asked m
ruled {m} {n} e l = rw (e, ne_eqb n 0x110000 (λ q. omega arith))

pub tabled : {m : ℕ} → m ≡ 0x110000 → None ≡ asked m
tabled e = rw e

-- such an answer is the lower-case form
pub quick-some : (c : ℕ) {r : ℕ} → Some r ≡ asked (quick c) → r ≡ lower c
quick-some c {r} e = go (asks c) (rw (quick-is c) at e)
  where
    go : (t : Bool) → Some r ≡ asked (cond t 0x110000 (lower c)) → r ≡ lower c
    go true e = cc
    go false e = some (eqb (lower c) 0x110000) e
      where
        some : (b : Bool) → Some r ≡ cond b None (Some (lower c)) → r ≡ lower c
        some true e = cc
        some false e = cc

-- the answer, of a character of one unit
pub asked-is : (c : ℕ) → c < 0x10000 → asked (quick c) ≡ cond (asks c) None (Some (lower c))
asked-is c h = rw (quick-is c) (go (asks c))
  where
    go : (t : Bool) → asked (cond t 0x110000 (lower c)) ≡ cond t None (Some (lower c))
    go true = refl
    go false = rw (ne_eqb (lower c) 0x110000 (λ q. omega (arith, lower-single c h)))

pub quick-away : (a b : ℕ) → away a b askers ≡ true → Run quick lower a b
quick-away a b e c l h = rw (quick-is c, asks-away a b e c l h)

pub quick-gap : (a b : ℕ) → away a b askers ≡ true → every (outside a b) pairs ≡ true → (c : ℕ) → a ≤ c → c < b → quick c ≡ c
quick-gap a b e k c l h = quick-away a b e c l h ∙ lower-gap a b k c l h
