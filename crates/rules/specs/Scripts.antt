-- Lowering the units of some scripts with no branch: for each a test, the ranges where its sum is right, and the sum. Assumes nothing.
use Rattle.std.specs.Prelude.{◌≡◌, Bool, true, cond, ◌&&◌, List, [], ◌∷◌, ℕ, ◌+◌, ◌%◌, ◌<◌, leb, ltb}
use Rattle.lower.specs.Lower.{lower}
use Rattle.rules.specs.Quick.{among}

-- ---- Latin: with the letters of Vietnamese and with general punctuation

unfoldable pub latins : List (ℕ × ℕ)
latins =
    (0, 0x178) ∷ (0x179, 0x17F) ∷ (0x1A0, 0x1A2) ∷ (0x1AF, 0x1B1) ∷ (0x1E00, 0x1E96) ∷ (0x1EA0, 0x1F00) ∷ (0x2000, 0x2126) ∷ []

-- capitals 32 below their small letters
unfoldable pub latin_capitals : List (ℕ × ℕ)
latin_capitals = (0x41, 0x5B) ∷ (0xC0, 0xD7) ∷ (0xD8, 0xDF) ∷ []

-- where a capital comes right before its small letter
unfoldable pub latin_pairs : List (ℕ × ℕ)
latin_pairs = (0x100, 0x180) ∷ (0x1A0, 0x1A2) ∷ (0x1AF, 0x1B1) ∷ (0x1E00, 0x1E96) ∷ (0x1EA0, 0x1F00) ∷ []

-- where such a capital is odd, and the dotted I, which stays
unfoldable pub latin_odds : List (ℕ × ℕ)
latin_odds = (0x130, 0x131) ∷ (0x138, 0x149) ∷ (0x179, 0x17F) ∷ (0x1AF, 0x1B1) ∷ []

unfoldable pub is_latin : ℕ → Bool
unfolding among latins
is_latin u = among latins u

-- 1 at a capital of a pair
unfoldable pub latin_turn : ℕ → ℕ
unfolding among latin_odds
latin_turn u = (u % 2 + (1 + cond (among latin_odds u) 1 0)) % 2

unfoldable pub lower_latin : ℕ → ℕ
unfolding among latin_capitals latin_pairs latin_turn
lower_latin u = u + (cond (among latin_capitals u) 32 0 + cond (among latin_pairs u) (latin_turn u) 0)

-- ---- Greek as it is written with one accent, and Cyrillic as Russian and its neighbours have it

unfoldable pub greeks : List (ℕ × ℕ)
greeks =
    (0, 0xC0) ∷ (0x386, 0x387) ∷ (0x388, 0x38B) ∷ (0x38C, 0x38D) ∷ (0x38E, 0x3A2) ∷ (0x3A3, 0x3CF) ∷ (0x400, 0x460) ∷ []

-- capitals 32 below their small letters
unfoldable pub greek_capitals : List (ℕ × ℕ)
greek_capitals = (0x41, 0x5B) ∷ (0x391, 0x3AC) ∷ (0x410, 0x430) ∷ []

-- other capitals: ranges, each with how far they are below their small letters. Those of Greek have tonos
unfoldable pub greek_steps : List (ℕ × ℕ × ℕ)
greek_steps = (0x386, 0x387, 38) ∷ (0x388, 0x38B, 37) ∷ (0x38C, 0x38D, 64) ∷ (0x38E, 0x390, 63) ∷ (0x400, 0x410, 80) ∷ []

-- the step of u: of the ranges in which it lies, together
unfoldable pub step_in : List (ℕ × ℕ × ℕ) → ℕ → ℕ
step_in [] u = 0
step_in (r ∷ rs) u = cond (leb r.0 u && ltb u r.1) r.2 0 + step_in rs u

unfoldable pub is_greek : ℕ → Bool
unfolding among greeks
is_greek u = among greeks u

unfoldable pub lower_greek : ℕ → ℕ
unfolding among greek_capitals step_in greek_steps
lower_greek u = u + (cond (among greek_capitals u) 32 0 + step_in greek_steps u)

-- ---- a test, and a way to lower that is right where the test says so, which is below the surrogates
pub record LowersBy (t : ℕ → Bool) (f : ℕ → ℕ) : Type 0 where
  pub none : f 0 ≡ 0
  pub right : (u : ℕ) → t u ≡ true → (lower u ≡ f u) × (u < 0xD800)
