-- Laws of four characters of two bytes or of three in a row: in well-formed bytes each first byte makes the next one a first byte too.
-- Assumes nothing.
use Rattle.std.specs.Prelude.{◌≡◌, Bool, true, List, ℕ, ◌+◌, ◌*◌, ◌≤◌, ◌<◌, length, get_or}
use Rattle.text.specs.Utf16.{is_well}
use Rattle.decode.specs.Run.{leads_two, leads_three}
use Rattle.decode.specs.TurnLaws.{Turn, from}

-- characters of k bytes which a first byte tells: in well-formed bytes each is there, and is one unit
pub record Kind (lead : ℕ → Bool) (k : ℕ) (value : List ℕ → ℕ → ℕ) : Type 0 where
  pub some : 1 ≤ k
  pub few : k ≤ 3
  pub turns : (s : List ℕ) (at : ℕ) → at < length s → is_well (from s at) ≡ true → lead (get_or s at 0) ≡ true → Turn s at (value s at) k
  pub small : (s : List ℕ) (at : ℕ) → at < length s → is_well (from s at) ≡ true → lead (get_or s at 0) ≡ true → value s at < 0x10000

-- ---- four of them

-- the test says that the first byte of each leads
pub record Led (lead : ℕ → Bool) (k : ℕ) (s : List ℕ) (at : ℕ) : Type 0 where
  pub there : at + 4 * k ≤ length s
  pub lead_0 : lead (get_or s at 0) ≡ true
  pub lead_1 : lead (get_or s (at + k) 0) ≡ true
  pub lead_2 : lead (get_or s (at + 2 * k) 0) ≡ true
  pub lead_3 : lead (get_or s (at + 3 * k) 0) ≡ true

-- each second byte leads two, and each third leads three
abbrev pub Seconds : List ℕ → ℕ → Type 0
Seconds s at = Led leads_two 2 s at

abbrev pub Leads : List ℕ → ℕ → Type 0
Leads s at = Led leads_three 3 s at
