-- Laws of four characters of two bytes or of three in a row: in well-formed bytes each first byte makes the next one a first byte too.
-- Assumes nothing.
use Rattle.std.specs.Prelude.{◌≡◌, refl, Bool, true, false, ◌&&◌, List, [], ◌∷◌, ◌++◌, ℕ, ◌+◌, ◌*◌, ◌-◌, ◌/◌, ◌%◌, ◌≤◌, ◌<◌, leb, eqb, length, take, drop, get_or, Some}
use Rattle.std.proofs.Common.{sym, ap, ◌∙◌, ⊎_elim, le-leb, leb-true, leb-false, eq-eqb, ne_eqb, length-drop, get_or-drop}
use Rattle.std.proofs.Math.Bool.{and-eq-true_iff}
use native.Mathlib.Omega.{arith}
use Rattle.std.proofs.lemmas.Bool.{lt-leb}
use Rattle.std.specs.Int.Bits.{bit_and}
use Rattle.std.proofs.lemmas.Nat.Bits.{and_high}
use Rattle.text.specs.Utf16.{is_well, encode_one, unit_bytes, utf16le}
use Rattle.decode.specs.Chars.{Range, char_of, a_char}
use Rattle.decode.proofs.TableLaws.{within-is}
use Rattle.decode.proofs.KnownLaws.{range_2, first_2, range_3, first_3, range_4, first_4}
use Rattle.decode.proofs.CharLaws.{char-starts}
use Rattle.decode.specs.declared.chars.Char.{Char}
use Rattle.base.specs.Choose.{lt_or_le}
use Rattle.text.specs.Utf8.{utf8_one}
use Rattle.text.specs.Utf8Laws.{Sized, one, two, three, four, sized, utf8_1, utf8_2, utf8_3, utf8_4}
use Rattle.decode.specs.TurnLaws.{Turn, from, text_from}
use Rattle.decode.proofs.TurnLaws.{turn, well-next}
use Rattle.decode.specs.WriteLaws.{Partly}
use Rattle.decode.proofs.WriteLaws.{partly_room, utf16le-next, units-one, units-two}
use Rattle.decode.specs.Run.{leads_two, two_at, leads_three, three_at, four_at, four_led, four_units, is_twos, is_run, twos_bytes, run_bytes}
pub use Rattle.decode.specs.RunLaws.{Kind, Led, Seconds, Leads}

-- ---- the bits of a byte that leads three

pub lead_bits : (b : ℕ) → b < 256 → eqb (bit_and b 0xF0) 0xE0 ≡ leads_three b
lead_bits b h = rw (and_high b 4 4) (go (leb 0xE0 b) refl (leb b 0xEF) refl)
  where
    go : (x : Bool) → leb 0xE0 b ≡ x → (y : Bool) → leb b 0xEF ≡ y → eqb (b / 16 % 16 * 16) 0xE0 ≡ (x && y)
    go true p true q = eq-eqb (b / 16 % 16 * 16) 0xE0 (omega (arith, leb-true 0xE0 b p, leb-true b 0xEF q))
    go true p false q =
        let k : b / 16 ≡ 15 = omega (arith, leb-false b 0xEF q) in
        rw k
    go false p y q = ne_eqb (b / 16 % 16 * 16) 0xE0 (λ (e : b / 16 % 16 * 16 ≡ 0xE0). omega (arith, leb-false 0xE0 b p))

-- ---- one character

module _ (s : List ℕ) (at : ℕ) (h : at < length s) (ok : is_well (from s at) ≡ true) where
  some : 0 < length (drop at s)
  some = simp length-drop (omega arith)

  head : get_or s at 0 ≡ get_or (drop at s) 0 0
  head = let e : at + 0 ≡ at = omega arith in sym (get_or-drop at s 0 0 ∙ rw e)

  module _ (lead : leads_two (get_or s at 0) ≡ true) where
    pub two-range : Range 0xC2 0xDF (get_or s at 0) × Range 0x80 0xBF (get_or s (at + 1) 0)
    two-range =
        let r = within-is 0xC0 0xDF (get_or s at 0) lead in
        range_2 (drop at s) some ok (get_or s at 0) head (get_or s (at + 1) 0) (sym (get_or-drop at s 1 0)) (omega arith) (omega arith)

    pub two-turn : Turn s at (two_at s at) 2
    unfolding two_at
    two-turn =
        let r = within-is 0xC0 0xDF (get_or s at 0) lead in
        turn s at h (sym (first_2 (drop at s) some ok (get_or s at 0) head (get_or s (at + 1) 0) (sym (get_or-drop at s 1 0)) (omega arith) (omega arith) (two_at s at) refl))

    pub two-there : at + 2 ≤ length s
    two-there = two-turn.within

    pub two-small : two_at s at < 0x10000
    unfolding two_at
    two-small = let r = two-range in omega arith

  module _ (lead : leads_three (get_or s at 0) ≡ true) where
    pub three-range : Range 0xE0 0xEF (get_or s at 0) × Range 0x80 0xBF (get_or s (at + 1) 0) × Range 0x80 0xBF (get_or s (at + 2) 0)
    three-range =
        let r = within-is 0xE0 0xEF (get_or s at 0) lead in
        range_3 (drop at s) some ok (get_or s at 0) head (get_or s (at + 1) 0) (sym (get_or-drop at s 1 0)) (get_or s (at + 2) 0) (sym (get_or-drop at s 2 0)) (omega arith) (omega arith)

    pub three-turn : Turn s at (three_at s at) 3
    unfolding three_at
    three-turn =
        let r = within-is 0xE0 0xEF (get_or s at 0) lead in
        turn s at h (sym (first_3 (drop at s) some ok (get_or s at 0) head (get_or s (at + 1) 0) (sym (get_or-drop at s 1 0)) (get_or s (at + 2) 0) (sym (get_or-drop at s 2 0)) (omega arith) (omega arith) (three_at s at) refl))

    pub three-there : at + 3 ≤ length s
    three-there = three-turn.within

    pub three-small : three_at s at < 0x10000
    unfolding three_at
    three-small = let r = three-range in omega arith

  module _ (lead : 0xF0 ≤ get_or s at 0) where
    pub four-range : Range 0xF0 0xF4 (get_or s at 0) × Range 0x80 0xBF (get_or s (at + 1) 0) × Range 0x80 0xBF (get_or s (at + 2) 0) × Range 0x80 0xBF (get_or s (at + 3) 0)
    four-range =
        range_4 (drop at s) some ok (get_or s at 0) head (get_or s (at + 1) 0) (sym (get_or-drop at s 1 0)) (get_or s (at + 2) 0) (sym (get_or-drop at s 2 0))
        (get_or s (at + 3) 0) (sym (get_or-drop at s 3 0)) (omega arith)

    four-first : char_of (drop at s) ≡ a_char (four_at s at) 4
    unfolding four_at
    four-first =
        sym (first_4 (drop at s) some ok (get_or s at 0) head (get_or s (at + 1) 0) (sym (get_or-drop at s 1 0)) (get_or s (at + 2) 0) (sym (get_or-drop at s 2 0))
        (get_or s (at + 3) 0) (sym (get_or-drop at s 3 0)) (omega arith) (four_at s at) refl)

    pub four-turn : Turn s at (four_at s at) 4
    four-turn = turn s at h four-first

    -- no overlong form
    four-least : 0x10000 ≤ four_at s at
    four-least = go (sized (four_at s at))
      where
        size : length (utf8_one (four_at s at)) ≡ 4
        size = (char-starts (drop at s) four-first).size

        go : Sized (four_at s at) → 0x10000 ≤ four_at s at
        go (one l) = omega (arith, ap length (utf8_1 l), size)
        go (two l m) = omega (arith, ap length (utf8_2 l m), size)
        go (three l m) = omega (arith, ap length (utf8_3 l m), size)
        go (four l) = l

    -- its two units by its bytes
    pub four-high : 0xD800 + (four_at s at - 0x10000) / 0x400 ≡ 256 * get_or s at 0 + 4 * get_or s (at + 1) 0 + get_or s (at + 2) 0 / 16 - 0x1A48
    unfolding four_at
    four-high = let r = four-range in let l = four-least in omega arith

    pub four-low : 0xDC00 + (four_at s at - 0x10000) % 0x400 ≡ 0xDB80 + 64 * (get_or s (at + 2) 0 % 16) + get_or s (at + 3) 0
    unfolding four_at
    four-low = let r = four-range in let l = four-least in omega arith

    pub pair-room : (room : ℕ) → length (unit_bytes (encode_one (four_at s at))) ≤ room → 4 ≤ room
    pair-room room k = omega (arith, ap length (units-two (four_at s at) four-least))

    pub four-pair : (high low : ℕ) → high ≡ 256 * get_or s at 0 + 4 * get_or s (at + 1) 0 + get_or s (at + 2) 0 / 16 - 0x1A48
        → low ≡ 0xDB80 + 64 * (get_or s (at + 2) 0 % 16) + get_or s (at + 3) 0
        → high % 256 ∷ high / 256 ∷ low % 256 ∷ low / 256 ∷ [] ≡ unit_bytes (encode_one (four_at s at))
    four-pair high low e f = sym (units-two (four_at s at) four-least ∙ rw (four-high, four-low, e, f))

  -- a character whose first byte leads fewer is one unit
  pub one-small : {c : Char} → char_of (drop at s) ≡ Some c → get_or s at 0 < 0xF0 → c.value < 0x10000
  one-small {c} e l = ⊎_elim (λ (k : c.value < 0x10000). k) (λ (k : 0x10000 ≤ c.value). never-four k) (lt_or_le c.value 0x10000)
    where
      never-four : 0x10000 ≤ c.value → c.value < 0x10000
      never-four k =
          let z = char-starts (drop at s) e in
          let g : get_or (drop at s) 0 0 ≡ 240 + c.value / 262144 = ap (λ (x : List ℕ). get_or x 0 0) (sym z.is) ∙ rw (utf8_4 k) in
          omega (arith, head, g)

pub two_kind : Kind leads_two 2 two_at
two_kind = record { some = omega arith; few = omega arith; turns = two-turn; small = two-small }

pub three_kind : Kind leads_three 3 three_at
three_kind = record { some = omega arith; few = omega arith; turns = three-turn; small = three-small }

-- ---- four of them

pub four-leads : (lead : ℕ → Bool) (k : ℕ) (s : List ℕ) (at : ℕ) → four_led lead k s at ≡ true → Led lead k s at
unfolding four_led
four-leads lead k s at e =
    let p = lead (get_or s at 0) in
    let q = lead (get_or s (at + k) 0) in
    let r = lead (get_or s (at + 2 * k) 0) in
    let t = lead (get_or s (at + 3 * k) 0) in
    let a = (and-eq-true_iff (leb (at + 4 * k) (length s)) (p && q && r && t)).0 e in
    let b = (and-eq-true_iff (p && q && r) t).0 a.1 in
    let c = (and-eq-true_iff (p && q) r).0 b.0 in
    let d = (and-eq-true_iff p q).0 c.0 in
    record { there = leb-true (at + 4 * k) (length s) a.0; lead_0 = d.0; lead_1 = d.1; lead_2 = c.1; lead_3 = b.1 }

-- too few bytes are no run, and enough are one where the first of each character leads
pub four_short : (lead : ℕ → Bool) (k : ℕ) (s : List ℕ) (at : ℕ) → length s - at < 4 * k → four_led lead k s at ≡ false
unfolding four_led
four_short lead k s at h = rw (lt-leb (at + 4 * k) (length s) (omega arith))

pub four_long : (lead : ℕ → Bool) (k : ℕ) (s : List ℕ) (at : ℕ) → at ≤ length s → 4 * k ≤ length s - at
    → (lead (get_or s at 0) && lead (get_or s (at + k) 0) && lead (get_or s (at + 2 * k) 0) && lead (get_or s (at + 3 * k) 0)) ≡ four_led lead k s at
unfolding four_led
four_long lead k s at h l = rw (le-leb (at + 4 * k) (length s) (omega arith))

-- well-formed bytes follow a character in them
pub well-then : {s : List ℕ} {at c k : ℕ} → Turn s at c k → is_well (from s at) ≡ true → (next : ℕ) → next ≡ at + k → is_well (from s next) ≡ true
well-then t ok next e = rw e (sym (well-next t) ∙ ok)

-- in well-formed bytes they are characters one after another
module _ {lead : ℕ → Bool} {k : ℕ} {value : List ℕ → ℕ → ℕ} (kind : Kind lead k value) where
  module _ (s : List ℕ) (at : ℕ) (h : at < length s) (ok : is_well (from s at) ≡ true) (led : lead (get_or s at 0) ≡ true) where
    one-next : utf16le (text_from s at) ≡ (value s at % 256 ∷ value s at / 256 ∷ []) ++ utf16le (text_from s (at + k))
    one-next = utf16le-next (kind.turns s at h ok led) ok ∙ rw (units-one (value s at) (kind.small s at h ok led))

    one-well : is_well (from s (at + k)) ≡ true
    one-well = sym (well-next (kind.turns s at h ok led)) ∙ ok

  module _ (s : List ℕ) (at : ℕ) (ok : is_well (from s at) ≡ true) (l : Led lead k s at) where
    pub well_1 : is_well (from s (at + k)) ≡ true
    well_1 = one-well s at (omega (arith, kind.some)) ok l.lead_0

    pub well_2 : is_well (from s (at + 2 * k)) ≡ true
    well_2 = let e : at + k + k ≡ at + 2 * k = omega arith in rw e at (one-well s (at + k) (omega (arith, kind.some)) well_1 l.lead_1)

    pub well_3 : is_well (from s (at + 3 * k)) ≡ true
    well_3 = let e : at + 2 * k + k ≡ at + 3 * k = omega arith in rw e at (one-well s (at + 2 * k) (omega (arith, kind.some)) well_2 l.lead_2)

    pub four-well : is_well (from s (at + 4 * k)) ≡ true
    four-well = let e : at + 3 * k + k ≡ at + 4 * k = omega arith in rw e at (one-well s (at + 3 * k) (omega (arith, kind.some)) well_3 l.lead_3)

    pub four-next : utf16le (text_from s at) ≡ four_units value k s at ++ utf16le (text_from s (at + 4 * k))
    unfolding four_units
    four-next =
        let e : at + k + k ≡ at + 2 * k = omega arith in
        let f : at + 2 * k + k ≡ at + 3 * k = omega arith in
        let g : at + 3 * k + k ≡ at + 4 * k = omega arith in
        one-next s at (omega (arith, kind.some)) ok l.lead_0
        ∙ rw (
          one-next s (at + k) (omega (arith, kind.some)) well_1 l.lead_1,
          e,
          one-next s (at + 2 * k) (omega (arith, kind.some)) well_2 l.lead_2,
          f,
          one-next s (at + 3 * k) (omega (arith, kind.some)) well_3 l.lead_3,
          g,
        )

    pub four_room : {o x now : List ℕ} {n : ℕ} → Partly o x now (utf16le (text_from s at)) n → length x ≤ length o → 8 ≤ length (take (length now - n) (drop n now))
    unfolding four_units
    four_room p h = partly_room p (four_units value k s at) (utf16le (text_from s (at + 4 * k))) four-next h

-- ---- four of two bytes

pub twos-leads : (s : List ℕ) (at : ℕ) → is_twos s at ≡ true → Seconds s at
twos-leads s at e = four-leads leads_two 2 s at e

module _ (s : List ℕ) (at : ℕ) (ok : is_well (from s at) ≡ true) (l : Seconds s at) where
  pub twos-well : is_well (from s (at + 8)) ≡ true
  twos-well = four-well two_kind s at ok l

  pub twos-next : utf16le (text_from s at) ≡ twos_bytes s at ++ utf16le (text_from s (at + 8))
  twos-next = four-next two_kind s at ok l

  pub twos-room : {o x now : List ℕ} {n : ℕ} → Partly o x now (utf16le (text_from s at)) n → length x ≤ length o → 8 ≤ length (take (length now - n) (drop n now))
  twos-room p h = four_room two_kind s at ok l p h

-- ---- and of three

pub run-leads : (s : List ℕ) (at : ℕ) → is_run s at ≡ true → Leads s at
run-leads s at e = four-leads leads_three 3 s at e

module _ (s : List ℕ) (at : ℕ) (ok : is_well (from s at) ≡ true) (l : Leads s at) where
  pub run-well : is_well (from s (at + 12)) ≡ true
  run-well = four-well three_kind s at ok l

  pub run-next : utf16le (text_from s at) ≡ run_bytes s at ++ utf16le (text_from s (at + 12))
  run-next = four-next three_kind s at ok l

  pub run_room : {o x now : List ℕ} {n : ℕ} → Partly o x now (utf16le (text_from s at)) n → length x ≤ length o → 8 ≤ length (take (length now - n) (drop n now))
  run_room p h = four_room three_kind s at ok l p h
