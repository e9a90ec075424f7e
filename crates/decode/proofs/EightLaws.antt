-- Laws of bytes of ASCII in a row: in well-formed bytes each is a character, and one unit as UTF-16LE. Assumes nothing.
use Rattle.std.specs.Prelude.{◌≡◌, true, false, ◌&&◌, List, [], ◌∷◌, ◌++◌, ℕ, zero, suc, ◌+◌, ◌*◌, ◌-◌, ◌/◌, ◌%◌, ◌≤◌, ◌<◌, leb, length, take, drop, get_or, set}
use Rattle.std.proofs.Common.{sym, ap, ◌∙◌, append_assoc, add-one, arith, le-leb, leb-true, lt-ltb, ltb-true, length-append, length-take, length-drop, take-suc, get_or-drop}
use Rattle.std.proofs.Math.Bool.{and-eq-true_iff}
use Rattle.std.proofs.lemmas.Bool.{lt-leb}
use Rattle.base.specs.Output.{Wrote}
use Rattle.base.specs.OutputLaws.{wrote_as}
use Rattle.text.specs.UnitBytesLaws.{unit_bytes-length, unit_bytes_append, wrote-one}
use Rattle.text.specs.Utf16.{is_well, unit_bytes, utf16le}
use Rattle.decode.proofs.KnownLaws.{first_1}
use Rattle.decode.specs.Latin.{every, ascii}
use Rattle.decode.proofs.LatinLaws.{every-next}
use Rattle.decode.specs.Eight.{is_few, is_eight, Few}
use Rattle.decode.specs.TurnLaws.{Turn, from, text_from}
use Rattle.decode.proofs.TurnLaws.{turn, one_unit, well-next}
use Rattle.decode.specs.WriteLaws.{Partly}
use Rattle.decode.proofs.WriteLaws.{partly_room, utf16le-next}

-- ---- the test

pub few-short : (k : ℕ) (s : List ℕ) (at : ℕ) → length s - at < k → is_few k s at ≡ false
few-short k s at h = rw (lt-leb (at + k) (length s) (omega arith))

pub few-long : (k : ℕ) (s : List ℕ) (at : ℕ) → at ≤ length s → k ≤ length s - at → every ascii (take k (drop at s)) ≡ is_few k s at
few-long k s at h l = rw (le-leb (at + k) (length s) (omega arith))

pub few_is : (k : ℕ) (s : List ℕ) (at : ℕ) → is_few k s at ≡ true → Few k s at
few_is k s at e =
    let p = (and-eq-true_iff (leb (at + k) (length s)) (every ascii (take k (drop at s)))).0 e in
    (leb-true (at + k) (length s) p.0, p.1)

-- the same of eight
pub eight-short : (s : List ℕ) (at : ℕ) → length s - at < 8 → is_eight s at ≡ false
eight-short s at h = few-short 8 s at h

pub eight-long : (s : List ℕ) (at : ℕ) → at ≤ length s → 8 ≤ length s - at → every ascii (take 8 (drop at s)) ≡ is_eight s at
eight-long s at h l = few-long 8 s at h l

pub eight_is : (s : List ℕ) (at : ℕ) → is_eight s at ≡ true → Few 8 s at
eight_is s at e = few_is 8 s at e

-- one is, by its number
pub one_is : (s : List ℕ) (at : ℕ) → at < length s → get_or s at 0 < 0x80 → Few 1 s at
one_is s at h l =
    let x = drop at s in
    let there : 0 < length x = simp length-drop (omega arith) in
    let z : at + 0 ≡ at = omega arith in
    let head : get_or x 0 0 ≡ get_or s at 0 = get_or-drop at s 0 0 ∙ rw z in
    (omega arith, every-next ascii x 0 there ∙ rw (head, lt-ltb (get_or s at 0) 0x80 l))

-- ---- some bytes of ASCII

-- the last of them, and those before it
ascii-last : (s : List ℕ) (k : ℕ) → k < length s → every ascii (take (suc k) s) ≡ true → (every ascii (take k s) ≡ true) × (get_or s k 0 < 0x80)
ascii-last s k h e =
    let n : every ascii (take (suc k) s) ≡ (every ascii (take k s) && ascii (get_or s k 0)) = rw (← add-one k) (every-next ascii s k h) in
    let p = (and-eq-true_iff (every ascii (take k s)) (ascii (get_or s k 0))).0 (sym n ∙ e) in
    (p.0, ltb-true (get_or s k 0) 0x80 p.1)

-- one is a character
ascii-turn : (s : List ℕ) (at : ℕ) → at < length s → is_well (from s at) ≡ true → get_or s at 0 < 0x80 → Turn s at (get_or s at 0) 1
ascii-turn s at h ok l =
    let some : 0 < length (drop at s) = simp length-drop (omega arith) in
    let z : at + 0 ≡ at = omega arith in
    let head : get_or s at 0 ≡ get_or (drop at s) 0 0 = sym (get_or-drop at s 0 0 ∙ rw z) in
    turn s at h (sym (first_1 (drop at s) some ok (get_or s at 0) head (omega arith)))

-- units of one byte more
units-last : (s : List ℕ) (k : ℕ) → k < length s → unit_bytes (take (suc k) s) ≡ unit_bytes (take k s) ++ unit_bytes (get_or s k 0 ∷ [])
units-last s k h = ap unit_bytes (take-suc s k 0 h) ∙ unit_bytes_append (take k s) (get_or s k 0 ∷ [])

-- in well-formed bytes k of them are k characters, and well-formed bytes follow
module _ (s : List ℕ) (at : ℕ) (ok : is_well (from s at) ≡ true) where
  ascii-next : (k : ℕ) → at + k ≤ length s → every ascii (take k (drop at s)) ≡ true
      → (is_well (from s (at + k)) ≡ true) × (utf16le (text_from s at) ≡ unit_bytes (take k (drop at s)) ++ utf16le (text_from s (at + k)))
  ascii-next zero h e = let z : at + 0 ≡ at = omega arith in (rw z ok, rw z)
  ascii-next (suc k) h e =
      let x = drop at s in
      let there : k < length x = simp length-drop (omega arith) in
      let p = ascii-last x k there e in
      let q = ascii-next k (omega arith) p.0 in
      let c = get_or s (at + k) 0 in
      let g : get_or x k 0 ≡ c = get_or-drop at s k 0 in
      let l : c < 0x80 = rw (← g) p.1 in
      let t : Turn s (at + k) c 1 = ascii-turn s (at + k) (omega arith) q.0 l in
      let f : at + k + 1 ≡ at + suc k = omega arith in
      let w : is_well (from s (at + suc k)) ≡ true = rw (← f) (sym (well-next t) ∙ q.0) in
      let u = unit_bytes (take k x) in
      let v = unit_bytes (c ∷ []) in
      let r = utf16le (text_from s (at + suc k)) in
      let n : utf16le (text_from s (at + k)) ≡ v ++ r = utf16le-next t q.0 ∙ rw (one_unit c (omega arith), f) in
      let m : unit_bytes (take (suc k) x) ≡ u ++ v = units-last x k there ∙ rw g in
      (w, q.1 ∙ (ap (λ (y : List ℕ). u ++ y) n ∙ (sym (append_assoc u v r) ∙ ap (λ (y : List ℕ). y ++ r) (sym m))))

  module _ (k : ℕ) (is : Few k s at) where
    pub few-well : is_well (from s (at + k)) ≡ true
    few-well = (ascii-next k is.0 is.1).0

    pub few-next : utf16le (text_from s at) ≡ unit_bytes (take k (drop at s)) ++ utf16le (text_from s (at + k))
    few-next = (ascii-next k is.0 is.1).1

    pub few-room : (room : ℕ) → length (utf16le (text_from s at)) ≤ room → 2 * k ≤ room
    few-room room h =
        omega (arith, ap length few-next, length-append (unit_bytes (take k (drop at s))) (utf16le (text_from s (at + k))), unit_bytes-length (take k (drop at s)), length-take k (drop at s), length-drop at s)

  -- and eight of them
  module _ (is : Few 8 s at) where
    pub eight-well : is_well (from s (at + 8)) ≡ true
    eight-well = few-well 8 is

    pub eight-next : utf16le (text_from s at) ≡ unit_bytes (take 8 (drop at s)) ++ utf16le (text_from s (at + 8))
    eight-next = few-next 8 is

    pub eight-room : {o x now : List ℕ} {n : ℕ} → Partly o x now (utf16le (text_from s at)) n → length x ≤ length o → 16 ≤ length (take (length now - n) (drop n now))
    eight-room p h =
        let r = partly_room p (unit_bytes (take 8 (drop at s))) (utf16le (text_from s (at + 8))) eight-next h in
        omega (arith, is.0, unit_bytes-length (take 8 (drop at s)), length-take 8 (drop at s), length-drop at s)

-- ---- one byte written as a unit

pub units-next : (x : List ℕ) (i v : ℕ) → i < length x → v ≡ get_or x i 0 → unit_bytes (take i x) ++ (v % 256 ∷ v / 256 ∷ []) ≡ unit_bytes (take (i + 1) x)
units-next x i v h e = sym (rw (add-one i, e) (units-last x i h))

pub units-wrote : {o out : List ℕ} (x : List ℕ) (i v : ℕ) → Wrote o (unit_bytes (take i x)) out (2 * i) → i < length x → 2 * i + 2 ≤ length o → v ≡ get_or x i 0 → v < 256
    → Wrote o (unit_bytes (take (i + 1) x)) (set (set out (2 * i) v) (2 * i + 1) 0) (2 * (i + 1))
units-wrote x i v w h l e b =
    let m : v % 256 ≡ v = omega arith in
    let d : v / 256 ≡ 0 = omega arith in
    wrote_as (wrote-one i v w l (rw (m, d))) (units-next x i v h e)
