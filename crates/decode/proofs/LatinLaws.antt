-- Laws of tests of many bytes at once, and of the one by which text fits Latin-1: it says of well-formed bytes what decoding says.
-- Assumes nothing.
use Rattle.std.specs.Prelude.{◌≡◌, refl, Bool, true, false, ◌&&◌, List, [], ◌∷◌, ◌++◌, ℕ, suc, ◌+◌, ◌-◌, ◌/◌, ◌%◌, ◌≤◌, ◌<◌, ltb, leb, length, take, drop, get_or}
use Rattle.std.proofs.Common.{sym, ap, ◌∙◌, ⊎_elim, add-one, arith, lt-ltb, le-ltb, ltb-true, leb-true, length-drop, take-append-drop, take-suc, take-add, take_all, drop-drop, get_or-drop}
use Rattle.std.proofs.Math.Bool.{and_assoc, and-true, and-false, and-eq-true_iff}
use Rattle.base.specs.Choose.{lt_or_le}
use Rattle.text.specs.Utf16.{is_well}
use Rattle.text.specs.Utf8.{utf8_one, utf8, from_utf8}
use Rattle.text.specs.Utf8Laws.{utf8_1, utf8_2, utf8_3, utf8_4, Sized, one, two, three, four, sized}
use Rattle.decode.specs.ReadLaws.{utf8_encode}
use Rattle.decode.specs.Measure.{text_of, fits_latin1}
use Rattle.decode.specs.Latin.{every, low, all_low}

-- ---- a test of each byte, many at once

module _ (p : ℕ → Bool) where
  every-both : (s r : List ℕ) → every p (s ++ r) ≡ (every p s && every p r)
  every-both [] r = refl
  every-both (b ∷ s) r = rw (every-both s r) (sym (and_assoc (p b) (every p s) (every p r)))

  -- one byte more
  pub every-next : (s : List ℕ) (i : ℕ) → i < length s → every p (take (i + 1) s) ≡ (every p (take i s) && p (get_or s i 0))
  every-next s i h = rw (add-one i, take-suc s i 0 h, every-both (take i s) (get_or s i 0 ∷ []), and-true (p (get_or s i 0)))

  -- k bytes more
  pub every_more : (k : ℕ) (s : List ℕ) (i : ℕ) → every p (take (i + k) s) ≡ (every p (take i s) && every p (take k (drop i s)))
  every_more k s i = ap (every p) (take-add i k s) ∙ every-both (take i s) (take k (drop i s))

  -- one byte more of those from a place on
  every-at : (s : List ℕ) (i k : ℕ) → i + k < length s → every p (take (suc k) (drop i s)) ≡ (every p (take k (drop i s)) && p (get_or s (i + k) 0))
  every-at s i k l =
      let there : k < length (drop i s) = simp length-drop (omega arith) in
      rw (← add-one k, every-next (drop i s) k there, get_or-drop i s k 0)

  -- four bytes in a row, and eight
  pub every-four : (s : List ℕ) (i : ℕ) → i + 4 ≤ length s
      → (p (get_or s i 0) && p (get_or s (i + 1) 0) && p (get_or s (i + 2) 0) && p (get_or s (i + 3) 0)) ≡ every p (take 4 (drop i s))
  every-four s i h =
      let e : i + 0 ≡ i = omega arith in
      rw (every-at s i 3 (omega arith), every-at s i 2 (omega arith), every-at s i 1 (omega arith), every-at s i 0 (omega arith), e)

  pub every-word : (s : List ℕ) (i : ℕ) → i + 8 ≤ length s
      → (p (get_or s i 0) && p (get_or s (i + 1) 0) && p (get_or s (i + 2) 0) && p (get_or s (i + 3) 0)
      && p (get_or s (i + 4) 0) && p (get_or s (i + 5) 0) && p (get_or s (i + 6) 0) && p (get_or s (i + 7) 0)) ≡ every p (take 8 (drop i s))
  every-word s i h =
      rw (every-at s i 7 (omega arith), every-at s i 6 (omega arith), every-at s i 5 (omega arith), every-at s i 4 (omega arith))
      (rw (every-four s i (omega arith)))

  -- sixteen bytes are twice eight
  pub every-pair : (s : List ℕ) (i : ℕ) → every p (take 16 (drop i s)) ≡ (every p (take 8 (drop i s)) && every p (take 8 (drop (i + 8) s)))
  every-pair s i = rw (← drop-drop 8 i s) (every_more 8 (drop i s) 8)

  -- the first one fails
  pub every-first : (s : List ℕ) → 0 < length s → p (get_or s 0 0) ≡ false → every p s ≡ false
  every-first [] h e = absurd (omega arith)
  every-first (b ∷ s) h e = rw e

  -- k bytes of which one fails
  pub every-not : (k : ℕ) (s : List ℕ) (i : ℕ) → every p (take k (drop i s)) ≡ false → every p s ≡ false
  every-not k s i f =
      rw (← take-append-drop i s, every-both (take i s) (drop i s), ← take-append-drop k (drop i s), every-both (take k (drop i s)) (drop k (drop i s)), f)
      (and-false (every p (take i s)))

  -- the last k, some of which may be among those before
  pub every_cover : (k : ℕ) (s : List ℕ) (i last : ℕ) → last + k ≡ length s → last ≤ i
      → (every p (take i s) && every p (take k (drop last s))) ≡ every p s
  every_cover k s i last e h =
      let x = take last s in
      let y = take (i - last) (drop last s) in
      let z = drop (i - last) (drop last s) in
      let short : length (drop last s) ≤ k = simp length-drop (omega arith) in
      let d : i ≡ last + (i - last) = omega arith in
      let f : every p (take i s) ≡ (every p x && every p y) = ap (λ (k : ℕ). every p (take k s)) d ∙ every_more (i - last) s last in
      let g : every p (drop last s) ≡ (every p y && every p z) = ap (every p) (sym (take-append-drop (i - last) (drop last s))) ∙ every-both y z in
      let t : every p s ≡ (every p x && every p (drop last s)) = ap (every p) (sym (take-append-drop last s)) ∙ every-both x (drop last s) in
      rw (take_all k (drop last s) short, f, t, g) (go (every p x) (every p y) (every p z))
    where
      go : (a b d : Bool) → ((a && b) && (b && d)) ≡ (a && (b && d))
      go true true d = refl
      go true false d = refl
      go false b d = refl

-- the first byte is there, and not below a limit
pub starts-is : (limit : ℕ) (s : List ℕ) → (ltb 0 (length s) && leb limit (get_or s 0 0)) ≡ true → (0 < length s) × (limit ≤ get_or s 0 0)
starts-is limit s e =
    let p = (and-eq-true_iff (ltb 0 (length s)) (leb limit (get_or s 0 0))).0 e in
    (ltb-true 0 (length s) p.0, leb-true limit (get_or s 0 0) p.1)

-- ---- the bytes of a text

one-low : (c : ℕ) → Sized c → every low (utf8_one c) ≡ ltb c 0x100
one-low c (one h) = rw (utf8_1 h, lt-ltb c 0xC4 (omega arith), lt-ltb c 0x100 (omega arith))
one-low c (two l h) =
    let a = 192 + c / 64 in
    let b = 128 + c % 64 in
    ⊎_elim
    (λ (k : c < 0x100). rw (utf8_2 l h, lt-ltb a 0xC4 (omega arith), lt-ltb b 0xC4 (omega arith), lt-ltb c 0x100 k))
    (λ (k : 0x100 ≤ c). rw (utf8_2 l h, le-ltb a 0xC4 (omega arith), le-ltb c 0x100 k))
    (lt_or_le c 0x100)
one-low c (three l h) = rw (utf8_3 l h, le-ltb (224 + c / 4096) 0xC4 (omega arith), le-ltb c 0x100 (omega arith))
one-low c (four l) = rw (utf8_4 l, le-ltb (240 + c / 262144) 0xC4 (omega arith), le-ltb c 0x100 (omega arith))

pub low_append : (s r : List ℕ) → all_low (s ++ r) ≡ (all_low s && all_low r)
low_append s r = every-both low s r

text-low : (t : List ℕ) → every low (utf8 t) ≡ fits_latin1 t
text-low [] = refl
text-low (c ∷ t) = every-both low (utf8_one c) (utf8 t) ∙ rw (one-low c (sized c), text-low t)

pub low-latin : (s : List ℕ) → is_well (from_utf8 s) ≡ true → every low s ≡ fits_latin1 (text_of s)
low-latin s ok = ap (every low) (sym (utf8_encode s ok).0) ∙ text-low (text_of s)
