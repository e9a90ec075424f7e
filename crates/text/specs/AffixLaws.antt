-- Laws of what a text starts and ends with: of the tests, of the units of a text, and of names. Assumes nothing.
use Rattle.std.specs.Prelude.{◌≡◌, refl, Bool, true, false, ◌&&◌, List, [], ◌∷◌, ◌++◌, ◌⊎◌, ℕ, zero, suc, ◌+◌, ◌-◌, ◌*◌, ◌/◌, ◌%◌, ◌≤◌, ◌<◌, eqb, ltb, length, take, drop}
use Rattle.std.proofs.Common.{sym, ◌∙◌, ap, ap₂, subst, append-nil, append_assoc, inl, inr, arith, le-ltb, ltb-true, ltb-false, eqb-true, eq-eqb, ne_eqb, length-append, take-append-drop, drop_of_length-le, drop-drop, drop_at, take_at}
use Rattle.std.proofs.Math.Bool.{and-eq-true_iff}
use Rattle.std.proofs.Math.Seq.{take-nil, get_or-append_seam}
use Rattle.base.specs.NumberLaws.{Bytes}
use Rattle.text.specs.Utf16.{well, is_well, utf16, units, encode_one, encode16, Scalars}
use Rattle.text.specs.Utf16Laws.{encode_append, encode_ascii, decode_encode}
use Rattle.text.specs.DigitsLaws.{is_digit, digit_last}
use Rattle.text.specs.Name.{decoded, base, suffix}
use Rattle.text.specs.Units.{units_of}
use Rattle.text.specs.UnitsLaws.{units_of-length, base-units}
use Rattle.text.specs.Affix.{starts_with, ends_with, all_ascii}

same_test : (a b : Bool) → (a ≡ true → b ≡ true) → (b ≡ true → a ≡ true) → a ≡ b
same_test true b f g = sym (f refl)
same_test false true f g = g refl
same_test false false f g = refl

-- a text starts with its front
pub starts_append : (p t : List ℕ) → starts_with (p ++ t) p ≡ true
starts_append [] t = refl
starts_append (x ∷ p) t = rw (eq-eqb x x refl) (starts_append p t)

-- what starts with p is p and a rest
pub starts-true : (t p : List ℕ) → starts_with t p ≡ true → t ≡ p ++ drop (length p) t
starts-true t [] h = refl
starts-true [] (x ∷ p) h = cc
starts-true (c ∷ t) (x ∷ p) h =
    let e = (and-eq-true_iff (eqb c x) (starts_with t p)).0 h in
    ap₂ ◌∷◌ (eqb-true c x e.0) (starts-true t p e.1)

-- a text shorter than p does not start with p
pub starts-short : (t p : List ℕ) → length t < length p → starts_with t p ≡ false
starts-short t [] h = absurd (omega arith)
starts-short [] (x ∷ p) h = refl
starts-short (c ∷ t) (x ∷ p) h = go (eqb c x) (starts-short t p (omega arith))
  where
    go : (b : Bool) → starts_with t p ≡ false → (b && starts_with t p) ≡ false
    go true e = e
    go false e = refl

-- a text ends in its back
pub ends_append : (f e : List ℕ) → ends_with (f ++ e) e ≡ true
unfolding ends_with
ends_append f e =
    let n : length f ≡ length (f ++ e) - length e = rw length-append (omega arith) in
    rw (drop_at f e (length (f ++ e) - length e) n) (rw append-nil at (starts_append e []))

-- what ends in e is a front and e
pub ends-true : (t e : List ℕ) → ends_with t e ≡ true → t ≡ take (length t - length e) t ++ e
unfolding ends_with
ends-true t e h =
    let k = length t - length e in
    let none : drop (k + length e) t ≡ [] = drop_of_length-le t {i = k + length e} (omega arith) in
    let back : drop k t ≡ e = starts-true (drop k t) e h ∙ rw (drop-drop (length e) k t, none) (append-nil e) in
    sym (take-append-drop k t) ∙ ap (λ (l : List ℕ). take k t ++ l) back

-- a text shorter than e does not end in e
pub ends-short : (t e : List ℕ) → length t < length e → ends_with t e ≡ false
unfolding ends_with
ends-short t e h = let z : length t - length e ≡ 0 = omega arith in rw z (starts-short t e h)

-- the units of a scalar value above FFFF, none of which is ASCII
record Pair (c : ℕ) (t : List ℕ) : Type 0 where
  above : 128 ≤ c
  high : ℕ
  high-above : 128 ≤ high
  low : ℕ
  low-above : 128 ≤ low
  is : encode16 (c ∷ t) ≡ high ∷ low ∷ encode16 t

-- a scalar value is its own unit, or has two
abbrev Encoded : ℕ → List ℕ → Type 0
Encoded c t = (encode16 (c ∷ t) ≡ c ∷ encode16 t) ⊎ Pair c t

encode_cons : (c : ℕ) (t : List ℕ) → Encoded c t
unfolding encode_one encode16
encode_cons c t = go (ltb c 0x10000) refl
  where
    go : (b : Bool) → ltb c 0x10000 ≡ b → Encoded c t
    go true e = inl (rw e)
    go false e =
        let l = ltb-false c 0x10000 e in
        inr (record {
          above = omega arith;
          high = 0xD800 + (c - 0x10000) / 0x400;
          high-above = omega arith;
          low = 0xDC00 + (c - 0x10000) % 0x400;
          low-above = omega arith;
          is = rw e;
        })

not_same : (c x : ℕ) → 128 ≤ c → ltb x 128 ≡ true → eqb c x ≡ false
not_same c x h l = ne_eqb c x (λ e. omega (arith, ltb-true x 128 l))

-- the units of a text start with an ASCII text where the text does
pub starts_encode : (t p : List ℕ) → all_ascii p ≡ true → starts_with (encode16 t) p ≡ starts_with t p
unfolding encode16
starts_encode t [] a = refl
starts_encode [] (x ∷ p) a = refl
starts_encode (c ∷ t) (x ∷ p) a =
    let l = (and-eq-true_iff (ltb x 128) (all_ascii p)).0 a in
    go l.0 (starts_encode t p l.1) (encode_cons c t)
  where
    go : ltb x 128 ≡ true → starts_with (encode16 t) p ≡ starts_with t p → Encoded c t → starts_with (encode16 (c ∷ t)) (x ∷ p) ≡ (eqb c x && starts_with t p)
    go l ih (inl e) = rw (e, ih)
    go l ih (inr r) = rw (r.is, not_same r.high x r.high-above l, not_same c x r.above l)

-- a text is ASCII where its units are
pub ascii_encode : (t : List ℕ) → all_ascii (encode16 t) ≡ all_ascii t
unfolding encode16
ascii_encode [] = refl
ascii_encode (c ∷ t) = go (ascii_encode t) (encode_cons c t)
  where
    go : all_ascii (encode16 t) ≡ all_ascii t → Encoded c t → all_ascii (encode16 (c ∷ t)) ≡ (ltb c 128 && all_ascii t)
    go ih (inl e) = rw (e, ih)
    go ih (inr r) = rw (r.is, le-ltb r.high 128 r.high-above, le-ltb c 128 r.above)

abbrev Ended : List ℕ → List ℕ → Type 0
Ended t e = (f : List ℕ) × (t ≡ f ++ e)

-- an ASCII ending of the units of a text is one of the text
ends_decode : (t v e : List ℕ) → all_ascii e ≡ true → encode16 t ≡ v ++ e → Ended t e
unfolding encode16
ends_decode [] [] e a q = ([], q)
ends_decode [] (x ∷ v) e a q = ([], cc)
ends_decode (c ∷ t) [] e a q =
    ([], sym (encode_ascii (c ∷ t) (sym (ascii_encode (c ∷ t)) ∙ ap all_ascii q ∙ a)) ∙ q)
ends_decode (c ∷ t) (x ∷ v) e a q = go (λ w. ends_decode t w e a) (encode_cons c t)
  where
    longer : Ended t e → Ended (c ∷ t) e
    longer s = (c ∷ s.0, ap (λ (l : List ℕ). c ∷ l) s.1)

    after : ((w : List ℕ) → encode16 t ≡ w ++ e → Ended t e) → (w : List ℕ) (u : ℕ) → 128 ≤ u → u ∷ encode16 t ≡ w ++ e → Ended t e
    after ih [] u h r =
        let l = (and-eq-true_iff (ltb u 128) (all_ascii (encode16 t))).0 (ap all_ascii r ∙ a) in
        absurd (omega (arith, ltb-true u 128 l.0))
    after ih (y ∷ w) u h r = ih w (cc)

    go : ((w : List ℕ) → encode16 t ≡ w ++ e → Ended t e) → Encoded c t → Ended (c ∷ t) e
    go ih (inl r) = longer (ih v (cc))
    go ih (inr r) = longer (after ih v r.low r.low-above (cc))

-- the units of a text end in an ASCII text where the text does
pub ends_encode : (t e : List ℕ) → all_ascii e ≡ true → ends_with (encode16 t) e ≡ ends_with t e
ends_encode t e a = same_test (ends_with (encode16 t) e) (ends_with t e) back forth
  where
    back : ends_with (encode16 t) e ≡ true → ends_with t e ≡ true
    back h =
        let s = ends_decode t (take (length (encode16 t) - length e) (encode16 t)) e a (ends-true (encode16 t) e h) in
        rw s.1 (ends_append s.0 e)

    forth : ends_with t e ≡ true → ends_with (encode16 t) e ≡ true
    forth h =
        let f = take (length t - length e) t in
        let us : encode16 t ≡ encode16 f ++ e = ap encode16 (ends-true t e h) ∙ rw (encode_append f e, encode_ascii e a) in
        rw us (ends_append (encode16 f) e)

module _ (wide : Bool) (part : List ℕ) (b : Bytes part) (w : is_well (decoded wide part) ≡ true) where
  -- a base starts with and ends in the ASCII that its units do
  pub base-starts : (p : List ℕ) → all_ascii p ≡ true → starts_with (units_of wide part) p ≡ starts_with (base wide part) p
  base-starts p a = rw (← (base-units wide part b w).0) (starts_encode (base wide part) p a)

  pub base-ends : (e : List ℕ) → all_ascii e ≡ true → ends_with (units_of wide part) e ≡ ends_with (base wide part) e
  base-ends e a = rw (← (base-units wide part b w).0) (ends_encode (base wide part) e a)

-- how many bytes a unit has
abbrev pub unit_size : Bool → ℕ
unit_size false = 1
unit_size true = 2

pub units-take : (k : ℕ) (s : List ℕ) → units (take k s) ≡ take (k / 2) (units s)
unfolding units
units-take zero s = refl
units-take (suc zero) [] = refl
units-take (suc zero) (a ∷ s) = refl
units-take (suc (suc k)) [] = sym (take-nil (suc (suc k) / 2))
units-take (suc (suc k)) (a ∷ []) = sym (take-nil (suc (suc k) / 2))
units-take (suc (suc k)) (a ∷ b ∷ s) =
    let h : suc (suc k) / 2 ≡ suc (k / 2) = omega arith in
    rw (h, units-take k s)

scalars-front : (f e : List ℕ) → Scalars (f ++ e) → Scalars f
scalars-front [] e s = tt
scalars-front (c ∷ f) e s = (s.0, scalars-front f e s.1)

rest-units : (us f e : List ℕ) → us ≡ encode16 f ++ e → Scalars (f ++ e) → utf16 (take (length us - length e) us) ≡ well f
rest-units us f e q s =
    let n : length (encode16 f) ≡ length (encode16 f ++ e) - length e = rw length-append (omega arith) in
    rw (q, take_at (encode16 f) e (length (encode16 f ++ e) - length e) n) (decode_encode f (scalars-front f e s))

-- a part without the units of an ASCII ending is the base without it
pub base-rest : (wide : Bool) (part e : List ℕ) → Bytes part → is_well (decoded wide part) ≡ true → all_ascii e ≡ true → ends_with (base wide part) e ≡ true
    → decoded wide (take (length part - unit_size wide * length e) part) ≡ well (take (length (base wide part) - length e) (base wide part))
unfolding decoded units_of
base-rest false part e b w a h = let n : length part - 1 * length e ≡ length part - length e = omega arith in rw n
base-rest true part e b w a h =
    let f = take (length (base true part) - length e) (base true part) in
    let front : base true part ≡ f ++ e = ends-true (base true part) e h in
    let u = base-units true part b w in
    let us : units part ≡ encode16 f ++ e = sym u.0 ∙ ap encode16 front ∙ rw (encode_append f e, encode_ascii e a) in
    let n : (length part - 2 * length e) / 2 ≡ length (units part) - length e = omega (arith, units_of-length part) in
    rw (units-take (length part - 2 * length e) part, n) (rest-units (units part) f e us (subst Scalars front u.1))

last-same : (f g : List ℕ) (x y : ℕ) → f ++ x ∷ [] ≡ g ++ y ∷ [] → x ≡ y
last-same f g x y q =
    let n : length f ≡ length g = omega (arith, simp length-append at (ap length q)) in
    sym (get_or-append_seam f x [] 0) ∙ (rw (n, q) (get_or-append_seam g y [] 0))

-- what ends in one character does not end in another
ends-other : (t e : List ℕ) (d c : ℕ) → is_digit d ≡ true → is_digit c ≡ false → ends_with (t ++ d ∷ []) (e ++ c ∷ []) ≡ false
ends-other t e d c y h = go (ends_with (t ++ d ∷ []) (e ++ c ∷ [])) refl
  where
    go : (b : Bool) → ends_with (t ++ d ∷ []) (e ++ c ∷ []) ≡ b → b ≡ false
    go false q = refl
    go true q =
        let f = take (length (t ++ d ∷ []) - length (e ++ c ∷ [])) (t ++ d ∷ []) in
        let s : t ++ d ∷ [] ≡ (f ++ e) ++ c ∷ [] = rw append_assoc (ends-true (t ++ d ∷ []) (e ++ c ∷ []) q) in
        sym y ∙ ap is_digit (last-same t (f ++ e) d c s) ∙ h

-- a rendered name with a number ends in a digit, so in no text whose last character is none
pub rendered-ends : (t : List ℕ) (n : ℕ) (e : List ℕ) (c : ℕ) → is_digit c ≡ false → ends_with (t ++ suffix (suc n)) (e ++ c ∷ []) ≡ false
rendered-ends t n e c h =
    let r = digit_last n in
    rw (r.2, ← append_assoc t (95 ∷ r.0) (r.1 ∷ [])) (ends-other (t ++ 95 ∷ r.0) e r.1 c r.3 h)

-- one with no number is its base
pub rendered-plain : (t e : List ℕ) → ends_with (t ++ suffix 0) e ≡ ends_with t e
rendered-plain t e = rw append-nil
