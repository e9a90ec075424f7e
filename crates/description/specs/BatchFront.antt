-- A name batch that was written is read back, wherever it stands.
use Rattle.std.specs.Prelude.{◌≡◌, Bool, true, false, cond, not, leb, eqb, get_or}
use Rattle.std.proofs.Math.Path.{refl, ap}
use Rattle.std.proofs.Common.{sym, ◌∙◌, div-one, le-leb, eq-eqb, ne_eqb, lit≤}
use mathlib.Core.List.{List, [], ◌∷◌, ◌++◌, map, append_assoc}
use Prim.Native.Nat.{ℕ, ◌+◌, ◌*◌, ◌-◌, ◌/◌, ◌%◌, ◌^◌, ◌≤◌, ◌<◌}
use native.Mathlib.Omega.{arith}
use Rattle.std.proofs.lemmas.Bool.{lt-leb}
use Rattle.std.proofs.Math.ListN.{length, replicate, length-append}
use Rattle.std.proofs.lemmas.List.{length-replicate}
use Rattle.base.specs.Choose.{choose}
use Rattle.base.specs.Find.{flat}
use Rattle.base.specs.FindLaws.{length-each}
use Rattle.text.specs.UnitBytesLaws.{unit_bytes-length}
use Rattle.text.specs.Name.{decoded, base}
use Rattle.base.specs.Number.{be_bytes}
use Rattle.base.specs.NumberLaws.{length-be_bytes, length-le_bytes}
use Rattle.base.specs.Perm.{All}
use Rattle.base.specs.Reading.{Reading, give, run, ◌>>=◌, ◌>>◌, over-bytes, bytes_left, place, taken, ask, onto, rows}
use Rattle.base.specs.ReadingFront.{run_bytes_lem}
use Rattle.base.specs.ReadingLaws.{bind_assoc}
use Rattle.base.specs.ReadingFrontRows.{run-le, run-pass, ask-yes, rows-front}
use Rattle.text.specs.Utf16.{Decoded, well, is_well, scalars, Scalars, encode16, utf16le}
use Rattle.text.specs.Utf8.{utf8, from_utf8}
use Rattle.text.specs.Utf8Laws.{utf8_decode}
use Rattle.decode.specs.BackLaws.{wide_back}
use Rattle.decode.specs.Measure.{fits_latin1}
use Rattle.decode.proofs.MeasureLaws.{latin-units}
use Rattle.batch.specs.Batch.{u64, Batch, head_of, head, strings_on, strings, no_names, some_names, body, batch}
use Rattle.written.specs.BatchBytes.{le4, le8, string_bytes, head_bytes, some_bytes, batch_bytes}
use Rattle.written.specs.HeaderBytes.{longest_name}
use Rattle.batch.specs.declared.names.Head.{Head}
use Rattle.batch.specs.declared.names.Names.{Names}
use Rattle.zen.specs.Layouts.{parts_of, no_parts}

-- a text that can be a name: scalar values, not too long
pub record NameFits (t : List ℕ) : Type 0 where
  pub well : Scalars t
  pub short : length (encode16 t) ≤ longest_name

-- ---- a name's header

-- as it is read
abbrev pub head_for : List ℕ → Head
head_for t = record { wide = not (fits_latin1 t); size = length (string_bytes t) }

two_bytes : (x : ℕ) → be_bytes 2 x ≡ x / 256 % 256 ∷ x % 256 ∷ []
unfolding be_bytes
two_bytes x = rw (div-one x)

narrow-head : (n : ℕ) → n ≤ 32767 → head_of ((0 + n) / 256 % 256) ((0 + n) % 256) ≡ record { wide = false; size = n }
unfolding head_of
narrow-head n h =
    let low : (0 + n) / 256 % 256 < 128 = omega arith in
    let is : (0 + n) / 256 % 256 % 128 * 256 + (0 + n) % 256 ≡ n = omega arith in
    rw (lt-leb 128 ((0 + n) / 256 % 256) low, is)

wide-head : (n : ℕ) → n ≤ 32767 → head_of ((0x8000 + n) / 256 % 256) ((0x8000 + n) % 256) ≡ record { wide = true; size = 2 * n }
unfolding head_of
wide-head n h =
    let high : 128 ≤ (0x8000 + n) / 256 % 256 = omega arith in
    let is : (0x8000 + n) / 256 % 256 % 128 * 256 + (0x8000 + n) % 256 ≡ n = omega arith in
    rw (le-leb 128 ((0x8000 + n) / 256 % 256) high, is)

head-is : (t : List ℕ) → length (encode16 t) ≤ 32767 → head_of (get_or (head_bytes t) 0 0) (get_or (head_bytes t) 1 0) ≡ head_for t
unfolding head_bytes string_bytes
head-is t h = rw (two_bytes (cond (fits_latin1 t) 0 0x8000 + length (encode16 t))) (go (fits_latin1 t) refl)
  where
    go : (b : Bool) → fits_latin1 t ≡ b
        → head_of ((cond b 0 0x8000 + length (encode16 t)) / 256 % 256) ((cond b 0 0x8000 + length (encode16 t)) % 256)
        ≡ record { wide = not b; size = length (cond b t (utf16le t)) }
    go true e = narrow-head (length (encode16 t)) h ∙ ap (λ (l : List ℕ). record { wide = false; size = length l }) (latin-units t e)
    go false e = wide-head (length (encode16 t)) h ∙ ap (λ n. record { wide = true; size = n }) (sym (unit_bytes-length (encode16 t)))

pub length-head : (t : List ℕ) → length (head_bytes t) ≡ 2
unfolding head_bytes
length-head t = length-be_bytes 2 (cond (fits_latin1 t) 0 0x8000 + length (encode16 t))

head-front : {A : Type 0} (t : List ℕ) → NameFits t → (k : Head → Reading A) (at : ℕ) (r : List ℕ)
    → run (head >>= k) at (head_bytes t ++ r) ≡ run (k (head_for t)) (at + length (head_bytes t)) r
unfolding head
head-front t f k at r =
    run_bytes_lem 2 (λ l. k (head_of (get_or l 0 0) (get_or l 1 0))) at (head_bytes t) r (length-head t)
    ∙ rw (head-is t f.short, length-head t)

-- ---- the strings

pub string_back : (t : List ℕ) → Scalars t → decoded (not (fits_latin1 t)) (string_bytes t) ≡ well t
unfolding string_bytes decoded
string_back t z = go (fits_latin1 t)
  where
    back : from_utf8 (utf8 t) ≡ well t
    back = utf8_decode t z

    go : (b : Bool) → decoded (not b) (cond b t (utf16le t)) ≡ well t
    go true = refl
    go false = ap (λ (d : Decoded). decoded true (utf16le (scalars d))) (sym back) ∙ (wide_back (utf8 t) (ap is_well back) ∙ back)

module _ {A : Type 0} (k : List (List ℕ) → Reading A) (r : List ℕ) where
  strings-front : (ts done : List (List ℕ)) (room : ℕ) → All NameFits ts → room ≡ length (flat string_bytes ts) → (at : ℕ)
      → run (strings_on done (map head_for ts) room >>= k) at (flat string_bytes ts ++ r) ≡ run (k (onto done ts)) (at + length (flat string_bytes ts)) r
  strings-front [] done room ok e at =
      ap (λ q. run q at r) (ask-yes 7 (give (onto done [])) k (eq-eqb room 0 e)) ∙ ap (λ n. run (k (onto done [])) n r) (omega arith)
  strings-front (t ∷ ts) done room ok e at =
      let s = string_bytes t in
      let w = not (fits_latin1 t) in
      let next : List ℕ → Reading (List (List ℕ)) = λ l. ask (is_well (decoded w l)) 6 >> strings_on (base w l ∷ done) (map head_for ts) (room - length s) in
      let n : length (s ++ flat string_bytes ts) ≡ length s + length (flat string_bytes ts) = length-append s (flat string_bytes ts) in
      let m : at + length s + length (flat string_bytes ts) ≡ at + length (s ++ flat string_bytes ts) = omega arith in
      ap (λ q. run q at (s ++ flat string_bytes ts ++ r)) (ask-yes 5 (taken (length s) >>= next) k (le-leb (length s) room (omega arith)))
      ∙ rw (append_assoc s (flat string_bytes ts) r)
      (run_bytes_lem (length s) (λ l. next l >>= k) at s (flat string_bytes ts ++ r) refl
      ∙ rw (string_back t ok.0.well)
      (strings-front ts (t ∷ done) (room - length s) ok.1 (omega arith) (at + length s) ∙ ap (λ n. run (k (onto done (t ∷ ts))) n r) m))

-- ---- the batch

-- the reading past the version, from its parts
abbrev finish : ℕ → ℕ → ℕ → List (List ℕ) → Reading Batch
finish n h p ts = place >>= λ e. give (record { place = record { count = n; headers = h; strings = p; «end» = e }; texts = ts })

abbrev texted : ℕ → ℕ → ℕ → List Head → Reading Batch
texted n room h hs = place >>= λ p. bytes_left >>= λ l. ask (leb room l) 3 >> (strings hs room >>= finish n h p)

body_is : (n room : ℕ) → body n room ≡ over-bytes (8 * n) >>= λ _. place >>= λ h. rows n head >>= texted n room h
unfolding body
body_is n room = refl

module _ {A : Type 0} (k : Batch → Reading A) (ts : List (List ℕ)) (ok : All NameFits ts) (r : List ℕ) where
  abbrev count : ℕ
  count = length ts

  abbrev heads : List ℕ
  heads = flat head_bytes ts

  abbrev room : ℕ
  room = length (flat string_bytes ts)

  abbrev rest : List ℕ
  rest = flat string_bytes ts ++ r

  abbrev found : ℕ → ℕ → Batch
  found h p = record { place = record { count = count; headers = h; strings = p; «end» = p + room }; texts = ts }

  texted-front : (h p : ℕ) → run (texted count room h (map head_for ts) >>= k) p rest ≡ run (k (found h p)) (p + room) r
  unfolding strings
  texted-front h p =
      ap (λ q. run q p rest) (ask-yes 3 (strings (map head_for ts) room >>= finish count h p) k
      (le-leb room (length rest) (omega (arith, length-append (flat string_bytes ts) r))))
      ∙ (ap (λ q. run q p rest) (bind_assoc (strings (map head_for ts) room) (finish count h p) k)
      ∙ strings-front (λ us. finish count h p us >>= k) r ts [] room ok refl p)

  body-front : (at : ℕ) → run (body count room >>= k) at (replicate (8 * count) 0 ++ (heads ++ rest))
      ≡ run (k (found (at + 8 * count) (at + 8 * count + length heads))) (at + 8 * count + length heads + room) r
  body-front at =
      ap (λ q. run (q >>= k) at (replicate (8 * count) 0 ++ (heads ++ rest))) (body_is count room)
      ∙ (run-pass (8 * count) (place >>= λ h. rows count head >>= texted count room h >>= k) at (replicate (8 * count) 0) (heads ++ rest)
      (length-replicate {A = ℕ} (8 * count) 0)
      ∙ (ap (λ q. run q (at + 8 * count) (heads ++ rest)) (bind_assoc (rows count head) (texted count room (at + 8 * count)) k)
      ∙ (rows-front head head_bytes head_for NameFits head-front ts ok (λ hs. texted count room (at + 8 * count) hs >>= k) (at + 8 * count) rest
      ∙ texted-front (at + 8 * count) (at + 8 * count + length heads))))

pub length_some : (ts : List (List ℕ)) → length (some_bytes ts) ≡ 16 + 8 * length ts + 2 * length ts + length (flat string_bytes ts)
unfolding some_bytes
length_some ts =
    let n = length ts in
    let s = flat string_bytes ts in
    let a = le4 n ++ le4 (length s) in
    let b = a ++ le8 0xC1640000 in
    let c = b ++ replicate (8 * n) 0 in
    let d = c ++ flat head_bytes ts in
    rw (
      length-append d s,
      length-append c (flat head_bytes ts),
      length-append b (replicate (8 * n) 0),
      length-append a (le8 0xC1640000),
      length-append (le4 n) (le4 (length s)),
      length-le_bytes 4 n,
      length-le_bytes 4 (length s),
      length-le_bytes 8 0xC1640000,
      length-replicate {A = ℕ} (8 * n) 0,
      length-each head_bytes 2 length-head ts,
    ) (omega arith)

-- where the parts of a batch are, as it is read from a place on; and how long it is: B(0) = 4, B(n) = 16 + 10n + string bytes
abbrev pub names_for : ℕ → List (List ℕ) → Names
names_for at [] = no_parts at
names_for at (t ∷ ts) = parts_of at (length (t ∷ ts)) (length (flat string_bytes (t ∷ ts)))

abbrev pub batch_size : List (List ℕ) → ℕ
batch_size [] = 4
batch_size (t ∷ ts) = 16 + 8 * length (t ∷ ts) + 2 * length (t ∷ ts) + length (flat string_bytes (t ∷ ts))

pub length-batch : (ts : List (List ℕ)) → length (batch_bytes ts) ≡ batch_size ts
unfolding batch_bytes
length-batch [] = length-le_bytes 4 0
length-batch (t ∷ ts) = length_some (t ∷ ts)

-- six parts and the rest
right-nested : (a b c d e f r : List ℕ) → a ++ b ++ c ++ d ++ e ++ f ++ r ≡ a ++ (b ++ (c ++ (d ++ (e ++ (f ++ r)))))
right-nested a b c d e f r = simp append_assoc

some-nested : (l : List (List ℕ)) (r : List ℕ) → some_bytes l ++ r
    ≡ le4 (length l)
    ++ (le4 (length (flat string_bytes l)) ++ (le8 0xC1640000 ++ (replicate (8 * length l) 0 ++ (flat head_bytes l ++ (flat string_bytes l ++ r)))))
unfolding some_bytes
some-nested l r =
    right-nested (le4 (length l)) (le4 (length (flat string_bytes l))) (le8 0xC1640000) (replicate (8 * length l) 0) (flat head_bytes l) (flat string_bytes l) r

module _ {A : Type 0} (k : Batch → Reading A) where
  some-front : (ts : List (List ℕ)) → All NameFits ts → length (flat string_bytes ts) < 256 ^ 4 → (at : ℕ) (r : List ℕ)
      → run (some_names (length ts) >>= k) (at + 4)
      (le4 (length (flat string_bytes ts)) ++ (le8 0xC1640000 ++ (replicate (8 * length ts) 0 ++ (flat head_bytes ts ++ (flat string_bytes ts ++ r)))))
      ≡ run (k (record { place = parts_of at (length ts) (length (flat string_bytes ts)); texts = ts }))
      (at + (16 + 8 * length ts + 2 * length ts + length (flat string_bytes ts))) r
  unfolding some_names
  some-front ts ok fits at r =
      let n = length ts in
      let room = length (flat string_bytes ts) in
      let v : ℕ = 0xC1640000 in
      let t₂ = replicate (8 * n) 0 ++ (flat head_bytes ts ++ (flat string_bytes ts ++ r)) in
      let heads : length (flat head_bytes ts) ≡ 2 * n = length-each head_bytes 2 length-head ts in
      let start : at + 4 + 4 + 8 ≡ at + 16 = omega arith in
      let stop : at + 16 + 8 * n + 2 * n + room ≡ at + (16 + 8 * n + 2 * n + room) = omega arith in
      run-le 4 room (λ x. u64 >>= λ v. (ask (eqb v 0xC1640000) 4 >> body n x) >>= k) (at + 4) (le8 v ++ t₂) fits
      ∙ (run-le 8 v (λ v. (ask (eqb v 0xC1640000) 4 >> body n room) >>= k) (at + 4 + 4) t₂ (lit≤ tt)
      ∙ (ap (λ q. run q (at + 4 + 4 + 8) t₂) (ask-yes 4 (body n room) k (eq-eqb v v refl))
      ∙ (body-front k ts ok r (at + 4 + 4 + 8) ∙ rw (start, heads, stop))))

  -- THE LAW: the bytes of a batch are read as its texts, and the rest is read on
  pub batch-front : (ts : List (List ℕ)) → All NameFits ts → length ts < 256 ^ 4 → length (flat string_bytes ts) < 256 ^ 4 → (at : ℕ) (r : List ℕ)
      → run (batch >>= k) at (batch_bytes ts ++ r) ≡ run (k (record { place = names_for at ts; texts = ts })) (at + batch_size ts) r
  unfolding batch no_names batch_bytes
  batch-front [] ok few fits at r = run-le 4 0 (λ n. choose (eqb n 0) (λ _. no_names) (λ _. some_names n) >>= k) at r few
  batch-front (t ∷ ts) ok few fits at r =
      let l = t ∷ ts in
      let n = length l in
      let t₁ = le4 (length (flat string_bytes l)) ++ (le8 0xC1640000 ++ (replicate (8 * n) 0 ++ (flat head_bytes l ++ (flat string_bytes l ++ r)))) in
      rw (some-nested l r)
      (run-le 4 n (λ n. choose (eqb n 0) (λ _. no_names) (λ _. some_names n) >>= k) at t₁ few
      ∙ (ap (λ b. run (choose b (λ _. no_names) (λ _. some_names n) >>= k) (at + 4) t₁) (ne_eqb n 0 (λ e. omega arith))
      ∙ some-front l ok fits at r))
