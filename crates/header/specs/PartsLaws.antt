-- Laws of a description's texts by position: one that can be written, or not; one text more. Assumes nothing.
use Rattle.std.specs.Prelude.{◌≡◌, Bool, cond, ◌&&◌, List, eqb, ltb, Option, Some, None, MatchBool, take, drop}
use Rattle.std.specs.List.{AllWithin, HoldsAt}
use Rattle.std.proofs.Math.Path.{refl}
use Rattle.std.proofs.Common.{sym, ◌∙◌, ap, mul-suc, length-append}
use Rattle.std.proofs.Math.Bool.{true, false, and-eq-true_iff}
use Prim.Native.Nat.{ℕ, zero, suc, ◌+◌, ◌*◌, ◌-◌, ◌≤◌, ◌<◌}
use native.Mathlib.Omega.{arith}
use borrow.Author.Tests.{le-leb, lt-leb, leb-true, lt-ltb, le-ltb}
use Rattle.std.proofs.Math.Dec.{leb}
use Rattle.std.proofs.Math.ListN.{length}
use Rattle.base.specs.Choose.{pick}
use Rattle.base.specs.Find.{flat}
use Rattle.base.specs.Never.{never}
use Rattle.base.specs.Number.{be_at}
use Rattle.base.specs.ReadingRows.{cells, cells_at, cells-length}
use Rattle.text.specs.Utf16.{is_well, encode16, utf16le}
use Rattle.text.specs.Utf8.{from_utf8}
use Rattle.text.specs.UnitBytesLaws.{unit_bytes-length}
use Rattle.decode.specs.declared.measure.Measured.{Measured}
use Rattle.decode.specs.Measure.{text_of, fits_latin1, measured}
use Rattle.decode.specs.MeasureLaws.{Said}
use Rattle.decode.proofs.MeasureLaws.{measured-text, measured-none, latin-units, latin-length, wide-length}
use Rattle.written.specs.BatchBytes.{string_bytes}
use Rattle.written.specs.HeaderBytes.{longest_name}
use Rattle.zen.specs.Zen.{named}
use Rattle.header.specs.Places.{utf8_at, text_at, next_text, text_well, text_place, texts_from, export_in}
use Rattle.header.specs.TextLoops.{texts-next, place-next}
use Rattle.header.specs.Parts.{text_fits, texts_fit, strings_from, string_size, extent, sized_text, sized_texts, batch_of}
use Rattle.header.specs.declared.check.Extent.{Extent}

-- ---- a string's size

pub string_size_lem : {u : List ℕ} {n : ℕ} {latin : Bool} → Said u n latin → length (string_bytes (text_of u)) ≡ string_size n latin
unfolding string_bytes
string_size_lem {u} {n} {latin} m = rw m.fits (go latin m)
  where
    go : (b : Bool) → Said u n b → length (cond b (text_of u) (utf16le (text_of u))) ≡ string_size n b
    go true m = latin-length m
    go false m = wide-length m

string_bound : (t : List ℕ) → length (string_bytes t) ≤ 2 * length (encode16 t)
unfolding string_bytes
string_bound t = go (fits_latin1 t) refl
  where
    go : (b : Bool) → fits_latin1 t ≡ b → length (cond b t (utf16le t)) ≤ 2 * length (encode16 t)
    go true e = omega (arith, ap length (latin-units t e))
    go false e = omega (arith, unit_bytes-length (encode16 t))

-- ---- a text

pub next-is : (more : ℕ) (s : List ℕ) (at : ℕ) → next_text more s at ≡ at + 4 + be_at 4 s at + more
next-is more s at = refl

-- what it is for a text to be one that can be written
pub record Fitting (more : ℕ) (s : List ℕ) (at : ℕ) : Type 0 where
  pub there : at + 4 ≤ length s
  pub next : next_text more s at ≤ length s
  pub well : is_well (from_utf8 (utf8_at s at)) ≡ true
  pub units : length (encode16 (text_at s at)) ≤ longest_name

module _ (more : ℕ) (s : List ℕ) (at : ℕ) where
  pub fits-yes : Fitting more s at → text_fits more s at ≡ true
  unfolding text_fits text_well
  fits-yes f =
      rw (
        le-leb (at + 4) (length s) f.there,
        le-leb (next_text more s at) (length s) f.next,
        f.well,
        le-leb (length (encode16 (text_at s at))) longest_name f.units,
      )

  pub fits_by : text_fits more s at ≡ true → Fitting more s at
  unfolding text_fits text_well
  fits_by e =
      let a = leb (at + 4) (length s) in
      let b = leb (next_text more s at) (length s) in
      let w = is_well (from_utf8 (utf8_at s at)) in
      let u = leb (length (encode16 (text_at s at))) longest_name in
      let (x, p) = (and-eq-true_iff (a && b && w) u).0 e in
      let (y, q) = (and-eq-true_iff (a && b) w).0 x in
      let (z, r) = (and-eq-true_iff a b).0 y in
      record { there = leb-true _ _ z; next = leb-true _ _ r; well = q; units = leb-true _ _ p }

  -- what the code's tests say
  module _ (inside : at ≤ length s) where
    pub text-short : length s - at < 4 → None ≡ sized_text more s at
    unfolding sized_text text_fits text_well
    text-short h = rw (lt-leb (at + 4) (length s) (omega arith))

    module _ (there : 4 ≤ length s - at) (n : ℕ) (e : n ≡ be_at 4 s at) where
      pub text-long : length s - at - 4 < n + more → None ≡ sized_text more s at
      unfolding sized_text text_fits text_well
      text-long h = rw (le-leb (at + 4) (length s) (omega arith), lt-leb (next_text more s at) (length s) (omega arith))

      -- the code measures from place to place
      part-is : take (at + 4 + n - (at + 4)) (drop (at + 4) s) ≡ utf8_at s at
      part-is = let k : at + 4 + n - (at + 4) ≡ n = omega arith in rw (k, e)

      module _ (room : n + more ≤ length s - at - 4) (x : Option Measured) (is : x ≡ measured (from_utf8 (take (at + 4 + n - (at + 4)) (drop (at + 4) s)))) where
        fits_next : next_text more s at ≤ length s
        fits_next = omega arith

        measured-is : measured (from_utf8 (utf8_at s at)) ≡ x
        measured-is = rw (← part-is) (sym is)

        pub text-ill : x ≡ None → None ≡ sized_text more s at
        unfolding sized_text text_fits text_well
        text-ill m =
            rw (
              le-leb (at + 4) (length s) (omega arith),
              le-leb (next_text more s at) (length s) fits_next,
              measured-none (utf8_at s at) (measured-is ∙ m),
            )

        module _ (m : Measured) (m-is : x ≡ Some m) where
          said : Said (utf8_at s at) m.units m.latin
          said = measured-text (utf8_at s at) (measured-is ∙ m-is)

          pub text-units : longest_name < m.units → None ≡ sized_text more s at
          unfolding sized_text text_fits text_well
          text-units h =
              rw (
                le-leb (at + 4) (length s) (omega arith),
                le-leb (next_text more s at) (length s) fits_next,
                said.is-utf8,
                lt-leb (length (encode16 (text_at s at))) longest_name (omega (arith, said.units)),
              )

          pub text_fits_lem : m.units ≤ longest_name → (k : ℕ) → k ≡ string_size m.units m.latin → Some (extent (at + 4 + n + more) k) ≡ sized_text more s at
          unfolding sized_text
          text_fits_lem h k q =
              let f = fits-yes (record { there = omega arith; next = fits_next; well = said.is-utf8; units = omega (arith, said.units) }) in
              let p : at + 4 + n + more ≡ next_text more s at = omega (arith, next-is more s at) in
              rw (f, p, q, string_size_lem said)

  pub sized-to : {t : Extent} → sized_text more s at ≡ Some t → Fitting more s at × (t.next ≡ next_text more s at) × (t.size ≡ length (string_bytes (text_at s at)))
  unfolding sized_text
  sized-to {t} e = go (text_fits more s at) refl e
    where
      here : Extent
      here = extent (next_text more s at) (length (string_bytes (text_at s at)))

      go : (b : Bool) → text_fits more s at ≡ b → pick b (Some here) None ≡ Some t
          → Fitting more s at × (t.next ≡ next_text more s at) × (t.size ≡ length (string_bytes (text_at s at)))
      go true f e = let q : here ≡ t = cc in (fits_by f, sym (ap (λ (t : Extent). t.next) q), sym (ap (λ (t : Extent). t.size) q))
      go false f e = never (cc)

  pub sized-bad : sized_text more s at ≡ None → text_fits more s at ≡ false
  unfolding sized_text
  sized-bad e = go (text_fits more s at) refl e
    where
      here : Extent
      here = extent (next_text more s at) (length (string_bytes (text_at s at)))

      go : (b : Bool) → text_fits more s at ≡ b → pick b (Some here) None ≡ None → b ≡ false
      go true f e = never (cc)
      go false f e = refl

  pub text_bound : Fitting more s at → length (string_bytes (text_at s at)) ≤ 65534
  text_bound f = omega (arith, string_bound (text_at s at), f.units)

-- ---- texts

module _ (more : ℕ) (s : List ℕ) where
  fit-more : (at n : ℕ) → 0 < n → texts_fit more s at n ≡ (text_fits more s at && texts_fit more s (next_text more s at) (n - 1))
  unfolding texts_fit
  fit-more at zero h = absurd (omega arith)
  fit-more at (suc n) h = let e : suc n - 1 ≡ n = omega arith in rw e

  strings-more : (at n : ℕ) → 0 < n → strings_from more s at n ≡ length (string_bytes (text_at s at)) + strings_from more s (next_text more s at) (n - 1)
  unfolding strings_from
  strings-more at n h =
      rw (texts-next more s n at h) (length-append (string_bytes (text_at s at)) (flat string_bytes (texts_from more s (next_text more s at) (n - 1))))

  -- the first of some texts that can be written, and the others
  pub fit-first : (at n : ℕ) → 0 < n → texts_fit more s at n ≡ true → Fitting more s at × (texts_fit more s (next_text more s at) (n - 1) ≡ true)
  fit-first at n h e =
      let (a, b) = (and-eq-true_iff (text_fits more s at) (texts_fit more s (next_text more s at) (n - 1))).0 (sym (fit-more at n h) ∙ e) in
      (fits_by more s at a, b)

  strings-zero : (at : ℕ) → strings_from more s at 0 ≡ 0
  unfolding strings_from texts_from
  strings-zero at = refl

  -- how many bytes their strings take, and where they end
  pub strings_bound : (at n : ℕ) → texts_fit more s at n ≡ true → strings_from more s at n ≤ 65534 * n
  strings_bound at zero e = omega (arith, strings-zero at)
  strings_bound at (suc n) e =
      let (f, g) = fit-first at (suc n) (omega arith) e in
      let d : suc n - 1 ≡ n = omega arith in
      let ih = strings_bound (next_text more s at) n (rw d at g) in
      let e : strings_from more s at (suc n) ≡ length (string_bytes (text_at s at)) + strings_from more s (next_text more s at) n =
      rw d at (strings-more at (suc n) (omega arith)) in
      omega (arith, text_bound more s at f, mul-suc 65534 n)

  pub place_bound : (at n : ℕ) → at ≤ length s → texts_fit more s at n ≡ true → text_place more s at n ≤ length s
  unfolding text_place
  place_bound at zero h e = h
  place_bound at (suc n) h e =
      let (f, g) = fit-first at (suc n) (omega arith) e in
      let d : suc n - 1 ≡ n = omega arith in
      place_bound (next_text more s at) n f.next (rw d at g)

  -- what a turn of the code's loop says
  module _ (size at n : ℕ) where
    pub turn-none : n ≤ 0 → Some (extent at size) ≡ sized_texts size more s at n
    unfolding sized_texts texts_fit text_place strings_from texts_from
    turn-none h = go n h
      where
        go : (n : ℕ) → n ≤ 0
            → Some (extent at size) ≡ pick (texts_fit more s at n) (Some (extent (text_place more s at n) (size + length (flat string_bytes (texts_from more s at n))))) None
        go zero h = let e : size + 0 ≡ size = omega arith in rw e
        go (suc n) h = absurd (omega arith)

    module _ (h : 0 < n) where
      pub turn-bad : sized_text more s at ≡ None → None ≡ sized_texts size more s at n
      unfolding sized_texts
      turn-bad e = rw (fit-more at n h, sized-bad more s at e)

      pub turn_more : {t : Extent} → sized_text more s at ≡ Some t → sized_texts (size + t.size) more s t.next (n - 1) ≡ sized_texts size more s at n
      unfolding sized_texts
      turn_more {t} e =
          let (f, p, q) = sized-to more s at e in
          let a : size + length (string_bytes (text_at s at)) + strings_from more s (next_text more s at) (n - 1) ≡ size + strings_from more s at n =
          omega (arith, strings-more at n h) in
          rw (fit-more at n h, fits-yes more s at f, place-next more s n at h, p, q, a)

  -- what the loop's answer says
  pub sized-all : (at n : ℕ) {t : Extent} → sized_texts 0 more s at n ≡ Some t
      → (texts_fit more s at n ≡ true) × (t.next ≡ text_place more s at n) × (t.size ≡ strings_from more s at n)
  unfolding sized_texts
  sized-all at n {t} e = go (texts_fit more s at n) refl e
    where
      all : Extent
      all = extent (text_place more s at n) (0 + strings_from more s at n)

      go : (b : Bool) → texts_fit more s at n ≡ b → pick b (Some all) None ≡ Some t
          → (b ≡ true) × (t.next ≡ text_place more s at n) × (t.size ≡ strings_from more s at n)
      go true f e =
          let q : all ≡ t = cc in
          let z : 0 + strings_from more s at n ≡ t.size = ap (λ (t : Extent). t.size) q in
          (refl, sym (ap (λ (t : Extent). t.next) q), omega arith)
      go false f e = never (cc)

  pub sized-none : (at n : ℕ) → sized_texts 0 more s at n ≡ None → texts_fit more s at n ≡ true → ⊥
  unfolding sized_texts
  sized-none at n e f = let g : Some (extent (text_place more s at n) (0 + strings_from more s at n)) ≡ None = rw f at e in never (cc)

-- ---- exports, by their text numbers

module _ (s : List ℕ) (count : ℕ) where
  pub named_none : (at k : ℕ) → k ≤ 0 → named count (cells (export_in s) 40 at k) ≡ true
  named_none at zero l = refl
  named_none at (suc k) l = absurd (omega arith)

  pub named-pass : (at k x : ℕ) → 0 < k → x ≡ be_at 4 s at → x < count
      → named count (cells (export_in s) 40 at k) ≡ named count (cells (export_in s) 40 (at + 40) (k - 1))
  unfolding export_in
  named-pass at zero x l e g = absurd (omega arith)
  named-pass at (suc k) x l e g = let d : suc k - 1 ≡ k = omega arith in rw (← e, lt-ltb x count g, d)

  pub named_fail : (at k x : ℕ) → 0 < k → x ≡ be_at 4 s at → count ≤ x → named count (cells (export_in s) 40 at k) ≡ false
  unfolding export_in
  named_fail at zero x l e g = absurd (omega arith)
  named_fail at (suc k) x l e g = rw (← e, le-ltb x count g)

  named-each : (k at : ℕ) → ((i : ℕ) → i < k → be_at 4 s (at + 40 * i) < count) → named count (cells (export_in s) 40 at k) ≡ true
  unfolding export_in
  named-each zero at f = refl
  named-each (suc k) at f =
      let first : at + 40 * 0 ≡ at = omega arith in
      rw (lt-ltb (be_at 4 s at) count (rw first at (f 0 (omega arith))))
      (named-each k (at + 40) (λ i h. let e : at + 40 * suc i ≡ at + 40 + 40 * i = omega arith in rw e at (f (suc i) (omega arith))))

  named-one : (k at i : ℕ) → i < k → count ≤ be_at 4 s (at + 40 * i) → named count (cells (export_in s) 40 at k) ≡ false
  unfolding export_in
  named-one zero at i h g = absurd (omega arith)
  named-one (suc k) at zero h g = let first : at + 40 * 0 ≡ at = omega arith in rw (le-ltb (be_at 4 s at) count (rw first at g))
  named-one (suc k) at (suc i) h g =
      let e : at + 40 * suc i ≡ at + 40 + 40 * i = omega arith in
      rw (named-one k (at + 40) i (omega arith) (rw e at g)) (and-false (ltb (be_at 4 s at) count))
    where
      and-false : (b : Bool) → (b && false) ≡ false
      and-false true = refl
      and-false false = refl

  -- what the code's chain says: each is within the list, or one is not
  pub all-named : (at k : ℕ) (r : Bool)
      → MatchBool r (AllWithin (λ n. n < count) (cells (be_at 4 s) 40 at k) 0 (length (cells (be_at 4 s) 40 at k)))
      ((i : ℕ) × (i < length (cells (be_at 4 s) 40 at k)) × HoldsAt (λ n. count ≤ n) (cells (be_at 4 s) 40 at k) i)
      → r ≡ named count (cells (export_in s) 40 at k)
  all-named at k true m =
      sym (named-each k at (λ i h. rw (cells_at (be_at 4 s) 40 at k i 0 h) at (m i 0 (omega arith) (omega (arith, cells-length (be_at 4 s) 40 at k)))))
  all-named at k false (i, h, m) =
      let l : i < k = omega (arith, cells-length (be_at 4 s) 40 at k) in
      sym (named-one k at i l (rw (cells_at (be_at 4 s) 40 at k i 0 l) at (m 0)))

-- ---- sizes

pub batch-most : (count strings : ℕ) → strings ≤ 65534 * count → batch_of count strings ≤ 16 + 65544 * count
unfolding batch_of
batch-most count strings h = go (eqb count 0)
  where
    go : (b : Bool) → cond b 4 (16 + 10 * count + strings) ≤ 16 + 65544 * count
    go true = omega arith
    go false = omega arith
