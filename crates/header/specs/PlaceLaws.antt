-- A description by position is what its reading gives, where its tests are passed.
use Rattle.std.specs.Prelude.{◌≡◌, refl, Bool, false, ◌&&◌, List, [], ◌∷◌, eqb}
use Rattle.std.proofs.Common.{sym, ◌∙◌, ap}
use Rattle.std.proofs.Math.Bool.{true}
use Prim.Native.Nat.{ℕ, zero, suc, ◌+◌, ◌-◌}
use native.Mathlib.Omega.{arith}
use borrow.Author.Tests.{le-leb, leb-true}
use Rattle.std.proofs.Math.Dec.{leb}
use Rattle.std.proofs.Math.ListN.{length}
use Rattle.base.specs.House.{be_number}
use Rattle.base.specs.Number.{be_at}
use Rattle.base.specs.Reading.{Reading, give, ◌>>=◌, ◌>>◌, taken, bytes_left, ask, rows}
use Rattle.base.specs.ReadingRows.{cells, rows_none, rows_step}
use Rattle.text.specs.Utf16.{is_well}
use Rattle.text.specs.Utf8.{from_utf8}
use Rattle.decode.specs.Measure.{text_of}
use Rattle.zen.specs.declared.tables.Export.{Export}
use Rattle.description.specs.Form.{description_version, text, export, imported, list_of, content, description}
use Rattle.description.specs.FormLaws.{ended, tail, hashed, exported, named}
use Rattle.header.specs.Places.{utf8_at, text_at, text_end, next_text, text_well, text_place, texts_from, texts_well, imported_at, imported_from, export_in}
use Rattle.header.specs.Places.{text_count, exports_place, export_count, hashes_place, hash_count, imported_place, imported_count, form_end, description_at}
use Rattle.header.specs.Told.{Told, told_as, told_bind, told-number, told-taken, told-asked, told-ask, told-left, told-give, told-map, cells_told}
use Rattle.header.specs.Told.{regroup, and-false, absorb}

-- ---- texts

module _ (s : List ℕ) where
  text-told : (at : ℕ)
      → Told text s at (leb (at + 4) (length s) && (leb (text_end s at) (length s) && is_well (from_utf8 (utf8_at s at)))) (text_at s at) (text_end s at)
  unfolding text
  text-told at =
      told_bind (be_number 4) (λ n. taken n >>= λ l. ask (is_well (from_utf8 l)) 27 >> give (text_of l)) s at (leb (at + 4) (length s)) (told-number s at 4) λ e.
      told_bind (taken (be_at 4 s at)) (λ l. ask (is_well (from_utf8 l)) 27 >> give (text_of l)) s (at + 4) (leb (text_end s at) (length s))
      (told-taken s (at + 4) (be_at 4 s at)) λ e.
      told-asked s (text_end s at) (is_well (from_utf8 (utf8_at s at))) 27 (text_at s at)

  name-told : (at : ℕ) → Told text s at (text_well 0 s at) (text_at s at) (next_text 0 s at)
  unfolding text_well
  name-told at =
      let e : text_end s at + 0 ≡ text_end s at = omega arith in
      rw e (told_as (regroup (leb (at + 4) (length s)) (leb (text_end s at) (length s)) (is_well (from_utf8 (utf8_at s at)))) (text-told at))

  -- with the number behind it
  behind : (a b c d : Bool) → (d ≡ true → b ≡ true) → a && (b && c) && d ≡ a && d && c
  behind a b c false f = and-false (a && (b && c)) ∙ ap (λ x. x && c) (sym (and-false a))
  behind a b c true f = rw (f refl) (last a c)
    where
      last : (a c : Bool) → a && c && true ≡ a && true && c
      last true true = refl
      last true false = refl
      last false c = refl

  imported-told : (at : ℕ) → Told imported s at (text_well 4 s at) (imported_at s at) (next_text 4 s at)
  unfolding imported imported_at text_well
  imported-told at =
      let a = leb (at + 4) (length s) in
      let b = leb (text_end s at) (length s) in
      let c = is_well (from_utf8 (utf8_at s at)) in
      let d = leb (text_end s at + 4) (length s) in
      let up : d ≡ true → b ≡ true = λ e. le-leb (text_end s at) (length s) (omega (arith, leb-true (text_end s at + 4) (length s) e)) in
      told_as (behind a b c d up)
      (told_bind text (λ t. be_number 4 >>= λ n. give (record { text = t; number = n })) s at (a && (b && c)) (text-told at) λ e.
      told-map (λ n. record { text = text_at s at; number = n }) (be_number 4) s (text_end s at) (told-number s (text_end s at) 4))

  names-told : (n at : ℕ) → Told (rows n text) s at (texts_well 0 s at n) (texts_from 0 s at n) (text_place 0 s at n)
  unfolding texts_well texts_from text_place
  names-told zero at = rw (rows_none text) (told-give s at [])
  names-told (suc n) at =
      rw (rows_step text n)
      (told_bind text (λ x. rows n text >>= λ xs. give (x ∷ xs)) s at (text_well 0 s at) (name-told at) λ e.
      told-map (λ xs. text_at s at ∷ xs) (rows n text) s (next_text 0 s at) (names-told n (next_text 0 s at)))

  importeds_told : (n at : ℕ) → Told (rows n imported) s at (texts_well 4 s at n) (imported_from s at n) (text_place 4 s at n)
  unfolding texts_well imported_from text_place
  importeds_told zero at = rw (rows_none imported) (told-give s at [])
  importeds_told (suc n) at =
      rw (rows_step imported n)
      (told_bind imported (λ x. rows n imported >>= λ xs. give (x ∷ xs)) s at (text_well 4 s at) (imported-told at) λ e.
      told-map (λ xs. imported_at s at ∷ xs) (rows n imported) s (next_text 4 s at) (importeds_told n (next_text 4 s at)))

  export-told : (at : ℕ) → Told export s at (leb (at + 40) (length s)) (export_in s at) (at + 40)
  unfolding export export_in
  export-told at =
      let n = length s in
      let a₁ = at + 4 in
      let a₂ = at + 8 in
      let a₃ = at + 16 in
      let a₄ = at + 24 in
      let a₅ = at + 32 in
      let c₆ : ℕ → ℕ → ℕ → ℕ → ℕ → ℕ → Export = λ i n o c p h. record { index = i; number = n; outer = o; class = c; parent = p; hash = h } in
      let c₅ : ℕ → ℕ → ℕ → ℕ → ℕ → Reading Export = λ i n o c p. be_number 8 >>= λ h. give (c₆ i n o c p h) in
      let c₄ : ℕ → ℕ → ℕ → ℕ → Reading Export = λ i n o c. be_number 8 >>= c₅ i n o c in
      let c₃ : ℕ → ℕ → ℕ → Reading Export = λ i n o. be_number 8 >>= c₄ i n o in
      let c₂ : ℕ → ℕ → Reading Export = λ i n. be_number 8 >>= c₃ i n in
      let c₁ : ℕ → Reading Export = λ i. be_number 4 >>= c₂ i in
      let i = be_at 4 s at in
      let m = be_at 4 s a₁ in
      let o = be_at 8 s a₂ in
      let c = be_at 8 s a₃ in
      let p = be_at 8 s a₄ in
      let e₂ : at + 4 + 4 ≡ a₂ = omega arith in
      let e₃ : a₂ + 8 ≡ a₃ = omega arith in
      let e₄ : a₃ + 8 ≡ a₄ = omega arith in
      let e₅ : a₄ + 8 ≡ a₅ = omega arith in
      let e₆ : a₅ + 8 ≡ at + 40 = omega arith in
      let t₆ : Told (c₅ i m o c p) s a₅ (leb (at + 40) n) (c₆ i m o c p (be_at 8 s a₅)) (at + 40) =
      told-map (c₆ i m o c p) (be_number 8) s a₅ (eight a₅ (at + 40) e₆) in
      let t₅ : Told (c₄ i m o c) s a₄ (leb (at + 40) n) (c₆ i m o c p (be_at 8 s a₅)) (at + 40) =
      told_as (absorb a₅ (at + 40) n (omega arith)) (told_bind (be_number 8) (c₅ i m o c) s a₄ (leb a₅ n) (eight a₄ a₅ e₅) λ e. t₆) in
      let t₄ : Told (c₃ i m o) s a₃ (leb (at + 40) n) (c₆ i m o c p (be_at 8 s a₅)) (at + 40) =
      told_as (absorb a₄ (at + 40) n (omega arith)) (told_bind (be_number 8) (c₄ i m o) s a₃ (leb a₄ n) (eight a₃ a₄ e₄) λ e. t₅) in
      let t₃ : Told (c₂ i m) s a₂ (leb (at + 40) n) (c₆ i m o c p (be_at 8 s a₅)) (at + 40) =
      told_as (absorb a₃ (at + 40) n (omega arith)) (told_bind (be_number 8) (c₃ i m) s a₂ (leb a₃ n) (eight a₂ a₃ e₃) λ e. t₄) in
      let t₂ : Told (c₁ i) s a₁ (leb (at + 40) n) (c₆ i m o c p (be_at 8 s a₅)) (at + 40) =
      told_as (absorb a₂ (at + 40) n (omega arith)) (told_bind (be_number 4) (c₂ i) s a₁ (leb a₂ n) (four a₁ a₂ e₂) λ e. t₃) in
      told_as (absorb a₁ (at + 40) n (omega arith)) (told_bind (be_number 4) c₁ s at (leb a₁ n) (told-number s at 4) λ e. t₂)
    where
      four : (at stop : ℕ) → at + 4 ≡ stop → Told (be_number 4) s at (leb stop (length s)) (be_at 4 s at) stop
      four at stop e = rw (← e) (told-number s at 4)

      eight : (at stop : ℕ) → at + 8 ≡ stop → Told (be_number 8) s at (leb stop (length s)) (be_at 8 s at) stop
      eight at stop e = rw (← e) (told-number s at 8)

-- ---- the whole, by what its reading tests

module _ (s : List ℕ) where
  abbrev pub tests : Bool
  tests =
      leb 9 (length s)
      && (leb 13 (length s)
      && ((leb 17 (length s) && texts_well 0 s 17 (text_count s))
      && ((leb (exports_place s + 4) (length s) && leb (hashes_place s) (length s))
      && ((leb (hashes_place s + 4) (length s) && leb (imported_place s) (length s))
      && ((leb (imported_place s + 4) (length s) && texts_well 4 s (imported_place s + 4) (imported_count s)) && eqb (length s - form_end s) 0)))))

  content-told : Told content s 5 tests (description_at s) (form_end s)
  unfolding content description_at exports_place hashes_place imported_place form_end
  content-told =
      let ts = texts_from 0 s 17 (text_count s) in
      let es = cells (export_in s) 40 (exports_place s + 4) (export_count s) in
      let hs = cells (be_at 8 s) 8 (hashes_place s + 4) (hash_count s) in
      told_bind (be_number 4) (λ i. be_number 4 >>= named i) s 5 (leb 9 (length s)) (told-number s 5 4) λ e.
      told_bind (be_number 4) (named (be_at 4 s 5)) s 9 (leb 13 (length s)) (told-number s 9 4) λ e.
      told_bind (list_of text) (exported (be_at 4 s 5) (be_at 4 s 9)) s 13 (leb 17 (length s) && texts_well 0 s 17 (text_count s))
      (told_bind (be_number 4) (λ n. rows n text) s 13 (leb 17 (length s)) (told-number s 13 4) λ e. names-told s (text_count s) 17) λ e.
      told_bind (list_of export) (hashed (be_at 4 s 5) (be_at 4 s 9) ts) s (exports_place s) (leb (exports_place s + 4) (length s) && leb (hashes_place s) (length s))
      (told_bind (be_number 4) (λ n. rows n export) s (exports_place s) (leb (exports_place s + 4) (length s)) (told-number s (exports_place s) 4) λ e.
      cells_told s export (export_in s) 40 (export-told s) (export_count s) (exports_place s + 4) (leb-true _ _ e)) λ e.
      told_bind (list_of (be_number 8)) (tail (be_at 4 s 5) (be_at 4 s 9) ts es) s (hashes_place s)
      (leb (hashes_place s + 4) (length s) && leb (imported_place s) (length s))
      (told_bind (be_number 4) (λ n. rows n (be_number 8)) s (hashes_place s) (leb (hashes_place s + 4) (length s)) (told-number s (hashes_place s) 4) λ e.
      cells_told s (be_number 8) (be_at 8 s) 8 (λ at. told-number s at 8) (hash_count s) (hashes_place s + 4) (leb-true _ _ e)) λ e.
      told_bind (list_of imported) (ended (be_at 4 s 5) (be_at 4 s 9) ts es hs) s (imported_place s)
      (leb (imported_place s + 4) (length s) && texts_well 4 s (imported_place s + 4) (imported_count s))
      (told_bind (be_number 4) (λ n. rows n imported) s (imported_place s) (leb (imported_place s + 4) (length s)) (told-number s (imported_place s) 4) λ e.
      importeds_told s (imported_count s) (imported_place s + 4)) λ e.
      told_bind bytes_left (λ rest. ask (eqb rest 0) 27 >> give (description_at s)) s (form_end s) true (told-left s (form_end s)) λ e.
      told-asked s (form_end s) (eqb (length s - form_end s) 0) 27 (description_at s)

  pub description-told : Told description s 0
      (leb 4 (length s) && (eqb (be_at 4 s 0) (length s - 4) && (leb 5 (length s) && (eqb (be_at 1 s 4) description_version && tests))))
      (description_at s) (form_end s)
  unfolding description
  description-told =
      told_bind (be_number 4) (λ n. bytes_left >>= λ left. ask (eqb n left) 27 >> (be_number 1 >>= λ v. ask (eqb v description_version) 27 >> content)) s 0
      (leb 4 (length s)) (told-number s 0 4) λ e.
      told_bind bytes_left (λ left. ask (eqb (be_at 4 s 0) left) 27 >> (be_number 1 >>= λ v. ask (eqb v description_version) 27 >> content)) s 4 true
      (told-left s 4) λ e.
      told_bind (ask (eqb (be_at 4 s 0) (length s - 4)) 27) (λ _. be_number 1 >>= λ v. ask (eqb v description_version) 27 >> content) s 4
      (eqb (be_at 4 s 0) (length s - 4)) (told-ask s 4 (eqb (be_at 4 s 0) (length s - 4)) 27) λ e.
      told_bind (be_number 1) (λ v. ask (eqb v description_version) 27 >> content) s 4 (leb 5 (length s)) (told-number s 4 1) λ e.
      told_bind (ask (eqb (be_at 1 s 4) description_version) 27) (λ _. content) s 5 (eqb (be_at 1 s 4) description_version)
      (told-ask s 5 (eqb (be_at 1 s 4) description_version) 27) λ e. content-told
