-- The house form is one form in bytes for each description: its bytes are read as it, and whatever is read is its bytes.
use Rattle.std.specs.Prelude.{◌≡◌, eqb}
use Rattle.std.proofs.Math.Path.{refl, sym}
use Rattle.std.proofs.Common.{◌∙◌, ap, eq-eqb, eqb-true}
use mathlib.Core.List.{List, [], ◌∷◌, ◌++◌, append_assoc, append-nil}
use Prim.Native.Nat.{ℕ, ◌+◌, ◌^◌, ◌<◌}
use native.Mathlib.Omega.{arith}
use Rattle.std.proofs.Math.ListN.{length, length-append}
use Rattle.base.specs.Find.{flat}
use Rattle.base.specs.House.{be_number}
use Rattle.text.specs.Name.{text_bytes}
use Rattle.base.specs.Number.{be, be_bytes}
use Rattle.base.specs.NumberLaws.{Bytes, length-be_bytes}
use Rattle.base.specs.Reading.{Out, gives, Reading, give, run, ◌>>=◌, ◌>>◌, taken, bytes_left, ask, rows}
use Rattle.base.specs.ReadingLaws.{bind_assoc}
use Rattle.base.specs.ReadingFront.{run_bytes_lem, run-be, bytes-by, be-by, asked_by}
use Rattle.base.specs.ReadingFrontRows.{Took, ask-give, rows_same, rows_took}
use Rattle.text.specs.Utf16.{is_well}
use Rattle.text.specs.Utf8.{utf8, from_utf8}
use Rattle.text.specs.Utf8Laws.{utf8_decode}
use Rattle.decode.specs.Measure.{text_of}
use Rattle.decode.specs.ReadLaws.{utf8_encode}
use Rattle.written.specs.HeaderBytes.{ImportedName, Description}
use Rattle.zen.specs.declared.tables.Export.{Export}
use Rattle.description.specs.Form.{description_version, text, export, imported, list_of, content, description}
use Rattle.description.specs.FormBytes.{export_form, imported_form, list_form, content_form, description_bytes}
pub use Rattle.description.specs.FormLaws.{ExportFits, Fits, Formed, Housed, ImportedFits, ListFits, TextFits, ended, exported, hashed, named, tail}

-- ---- from values to bytes

fields_of : (e : Export) (r : List ℕ) → export_form e ++ r
    ≡ be_bytes 4 e.index
    ++ (be_bytes 4 e.number ++ (be_bytes 8 e.outer ++ (be_bytes 8 e.class ++ (be_bytes 8 e.parent ++ (be_bytes 8 e.hash ++ r)))))
unfolding export_form
fields_of e r = simp append_assoc

length-export : (e : Export) → length (export_form e) ≡ 40
unfolding export_form be_bytes
length-export e = refl

module _ {A : Type 0} where
  number-front : (n x : ℕ) → x < 256 ^ n → (k : ℕ → Reading A) (at : ℕ) (r : List ℕ)
      → run (be_number n >>= k) at (be_bytes n x ++ r) ≡ run (k x) (at + length (be_bytes n x)) r
  number-front n x h k at r = run-be n x k at r h ∙ rw (length-be_bytes n x)

  text-front : (t : List ℕ) → TextFits t → (k : List ℕ → Reading A) (at : ℕ) (r : List ℕ)
      → run (text >>= k) at (text_bytes t ++ r) ≡ run (k t) (at + length (text_bytes t)) r
  unfolding text text_bytes
  text-front t f k at r =
      let u = utf8 t in
      let n : at + length (be_bytes 4 (length u) ++ u) ≡ at + 4 + length u =
      omega (arith, length-append (be_bytes 4 (length u)) u, length-be_bytes 4 (length u)) in
      rw (append_assoc (be_bytes 4 (length u)) u r, n)
      (run-be 4 (length u) (λ n. taken n >>= λ s. (ask (is_well (from_utf8 s)) 27 >> give (text_of s)) >>= k) at (u ++ r) f.size
      ∙ (run_bytes_lem (length u) (λ s. (ask (is_well (from_utf8 s)) 27 >> give (text_of s)) >>= k) (at + 4) u r refl ∙ rw (utf8_decode t f.well)))

  export-front : (e : Export) → ExportFits e → (k : Export → Reading A) (at : ℕ) (r : List ℕ)
      → run (export >>= k) at (export_form e ++ r) ≡ run (k e) (at + length (export_form e)) r
  unfolding export
  export-front e f k at r =
      let r₆ = be_bytes 8 e.hash ++ r in
      let r₅ = be_bytes 8 e.parent ++ r₆ in
      let r₄ = be_bytes 8 e.class ++ r₅ in
      let r₃ = be_bytes 8 e.outer ++ r₄ in
      let r₂ = be_bytes 4 e.number ++ r₃ in
      let c₆ : ℕ → ℕ → ℕ → ℕ → ℕ → ℕ → Reading A = λ i n o c p h. k (record { index = i; number = n; outer = o; class = c; parent = p; hash = h }) in
      let c₅ : ℕ → ℕ → ℕ → ℕ → ℕ → Reading A = λ i n o c p. be_number 8 >>= c₆ i n o c p in
      let c₄ : ℕ → ℕ → ℕ → ℕ → Reading A = λ i n o c. be_number 8 >>= c₅ i n o c in
      let c₃ : ℕ → ℕ → ℕ → Reading A = λ i n o. be_number 8 >>= c₄ i n o in
      let c₂ : ℕ → ℕ → Reading A = λ i n. be_number 8 >>= c₃ i n in
      let c₁ : ℕ → Reading A = λ i. be_number 4 >>= c₂ i in
      let n : at + 4 + 4 + 8 + 8 + 8 + 8 ≡ at + 40 = omega arith in
      rw (fields_of e r, length-export e)
      (run-be 4 e.index c₁ at r₂ f.index
      ∙ (run-be 4 e.number (c₂ e.index) (at + 4) r₃ f.number
      ∙ (run-be 8 e.outer (c₃ e.index e.number) (at + 4 + 4) r₄ f.outer
      ∙ (run-be 8 e.class (c₄ e.index e.number e.outer) (at + 4 + 4 + 8) r₅ f.class
      ∙ (run-be 8 e.parent (c₅ e.index e.number e.outer e.class) (at + 4 + 4 + 8 + 8) r₆ f.parent
      ∙ (run-be 8 e.hash (c₆ e.index e.number e.outer e.class e.parent) (at + 4 + 4 + 8 + 8 + 8) r f.hash ∙ rw n))))))

  imported-front : (i : ImportedName) → ImportedFits i → (k : ImportedName → Reading A) (at : ℕ) (r : List ℕ)
      → run (imported >>= k) at (imported_form i ++ r) ≡ run (k i) (at + length (imported_form i)) r
  unfolding imported imported_form
  imported-front i f k at r =
      let t = text_bytes i.text in
      let n : at + length (t ++ be_bytes 4 i.number) ≡ at + length t + length (be_bytes 4 i.number) =
      omega (arith, length-append t (be_bytes 4 i.number)) in
      let last : List ℕ → ℕ → Reading A = λ t n. k (record { text = t; number = n }) in
      rw (append_assoc t (be_bytes 4 i.number) r, n)
      (ap (λ q. run q at (t ++ (be_bytes 4 i.number ++ r))) (bind_assoc text (λ t. be_number 4 >>= λ n. give (record { text = t; number = n })) k)
      ∙ (text-front i.text f.text (λ t. be_number 4 >>= last t) at (be_bytes 4 i.number ++ r)
      ∙ number-front 4 i.number f.number (last i.text) (at + length t) r))

module _ {X A : Type 0} (p : Reading X) (f : X → List ℕ) (Ok : X → Type 0)
    (one : (x : X) → Ok x → (k : X → Reading A) (at : ℕ) (r : List ℕ) → run (p >>= k) at (f x ++ r) ≡ run (k x) (at + length (f x)) r) where
  list_front : (xs : List X) → ListFits Ok xs → (k : List X → Reading A) (at : ℕ) (r : List ℕ) (out : Out A)
      → ((at : ℕ) → run (k xs) at r ≡ out) → run (list_of p >>= k) at (list_form f xs ++ r) ≡ out
  list_front xs fits k at r out e =
      rw (append_assoc (be_bytes 4 (length xs)) (flat f xs) r)
      (run-be 4 (length xs) (λ n. rows n p >>= k) at (flat f xs ++ r) fits.count
      ∙ (rows_same p f Ok one xs fits.each k (at + 4) r ∙ e (at + 4 + length (flat f xs))))

content-is : content ≡ be_number 4 >>= λ i. be_number 4 >>= named i
unfolding content
content-is = refl

-- six parts and nothing behind them
six : (a b c d e f : List ℕ) → a ++ b ++ c ++ d ++ e ++ f ≡ a ++ (b ++ (c ++ (d ++ (e ++ (f ++ [])))))
six a b c d e f = simp (append_assoc, append-nil)

content-front : (d : Description) → Fits d → (at : ℕ) → run content at (content_form d) ≡ gives d
unfolding content_form
content-front d f at =
    let r₅ = list_form imported_form d.imported ++ [] in
    let r₄ = list_form (be_bytes 8) d.hashes ++ r₅ in
    let r₃ = list_form export_form d.exports ++ r₄ in
    let r₂ = list_form text_bytes d.texts ++ r₃ in
    let r₁ = be_bytes 4 d.number ++ r₂ in
    rw (
      content-is,
      six (be_bytes 4 d.name) (be_bytes 4 d.number) (list_form text_bytes d.texts) (list_form export_form d.exports)
          (list_form (be_bytes 8) d.hashes) (list_form imported_form d.imported),
    )
    (run-be 4 d.name (λ i. be_number 4 >>= named i) at r₁ f.name
    ∙ (run-be 4 d.number (named d.name) (at + 4) r₂ f.number
    ∙ list_front text text_bytes TextFits text-front d.texts f.texts (exported d.name d.number) (at + 4 + 4) r₃ (gives d) λ at.
    list_front export export_form ExportFits export-front d.exports f.exports (hashed d.name d.number d.texts) at r₄ (gives d) λ at.
    list_front (be_number 8) (be_bytes 8) (λ h. h < 256 ^ 8) (number-front 8) d.hashes f.hashes
    (tail d.name d.number d.texts d.exports) at r₅ (gives d) λ at.
    list_front imported imported_form ImportedFits imported-front d.imported f.imported
    (ended d.name d.number d.texts d.exports d.hashes) at [] (gives d) λ at. refl))

abbrev versioned : ℕ → Reading Description
versioned version = ask (eqb version description_version) 27 >> content

abbrev begun : ℕ → Reading Description
begun n = bytes_left >>= λ left. ask (eqb n left) 27 >> (be_number 1 >>= versioned)

description-is : description ≡ be_number 4 >>= begun
unfolding description
description-is = refl

-- THE WAY IN: the bytes of a description are read as it, where its numbers fit their fields
pub form_front : (d : Description) → Housed d → run description 0 (description_bytes d) ≡ gives d
unfolding description_bytes
form_front d f =
    let s = description_version ∷ content_form d in
    let n : length s < 256 ^ 4 = omega (arith, f.size) in
    rw description-is
    (run-be 4 (length s) begun 0 s n
    ∙ (ap (λ b. run (ask b 27 >> (be_number 1 >>= versioned)) 4 s) (eq-eqb (length s) (length s) refl)
    ∙ (run_bytes_lem 1 (λ l. versioned (be l)) 4 (description_version ∷ []) (content_form d) refl ∙ content-front d f.fits 5)))

-- ---- from bytes to values

module _ {A : Type 0} {a : A} where
  number_took : (n : ℕ) (k : ℕ → Reading A) (at : ℕ) (s : List ℕ) → Bytes s → run (be_number n >>= k) at s ≡ gives a → Took (be_bytes n) (λ x. x < 256 ^ n) k s a
  number_took n k at s b e =
      be-by n k at s b e λ x r h q br e₁. record { value = x; at = at + n; rest = r; ok = h; is = q; bytes = br; on = e₁ }

  text_took : (k : List ℕ → Reading A) (at : ℕ) (s : List ℕ) → Bytes s → run (text >>= k) at s ≡ gives a → Took text_bytes TextFits k s a
  unfolding text text_bytes
  text_took k at s b e =
      be-by 4 (λ n. taken n >>= λ l. (ask (is_well (from_utf8 l)) 27 >> give (text_of l)) >>= k) at s b e λ n r₁ h₁ q₁ b₁ e₁.
      bytes-by n (λ l. (ask (is_well (from_utf8 l)) 27 >> give (text_of l)) >>= k) (at + 4) r₁ b₁ e₁ λ l r₂ n₂ q₂ bl b₂ e₂.
      asked_by (is_well (from_utf8 l)) 27 (k (text_of l)) (at + 4 + n) r₂
      (ap (λ q. run q (at + 4 + n) r₂) (sym (ask-give (is_well (from_utf8 l)) 27 (text_of l) k)) ∙ e₂) λ well e₃.
      let (back, z) = utf8_encode l well in
      record {
        value = text_of l;
        at = at + 4 + n;
        rest = r₂;
        ok = record { well = z; size = rw (back, n₂) h₁ };
        is = q₁ ∙ rw (back, n₂, q₂, append_assoc (be_bytes 4 n) l r₂);
        bytes = b₂;
        on = e₃;
      }

  export_took : (k : Export → Reading A) (at : ℕ) (s : List ℕ) → Bytes s → run (export >>= k) at s ≡ gives a → Took export_form ExportFits k s a
  unfolding export
  export_took k at s b e =
      let c₆ : ℕ → ℕ → ℕ → ℕ → ℕ → ℕ → Reading A = λ i n o c p h. k (record { index = i; number = n; outer = o; class = c; parent = p; hash = h }) in
      let c₅ : ℕ → ℕ → ℕ → ℕ → ℕ → Reading A = λ i n o c p. be_number 8 >>= c₆ i n o c p in
      let c₄ : ℕ → ℕ → ℕ → ℕ → Reading A = λ i n o c. be_number 8 >>= c₅ i n o c in
      let c₃ : ℕ → ℕ → ℕ → Reading A = λ i n o. be_number 8 >>= c₄ i n o in
      let c₂ : ℕ → ℕ → Reading A = λ i n. be_number 8 >>= c₃ i n in
      be-by 4 (λ i. be_number 4 >>= c₂ i) at s b e λ i r₁ h₁ q₁ b₁ e₁.
      be-by 4 (c₂ i) (at + 4) r₁ b₁ e₁ λ n r₂ h₂ q₂ b₂ e₂.
      be-by 8 (c₃ i n) (at + 4 + 4) r₂ b₂ e₂ λ o r₃ h₃ q₃ b₃ e₃.
      be-by 8 (c₄ i n o) (at + 4 + 4 + 8) r₃ b₃ e₃ λ c r₄ h₄ q₄ b₄ e₄.
      be-by 8 (c₅ i n o c) (at + 4 + 4 + 8 + 8) r₄ b₄ e₄ λ p r₅ h₅ q₅ b₅ e₅.
      be-by 8 (c₆ i n o c p) (at + 4 + 4 + 8 + 8 + 8) r₅ b₅ e₅ λ h r₆ h₆ q₆ b₆ e₆.
      let x : Export = record { index = i; number = n; outer = o; class = c; parent = p; hash = h } in
      record {
        value = x;
        at = at + 4 + 4 + 8 + 8 + 8 + 8;
        rest = r₆;
        ok = record { index = h₁; number = h₂; outer = h₃; class = h₄; parent = h₅; hash = h₆ };
        is = rw (fields_of x r₆, q₁, q₂, q₃, q₄, q₅, q₆);
        bytes = b₆;
        on = e₆;
      }

  imported_took : (k : ImportedName → Reading A) (at : ℕ) (s : List ℕ) → Bytes s → run (imported >>= k) at s ≡ gives a → Took imported_form ImportedFits k s a
  unfolding imported imported_form
  imported_took k at s b e =
      let last : List ℕ → ℕ → Reading A = λ t n. k (record { text = t; number = n }) in
      let t = text_took (λ t. be_number 4 >>= last t) at s b
      (ap (λ q. run q at s) (sym (bind_assoc text (λ t. be_number 4 >>= λ n. give (record { text = t; number = n })) k)) ∙ e) in
      let n = number_took 4 (last t.value) t.at t.rest t.bytes t.on in
      record {
        value = record { text = t.value; number = n.value };
        at = n.at;
        rest = n.rest;
        ok = record { text = t.ok; number = n.ok };
        is = t.is ∙ (ap (λ r. text_bytes t.value ++ r) n.is ∙ sym (append_assoc (text_bytes t.value) (be_bytes 4 n.value) n.rest));
        bytes = n.bytes;
        on = n.on;
      }

module _ {X A : Type 0} {a : A} (p : Reading X) (f : X → List ℕ) (Ok : X → Type 0)
    (one : (k : X → Reading A) (at : ℕ) (s : List ℕ) → Bytes s → run (p >>= k) at s ≡ gives a → Took f Ok k s a) where
  counted : (n : ℕ) (s r : List ℕ) (xs : List X) (rest : List ℕ) → s ≡ be_bytes 4 n ++ r → r ≡ flat f xs ++ rest → length xs ≡ n → s ≡ list_form f xs ++ rest
  counted n s r xs rest q₁ q₂ e = q₁ ∙ rw (q₂, ← e, append_assoc (be_bytes 4 (length xs)) (flat f xs) rest)

  list_took : (k : List X → Reading A) (at : ℕ) (s : List ℕ) → Bytes s → run (list_of p >>= k) at s ≡ gives a → Took (list_form f) (ListFits Ok) k s a
  list_took k at s b e =
      be-by 4 (λ n. rows n p >>= k) at s b e λ n r h q br e₁.
      let xs = rows_took p f Ok one n k (at + 4) r br e₁ in
      record {
        value = xs.value;
        at = xs.at;
        rest = xs.rest;
        ok = record { count = few n xs.value xs.ok.0 h; each = xs.ok.1 };
        is = counted n s r xs.value xs.rest q xs.is xs.ok.0;
        bytes = xs.bytes;
        on = xs.on;
      }
    where
      few : (n : ℕ) (xs : List X) → length xs ≡ n → n < 256 ^ 4 → length xs < 256 ^ 4
      few n xs e h = rw e h

nothing : (l : List ℕ) → length l ≡ 0 → l ≡ []
nothing [] e = refl
nothing (x ∷ l) e = absurd (omega arith)

gives_same : {A : Type 0} {x y : A} → gives x ≡ gives y → x ≡ y
gives_same e = cc

whole : (a b c d e f s s₁ s₂ s₃ s₄ s₅ s₆ : List ℕ) → s ≡ a ++ s₁ → s₁ ≡ b ++ s₂ → s₂ ≡ c ++ s₃ → s₃ ≡ d ++ s₄ → s₄ ≡ e ++ s₅ → s₅ ≡ f ++ s₆ → s₆ ≡ []
    → s ≡ a ++ b ++ c ++ d ++ e ++ f
whole a b c d e f s s₁ s₂ s₃ s₄ s₅ s₆ q₁ q₂ q₃ q₄ q₅ q₆ q₇ = rw (q₁, q₂, q₃, q₄, q₅, q₆, q₇, six a b c d e f)

content_took : (d : Description) (at : ℕ) (s : List ℕ) → Bytes s → run content at s ≡ gives d → Formed d s
unfolding content_form
content_took d at s b e =
    let i = number_took 4 (λ i. be_number 4 >>= named i) at s b (ap (λ q. run q at s) (sym content-is) ∙ e) in
    let n = number_took 4 (named i.value) i.at i.rest i.bytes i.on in
    let ts = list_took text text_bytes TextFits text_took (exported i.value n.value) n.at n.rest n.bytes n.on in
    let es = list_took export export_form ExportFits export_took (hashed i.value n.value ts.value) ts.at ts.rest ts.bytes ts.on in
    let hs = list_took (be_number 8) (be_bytes 8) (λ h. h < 256 ^ 8) (number_took 8) (tail i.value n.value ts.value es.value) es.at es.rest
    es.bytes es.on in
    let is = list_took imported imported_form ImportedFits imported_took (ended i.value n.value ts.value es.value hs.value) hs.at hs.rest
    hs.bytes hs.on in
    let c : Description = record {
      name = i.value;
      number = n.value;
      texts = ts.value;
      exports = es.value;
      hashes = hs.value;
      imported = is.value;
    } in
    asked_by (eqb (length is.rest) 0) 27 (give c) is.at is.rest is.on λ t e₁.
    let same : c ≡ d = gives_same e₁ in
    let none : is.rest ≡ [] = nothing is.rest (eqb-true (length is.rest) 0 t) in
    rw (← same)
    (record {
      fits = record { name = i.ok; number = n.ok; texts = ts.ok; exports = es.ok; hashes = hs.ok; imported = is.ok };
      is = whole (be_bytes 4 i.value) (be_bytes 4 n.value) (list_form text_bytes ts.value) (list_form export_form es.value)
          (list_form (be_bytes 8) hs.value) (list_form imported_form is.value) s i.rest n.rest ts.rest es.rest hs.rest is.rest
          i.is n.is ts.is es.is hs.is is.is none;
    })

one_byte : be_bytes 1 description_version ≡ description_version ∷ []
unfolding be_bytes
one_byte = refl

-- THE WAY OUT: whatever is read as a description is its bytes
pub form_took : (d : Description) (s : List ℕ) → Bytes s → run description 0 s ≡ gives d → (s ≡ description_bytes d) × Housed d
unfolding description_bytes
form_took d s b e =
    be-by 4 begun 0 s b (ap (λ q. run q 0 s) (sym description-is) ∙ e) λ n r₀ h₀ q₀ b₀ e₀.
    asked_by (eqb n (length r₀)) 27 (be_number 1 >>= versioned) 4 r₀ e₀ λ t₀ e₁.
    be-by 1 versioned 4 r₀ b₀ e₁ λ v r₁ h₁ q₁ b₁ e₂.
    asked_by (eqb v description_version) 27 content 5 r₁ e₂ λ t₁ e₃.
    let f = content_took d 5 r₁ b₁ e₃ in
    let n-is : n ≡ length r₀ = eqb-true n (length r₀) t₀ in
    let v-is : v ≡ description_version = eqb-true v description_version t₁ in
    let rest : r₀ ≡ description_version ∷ content_form d = q₁ ∙ rw (v-is, one_byte, f.is) in
    (q₀ ∙ rw (n-is, rest), record { fits = f.fits; size = omega (arith, ap length rest) })
