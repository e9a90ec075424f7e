-- A header that was written is read back: each part front to back, then the block.
use Rattle.std.specs.Prelude.{◌≡◌, Bool, ℕ, ◌+◌, ◌*◌, ◌-◌, ◌/◌, ◌%◌, ◌^◌, ◌≤◌, ◌<◌, eqb, get_or}
use Rattle.std.proofs.Math.Path.{refl}
use Rattle.std.proofs.Common.{sym, ◌∙◌, ap}
use Rattle.std.proofs.Math.Bool.{true}
use mathlib.Core.List.{List, [], ◌∷◌, ◌++◌, append_assoc}
use native.Mathlib.Omega.{arith}
use borrow.Author.Tests.{lt-ltb, eq-eqb}
use Rattle.std.proofs.Math.ListN.{length}
use Rattle.std.specs.Int.Signed.{non_neg}
use Rattle.base.specs.Find.{flat}
use Rattle.base.specs.Number.{le_bytes}
use Rattle.base.specs.NumberLaws.{length-le_bytes}
use Rattle.base.specs.Perm.{All}
use Rattle.base.specs.Reading.{Reading, give, pass, run, ◌>>=◌, ◌>>◌, over-bytes, place, number, u30, ask, rows}
use Rattle.base.specs.ReadingLaws.{bind_assoc}
use Rattle.base.specs.ReadingFrontRows.{run-le, run-pass, run-u30, ask-yes, rows-front, rows_same}
use Rattle.base.specs.Signed.{twos}
use Rattle.base.specs.SignedLaws.{non_neg-twos}
use Rattle.batch.specs.Batch.{u32, u64}
use Rattle.written.specs.BatchBytes.{le4, le8}
use Rattle.written.specs.HeaderBytes.{ImportedName, export_bytes}
use Rattle.zen.specs.Zen.{offset, summary, bulk, export, named, Tables, tables}
use Rattle.zen.specs.declared.summary.Summary.{Summary}
use Rattle.zen.specs.declared.tables.Export.{Export}

-- ---- numbers that their fields hold

pub record ExportFits (e : Export) : Type 0 where
  pub index : e.index < 2 ^ 30
  pub number : e.number < 256 ^ 4
  pub outer : e.outer < 256 ^ 8
  pub class : e.class < 256 ^ 8
  pub parent : e.parent < 256 ^ 8
  pub hash : e.hash < 256 ^ 8

abbrev pub NumberFits : ImportedName → Type 0
NumberFits i = i.number < 256 ^ 4

abbrev pub HashFits : ℕ → Type 0
HashFits h = h < 256 ^ 8

-- ---- numbers

last-yes : {A : Type 0} {t : Bool} (q : ℕ) (k : Unit {0} → Reading A) → t ≡ true → ask t q >>= k ≡ k tt
last-yes q k e = rw e

module _ {A : Type 0} where
  pub number-front : (n x : ℕ) → x < 256 ^ n → (k : ℕ → Reading A) (at : ℕ) (r : List ℕ)
      → run (number n >>= k) at (le_bytes n x ++ r) ≡ run (k x) (at + length (le_bytes n x)) r
  number-front n x h k at r = run-le n x k at r h ∙ rw (length-le_bytes n x)

  offset-front : (x : ℕ) → x < 2 ^ 31 → (k : ℕ → Reading A) (at : ℕ) (r : List ℕ) → run (offset >>= k) at (le4 x ++ r) ≡ run (k x) (at + length (le4 x)) r
  unfolding offset
  offset-front x h k at r =
      let e : non_neg (twos 32 x) ≡ true = non_neg-twos 31 x (omega arith) ∙ lt-ltb x (2 ^ 31) h in
      run-le 4 x (λ x. (ask (non_neg (twos 32 x)) 16 >> give x) >>= k) at r (omega arith)
      ∙ (ap (λ q. run q (at + 4) r) (ask-yes 16 (give x) k e) ∙ rw (length-le_bytes 4 x))

-- ---- the summary

-- as it is read: the offsets of the public hashes, of the exports and of the imported names; the others have nothing in between
abbrev pub summary_for : ℕ → ℕ → ℕ → ℕ → ℕ → Summary
summary_for index number h e i = record {
  index = index;
  number = number;
  hashes = h;
  imports = e;
  exports = e;
  bundles = i;
  headers = i;
  entries = i;
  imported = i;
}

abbrev pub seven : ℕ → ℕ → ℕ → List ℕ
seven h e i = h ∷ e ∷ e ∷ i ∷ i ∷ i ∷ i ∷ []

length-seven : (h e i : ℕ) → length (flat le4 (seven h e i)) ≡ 28
unfolding le_bytes
length-seven h e i = refl

abbrev told : ℕ → ℕ → List ℕ → Reading Summary
told index number os =
    give
    (record {
      index = index;
      number = number;
      hashes = get_or os 0 0;
      imports = get_or os 1 0;
      exports = get_or os 2 0;
      bundles = get_or os 3 0;
      headers = get_or os 4 0;
      entries = get_or os 5 0;
      imported = get_or os 6 0;
    })

module _ {A : Type 0} (k : Summary → Reading A) (index number h e i : ℕ) (fits : index < 2 ^ 30) (number_fits : number < 256 ^ 4)
    (low : h ≤ e) (mid : e ≤ i) (high : i < 2 ^ 31) where
  pub summary-front : (at : ℕ) (r : List ℕ)
      → run (summary >>= k) at (le4 index ++ (le4 number ++ (le4 0 ++ (le4 0 ++ (flat le4 (seven h e i) ++ r)))))
      ≡ run (k (summary_for index number h e i)) (at + 44) r
  unfolding summary
  summary-front at r =
      let a = at + 4 + 4 + 4 + 4 in
      let t₄ = flat le4 (seven h e i) ++ r in
      let t₃ = le4 0 ++ t₄ in
      let t₂ = le4 0 ++ t₃ in
      let t₁ = le4 number ++ t₂ in
      let ok : All (λ x. x < 2 ^ 31) (seven h e i) = (omega arith, (omega arith, (omega arith, (high, (high, (high, (high, tt))))))) in
      let n : at + 4 + 4 + 4 + 4 + length (flat le4 (seven h e i)) ≡ at + 44 = omega (arith, length-seven h e i) in
      run-u30 index (λ index. u32 >>= λ n. over-bytes 4 >> (over-bytes 4 >> ((rows 7 offset >>= told index n) >>= k))) at t₁ fits
      ∙ (run-le 4 number (λ n. over-bytes 4 >> (over-bytes 4 >> ((rows 7 offset >>= told index n) >>= k))) (at + 4) t₂ number_fits
      ∙ (run-pass 4 (over-bytes 4 >> ((rows 7 offset >>= told index number) >>= k)) (at + 4 + 4) (le4 0) t₃ (length-le_bytes 4 0)
      ∙ (run-pass 4 ((rows 7 offset >>= told index number) >>= k) (at + 4 + 4 + 4) (le4 0) t₄ (length-le_bytes 4 0)
      ∙ (ap (λ q. run q a t₄) (bind_assoc (rows 7 offset) (told index number) k)
      ∙ (rows-front offset le4 (λ x. x) (λ x. x < 2 ^ 31) offset-front (seven h e i) ok (λ os. told index number os >>= k) a r ∙ rw n)))))

-- ---- the bulk size

module _ {A : Type 0} (k : Unit {0} → Reading A) where
  pub bulk-front : (stop at : ℕ) (r : List ℕ) → at + 8 ≡ stop → run (bulk stop >>= k) at (le8 0 ++ r) ≡ run (k tt) stop r
  unfolding bulk
  bulk-front stop at r e =
      let n : at + 8 + 0 ≡ stop = omega arith in
      let last = place >>= λ p. ask (eqb p stop) 19 in
      run-le 8 0 (λ z. (ask (non_neg (twos 64 z)) 18 >> (over-bytes z >> last)) >>= k) at r (omega arith)
      ∙ (ap (λ q. run q (at + 8) r) (ask-yes 18 (over-bytes 0 >> last) k (non_neg-twos 63 0 (omega arith) ∙ lt-ltb 0 (2 ^ 63) (omega arith)))
      ∙ (run-pass 0 (last >>= k) (at + 8) [] r refl
      ∙ rw n (ap (λ q. run q stop r) (last-yes 19 k (eq-eqb stop stop refl)))))

-- ---- the tables

-- an export
abbrev pub FieldsOf : Export → List ℕ → List ℕ
FieldsOf e r =
    le8 0
    ++ (le8 0
    ++ (le4 e.index ++ (le4 e.number ++ (le8 e.outer ++ (le8 e.class ++ (le8 e.parent ++ (le8 0 ++ (le8 e.hash ++ (le8 0 ++ r)))))))))

fields_of : (e : Export) (r : List ℕ) → export_bytes e ++ r ≡ FieldsOf e r
unfolding export_bytes
fields_of e r = simp append_assoc

pub length-export : (e : Export) → length (export_bytes e) ≡ 72
unfolding export_bytes le_bytes
length-export e = refl

sixteen : length (le8 0 ++ le8 0) ≡ 16
unfolding le_bytes
sixteen = refl

module _ {A : Type 0} (k : Export → Reading A) where
  abbrev c₆ : ℕ → ℕ → ℕ → ℕ → ℕ → ℕ → Reading A
  c₆ i n o c p h = pass 8 (k (record { index = i; number = n; outer = o; class = c; parent = p; hash = h }))

  abbrev c₅ : ℕ → ℕ → ℕ → ℕ → ℕ → Reading A
  c₅ i n o c p = pass 8 (u64 >>= c₆ i n o c p)

  abbrev c₄ : ℕ → ℕ → ℕ → ℕ → Reading A
  c₄ i n o c = u64 >>= c₅ i n o c

  abbrev c₃ : ℕ → ℕ → ℕ → Reading A
  c₃ i n o = u64 >>= c₄ i n o

  abbrev c₂ : ℕ → ℕ → Reading A
  c₂ i n = u64 >>= c₃ i n

  abbrev c₁ : ℕ → Reading A
  c₁ i = u32 >>= c₂ i

  export_is : export >>= k ≡ pass 16 (u30 >>= c₁)
  unfolding export
  export_is = refl

  fields-front : (e : Export) → ExportFits e → (at : ℕ) (r : List ℕ) → run (pass 16 (u30 >>= c₁)) at (FieldsOf e r) ≡ run (k e) (at + 72) r
  fields-front e f at r =
      let r₉ = le8 0 ++ r in
      let r₈ = le8 e.hash ++ r₉ in
      let r₇ = le8 0 ++ r₈ in
      let r₆ = le8 e.parent ++ r₇ in
      let r₅ = le8 e.class ++ r₆ in
      let r₄ = le8 e.outer ++ r₅ in
      let r₃ = le4 e.number ++ r₄ in
      let r₂ = le4 e.index ++ r₃ in
      let n : at + 16 + 4 + 4 + 8 + 8 + 8 + 8 + 8 + 8 ≡ at + 72 = omega arith in
      ap (λ s. run (pass 16 (u30 >>= c₁)) at s) (sym (append_assoc (le8 0) (le8 0) r₂))
      ∙ (run-pass 16 (u30 >>= c₁) at (le8 0 ++ le8 0) r₂ sixteen
      ∙ (run-u30 e.index c₁ (at + 16) r₃ f.index
      ∙ (run-le 4 e.number (c₂ e.index) (at + 16 + 4) r₄ f.number
      ∙ (run-le 8 e.outer (c₃ e.index e.number) (at + 16 + 4 + 4) r₅ f.outer
      ∙ (run-le 8 e.class (c₄ e.index e.number e.outer) (at + 16 + 4 + 4 + 8) r₆ f.class
      ∙ (run-le 8 e.parent (c₅ e.index e.number e.outer e.class) (at + 16 + 4 + 4 + 8 + 8) r₇ f.parent
      ∙ (run-pass 8 (u64 >>= c₆ e.index e.number e.outer e.class e.parent) (at + 16 + 4 + 4 + 8 + 8 + 8) (le8 0) r₈ (length-le_bytes 8 0)
      ∙ (run-le 8 e.hash (c₆ e.index e.number e.outer e.class e.parent) (at + 16 + 4 + 4 + 8 + 8 + 8 + 8) r₉ f.hash
      ∙ (run-pass 8 (k e) (at + 16 + 4 + 4 + 8 + 8 + 8 + 8 + 8) (le8 0) r (length-le_bytes 8 0) ∙ ap (λ n. run (k e) n r) n)))))))))

export-front : {A : Type 0} (e : Export) → ExportFits e → (k : Export → Reading A) (at : ℕ) (r : List ℕ)
    → run (export >>= k) at (export_bytes e ++ r) ≡ run (k e) (at + length (export_bytes e)) r
export-front e f k at r =
    ap (λ q. run q at (export_bytes e ++ r)) (export_is k)
    ∙ (ap (λ s. run (pass 16 (u30 >>= c₁ k)) at s) (fields_of e r) ∙ (fields-front k e f at r ∙ ap (λ n. run (k e) (at + n) r) (sym (length-export e))))

module _ (n : ℕ) (m : Summary) (x y : ℕ) (hashes : m.imports ≡ m.hashes + 8 * x) (imports : m.exports ≡ m.imports)
    (exports : m.bundles ≡ m.exports + 72 * y) (imported : m.imported ≡ m.bundles) where
  tables_as : tables m n
      ≡ rows x u64 >>= λ hs. pass 0 (rows y export >>= λ es. ask (named n es) 10 >> pass 0 (give (record { hashes = hs; exports = es })))
  unfolding tables
  tables_as =
      let a : (m.imports - m.hashes) % 8 ≡ 0 = omega arith in
      let b : (m.imports - m.hashes) / 8 ≡ x = omega arith in
      let c : m.exports - m.imports ≡ 0 = omega arith in
      let d : (m.bundles - m.exports) % 72 ≡ 0 = omega arith in
      let e : (m.bundles - m.exports) / 72 ≡ y = omega arith in
      let f : m.imported - m.bundles ≡ 0 = omega arith in
      rw (a, b, c, d, e, f)

module _ {A : Type 0} (k : Tables → Reading A) (n : ℕ) (m : Summary) (hs : List ℕ) (es : List Export)
    (hashes : m.imports ≡ m.hashes + 8 * length hs) (imports : m.exports ≡ m.imports)
    (exports : m.bundles ≡ m.exports + 72 * length es) (imported : m.imported ≡ m.bundles)
    (hashes-fit : All HashFits hs) (exports-fit : All ExportFits es) (named-all : named n es ≡ true) where
  pub tables-front : (at : ℕ) (r : List ℕ)
      → run (tables m n >>= k) at (flat le8 hs ++ (flat export_bytes es ++ r))
      ≡ run (k (record { hashes = hs; exports = es })) (at + length (flat le8 hs) + length (flat export_bytes es)) r
  tables-front at r =
      let t = flat export_bytes es ++ r in
      let last : List ℕ → List Export → Reading Tables = λ hs es. ask (named n es) 10 >> pass 0 (give (record { hashes = hs; exports = es })) in
      let next : List ℕ → Reading Tables = λ hs. pass 0 (rows (length es) export >>= last hs) in
      let a = at + length (flat le8 hs) in
      let a₀ : a + 0 ≡ a = omega arith in
      let e = a + length (flat export_bytes es) in
      let e₀ : e + 0 ≡ e = omega arith in
      ap (λ q. run (q >>= k) at (flat le8 hs ++ t)) (tables_as n m (length hs) (length es) hashes imports exports imported)
      ∙ (ap (λ q. run q at (flat le8 hs ++ t)) (bind_assoc (rows (length hs) u64) next k)
      ∙ (rows_same u64 le8 HashFits (number-front 8) hs hashes-fit (λ hs. next hs >>= k) at t
      ∙ (run-pass 0 (rows (length es) export >>= last hs >>= k) a [] t refl
      ∙ rw a₀
      (ap (λ q. run q a t) (bind_assoc (rows (length es) export) (last hs) k)
      ∙ (rows_same export export_bytes ExportFits export-front es exports-fit (λ es. last hs es >>= k) a r
      ∙ (ap (λ q. run q e r) (ask-yes 10 (pass 0 (give (record { hashes = hs; exports = es }))) k named-all)
      ∙ (run-pass 0 (k (record { hashes = hs; exports = es })) e [] r refl ∙ rw e₀)))))))
