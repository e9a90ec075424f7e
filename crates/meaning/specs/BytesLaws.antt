-- The framing reads a corpus's bytes as its blocks, and every corpus that it accepts is made of such bytes.
use Rattle.std.specs.Prelude.{◌≡◌, Bool, true, false, ◌&&◌, eqb}
use Rattle.std.proofs.Math.Path.{refl}
use Rattle.std.proofs.Common.{sym, ◌∙◌, ap, mod-lt, arith, length-append}
use mathlib.Core.List.{List, [], ◌∷◌, ◌++◌, append_assoc, append-nil}
use Prim.Native.Nat.{ℕ, zero, suc, ◌+◌, ◌%◌, ◌^◌, ◌≤◌, ◌<◌}
use Rattle.std.proofs.Math.Decide.{dec_le}
use borrow.Author.Tests.{le-leb, eq-eqb, ne_eqb, eqb-true}
use Rattle.std.proofs.Math.Dec.{leb}
use Rattle.std.proofs.Math.ListN.{length}
use Rattle.base.specs.Find.{flat}
use Rattle.base.specs.House.{length_first, be_number}
use Rattle.base.specs.HouseLaws.{length_first_lem}
use Rattle.base.specs.Never.{never}
use Rattle.base.specs.Number.{be, be_bytes}
use Rattle.base.specs.NumberLaws.{Bytes, length-be_bytes, be-be_bytes}
use Rattle.base.specs.Perm.{All}
use Rattle.base.specs.Reading.{Reading, Out, refused, gives, give, run, ◌>>=◌, ◌>>◌, taken, bytes_left, ask, onto, rows_on, rows}
use Rattle.base.specs.ReadingFront.{run_bytes_lem, run-be, bytes-by, be-by, asked_by}
use Rattle.meaning.specs.Frame.{Part, Corpus, corpus_version, part, packages, frame, frame_answer, framed}
use Rattle.meaning.specs.Bytes.{part_bytes, packages_bytes, corpus_rest, corpus_bytes, IdFits}

-- ---- lengths

pub length_part : (p : Part) → length (part_bytes p) ≡ 12 + length p.block
unfolding part_bytes
length_part p = rw (length-append (be_bytes 8 p.id) (length_first p.block), length-be_bytes 8 p.id, length_first_lem p.block) (omega arith)

pub length-packages : (ps : List Part) → length (packages_bytes ps) ≡ 4 + length (flat part_bytes ps)
unfolding packages_bytes
length-packages ps = rw (length-append (be_bytes 4 (length ps)) (flat part_bytes ps), length-be_bytes 4 (length ps))

pub length_rest : (c : Corpus) → length (corpus_rest c) ≡ 9 + length c.script + length (flat part_bytes c.parts)
unfolding corpus_rest
length_rest c =
    rw (length-append (length_first c.script) (packages_bytes c.parts), length_first_lem c.script, length-packages c.parts) (omega arith)

-- a part's length is in its four bytes where all of them are in the corpus's
abbrev SizeFits : Part → Type 0
SizeFits p = length p.block < 2 ^ 32

length-parts : (p : Part) (ps : List Part) → length (flat part_bytes (p ∷ ps)) ≡ 12 + length p.block + length (flat part_bytes ps)
length-parts p ps = length-append (part_bytes p) (flat part_bytes ps) ∙ rw (length_part p)

pub as_many : (ps : List Part) → length ps ≤ length (flat part_bytes ps)
as_many [] = omega arith
as_many (p ∷ ps) = omega (arith, length-parts p ps, as_many ps)

parts-fit : (parts : List Part) → length (flat part_bytes parts) < 2 ^ 32 → (length parts < 2 ^ 32) × All SizeFits parts
parts-fit [] h = (omega arith, tt)
parts-fit (p ∷ ps) h =
    let e = length-parts p ps in
    let k = as_many ps in
    let (n, f) = parts-fit ps (omega arith) in
    (omega arith, (omega arith, f))

-- ---- a list of packages

module _ {A : Type 0} where
  part-front : (p : Part) → IdFits p → SizeFits p → (k : Part → Reading A) (at : ℕ) (r : List ℕ)
      → run (part >>= k) at (part_bytes p ++ r) ≡ run (k p) (at + 8 + 4 + length p.block) r
  unfolding part part_bytes
  part-front p i n k at r =
      rw (append_assoc (be_bytes 8 p.id) (length_first p.block) r, append_assoc (be_bytes 4 (length p.block)) p.block r)
      (run-be 8 p.id (λ id. be_number 4 >>= λ n. taken n >>= λ b. k (record { id = id; block = b })) at (be_bytes 4 (length p.block) ++ (p.block ++ r)) i
      ∙ (run-be 4 (length p.block) (λ n. taken n >>= λ b. k (record { id = p.id; block = b })) (at + 8) (p.block ++ r) n
      ∙ run_bytes_lem (length p.block) (λ b. k (record { id = p.id; block = b })) (at + 8 + 4) p.block r refl))

  rows-front : (ps done : List Part) → All IdFits ps → All SizeFits ps → (k : List Part → Reading A) (at : ℕ) (r : List ℕ) (out : Out A)
      → ((at : ℕ) → run (k (onto done ps)) at r ≡ out)
      → run (rows_on done (length ps) part >>= k) at (flat part_bytes ps ++ r) ≡ out
  unfolding part
  rows-front [] done i n k at r out e = e at
  rows-front (p ∷ ps) done i n k at r out e =
      rw (append_assoc (part_bytes p) (flat part_bytes ps) r)
      (part-front p i.0 n.0 (λ x. rows_on (x ∷ done) (length ps) part >>= k) at (flat part_bytes ps ++ r)
      ∙ rows-front ps (p ∷ done) i.1 n.1 k (at + 8 + 4 + length p.block) r out e)

  -- THE FIRST LAW: the bytes of packages are read as these packages, where their numbers fit their fields
  pub packages-front : (ps : List Part) → All IdFits ps → length (flat part_bytes ps) < 2 ^ 32 → (k : List Part → Reading A) (at : ℕ) (r : List ℕ) (out : Out A)
      → ((at : ℕ) → run (k ps) at r ≡ out) → run (packages >>= k) at (packages_bytes ps ++ r) ≡ out
  unfolding packages packages_bytes rows
  packages-front ps i h k at r out e =
      let (n, f) = parts-fit ps h in
      rw (append_assoc (be_bytes 4 (length ps)) (flat part_bytes ps) r)
      (run-be 4 (length ps) (λ count. rows_on [] count part >>= k) at (flat part_bytes ps ++ r) n ∙ rows-front ps [] i f k (at + 4) r out e)

module _ {P A : Type 0} {a : A} where
  rows-by : (n : ℕ) (done : List Part) (k : List Part → Reading A) (at : ℕ) (s : List ℕ) → Bytes s → run (rows_on done n part >>= k) at s ≡ gives a
      → ((ps : List Part) (at : ℕ) (r : List ℕ) → length ps ≡ n → All IdFits ps → s ≡ flat part_bytes ps ++ r → run (k (onto done ps)) at r ≡ gives a → P) → P
  unfolding part part_bytes
  rows-by zero done k at s b e f = f [] at s refl tt refl e
  rows-by (suc n) done k at s b e f =
      be-by 8 (λ id. be_number 4 >>= λ n'. taken n' >>= λ b. rows_on (record { id = id; block = b } ∷ done) n part >>= k) at s b e λ id r₁ i q₁ b₁ e₁.
      be-by 4 (λ n'. taken n' >>= λ b. rows_on (record { id = id; block = b } ∷ done) n part >>= k) (at + 8) r₁ b₁ e₁ λ z r₂ hz q₂ b₂ e₂.
      bytes-by z (λ b. rows_on (record { id = id; block = b } ∷ done) n part >>= k) (at + 8 + 4) r₂ b₂ e₂ λ l r₃ n₃ q₃ bl b₃ e₃.
      rows-by n (record { id = id; block = l } ∷ done) k (at + 8 + 4 + z) r₃ b₃ e₃ λ ps at' r m is q e₄.
      let a₁ = append_assoc (be_bytes 8 id ++ length_first l) (flat part_bytes ps) r in
      let a₂ = append_assoc (be_bytes 8 id) (length_first l) (flat part_bytes ps ++ r) in
      let a₃ = append_assoc (be_bytes 4 (length l)) l (flat part_bytes ps ++ r) in
      f (record { id = id; block = l } ∷ ps) at' r (ap suc m) (i, is) (rw (q₁, q₂, q₃, q, ← n₃, a₁, a₂, a₃)) e₄

  -- THE SECOND LAW: whatever is read as packages is their bytes
  pub packages-by : (k : List Part → Reading A) (at : ℕ) (s : List ℕ) → Bytes s → run (packages >>= k) at s ≡ gives a
      → ((ps : List Part) (at : ℕ) (r : List ℕ) → All IdFits ps → s ≡ packages_bytes ps ++ r → run (k ps) at r ≡ gives a → P) → P
  unfolding packages packages_bytes rows
  packages-by k at s b e f =
      be-by 4 (λ count. rows_on [] count part >>= k) at s b e λ n r₁ h₁ q₁ b₁ e₁.
      rows-by n [] k (at + 4) r₁ b₁ e₁ λ ps at' r m is q e₂.
      f ps at' r is (rw (q₁, ← m, q, append_assoc (be_bytes 4 (length ps)) (flat part_bytes ps) r)) e₂

-- ---- the framing, step by step

abbrev pub ended : List ℕ → List Part → Reading Corpus
ended script parts = bytes_left >>= λ rest. ask (eqb rest 0) 1 >> give (record { script = script; parts = parts })

abbrev pub sized : ℕ → Reading Corpus
sized size = taken size >>= λ script. packages >>= ended script

abbrev pub versioned : ℕ → Reading Corpus
versioned version = ask (eqb version corpus_version) 2 >> (be_number 4 >>= sized)

abbrev pub begun : ℕ → Reading Corpus
begun n = bytes_left >>= λ left. ask (eqb n left && leb 1 n) 1 >> (be_number 1 >>= versioned)

pub frame_is : frame ≡ be_number 4 >>= begun
unfolding frame
frame_is = refl

begun-is : (n : ℕ) (at : ℕ) (r : List ℕ) (b : Bool) → eqb n (length r) && leb 1 n ≡ b → run (begun n) at r ≡ run (ask b 1 >> (be_number 1 >>= versioned)) at r
begun-is n at r b e = ap (λ b. run (ask b 1 >> (be_number 1 >>= versioned)) at r) e

-- ---- from blocks to bytes

module _ (c : Corpus) (i : All IdFits c.parts) (h : length (corpus_rest c) < 2 ^ 32) where
  sized-front : (at : ℕ) → run (sized (length c.script)) at (c.script ++ packages_bytes c.parts) ≡ gives c
  sized-front at =
      run_bytes_lem (length c.script) (λ b. packages >>= ended b) at c.script (packages_bytes c.parts) refl
      ∙ (rw (append-nil (packages_bytes c.parts))
      at (packages-front c.parts i (omega (arith, length_rest c)) (ended c.script) (at + length c.script) [] (gives c) (λ at. refl)))

  versioned-front : (at : ℕ) → run (be_number 1 >>= versioned) at (corpus_rest c) ≡ gives c
  unfolding corpus_rest
  versioned-front at =
      run_bytes_lem 1 (λ l. versioned (be l)) at (corpus_version ∷ []) (length_first c.script ++ packages_bytes c.parts) refl
      ∙ rw (append_assoc (be_bytes 4 (length c.script)) c.script (packages_bytes c.parts))
      (run-be 4 (length c.script) sized (at + 1) (c.script ++ packages_bytes c.parts) (omega (arith, length_rest c)) ∙ sized-front (at + 1 + 4))

  begun-front : run (begun (length (corpus_rest c))) 4 (corpus_rest c) ≡ gives c
  begun-front =
      let n : ℕ = length (corpus_rest c) in
      begun-is n 4 (corpus_rest c) true (rw (eq-eqb n n refl, le-leb 1 n (omega (arith, length_rest c)))) ∙ versioned-front 4

  -- THE WAY IN: the framing reads the bytes of a corpus as its blocks, where its numbers fit their fields
  pub frame-bytes : framed (corpus_bytes c) ≡ gives c
  unfolding framed corpus_bytes
  frame-bytes = rw (frame_is, run-be 4 (length (corpus_rest c)) begun 0 (corpus_rest c) h, begun-front)

-- a corpus whose length doesn't fit is refused
pub frame-long : (c : Corpus) → 2 ^ 32 ≤ length (corpus_rest c) → framed (corpus_bytes c) ≡ refused 1
unfolding framed corpus_bytes
frame-long c h =
    let n : ℕ = length (corpus_rest c) in
    let l : n % 256 ^ 4 < 2 ^ 32 = mod-lt n (omega arith) in
    rw (frame_is, run_bytes_lem 4 (λ l. begun (be l)) 0 (be_bytes 4 n) (corpus_rest c) (length-be_bytes 4 n), be-be_bytes 4 n)
    (ap frame_answer (begun-is (n % 256 ^ 4) 4 (corpus_rest c) false (rw (ne_eqb (n % 256 ^ 4) n (λ e. omega arith)))))

-- ---- from bytes to blocks

-- what the framing of accepted bytes says of them
pub record Framed (s : List ℕ) (c : Corpus) : Type 0 where
  pub is : s ≡ corpus_bytes c
  pub ids : All IdFits c.parts

-- the framing's answer is the reading's, where it gives a corpus
framed-gives : (o : Out Corpus) {c : Corpus} → frame_answer o ≡ gives c → o ≡ gives c
framed-gives (gives a) e = e
framed-gives (refused q) e = never (cc)

both : (a b : Bool) → a && b ≡ true → a ≡ true
both true b e = refl
both false b e = e

nothing : (l : List ℕ) → length l ≡ 0 → l ≡ []
nothing [] e = refl
nothing (x ∷ l) e = absurd (omega arith)

one_byte : be_bytes 1 corpus_version ≡ corpus_version ∷ []
unfolding be_bytes
one_byte = refl

-- the parts read, put together
module _ {r₀ r₁ r₂ r₃ : List ℕ} {v z : ℕ} (c : Corpus) where
  rest-is : r₀ ≡ be_bytes 1 v ++ r₁ → v ≡ corpus_version → r₁ ≡ be_bytes 4 z ++ r₂ → length c.script ≡ z → r₂ ≡ c.script ++ r₃
      → r₃ ≡ packages_bytes c.parts ++ [] → r₀ ≡ corpus_rest c
  unfolding corpus_rest
  rest-is q₁ p₁ q₂ p₂ q₃ q₄ =
      let a = append_assoc (be_bytes 4 (length c.script)) c.script (packages_bytes c.parts) in
      rw (q₁, p₁, one_byte, q₂, ← p₂, q₃, q₄, append-nil (packages_bytes c.parts), a)

module _ (s : List ℕ) (c : Corpus) (b : Bytes s) where
  -- THE WAY OUT: whatever the framing accepts is the bytes of the corpus that it gives
  pub bytes-frame : framed s ≡ gives c → Framed s c
  unfolding framed corpus_bytes
  bytes-frame e =
      be-by 4 begun 0 s b (ap (λ p. run p 0 s) (sym frame_is) ∙ framed-gives (run frame 0 s) e) λ n r₀ h₀ q₀ b₀ e₀.
      asked_by (eqb n (length r₀) && leb 1 n) 1 (be_number 1 >>= versioned) 4 r₀ e₀ λ t₀ e₁.
      be-by 1 versioned 4 r₀ b₀ e₁ λ v r₁ h₁ q₁ b₁ e₂.
      asked_by (eqb v corpus_version) 2 (be_number 4 >>= sized) 5 r₁ e₂ λ t₁ e₃.
      be-by 4 sized 5 r₁ b₁ e₃ λ z r₂ h₂ q₂ b₂ e₄.
      bytes-by z (λ script. packages >>= ended script) 9 r₂ b₂ e₄ λ script r₃ p₂ q₃ b' b₃ e₅.
      packages-by (ended script) (9 + z) r₃ b₃ e₅ λ ps at r₄ is q₄ e₆.
      asked_by (eqb (length r₄) 0) 1 (give (record { script = script; parts = ps })) at r₄ e₆ λ t₂ e₇.
      let d : Corpus = record { script = script; parts = ps } in
      let rest : r₀ ≡ corpus_rest d = rest-is d q₁ (eqb-true v corpus_version t₁) q₂ p₂ q₃ (q₄ ∙ rw (nothing r₄ (eqb-true (length r₄) 0 t₂))) in
      let n-is : n ≡ length r₀ = eqb-true n (length r₀) (both (eqb n (length r₀)) (leb 1 n) t₀) in
      let c-is : d ≡ c = cc in
      rw (← c-is) (record { is = q₀ ∙ rw (n-is, rest); ids = is })

-- the length of an accepted corpus fits its four bytes
pub frame-fits : (c : Corpus) {d : Corpus} → framed (corpus_bytes c) ≡ gives d → length (corpus_rest c) < 2 ^ 32
frame-fits c {d} e = go (dec_le (2 ^ 32) (length (corpus_rest c)))
  where
    go : Dec (2 ^ 32 ≤ length (corpus_rest c)) → length (corpus_rest c) < 2 ^ 32
    go (yes h) = let r : refused 1 ≡ gives d = sym (frame-long c h) ∙ e in never (cc)
    go (no h) = omega arith
