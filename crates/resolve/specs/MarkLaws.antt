-- Laws of marks: one export more, what a mark tells, how the marks of packages follow each other, and what leaves them as they were. Assumes nothing.
use Rattle.std.specs.Prelude.{◌≡◌, Bool, not, ◌⊎◌, take, drop, get_or}
use Rattle.std.proofs.Math.Path.{refl}
use Rattle.std.proofs.Common.{sym, ◌∙◌, ap, inl, inr, add-zero, add-one, eq-eqb, length-append, length-drop, take-suc, length-take-le, get_or-append-add}
use Rattle.std.proofs.Math.Bool.{true, false, cond}
use Rattle.std.proofs.Math.Logic.{by_cases}
use mathlib.Core.List.{List, [], ◌∷◌, ◌++◌, append_assoc, append-nil}
use Prim.Native.Nat.{ℕ, zero, suc, ◌+◌, ◌*◌, ◌-◌, ◌/◌, ◌%◌, ◌^◌, ◌≤◌, ◌<◌}
use Rattle.std.proofs.Math.Decide.{dec_lt, ℕ_discrete}
use native.Mathlib.Omega.{arith}
use Rattle.std.proofs.Math.ListN.{length, get_or-append}
use Rattle.text.specs.Affix.{starts_with, ends_with}
use Rattle.base.specs.Find.{kept, filter, option}
use Rattle.base.specs.Never.{never}
use Rattle.base.specs.Number.{le_at}
use Rattle.base.specs.NumberLaws.{le_at-drop}
use Rattle.zen.specs.Zen.{Read, no_export, base_of}
use Rattle.zen.specs.declared.tables.Export.{Export}
use Rattle.scriptblock.specs.Script.{Objects}
use Rattle.meaning.specs.Reference.{Ref}
use Rattle.meaning.specs.Scan.{Class, outer_of, gen_variable, default_start, candidate_kind, is_candidate}
use Rattle.base.specs.Reading.{gives, run_block}
use Rattle.zen.specs.Zen.{package_block}
use Rattle.packages.specs.Framing.{next_at}
use Rattle.packages.specs.Package.{read_in, parts_of, PackageIn}
use Rattle.packages.specs.PackageLaws.{export-room}
use Rattle.packages.specs.declared.package.Parts.{Parts}
use Rattle.packages.specs.Walk.{block_at, place_of, Site, Sites, AllRead}
use Rattle.packages.specs.WalkLaws.{site-length}
use Rattle.zen.proofs.Accepted.{read-parts}
use Rattle.table.specs.Words.{Kept}
use Rattle.table.specs.WordLaws.{kept_read}
use Rattle.resolve.specs.Marks.{mark_of, export_marks, marks_from, step_at, step_in, first_step, marks_at, marks_in, MarksIn, MarksKept}
use Rattle.resolve.specs.ResolvingLaws.{Part}
use Rattle.resolve.specs.Rows.{row_at}

module _ (r : Read) where
  marks_append : (step : ℕ) (l m : List Export) → marks_from r step (l ++ m) ≡ marks_from r step l ++ marks_from r (step + length l) m
  unfolding marks_from
  marks_append step [] m = rw (add-zero step)
  marks_append step (e ∷ l) m =
      let z : suc step + length l ≡ step + suc (length l) = omega arith in
      rw (marks_append (suc step) l m, z, append_assoc (export_marks r step e) (marks_from r (suc step) l) (marks_from r (step + suc (length l)) m))

  marks-one : (step : ℕ) (e : Export) → marks_from r step (e ∷ []) ≡ export_marks r step e
  unfolding marks_from
  marks-one step e = append-nil (export_marks r step e)

  -- ---- what a mark tells

  -- there is one for each candidate
  pub mark-count : (step : ℕ) (l : List Export) → length (marks_from r step l) ≡ length (filter (is_candidate r) l)
  unfolding marks_from
  mark-count step [] = refl
  mark-count step (e ∷ l) = go (is_candidate r e) (mark-count (suc step) l)
    where
      go : (b : Bool) → length (marks_from r (suc step) l) ≡ length (filter (is_candidate r) l)
          → length (kept b (mark_of step (candidate_kind r e)) [] ++ marks_from r (suc step) l) ≡ length (kept b e (filter (is_candidate r) l))
      go true h = omega (arith, h)
      go false h = h

  -- kinds are 0 to 2
  kind-small : (e : Export) → candidate_kind r e < 4
  unfolding candidate_kind
  kind-small e = go (ends_with (base_of r e) gen_variable) (option false (λ (u : Export). starts_with (base_of r u) default_start) (outer_of r e))
    where
      go : (a b : Bool) → cond a 1 (cond b 2 0) < 4
      go true b = omega arith
      go false true = omega arith
      go false false = omega arith

  kind-some : (e : Export) → is_candidate r e ≡ true → candidate_kind r e ≡ 0 → ⊥
  kind-some e h z = let q : true ≡ false = sym h ∙ ap not (eq-eqb (candidate_kind r e) 0 z) in never (cc)

  -- mark m is that of the export x, one of l, which stand from a step on
  pub record Tells (step : ℕ) (l : List Export) (m : ℕ) (x : Export) : Type 0 where
    pub low : 4 * step ≤ m
    pub high : m / 4 < step + length l
    pub export : get_or l (m / 4 - step) no_export ≡ x
    pub kind : m % 4 ≡ candidate_kind r x
    pub some : candidate_kind r x ≡ 0 → ⊥

  tells-next : {step : ℕ} {l : List Export} {m : ℕ} {x : Export} (e : Export) → Tells (suc step) l m x → Tells step (e ∷ l) m x
  tells-next {step} {l} {m} e t =
      let z : m / 4 - step ≡ suc (m / 4 - suc step) = omega (arith, t.low) in
      record {
        low = omega (arith, t.low);
        high = omega (arith, t.high);
        export = rw z t.export;
        kind = t.kind;
        some = t.some;
      }

  tells_first : (step : ℕ) (e : Export) (l : List Export) → is_candidate r e ≡ true → Tells step (e ∷ l) (mark_of step (candidate_kind r e)) e
  tells_first step e l h =
      let k = kind-small e in
      let q : mark_of step (candidate_kind r e) / 4 ≡ step = omega (arith, k) in
      let z : mark_of step (candidate_kind r e) / 4 - step ≡ 0 = omega (arith, q) in
      record {
        low = omega arith;
        high = omega (arith, q);
        export = rw z;
        kind = omega (arith, k);
        some = kind-some e h;
      }

  -- the mark of candidate k
  pub mark-tells : (step : ℕ) (l : List Export) (k : ℕ) → k < length (filter (is_candidate r) l)
      → Tells step l (get_or (marks_from r step l) k 0) (get_or (filter (is_candidate r) l) k no_export)
  unfolding marks_from
  mark-tells step [] k h = absurd (omega (arith, h))
  mark-tells step (e ∷ l) k h = go (is_candidate r e) refl k h (mark-tells (suc step) l)
    where
      go : (b : Bool) → is_candidate r e ≡ b → (k : ℕ) → k < length (kept b e (filter (is_candidate r) l))
          → ((k : ℕ) → k < length (filter (is_candidate r) l) → Tells (suc step) l (get_or (marks_from r (suc step) l) k 0) (get_or (filter (is_candidate r) l) k no_export))
          → Tells step (e ∷ l) (get_or (kept b (mark_of step (candidate_kind r e)) [] ++ marks_from r (suc step) l) k 0) (get_or (kept b e (filter (is_candidate r) l)) k no_export)
      go false q k h ih = tells-next e (ih k h)
      go true q zero h ih = tells_first step e l q
      go true q (suc k) h ih = tells-next e (ih k (omega (arith, h)))

-- ---- one export more

pub marks-take : (r : Read) (step : ℕ) (l : List Export) (i : ℕ) → i < length l
    → marks_from r step (take (i + 1) l) ≡ marks_from r step (take i l) ++ export_marks r (step + i) (get_or l i no_export)
marks-take r step l i h =
    rw (add-one i, take-suc l i no_export h, marks_append r step (take i l) (get_or l i no_export ∷ []), length-take-le i l (omega arith), marks-one r (step + i) (get_or l i no_export))

-- ---- the marks of packages follow each other

-- none is less
abbrev pub Least : ℕ → List ℕ → Type 0
Least m l = (k : ℕ) → k < length l → m ≤ get_or l k 0

least-both : {m : ℕ} (x y : List ℕ) → Least m x → Least m y → Least m (x ++ y)
least-both {m} x y p q k h = go (dec_lt k (length x))
  where
    go : Dec (k < length x) → m ≤ get_or (x ++ y) k 0
    go (yes l) = rw (get_or-append x y 0 k l) (p k l)
    go (no l) =
        let z : k ≡ length x + (k - length x) = omega (arith, l) in
        rw (z, get_or-append-add x y (k - length x) 0) (q (k - length x) (omega (arith, h, length-append x y)))

-- each stands in the first step or behind it
marks-low : (r : Read) (step : ℕ) (l : List Export) → Least (4 * step) (marks_from r step l)
marks-low r step l k h = (mark-tells r step l k (omega (arith, mark-count r step l))).low

-- a package's exports lie in its block
exports-inside : {b : List ℕ} {p : Parts} → PackageIn b p → p.exports + 72 * p.count ≤ length b
unfolding parts_of
exports-inside {b} {p} k = go p.count refl
  where
    go : (n : ℕ) → p.count ≡ n → p.exports + 72 * n ≤ length b
    go zero e =
        let z = read-parts b (read_in b) k.is in
        omega (arith, z.size, z.order.bundles, z.order.imported, z.order.high, ap (λ (x : Parts). x.exports) k.parts)
    go (suc n) e = omega (arith, export-room k n (omega (arith, e)))

-- where they start, by the package's parts; in few steps of the corpus
pub step_is : {b : List ℕ} {p : Parts} → PackageIn b p → (at : ℕ) {step : ℕ} → step ≡ step_at at p.exports → step ≡ step_in at b
unfolding parts_of
step_is k at e = e ∙ ap (λ (x : Parts). step_at at x.exports) k.parts

pub few-steps : {s : List ℕ} {at : ℕ} {b : List ℕ} {p : Parts} → Site s at b → PackageIn b p
    → (at + 12 + p.exports < 2 ^ 64) × (step_at at p.exports + p.count < 2 ^ 29)
unfolding next_at
few-steps {at = at} {p = p} z k =
    let h : at + 12 + p.exports + 72 * p.count < 2 ^ 32 + 4 = omega (arith, exports-inside k, site-length z, z.stops, z.small) in
    (omega arith, omega arith)

-- and end before those of the next one start
pub steps-rise : {s : List ℕ} {at : ℕ} {b : List ℕ} → Site s at b → run_block package_block b ≡ gives (read_in b)
    → first_step s at + length (read_in b).exports ≤ first_step s (next_at s at)
unfolding next_at parts_of
steps-rise {s} {at} {b} k read =
    let x = (read_in b).layout.summary.exports in
    let y = (read_in (block_at s (next_at s at))).layout.summary.exports in
    let l = exports-inside {b = b} {p = parts_of (read_in b)} (record { is = read; parts = refl }) in
    rw (← k.is) (rise at x (length (read_in b).exports) (next_at s at) y (omega (arith, l, site-length k)))
  where
    rise : (at x n next y : ℕ) → at + 12 + x + 72 * n ≤ next → (at + 12 + x) / 72 + n ≤ (next + 12 + y) / 72
    rise at x n next y h = omega (arith, h)

-- those of package j, with all that follow
pub record Follow (s : List ℕ) (at n j : ℕ) : Type 0 where
  pub after : List ℕ
  pub is : marks_in s at n ≡ marks_in s at j ++ (marks_at s (place_of s at j) ++ after)
  pub later : Least (4 * (first_step s (place_of s at j) + length (read_in (block_at s (place_of s at j))).exports)) after

module _ {s : List ℕ} {at count : ℕ} (sites : Sites s at count) (all : AllRead s at count) where
  -- the exports of package j end before those of a later one start
  steps-later : (j m : ℕ) → j < m → m < count
      → first_step s (place_of s at j) + length (read_in (block_at s (place_of s at j))).exports ≤ first_step s (place_of s at m)
  unfolding place_of
  steps-later j zero h l = absurd (omega (arith, h))
  steps-later j (suc m) h l = go (ℕ_discrete j m) (λ g. steps-later j m g (omega arith))
    where
      rise : first_step s (place_of s at m) + length (read_in (block_at s (place_of s at m))).exports ≤ first_step s (place_of s at (suc m))
      rise = steps-rise (sites.site m (omega arith)) (all.read m (omega arith))

      go : Dec (j ≡ m) → (j < m → first_step s (place_of s at j) + length (read_in (block_at s (place_of s at j))).exports ≤ first_step s (place_of s at m))
          → first_step s (place_of s at j) + length (read_in (block_at s (place_of s at j))).exports ≤ first_step s (place_of s at (suc m))
      go (yes e) ih = rw e rise
      go (no e) ih = omega (arith, ih (omega (arith, e)), rise)

  pub follow : (n j : ℕ) → j < n → n ≤ count → Follow s at n j
  unfolding marks_in
  follow zero j h l = absurd (omega (arith, h))
  follow (suc m) j h l = go (ℕ_discrete j m) (λ g. follow m j g (omega arith))
    where
      x : List ℕ
      x = marks_at s (place_of s at m)

      go : Dec (j ≡ m) → (j < m → Follow s at m j) → Follow s at (suc m) j
      go (yes e) ih = record { after = []; is = rw (e, append-nil (marks_at s (place_of s at m))); later = λ k g. absurd (omega (arith, g)) }
      go (no e) ih =
          let f = ih (omega (arith, e)) in
          record {
            after = f.after ++ x;
            is = rw (f.is, append_assoc (marks_in s at j) (marks_at s (place_of s at j) ++ f.after) x, append_assoc (marks_at s (place_of s at j)) f.after x);
            later = least-both f.after x f.later
                (λ k g. omega (arith, marks-low (read_in (block_at s (place_of s at m))) (first_step s (place_of s at m)) (read_in (block_at s (place_of s at m))).exports k g, steps-later j m (omega (arith, e)) (omega arith)));
          }

-- ---- rows' marks

pub marks-none : (w : List ℕ) → MarksIn [] w
marks-none w = record { room = omega arith; is = λ r h. absurd (omega (arith, h)) }

pub marks-kept : (n : ℕ) {l w w' : List ℕ} → MarksKept n (length l) w w' → MarksIn l (drop (56 * n) w) → MarksIn l (drop (56 * n) w')
marks-kept n {l} {w} {w'} k t = record {
  room = omega (arith, t.room, length-drop (56 * n) w, length-drop (56 * n) w', k.size);
  is = λ r h. k.same r h ∙ t.is r h;
}

pub marks_then : {n rows : ℕ} {u v w : List ℕ} → MarksKept n rows u v → MarksKept n rows v w → MarksKept n rows u w
marks_then p q = record { size = q.size ∙ p.size; same = λ r h. q.same r h ∙ p.same r h }

pub marks-same : (n rows : ℕ) (w : List ℕ) → MarksKept n rows w w
marks-same n rows w = record { size = refl; same = λ r h. refl }

-- a row, seen from behind the objects
pub row-behind : (a r : ℕ) (w : List ℕ) → a + 32 * (r + 1) ≤ length w → (c : ℕ) → le_at 4 (drop a w) (row_at (drop a w) r + c) ≡ le_at 4 w (row_at w r + c)
row-behind a r w room c =
    let z : a + (row_at (drop a w) r + c) ≡ row_at w r + c = omega (arith, length-drop a w) in
    le_at-drop 4 a w (row_at (drop a w) r + c) ∙ ap (le_at 4 w) z

-- each mark reads as it did in the whole buffer
pub marks-whole : (n rows : ℕ) (w w' : List ℕ) → 56 * n + 32 * rows ≤ length w → length w' ≡ length w
    → ((r : ℕ) → r < rows → le_at 4 w' (row_at w r + 28) ≡ le_at 4 w (row_at w r + 28)) → MarksKept n rows w w'
marks-whole n rows w w' room size same = record {
  size = size;
  same = λ r h.
      let z : row_at w' r ≡ row_at w r = rw size in
      row-behind (56 * n) r w' (omega arith) 28 ∙ rw z (same r h) ∙ sym (row-behind (56 * n) r w (omega arith) 28);
}

-- row i of some was resolved
pub part-marks : {lookups : ℕ} {s b : List ℕ} {o : Objects} {n rows : ℕ} {xs : List Class} {refs : List Ref} {i : ℕ} {w w' : List ℕ}
    → Part lookups s b o n xs refs i w → length refs ≡ rows → i < rows → Kept (row_at w i) (row_at w i + 20) w w' → MarksKept n rows w w'
part-marks {n = n} {rows} {i = i} {w} {w'} t count h k =
    marks-whole n rows w w' room k.size (λ r g. kept_read k 4 (row_at w r + 28) (apart r g))
  where
    room : 56 * n + 32 * rows ≤ length w
    room = omega (arith, t.apart, t.tables.room, length-drop (56 * n) w)

    apart : (r : ℕ) → r < rows → (row_at w r + 28 + 4 ≤ row_at w i) ⊎ (row_at w i + 20 ≤ row_at w r + 28)
    apart r g =
        by_cases (dec_lt i r)
        (λ (l : i < r). inl (omega (arith, room)))
        (λ (l : ¬ (i < r)). inr (omega (arith, room)))
