-- Laws of the rows at the end of the work buffer, and of the whole of it: a row put, a class entered, the rest as it was. Assumes nothing.
use Rattle.std.specs.Prelude.{◌≡◌, refl, List, [], ◌∷◌, ◌++◌, ℕ, ◌+◌, ◌*◌, ◌-◌, ◌^◌, ◌≤◌, ◌<◌, length, take, drop, get_or}
use Rattle.std.proofs.Common.{◌∙◌, ap, inl, inr, arith, length-append, length-drop}
use Rattle.std.proofs.Math.Decide.{ℕ_discrete}
use Rattle.std.proofs.Math.ListN.{get_or-append}
use Rattle.std.proofs.lemmas.List.{get_or_at}
use Rattle.base.specs.Number.{le_at}
use Rattle.scriptblock.specs.Script.{Objects}
use Rattle.meaning.specs.Reference.{Ref, null}
use Rattle.meaning.specs.Scan.{Class}
use Rattle.table.specs.Table.{record_at}
use Rattle.table.specs.Words.{stored, put, Kept as Changed}
use Rattle.table.specs.WordLaws.{kept_read, kept_then, kept_wider, stored-kept, stored-read}
use Rattle.packages.specs.Meaning.{words_of}
use Rattle.packages.specs.declared.entries.Words.{Words}
use Rattle.resolve.specs.Classes.{ClassesIn, Entered}
use Rattle.resolve.specs.ClassesLaws.{classes-kept}
use Rattle.resolve.specs.Lent.{lent-part, lent-front, lent-rest, lent_length}
use Rattle.resolve.specs.Rows.{row_at, Read, worded, WordsIn, RowsIn, Kept}

-- ---- a row's words and its mark

module _ (at : ℕ) (m : Words) (mark : ℕ) (w : List ℕ) (room : at + 32 ≤ length w) where
  abbrev lower : List ℕ
  lower = stored 8 w at m.lo

  abbrev both : List ℕ
  both = stored 8 lower (at + 8) m.hi

  first : Changed at (at + 8) w lower
  first = stored-kept 8 w at m.lo (omega arith)

  second : Changed (at + 8) (at + 8 + 8) lower both
  second = stored-kept 8 lower (at + 8) m.hi (omega (arith, first.size))

  third : Changed (at + 28) (at + 28 + 4) both (worded at m mark w)
  unfolding worded
  third = stored-kept 4 both (at + 28) mark (omega (arith, first.size, second.size))

  pub worded-kept : Changed at (at + 32) w (worded at m mark w)
  worded-kept =
      kept_then (kept_wider first at (at + 32) (omega arith) (omega arith))
      (kept_then (kept_wider second at (at + 32) (omega arith) (omega arith)) (kept_wider third at (at + 32) (omega arith) (omega arith)))

  worded_in : (r : Ref) → m ≡ words_of r → m.lo < 2 ^ 64 → m.hi < 2 ^ 64 → WordsIn (worded at m mark w) at r
  worded_in r e l h = record {
    lo = kept_read third 8 at (inl (omega arith)) ∙ (kept_read second 8 at (inl (omega arith)) ∙ (stored-read 8 w at m.lo (omega arith) l ∙ ap (λ (x : Words). x.lo) e));
    hi = kept_read third 8 (at + 8) (inl (omega arith)) ∙ (stored-read 8 lower (at + 8) m.hi (omega (arith, first.size)) h ∙ ap (λ (x : Words). x.hi) e);
  }

  pub worded-mark : mark < 2 ^ 32 → le_at 4 (worded at m mark w) (at + 28) ≡ mark
  unfolding worded
  worded-mark h = stored-read 4 both (at + 28) mark (omega (arith, first.size, second.size)) h

-- ---- the rows

-- they are as they were where only bytes before them changed
pub rows-kept : {refs : List Ref} {w w' : List ℕ} (b e : ℕ) → RowsIn refs w → Changed b e w w' → e + 32 * length refs ≤ length w → RowsIn refs w'
rows-kept {refs} {w} {w'} b e t k h = record {
  room = rw k.size t.room;
  words = λ r l. rw k.size (record {
    lo = kept_read k 8 (row_at w r) (inr (omega arith)) ∙ (t.words r l).lo;
    hi = kept_read k 8 (row_at w r + 8) (inr (omega arith)) ∙ (t.words r l).hi;
  });
  read = t.read;
}

-- one more
module _ {refs : List Ref} {w : List ℕ} (t : RowsIn refs w) (room : 32 * (length refs + 1) ≤ length w) (ref : Ref) (read : Read ref)
    (m : Words) (is : m ≡ words_of ref) (lo : m.lo < 2 ^ 64) (hi : m.hi < 2 ^ 64) (mark : ℕ) where
  abbrev at : ℕ
  at = row_at w (length refs)

  change : Changed at (at + 32) w (worded at m mark w)
  change = worded-kept at m mark w (omega arith)

  count : length (refs ++ (ref ∷ [])) ≡ length refs + 1
  count = length-append refs (ref ∷ [])

  own : get_or (refs ++ (ref ∷ [])) (length refs) null ≡ ref
  own = get_or_at refs ref [] null (length refs) refl

  other : (r : ℕ) → r < length refs → get_or (refs ++ (ref ∷ [])) r null ≡ get_or refs r null
  other r l = get_or-append refs (ref ∷ []) null r l

  words-at : (r : ℕ) → r < length (refs ++ (ref ∷ [])) → Dec (r ≡ length refs) → WordsIn (worded at m mark w) (row_at w r) (get_or (refs ++ (ref ∷ [])) r null)
  words-at r l (yes e) = rw (e, own) (worded_in at m mark w (omega arith) ref is lo hi)
  words-at r l (no e) =
      let k : r < length refs = omega (arith, count) in
      rw (other r k) (record {
        lo = kept_read change 8 (row_at w r) (inr (omega arith)) ∙ (t.words r k).lo;
        hi = kept_read change 8 (row_at w r + 8) (inr (omega arith)) ∙ (t.words r k).hi;
      })

  read_at : (r : ℕ) → r < length (refs ++ (ref ∷ [])) → Dec (r ≡ length refs) → Read (get_or (refs ++ (ref ∷ [])) r null)
  read_at r l (yes e) = rw (e, own) read
  read_at r l (no e) = let k : r < length refs = omega (arith, count) in rw (other r k) (t.read r k)

  pub rows_more : RowsIn (refs ++ (ref ∷ [])) (worded at m mark w)
  rows_more = record {
    room = rw (change.size, count) room;
    words = λ r l. rw change.size (words-at r l (ℕ_discrete r (length refs)));
    read = λ r l. read_at r l (ℕ_discrete r (length refs));
  }

-- ---- a part that came back as long as it was

pub back-length : (a : ℕ) (w ys : List ℕ) → a ≤ length w → length ys ≡ length (take (length w - a) (drop a w)) → length (put a (length w - a) w ys) ≡ length w
back-length a w ys h e = lent_length a w ys h (e ∙ ap length (lent-part a w))

-- ---- the whole buffer, where the part behind the script objects was lent and came back as ys

module _ {s b : List ℕ} {o : Objects} {n : ℕ} {xs : List Class} {refs : List Ref} {w : List ℕ} (k : Kept s b o n xs refs w) where
  abbrev back : List ℕ → List ℕ
  back ys = put (56 * n) (length w - 56 * n) w ys

  -- with these classes and rows
  kept_back : (xs' : List Class) (refs' : List Ref) (ys : List ℕ) → length ys ≡ length (drop (56 * n) w) → ClassesIn s (2 * n) xs' ys → RowsIn refs' ys
      → record_at (2 * n) 64 (length xs') + 32 * length refs' ≤ length ys → Kept s b o n xs' refs' (back ys)
  kept_back xs' refs' ys e c r a =
      let f = lent-front (56 * n) w ys k.tables.room in
      let d = lent-rest (56 * n) w ys k.tables.room in
      record {
        tables = record {
          bytes = k.tables.bytes;
          count = k.tables.count;
          room = omega (arith, k.tables.room, lent_length (56 * n) w ys k.tables.room e);
          objects = rw f k.tables.objects;
          classes = rw d c;
        };
        rows = rw d r;
        apart = rw d a;
      }

  -- a row put
  module _ (room : 64 * (n + (length xs + length refs) + 1) ≤ length w) where
    size : length (drop (56 * n) w) ≡ length w - 56 * n
    size = length-drop (56 * n) w

    pub kept_row : (ref : Ref) → Read ref → (m : Words) → m ≡ words_of ref → m.lo < 2 ^ 64 → m.hi < 2 ^ 64 → (mark : ℕ)
        → Kept s b o n xs (refs ++ (ref ∷ [])) (back (worded (row_at (drop (56 * n) w) (length refs)) m mark (drop (56 * n) w)))
    kept_row ref read m is lo hi mark =
        let v = drop (56 * n) w in
        let c = worded-kept (row_at v (length refs)) m mark v (omega (arith, size)) in
        let l = length-append refs (ref ∷ []) in
        kept_back xs (refs ++ (ref ∷ [])) (worded (row_at v (length refs)) m mark v) c.size
        (classes-kept (row_at v (length refs)) (row_at v (length refs) + 32) k.tables.classes c (omega (arith, size)))
        (rows_more k.rows (omega (arith, size)) ref read m is lo hi mark)
        (omega (arith, size, l, c.size))

    -- a class entered
    pub kept-class : (x : Class) (ys : List ℕ) → Entered s (2 * n) xs x (drop (56 * n) w) ys → Kept s b o n (xs ++ (x ∷ [])) refs (back ys)
    kept-class x ys t =
        let l = length-append xs (x ∷ []) in
        kept_back (xs ++ (x ∷ [])) refs ys t.kept.size t.holds
        (rows-kept 0 (record_at (2 * n) 64 (length xs + 1)) k.rows t.kept (omega (arith, size)))
        (omega (arith, size, l, t.kept.size))
