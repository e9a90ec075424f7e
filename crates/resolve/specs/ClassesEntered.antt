-- Laws of entering a class: its record says what its package's block says, and those before it stay. Assumes nothing.
use Rattle.std.specs.Prelude.{◌≡◌, ℕ, ◌+◌, ◌-◌, ◌^◌, ◌≤◌, ◌<◌, length, get_or, Option as Maybe, None, Some}
use Rattle.std.proofs.Math.Path.{refl, ap}
use Rattle.std.proofs.Common.{sym, ◌∙◌, arith, length-append}
use mathlib.Core.List.{List, [], ◌∷◌, ◌++◌}
use Rattle.std.proofs.Math.Option.{some}
use Rattle.std.proofs.Math.Decide.{ℕ_discrete}
use Rattle.std.proofs.Math.ListN.{get_or-append}
use Rattle.std.proofs.lemmas.List.{get_or_at}
use Rattle.base.specs.Number.{be_at, le_at}
use Rattle.base.specs.NumberLaws.{Bytes}
use Rattle.text.specs.Utf8.{utf8}
use Rattle.batch.specs.Holds.{Holds as TextHolds}
use Rattle.meaning.specs.Key.{public}
use Rattle.meaning.specs.Reference.{Ref, ref_in}
use Rattle.meaning.specs.Scan.{Class, class_at}
use Rattle.zen.specs.declared.tables.Export.{Export}
use Rattle.packages.specs.ClassPath.{path_bytes, home-holds}
use Rattle.packages.specs.Meaning.{key_words, words_of}
use Rattle.packages.specs.Package.{package_in, PackageIn}
use Rattle.packages.specs.PackageLaws.{export_count_lem, export-room}
use Rattle.packages.specs.Row.{export_no, home_in, row_in, base_at, start_or, outer_start, RowHolds}
use Rattle.packages.specs.RowLaws.{class-holds}
use Rattle.packages.specs.Walk.{block_at, package_at, Site}
use Rattle.packages.specs.WalkLaws.{site-small}
use Rattle.batch.specs.declared.places.Name.{Name}
use Rattle.packages.specs.declared.package.Parts.{Parts}
use Rattle.packages.specs.declared.entries.Words.{Words}
use Rattle.packages.specs.declared.rows.Row.{Row}
use Rattle.table.specs.Entries.{find}
use Rattle.table.specs.EntryLaws.{find-le, find-key}
use Rattle.table.specs.Table.{record_at, Holds, Added}
use Rattle.table.specs.TableLaws.{record_other, holds-keys, holds-column}
use Rattle.table.specs.AddedLaws.{added-read, added-kept}
use Rattle.table.specs.Words.{Kept}
use Rattle.table.specs.WordLaws.{kept_read, kept_then, kept_wider}
use Rattle.resolve.specs.Classes.{no_class, class_no, class_from, described, ClassIn, SuperIn, words, link, ClassesIn, Entered, Stands}
use Rattle.resolve.specs.ClassesLaws.{class-key, key_words_lem, class-hashed, hashed-key, block-home, block-names, block-path, class_same, super-same}
use Rattle.resolve.specs.Stores.{Cell, no_cell, stores, stores-kept, stores-read}

-- ---- a record filled in

module _ (at i home own outer : ℕ) (m : Words) (len : ℕ) where
  abbrev cells : List Cell
  cells =
      record { width = 8; from = 24; value = m.lo }
      ∷ record { width = 8; from = 32; value = m.hi }
      ∷ record { width = 4; from = 40; value = len }
      ∷ record { width = 4; from = 44; value = at }
      ∷ record { width = 4; from = 48; value = i }
      ∷ record { width = 4; from = 52; value = home }
      ∷ record { width = 4; from = 56; value = own }
      ∷ record { width = 4; from = 60; value = outer }
      ∷ []

  module _ (r : ℕ) (w : List ℕ) (room : r + 64 ≤ length w) where
    described-is : stores cells r w ≡ described r at i home own outer m len w
    unfolding stores described
    described-is = refl

    -- only the record's own columns are written
    pub described-kept : Kept (r + 24) (r + 64) w (described r at i home own outer m len w)
    described-kept = rw described-is at (stores-kept cells 24 64 r w (omega arith) room)

    -- and column j reads back
    described-read : (j : ℕ) → j < 8 → (get_or cells j no_cell).value < 256 ^ (get_or cells j no_cell).width
        → le_at (get_or cells j no_cell).width (described r at i home own outer m len w) (r + (get_or cells j no_cell).from) ≡ (get_or cells j no_cell).value
    described-read j h f = rw described-is at (stores-read cells 24 64 r w (omega arith) room j h f)

-- ---- one class more

module _ (k : ℕ) (xs : List Class) (x : Class) (q : length xs ≡ k) where
  one_more : length (xs ++ (x ∷ [])) ≡ k + 1
  one_more = omega (arith, length-append xs (x ∷ []))

  -- those before it, and itself, by number
  class-before : (j : ℕ) → j < k → class_no (xs ++ (x ∷ [])) j ≡ class_no xs j
  class-before j h = get_or-append xs (x ∷ []) no_class j (omega arith)

  class-last : class_no (xs ++ (x ∷ [])) k ≡ x
  class-last = get_or_at xs x [] no_class k q

  -- a super stays kept as it is
  super-before : {r : Ref} {lo hi : ℕ} → SuperIn xs r lo hi → SuperIn (xs ++ (x ∷ [])) r lo hi
  super-before (words p h) = words p h
  super-before (link j g e p h) = link j (omega (arith, one_more)) (e ∙ ap (λ (c : Class). some c.key) (sym (class-before j (omega arith)))) p h

  -- it is entered where its key was added, and its record filled in, with nothing else changed
  pub classes-more : {n id hash : ℕ} {s w v w' : List ℕ} → ClassesIn s n xs w → x.key ≡ public id hash → (hash ≡ 0 → ⊥) → Added n 64 k id hash w v
      → Kept (record_at n 64 k + 24) (record_at n 64 k + 64) v w' → ClassIn s x w' (record_at n 64 k)
      → le_at 8 w' (record_at n 64 k + 24) ≡ (words_of x.super).lo → le_at 8 w' (record_at n 64 k + 32) ≡ (words_of x.super).hi → Entered s n xs x w w'
  classes-more {n} {id} {hash} {s} {w} {v} {w'} t e h a d own lo hi = record {
    holds = record {
      keys = rw one_more (holds-column added d k (omega arith) (omega arith));
      columns = λ j g. column j (omega (arith, one_more)) (ℕ_discrete k j);
      supers = λ j g. super j (omega (arith, one_more)) (ℕ_discrete k j);
    };
    kept = rw q (kept_then (added-kept a) (kept_wider d 0 (record_at n 64 (k + 1)) (omega arith) (omega arith)));
  }
    where
      added : Holds n 64 (k + 1) (λ i. (key_words (class_no (xs ++ (x ∷ [])) i).key).lo) (λ i. (key_words (class_no (xs ++ (x ∷ [])) i).key).hi) v
      added =
          let u : key_words (class_no (xs ++ (x ∷ [])) k).key ≡ record { lo = id; hi = hash } = rw (class-last, e) (key_words_lem id hash h) in
          a.holds (λ i. (key_words (class_no (xs ++ (x ∷ [])) i).key).lo) (λ i. (key_words (class_no (xs ++ (x ∷ [])) i).key).hi)
          (holds-keys (rw q at t.keys) (λ i. (key_words (class_no (xs ++ (x ∷ [])) i).key).lo) (λ i. (key_words (class_no (xs ++ (x ∷ [])) i).key).hi)
          (λ j g. ap (λ (c : Class). (key_words c.key).lo) (class-before j g)) (λ j g. ap (λ (c : Class). (key_words c.key).hi) (class-before j g)))
          (sym (ap (λ (m : Words). m.lo) u)) (sym (ap (λ (m : Words). m.hi) u))

      same : (j : ℕ) → (k ≡ j → ⊥) → (i c : ℕ) → 24 ≤ c → c + i ≤ 64 → le_at i w' (record_at n 64 j + c) ≡ le_at i w (record_at n 64 j + c)
      same j f i c l u =
          kept_read d i (record_at n 64 j + c) (record_other n 64 k (record_at n 64 k + 24) (record_at n 64 k + 64) (omega arith) (omega arith) j c i f u)
          ∙ added-read a i j c l u

      column : (j : ℕ) → j < k + 1 → Dec (k ≡ j) → ClassIn s (class_no (xs ++ (x ∷ [])) j) w' (record_at n 64 j)
      column j g (yes f) = rw (← f, class-last) own
      column j g (no f) =
          rw (class-before j (omega arith))
          (class_same (t.columns j (omega arith)) (λ i c l u. same j f i c (omega arith) u))

      super : (j : ℕ) → j < k + 1 → Dec (k ≡ j)
          → SuperIn (xs ++ (x ∷ [])) (class_no (xs ++ (x ∷ [])) j).super (le_at 8 w' (record_at n 64 j + 24)) (le_at 8 w' (record_at n 64 j + 32))
      super j g (yes f) = rw (← f, class-last) (words lo hi)
      super j g (no f) =
          rw (class-before j (omega arith))
          (super-same (super-before (t.supers j (omega arith))) (same j f 8 24 (omega arith) (omega arith)) (same j f 8 32 (omega arith) (omega arith)))

-- ---- what a block says of a class

-- its key, by the package's id and the export
pub class-keyed : {b s : List ℕ} {at : ℕ} (i : ℕ) {id : ℕ} {e : Export} → Site s at b → id ≡ be_at 8 s at → e ≡ export_no b i → (class_from s at i).key ≡ public id e.hash
class-keyed {b} {s} {at} i z q g =
    class-key (package_at s at) i (export_no (block_at s at) i) ∙ rw (q, g, z.is)

-- the outer's name starts inside, as the export's own does
start-inside : {b : List ℕ} {w : Row} → RowHolds b w → outer_start w ≤ length b
start-inside {b} {w} d = go w.outer d.outer
  where
    go : (x : Maybe Name) → ((u : Name) → x ≡ Some u → TextHolds b u.place (base_at b u)) → start_or w.own.place.start x ≤ length b
    go None f = omega (arith, d.own.inside)
    go (Some u) f = omega (arith, (f u refl).inside)

module _ {b : List ℕ} {p : Parts} (a : PackageIn b p) (y : Bytes b) (i : ℕ) (l : i < p.count) {s : List ℕ} {at : ℕ} (z : Site s at b) where
  super-meant : words_of (ref_in (package_in (be_at 8 s at) b) (export_no b i).parent) ≡ words_of (class_from s at i).super
  unfolding class_at
  super-meant = ap (λ (x : List ℕ). words_of (ref_in (package_in (be_at 8 s at) x) (export_no x i).parent)) z.is

  site-same : Site s at (block_at s at)
  site-same = rw z.is at z

  -- what the code finds of it: so a record that was filled in with that describes it
  module _ {id : ℕ} {e : Export} (q : id ≡ be_at 8 s at) (g : e ≡ export_no b i) (h : (export_no b i).hash ≡ 0 → ⊥)
      {home : Name} {row : Row} {m : Words} {len : ℕ} (hm : home ≡ home_in b p) (rm : row ≡ row_in b p None i)
      (mm : m ≡ words_of (ref_in (package_in id b) e.parent)) (lo : m.lo < 2 ^ 64) (hi : m.hi < 2 ^ 64)
      (ln : len ≡ length (path_bytes b home row)) (short : len ≤ 393269) where
    length-is : len ≡ length (utf8 (class_from s at i).path)
    length-is = ln ∙ rw (hm, rm) (ap length (block-path a z y i l))

    super-is : m ≡ words_of (class_from s at i).super
    super-is = mm ∙ rw (q, g) super-meant

    small : (at < 2 ^ 32) × (i < 2 ^ 32) × (home.place.start < 2 ^ 32) × (row.own.place.start < 2 ^ 32) × (outer_start row < 2 ^ 32)
    small =
        let (f, k, x, v) = site-small z in
        let d = class-holds a y i l in (
          k,
          omega (arith, export-room a i l),
          rw hm (omega (arith, (home-holds a y).inside)),
          rw rm (omega (arith, d.own.inside)),
          rw rm (omega (arith, start-inside d)),
        )

    abbrev columns : List Cell
    columns = cells at i home.place.start row.own.place.start (outer_start row) m len

    abbrev pub new : ℕ → List ℕ → List ℕ
    new r w = described r at i home.place.start row.own.place.start (outer_start row) m len w

    column-read : (r : ℕ) (w : List ℕ) → r + 64 ≤ length w → (j : ℕ) → j < 8 → (get_or columns j no_cell).value < 256 ^ (get_or columns j no_cell).width
        → le_at (get_or columns j no_cell).width (new r w) (r + (get_or columns j no_cell).from) ≡ (get_or columns j no_cell).value
    column-read r w room = described-read at i home.place.start row.own.place.start (outer_start row) m len r w room

    class-described : (r : ℕ) (w : List ℕ) → r + 64 ≤ length w → ClassIn s (class_from s at i) (new r w) r
    class-described r w room = record {
      place = at;
      export = i;
      site = site-same;
      read = rw z.is at a.is;
      there = rw (← z.is, ← export_count_lem a) l;
      hashed = rw z.is at h;
      is = refl;
      short = rw (← length-is) short;
      place_in = column-read r w room 3 (omega arith) small.0;
      export_in_lem = column-read r w room 4 (omega arith) small.1;
      home_in_lem = column-read r w room 5 (omega arith) small.2 ∙ ap (λ (x : Name). x.place.start) (hm ∙ block-home a z);
      own_in = column-read r w room 6 (omega arith) small.3 ∙ ap (λ (x : Row). x.own.place.start) (rm ∙ block-names a z i);
      outer_in = column-read r w room 7 (omega arith) small.4 ∙ ap outer_start (rm ∙ block-names a z i);
      size_in_lem = column-read r w room 2 (omega arith) (omega arith) ∙ length-is;
    }

    lo-described : (r : ℕ) (w : List ℕ) → r + 64 ≤ length w → le_at 8 (new r w) (r + 24) ≡ (words_of (class_from s at i).super).lo
    lo-described r w room = column-read r w room 0 (omega arith) lo ∙ ap (λ (x : Words). x.lo) super-is

    hi-described : (r : ℕ) (w : List ℕ) → r + 64 ≤ length w → le_at 8 (new r w) (r + 32) ≡ (words_of (class_from s at i).super).hi
    hi-described r w room = column-read r w room 1 (omega arith) hi ∙ ap (λ (x : Words). x.hi) super-is

    -- THE WAY IN: its key was added, and its record filled in
    pub class-entered : {n k r : ℕ} {xs : List Class} {w v w' : List ℕ} → ClassesIn s n xs w → length xs ≡ k → Added n 64 k id e.hash w v → r ≡ record_at n 64 k
        → w' ≡ new r v → Entered s n xs (class_from s at i) w w'
    class-entered {n} {k} {r} {xs} {w} {v} {w'} t c d f u =
        let room : record_at n 64 k + 64 ≤ length v = omega (arith, d.room, (added-kept d).size) in
        rw (u, f)
        (classes-more k xs (class_from s at i) c t (class-keyed i z q g) (rw g h) d
        (described-kept at i home.place.start row.own.place.start (outer_start row) m len (record_at n 64 k) v room)
        (class-described (record_at n 64 k) v room) (lo-described (record_at n 64 k) v room) (hi-described (record_at n 64 k) v room))

-- one of those before it has its key, where that was found
pub class-stands : {s : List ℕ} {n id hash r : ℕ} {xs : List Class} {w : List ℕ} (k : ℕ) (x : Class) → length xs ≡ k → ClassesIn s n xs w → x.key ≡ public id hash
    → ((los his : ℕ → ℕ) → Holds n 64 k los his w → r ≡ find los his id hash k) → 0 < r → Stands xs x
class-stands {s} {n} {id} {hash} {r} {xs} k x q t e found h =
    let f = found (λ i. (key_words (class_no xs i).key).lo) (λ i. (key_words (class_no xs i).key).hi) (rw q at t.keys) in
    let l = find-le (λ i. (key_words (class_no xs i).key).lo) (λ i. (key_words (class_no xs i).key).hi) id hash k in
    let g : r - 1 < length xs = omega arith in
    let (a, b) = rw (← f) at (find-key (λ i. (key_words (class_no xs i).key).lo) (λ i. (key_words (class_no xs i).key).hi) id hash k (omega arith)) in
    record { number = r - 1; inside = g; same = hashed-key (class-hashed (t.columns (r - 1) g)) id hash a b ∙ sym e }
