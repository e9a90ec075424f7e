-- The trail of each part of a block is the list's.
use Rattle.std.specs.Prelude.{◌≡◌, refl, List, [], ◌∷◌, ◌++◌, Bool, true, false, ℕ, zero, suc, ◌+◌, ◌*◌, ◌-◌, ◌/◌, ◌%◌, leb, ltb, eqb, length, take, drop, replicate}
use Rattle.std.proofs.Common.{sym, ◌∙◌, ap, append_assoc, append-nil, arith, leb-true, eqb-true}
use Rattle.std.specs.Int.Signed.{non_neg}
use Rattle.std.proofs.lemmas.List.{replicate-append-replicate}
use Rattle.base.specs.Choose.{choose}
use Rattle.text.specs.Utf16.{is_well}
use Rattle.text.specs.Name.{decoded, base}
use Rattle.base.specs.Number.{le}
use Rattle.base.specs.Index.{kind}
use Rattle.base.specs.Signed.{twos}
use Rattle.base.specs.Reading.{got, give, walk, ask, rows, onto}
use Rattle.base.specs.ReadingLaws.{walk_bind, chain_by, pick-by, ask-by, bad-got}
use Rattle.base.specs.ReadingMarks.{Mark, whole, none}
use Rattle.base.specs.ReadingTrail.{trail, trail_bind, trail-ask, trail-rows, copies, copies-replicate}
use Rattle.batch.specs.Batch.{u32, u64, Batch, batch, no_names, some_names, body, head, strings, strings_on}
use Rattle.batch.specs.declared.names.Head.{Head}
use Rattle.scriptblock.specs.Script.{Start, Objects, entry, fresh, entries_on, entries, opening, script}
use Rattle.scriptblock.specs.declared.script.Entry.{Entry}
use Rattle.zen.specs.Zen.{Tables, Imports, Read, offset, summary, bulk, export, named, tables, imports, content, header, ordered}
use Rattle.zen.specs.TableLaws.{in_parts}
use Rattle.zen.specs.Listed.{joined, name_marks, batch_marks, entry_marks, summary_marks, export_marks, script_marks, table_marks, header_marks}
use Rattle.zen.specs.declared.summary.Summary.{Summary}
use Rattle.zen.specs.declared.zen.Layout.{Layout}

-- ---- over all bytes: whatever they are

pub entry-trail : (s : List ℕ) (at : ℕ) → trail entry s at ≡ entry_marks
unfolding entry entry_marks name_marks
entry-trail s at = refl

pub export-trail : (s : List ℕ) (at : ℕ) → trail export s at ≡ export_marks
unfolding export export_marks name_marks
export-trail s at = refl

-- ---- a batch

-- the strings are used up
strings-trail : (hs : List Head) (done : List (List ℕ)) (room : ℕ) (s : List ℕ) (p : ℕ) {ts : List (List ℕ)} {e : ℕ}
    → walk (strings_on done hs room) s p ≡ got ts e
    → (trail (strings_on done hs room) s p ≡ replicate room whole) × (e ≡ p + room)
strings-trail [] done room s p {ts} {e} q =
    ask-by (eqb room 0) 7 (give (onto done [])) s p q λ t r.
    let z = eqb-true room 0 t in
    let y : p ≡ e = cc in
    (trail-ask 7 (give (onto done [])) s p t ∙ rw z, omega arith)
strings-trail (h ∷ hs) done room s p q =
    ask-by (leb h.size room) 5 _ s p q λ t r.
    pick-by (leb (p + h.size) (length s)) _ 3 r λ l r.
    ask-by (is_well (decoded h.wide (take h.size (drop p s)))) 6 _ s (p + h.size) r λ u r.
    let z = leb-true h.size room t in
    let y : h.size + (room - h.size) ≡ room = omega arith in
    let i = strings-trail hs (base h.wide (take h.size (drop p s)) ∷ done) (room - h.size) s (p + h.size) r in (
      trail-ask 5 _ s p t ∙ (ap (λ ms. replicate h.size whole ++ ms) (trail-ask 6 _ s (p + h.size) u ∙ i.0)
          ∙ (replicate-append-replicate h.size (room - h.size) whole ∙ ap (λ n. replicate n whole) y)),
      omega (arith, i.1),
    )

head-trail : (s : List ℕ) (at : ℕ) → trail head s at ≡ replicate 2 whole
unfolding head
head-trail s at = refl

-- past the version
record Body (n : ℕ) (b : Batch) (m : ℕ) (ms : List Mark) : Type 0 where
  count : b.place.count ≡ n
  «end» : m ≡ b.place.«end»
  is : ms ≡ replicate (8 * n) none ++ (replicate (2 * n) whole ++ replicate (b.place.«end» - b.place.strings) whole)

body-trail : (n room : ℕ) (s : List ℕ) (at : ℕ) {b : Batch} {m : ℕ} → walk (body n room) s at ≡ got b m → Body n b m (trail (body n room) s at)
unfolding body strings
body-trail n room s at {b} {m} q =
    pick-by (leb (at + 8 * n) (length s)) _ 3 q λ l r.
    chain_by (walk (rows n head) s (at + 8 * n)) _ (sym (walk_bind (rows n head) _ s (at + 8 * n)) ∙ r) λ hs p f r.
    ask-by (leb room (length s - p)) 3 _ s p r λ t r.
    chain_by (walk (strings_on [] hs room) s p) _ (sym (walk_bind (strings_on [] hs room) _ s p) ∙ r) λ ts e g r.
    let c : Batch = record { place = record { count = n; headers = at + 8 * n; strings = p; «end» = e }; texts = ts } in
    let z : c ≡ b = cc in
    let y : e ≡ m = cc in
    let i = strings-trail hs [] room s p g in
    let w : e - p ≡ room = omega (arith, i.1) in
    let h = trail-rows head s (replicate 2 whole) (λ at a m q. head-trail s at) n (at + 8 * n) f ∙ copies-replicate n 2 whole in
    let x : Body n c e (trail (body n room) s at) = record {
      count = refl;
      «end» = refl;
      is =
          ap (λ ms. replicate (8 * n) none ++ ms)
          (trail_bind (rows n head) _ s (at + 8 * n) f
          ∙ rw (h, trail-ask 3 _ s p t, trail_bind (strings_on [] hs room) _ s p g, i.0, w, append-nil (replicate room whole)));
    } in
    rw (← z, ← y) x

some-trail : (n : ℕ) (s : List ℕ) (at : ℕ) {b : Batch} {m : ℕ} → walk (some_names n) s at ≡ got b m
    → (ms : List Mark) × Body n b m ms × (trail (some_names n) s at ≡ replicate 12 whole ++ ms)
unfolding some_names
some-trail n s at q =
    pick-by (leb (at + 4) (length s)) _ 3 q λ l r.
    pick-by (leb (at + 4 + 8) (length s)) _ 3 r λ l r.
    ask-by (eqb (le (take 8 (drop (at + 4) s))) 0xC1640000) 4 _ s (at + 4 + 8) r λ t r. (
      _,
      body-trail n (le (take 4 (drop at s))) s (at + 4 + 8) r,
      ap (λ ms. replicate 12 whole ++ ms) (trail-ask 4 (body n (le (take 4 (drop at s)))) s (at + 4 + 8) t),
    )

pub batch-trail : (s : List ℕ) (at : ℕ) {b : Batch} {m : ℕ} → walk batch s at ≡ got b m → (trail batch s at ≡ batch_marks b.place) × (m ≡ b.place.«end»)
unfolding batch no_names batch_marks
batch-trail s at {b} {m} q = pick-by (leb (at + 4) (length s)) _ 3 q λ l r. go (eqb n 0) refl r
  where
    n : ℕ
    n = le (take 4 (drop at s))

    Goal : Bool → Type 0
    Goal t = (replicate 4 whole ++ trail (choose t (λ _. no_names) (λ _. some_names n)) s (at + 4) ≡ batch_marks b.place) × (m ≡ b.place.«end»)

    go : (t : Bool) → eqb n 0 ≡ t → walk (choose t (λ _. no_names) (λ _. some_names n)) s (at + 4) ≡ got b m → Goal t
    go true e r =
        let c : Batch = record { place = record { count = 0; headers = at + 4; strings = at + 4; «end» = at + 4 }; texts = [] } in
        let z : c ≡ b = cc in
        let y : at + 4 ≡ m = cc in
        (rw (← z) refl, rw (← z, ← y) refl)
    go false e r =
        let x = some-trail n s (at + 4) r in
        (rw (x.1.count, e, x.2, x.1.is, append-nil (replicate (b.place.«end» - b.place.strings) whole)), x.1.«end»)

-- ---- a script block

entries-trail : (n names : ℕ) (done : List Entry) (s : List ℕ) (at : ℕ) {es : List Entry} {m : ℕ} → walk (entries_on done names n) s at ≡ got es m
    → trail (entries_on done names n) s at ≡ copies n entry_marks
entries-trail zero names done s at q = refl
entries-trail (suc n) names done s at q =
    chain_by (walk entry s at) _ (sym (walk_bind entry _ s at) ∙ q) λ e p f r.
    ask-by (ltb e.index names) 10 _ s p r λ t r.
    ask-by (eqb (kind e.global) 1) 11 _ s p r λ u r.
    ask-by (fresh e.global done) 12 _ s p r λ v r.
    trail_bind entry _ s at f ∙ rw (entry-trail s at, trail-ask 10 _ s p t, trail-ask 11 _ s p u, trail-ask 12 _ s p v, entries-trail n names (e ∷ done) s p r)

opening-trail : (s : List ℕ) (at : ℕ) {o : Start} {m : ℕ} → walk opening s at ≡ got o m
    → trail opening s at ≡ batch_marks o.layout.names ++ replicate 4 whole
unfolding opening
opening-trail s at {o} {m} q =
    chain_by (walk batch s at) _ (sym (walk_bind batch _ s at) ∙ q) λ b p f r.
    pick-by (leb (p + 4) (length s)) _ 3 r λ l r.
    let n = le (take 4 (drop p s)) in
    ask-by (non_neg (twos 32 n)) 8 _ s (p + 4) r λ t r.
    ask-by (leb (32 * n) (length s - (p + 4))) 9 _ s (p + 4) r λ u r.
    let z : record { layout = record { names = b.place; count = n; entries = p + 4 }; names = b.texts } ≡ o = cc in
    trail_bind batch _ s at f ∙ rw (← z, (batch-trail s at f).0, trail-ask 8 _ s (p + 4) t, trail-ask 9 _ s (p + 4) u)

-- nothing is left behind the entries
pub script-trail : (s : List ℕ) (at : ℕ) {o : Objects} {m : ℕ} → walk script s at ≡ got o m → (trail script s at ≡ script_marks o.layout) × (length s - m ≡ 0)
unfolding script entries script_marks
script-trail s at {o} {m} q =
    chain_by (walk opening s at) _ (sym (walk_bind opening _ s at) ∙ q) λ i p f r.
    let n = i.layout.names.count in
    chain_by (walk (entries_on [] n i.layout.count) s p) _ (sym (walk_bind (entries_on [] n i.layout.count) _ s p) ∙ r) λ es j g r.
    ask-by (eqb (length s - j) 0) 13 _ s j r λ t r.
    let z : record { layout = i.layout; names = i.names; entries = es } ≡ o = cc in
    let y : j ≡ m = cc in (
      trail_bind opening _ s at f
          ∙ rw (
            ← z,
            opening-trail s at f,
            trail_bind (entries_on [] n i.layout.count) _ s p g,
            entries-trail i.layout.count n [] s p g,
            trail-ask 13 _ s j t,
          ) (append_assoc (batch_marks i.layout.names) (replicate 4 whole) _),
      rw (← y) (eqb-true (length s - j) 0 t),
    )

-- ---- a package

offset-trail : (s : List ℕ) (at : ℕ) (x m : ℕ) → walk offset s at ≡ got x m → trail offset s at ≡ replicate 4 whole
unfolding offset
offset-trail s at x m q =
    pick-by (leb (at + 4) (length s)) _ 3 q λ l r.
    ask-by (non_neg (twos 32 (le (take 4 (drop at s))))) 16 _ s (at + 4) r λ t r.
    ap (λ ms. replicate 4 whole ++ ms) (trail-ask 16 (give (le (take 4 (drop at s)))) s (at + 4) t)

-- behind the flag and the header size
pub summary-trail : (s : List ℕ) (at : ℕ) {m : Summary} {e : ℕ} → walk summary s at ≡ got m e → replicate 8 whole ++ trail summary s at ≡ summary_marks
unfolding summary summary_marks name_marks
summary-trail s at q =
    pick-by (leb (at + 3) (length s)) _ 3 q λ l r.
    pick-by (leb (at + 3 + 1) (length s)) _ 3 r λ l r.
    pick-by (leb (at + 3 + 1 + 4) (length s)) _ 3 r λ l r.
    pick-by (leb (at + 3 + 1 + 4 + 4) (length s)) _ 3 r λ l r.
    pick-by (leb (at + 3 + 1 + 4 + 4 + 4) (length s)) _ 3 r λ l r.
    chain_by (walk (rows 7 offset) s (at + 3 + 1 + 4 + 4 + 4)) _ (sym (walk_bind (rows 7 offset) _ s (at + 3 + 1 + 4 + 4 + 4)) ∙ r) λ os p f r.
    let h = trail-rows offset s (replicate 4 whole) (offset-trail s) 7 (at + 3 + 1 + 4 + 4 + 4) f in
    rw (trail_bind (rows 7 offset) _ s (at + 3 + 1 + 4 + 4 + 4) f, h)

ask-met : (t : Bool) (e : ℕ) (s : List ℕ) (at : ℕ) {u : Unit {0}} {m : ℕ} → walk (ask t e) s at ≡ got u m → t ≡ true
ask-met true e s at q = refl
ask-met false e s at q = bad-got q

bulk-trail : (stop : ℕ) (s : List ℕ) (at : ℕ) {u : Unit {0}} {m : ℕ} → walk (bulk stop) s at ≡ got u m
    → trail (bulk stop) s at ≡ replicate 8 whole ++ replicate (stop - (at + 8)) none
unfolding bulk
bulk-trail stop s at q =
    pick-by (leb (at + 8) (length s)) _ 3 q λ l r.
    let z = le (take 8 (drop at s)) in
    ask-by (non_neg (twos 64 z)) 18 _ s (at + 8) r λ t r.
    pick-by (leb (at + 8 + z) (length s)) _ 3 r λ l r.
    let v = ask-met (eqb (at + 8 + z) stop) 19 s (at + 8 + z) r in
    let w = eqb-true (at + 8 + z) stop v in
    let y : stop - (at + 8) ≡ z = omega arith in
    ap (λ ms. replicate 8 whole ++ ms) (trail-ask 18 _ s (at + 8) t ∙ rw (v, y, append-nil (replicate z none)))

tables-trail : (m : Summary) (n : ℕ) (s : List ℕ) (at : ℕ) {t : Tables} {e : ℕ} → walk (tables m n) s at ≡ got t e
    → trail (tables m n) s at
    ≡ replicate (m.imports - m.hashes) whole
    ++ (replicate (m.exports - m.imports) none ++ (copies ((m.bundles - m.exports) / 72) export_marks ++ replicate (m.imported - m.bundles) none))
unfolding tables
tables-trail m n s at q =
    let hn = (m.imports - m.hashes) / 8 in
    let xn = (m.bundles - m.exports) / 72 in
    ask-by (eqb ((m.imports - m.hashes) % 8) 0) 20 _ s at q λ a r.
    chain_by (walk (rows hn u64) s at) _ (sym (walk_bind (rows hn u64) _ s at) ∙ r) λ hs p f r.
    ask-by (eqb ((m.exports - m.imports) % 8) 0) 20 _ s p r λ b r.
    pick-by (leb (p + (m.exports - m.imports)) (length s)) _ 3 r λ l r.
    let o = p + (m.exports - m.imports) in
    ask-by (eqb ((m.bundles - m.exports) % 72) 0) 21 _ s o r λ c r.
    chain_by (walk (rows xn export) s o) _ (sym (walk_bind (rows xn export) _ s o) ∙ r) λ es j g r.
    ask-by (named n es) 10 _ s j r λ d r.
    let h = trail-rows u64 s (replicate 8 whole) (λ at a m q. refl) hn at f
    ∙ (copies-replicate hn 8 whole ∙ ap (λ n. replicate n whole) (in_parts 7 (m.imports - m.hashes) a)) in
    let x = trail-rows export s export_marks (λ at a m q. export-trail s at) xn o g in
    trail-ask 20 _ s at a ∙ (trail_bind (rows hn u64) _ s at f
    ∙ rw (
      h,
      trail-ask 20 _ s p b,
      trail-ask 21 _ s o c,
      trail_bind (rows xn export) _ s o g,
      x,
      trail-ask 10 _ s j d,
      append-nil (replicate (m.imported - m.bundles) none),
    ))

-- nothing is left behind the numbers
imports-trail : (i c : ℕ) (s : List ℕ) (at : ℕ) {is : Imports} {e : ℕ} → walk (imports i c) s at ≡ got is e
    → (trail (imports i c) s at ≡ batch_marks is.batch.place ++ replicate (4 * is.batch.place.count) whole) × (length s - e ≡ 0)
unfolding imports
imports-trail i c s at {is} {e} q =
    chain_by (walk batch s at) _ (sym (walk_bind batch _ s at) ∙ q) λ b p f r.
    let n = b.place.count in
    chain_by (walk (rows n u32) s p) _ (sym (walk_bind (rows n u32) _ s p) ∙ r) λ ks j g r.
    ask-by (eqb (length s - j) 0) 22 _ s j r λ t r.
    ask-by (ltb i c) 10 _ s j r λ u r.
    let z : record { batch = b; numbers = ks } ≡ is = cc in
    let y : j ≡ e = cc in
    let h = trail-rows u32 s (replicate 4 whole) (λ at a m q. refl) n p g ∙ copies-replicate n 4 whole in (
      trail_bind batch _ s at f
          ∙ rw (
            ← z,
            (batch-trail s at f).0,
            trail_bind (rows n u32) _ s p g,
            h,
            trail-ask 22 _ s j t,
            trail-ask 10 _ s j u,
            append-nil (replicate (4 * n) whole),
          ),
      rw (← y) (eqb-true (length s - j) 0 t),
    )

-- behind the summary, of a package's header s
abbrev content_marks : Layout → List Mark
content_marks l = joined (batch_marks l.names ∷ table_marks l ∷ batch_marks l.imported ∷ replicate (4 * l.imported.count) whole ∷ [])

record Content (all : ℕ) (s : List ℕ) (r : Read) (e : ℕ) (ms : List Mark) : Type 0 where
  size : r.layout.size ≡ all
  «end» : length s - e ≡ 0
  is : ms ≡ content_marks r.layout

content-trail : (size : ℕ) (m : Summary) (s : List ℕ) (at : ℕ) {r : Read} {e : ℕ} → walk (content size m) s at ≡ got r e
    → Content size s r e (trail (content size m) s at)
unfolding content table_marks
content-trail size m s at {r} {e} q =
    chain_by (walk batch s at) _ (sym (walk_bind batch _ s at) ∙ q) λ ns p f w.
    chain_by (walk (bulk m.hashes) s p) _ (sym (walk_bind (bulk m.hashes) _ s p) ∙ w) λ u j g w.
    chain_by (walk (tables m ns.place.count) s j) _ (sym (walk_bind (tables m ns.place.count) _ s j) ∙ w) λ t k h w.
    chain_by (walk (imports m.index ns.place.count) s k) _ (sym (walk_bind (imports m.index ns.place.count) _ s k) ∙ w) λ is o i w.
    let c : Read = record {
      layout = record { size = size; summary = m; names = ns.place; imported = is.batch.place };
      names = ns.texts;
      hashes = t.hashes;
      exports = t.exports;
      imported = is.batch.texts;
      numbers = is.numbers;
    } in
    let z : c ≡ r = cc in
    let y : o ≡ e = cc in
    let b = batch-trail s at f in
    let x = imports-trail m.index ns.place.count s k i in
    let a : Content size s c o (trail (content size m) s at) = record {
      size = refl;
      «end» = x.1;
      is =
          trail_bind batch _ s at f
          ∙ rw (
            b.0,
            trail_bind (bulk m.hashes) _ s p g,
            bulk-trail m.hashes s p g,
            trail_bind (tables m ns.place.count) _ s j h,
            tables-trail m ns.place.count s j h,
            trail_bind (imports m.index ns.place.count) _ s k i,
            x.0,
            b.1,
          ) (simp (append_assoc, append-nil));
    } in
    rw (← z, ← y) a

pub header-trail : (size : ℕ) (s : List ℕ) (at : ℕ) {r : Read} {e : ℕ} → walk (header size) s at ≡ got r e
    → (r.layout.size ≡ size) × (length s - e ≡ 0) × (replicate 8 whole ++ trail (header size) s at ≡ header_marks r.layout)
unfolding header header_marks
header-trail size s at {r} q =
    chain_by (walk summary s at) _ (sym (walk_bind summary _ s at) ∙ q) λ m p f w.
    ask-by (ordered m size) 17 _ s p w λ t w.
    let c = content-trail size m s p w in
    let a = trail_bind summary _ s at f ∙ rw (trail-ask 17 (content size m) s p t, c.is) in
    (c.size, c.«end», ap (λ ms. replicate 8 whole ++ ms) a ∙ ap (λ ms. ms ++ content_marks r.layout) (summary-trail s at f))
