-- What an accepted block holds, and where: the tie of a reading to its layout.
use Rattle.std.specs.Prelude.{◌≡◌, refl, List, true, ℕ, ◌+◌, ◌*◌, ◌-◌, ◌%◌, ◌≤◌, ◌<◌, ltb, eqb, length, take, get_or, Ok}
use Rattle.std.proofs.Common.{sym, ◌∙◌, ap, subst, arith, div-add-mod', ltb-true, eqb-true, length-take-le}
use Rattle.std.proofs.Math.Decide.{dec_le}
use Rattle.base.specs.Reading.{gives, Got, bad, got, run_block, walk}
use Rattle.base.specs.ReadingLaws.{walk_bind, chain_by, pick-by, ask-by, bad-got, out}
use Rattle.base.specs.ReadingGives.{refused-gives}
use Rattle.base.specs.ReadingRows.{cells, cells_at, cells-length}
use Rattle.base.specs.Number.{le_at}
use Rattle.base.specs.NumberLaws.{Bytes, bytes-part, le_at-part, le_at-lt}
use Rattle.batch.specs.Batch.{batch}
use Rattle.batch.specs.Places.{Held, texts_at}
use Rattle.batch.specs.FoundBatch.{FoundAt, found_by_lem, found_end, found-held}
use Rattle.batch.specs.declared.names.Names.{Names}
use Rattle.zen.specs.Zen.{Read, Tables, Imports, summary, ordered, bulk, tables, export_at, imports, content, header, lead, package_block, named, no_export}
use Rattle.zen.specs.Answers.{Order, answer, hashes_of, exports_of, names_of, imported_of, numbers_of, hash_count, export_count}
use Rattle.zen.specs.TableLaws.{bulk-got, tables-is, hashes_in, exports_in}
use Rattle.zen.specs.AnswersLaws.{accepted-got}
use Rattle.zen.proofs.SummaryLaws.{order_of, summary-got}
use Rattle.zen.proofs.BlockLaws.{block-is, block-low, block-bad, lead-got}
use Rattle.zen.specs.ImportLaws.{imports-short, imports-is}
use Rattle.zen.specs.declared.summary.Summary.{Summary}
use Rattle.zen.specs.Lists.{names_in}
use Rattle.zen.specs.declared.zen.Layout.{Layout}
use Rattle.zen.specs.declared.zen.NameList.{NameList}
use Rattle.zen.specs.declared.zen.NameList.TheVariants.{Own, Imported}
pub use Rattle.zen.specs.Accepted.{Parts}

-- ---- what each stage's reading says

record TablesGot (s : List ℕ) (m : Summary) (n : ℕ) (t : Tables) (k : ℕ) : Type 0 where
  hashes : t.hashes ≡ hashes_in s m
  exports : t.exports ≡ exports_in s m
  named : named n t.exports ≡ true
  ends : k ≡ m.imported

tables-got : (s : List ℕ) (m : Summary) (n : ℕ) (o : Order m (length s)) (t : Tables) (k : ℕ) → walk (tables m n) s m.hashes ≡ got t k → TablesGot s m n t k
tables-got s m n o t k q =
    pick-by (eqb ((m.imports - m.hashes) % 8) 0) _ 20 (sym (tables-is s m n o) ∙ q) λ a r.
    pick-by (eqb ((m.exports - m.imports) % 8) 0) _ 20 r λ b r.
    pick-by (eqb ((m.bundles - m.exports) % 72) 0) _ 21 r λ c r.
    pick-by (named n (exports_in s m)) _ 10 r λ d r.
    let z : record { hashes = hashes_in s m; exports = exports_in s m } ≡ t = cc in
    record { hashes = ap (λ t. t.hashes) (sym z); exports = ap (λ t. t.exports) (sym z); named = rw (← z) d; ends = cc }

record ImportsGot (s : List ℕ) (at index count : ℕ) (v : Imports) : Type 0 where
  found : FoundAt s at v.batch.place
  texts : v.batch.texts ≡ texts_at s v.batch.place.headers v.batch.place.strings v.batch.place.count
  numbers : v.numbers ≡ cells (le_at 4 s) 4 v.batch.place.«end» v.batch.place.count
  ends : v.batch.place.«end» + 4 * v.batch.place.count ≡ length s
  within : index < count

imports-got : (s : List ℕ) (at index count : ℕ) (v : Imports) (k : ℕ) → at ≤ length s → walk (imports index count) s at ≡ got v k
    → ImportsGot s at index count v
unfolding imports
imports-got s at index count v k l q =
    chain_by (walk batch s at) _ (sym (walk_bind batch _ s at) ∙ q) λ ns e u w. go ns.place (found_by_lem s at ns e l u)
  where
    go : (n : Names) → FoundAt s at n → ImportsGot s at index count v
    go n f = two (dec_le (n.«end» + 4 * n.count) (length s))
      where
        two : Dec (n.«end» + 4 * n.count ≤ length s) → ImportsGot s at index count v
        two (no h) = bad-got (sym (imports-short s at index count n f (omega arith)) ∙ q)
        two (yes h) =
            pick-by (eqb (length s - (n.«end» + 4 * n.count)) 0) _ 22 (sym (imports-is s at index count n f h) ∙ q) λ a r.
            pick-by (ltb index count) _ 10 r λ b r.
            let z = eqb-true (length s - (n.«end» + 4 * n.count)) 0 a in
            let d : Imports = record { batch = record { place = n; texts = f.texts }; numbers = cells (le_at 4 s) 4 n.«end» n.count } in
            let y : d ≡ v = cc in
            let x : ImportsGot s at index count d =
            record { found = f; texts = f.same; numbers = refl; ends = omega arith; within = ltb-true index count b } in
            rw y at x

-- what the header's reading says
record Says (s : List ℕ) (all : ℕ) (r : Read) : Type 0 where
  size : r.layout.size ≡ all
  order : Order r.layout.summary (length s)
  hashes : r.hashes ≡ hashes_in s r.layout.summary
  exports : r.exports ≡ exports_in s r.layout.summary
  named : named r.layout.names.count r.exports ≡ true
  index : r.layout.summary.index < r.layout.names.count
  found : FoundAt s 52 r.layout.names
  names : r.names ≡ texts_at s r.layout.names.headers r.layout.names.strings r.layout.names.count
  behind : FoundAt s r.layout.summary.imported r.layout.imported
  imported : r.imported ≡ texts_at s r.layout.imported.headers r.layout.imported.strings r.layout.imported.count
  numbers : r.numbers ≡ cells (le_at 4 s) 4 r.layout.imported.«end» r.layout.imported.count
  ends : r.layout.imported.«end» + 4 * r.layout.imported.count ≡ length s

content-got : (s : List ℕ) (size : ℕ) (m : Summary) (o : Order m (length s)) (r : Read) (n : ℕ) → walk (content size m) s 52 ≡ got r n → Says s size r
unfolding content
content-got s size m o r n q =
    chain_by (walk batch s 52) _ (sym (walk_bind batch _ s 52) ∙ q) λ ns e u v.
    chain_by (walk (bulk m.hashes) s e) _ (sym (walk_bind (bulk m.hashes) _ s e) ∙ v) λ x k f g.
    chain_by (walk (tables m ns.place.count) s k) _ (sym (walk_bind (tables m ns.place.count) _ s k) ∙ g) λ t j h i.
    chain_by (walk (imports m.index ns.place.count) s j) _ (sym (walk_bind (imports m.index ns.place.count) _ s j) ∙ i) λ is y z w.
    let a = found_by_lem s 52 ns e (omega (arith, o.low, o.imports, o.exports, o.bundles, o.imported, o.high)) u in
    let d = tables-got s m ns.place.count o t j (rw (bulk-got s e m.hashes f) at h) in
    let b = imports-got s m.imported m.index ns.place.count is y o.high (rw d.ends at z) in
    let c : Read = record {
      layout = record { size = size; summary = m; names = ns.place; imported = is.batch.place };
      names = ns.texts;
      hashes = t.hashes;
      exports = t.exports;
      imported = is.batch.texts;
      numbers = is.numbers;
    } in
    let l : c ≡ r = cc in
    let p : Says s size c = record {
      size = refl;
      order = o;
      hashes = d.hashes;
      exports = d.exports;
      named = d.named;
      index = b.within;
      found = a;
      names = (found_end ns u a).1
          ∙ a.same;
      behind = b.found;
      imported = b.texts;
      numbers = b.numbers;
      ends = b.ends;
    } in
    rw l at p

header-got : (s : List ℕ) (r : Read) (n : ℕ) → walk (header (length s)) s 8 ≡ got r n → Says s (length s) r
unfolding header
header-got s r n q =
    chain_by (walk summary s 8) _ (sym (walk_bind summary _ s 8) ∙ q) λ m k e v.
    ask-by (ordered m (length s)) 17 _ s k v λ o w.
    content-got s (length s) m (order_of m (length s) o) r n (rw (summary-got s e).1 at w)

-- ---- which blocks are accepted

-- what was read is what the header says
abbrev Sized : List ℕ → Read → ℕ → Type 0
Sized b r k = (k ≤ length b) × (k ≡ le_at 4 b 4) × Says (take k b) k r

said : (b : List ℕ) (r : Read) → run_block package_block b ≡ gives r → Sized b r r.layout.size
said b r q = go (walk lead b 0) refl
  where
    go : (g : Got ℕ) → walk lead b 0 ≡ g → Sized b r r.layout.size
    go (bad x) e = refused-gives (sym (block-bad b e) ∙ q)
    go (got size at) e = sized (dec_le 8 size)
      where
        f : (at ≡ 8) × (size ≤ length b) × (size ≡ le_at 4 b 4)
        f = lead-got b size at e

        e8 : walk lead b 0 ≡ got size 8
        e8 = e ∙ ap (got size) f.0

        sized : Dec (8 ≤ size) → Sized b r r.layout.size
        sized (no h) = refused-gives (sym (block-low b e8 (omega arith)) ∙ q)
        sized (yes h) = two (walk (header size) (take size b) 8) refl
          where
            w : length (take size b) ≡ size
            w = length-take-le size b f.1

            is : run_block package_block b ≡ out (walk (header size) (take size b) 8)
            is = block-is b e8 h f.1

            two : (g : Got Read) → walk (header size) (take size b) 8 ≡ g → Sized b r r.layout.size
            two (bad x) u = refused-gives (sym (is ∙ ap out u) ∙ q)
            two (got v n) u =
                let y : gives v ≡ gives r = sym (is ∙ ap out u) ∙ q in
                let z : v ≡ r = cc in
                let c = rw (z, w) at (header-got (take size b) v n (rw w u)) in
                subst (Sized b r) (sym c.size) (f.1, f.2, c)

-- what was read has its layout's parts
pub read-parts : (b : List ℕ) (r : Read) → run_block package_block b ≡ gives r → Parts b r.layout
unfolding hashes_of exports_of names_of imported_of numbers_of
read-parts b r y =
    let (f, h, c) = said b r y in
    let m = r.layout.summary in
    let w : length (take r.layout.size b) ≡ r.layout.size = length-take-le r.layout.size b f in
    let o : Order m r.layout.size = rw w at c.order in
    record {
      size = f;
      header = h;
      small = λ bs. rw h (le_at-lt 4 b 4 bs);
      order = o;
      names = rw y c.names;
      hashes = rw y c.hashes;
      exports = rw y c.exports;
      imported = rw y c.imported;
      numbers = rw y c.numbers;
      names-held = λ h. found-held _ 52 r.layout.names (bytes-part r.layout.size 0 b h) c.found;
      imported-held = λ h. found-held _ m.imported r.layout.imported (bytes-part r.layout.size 0 b h) c.behind;
      index = c.index;
      named = rw y c.named;
      ends = c.ends ∙ w;
      hash_count_lem = rw (y, c.hashes) (cells-length (le_at 8 (take r.layout.size b)) 8 m.hashes (hash_count r.layout));
      export_count_lem = rw (y, c.exports) (cells-length (export_at (take r.layout.size b)) 72 m.exports (export_count r.layout));
      few-names = omega (arith, c.found.few);
      few-hashes = omega (arith, o.imports, o.exports, o.bundles, o.imported, o.high);
      few-exports = omega (arith, o.imports, o.exports, o.bundles, o.imported, o.high);
      few-imported = omega (arith, c.behind.few);
    }

pub parts : (b : List ℕ) (l : Layout) → answer (run_block package_block b) ≡ Ok l → Parts b l
parts b l q =
    let (r, y, z) = accepted-got (run_block package_block b) q in
    subst (λ l. Parts b l) z (read-parts b r y)

-- ---- the i-th of each
module _ {b : List ℕ} {l : Layout} (p : Parts b l) (i : ℕ) where
  pub hash-there : i < length (hashes_of (run_block package_block b)) → l.summary.hashes + 8 * i + 8 ≤ l.size
  hash-there h =
      omega (
        arith,
        p.hash_count_lem,
        div-add-mod' (l.summary.imports - l.summary.hashes) 8,
        p.order.imports,
        p.order.exports,
        p.order.bundles,
        p.order.imported,
        p.order.high,
      )

  pub hash-is : i < length (hashes_of (run_block package_block b))
      → get_or (hashes_of (run_block package_block b)) i 0 ≡ le_at 8 (take l.size b) (l.summary.hashes + 8 * i)
  hash-is h = rw p.hashes (cells_at (le_at 8 (take l.size b)) 8 l.summary.hashes (hash_count l) i 0 (rw p.hash_count_lem at h))

  pub export-there : i < length (exports_of (run_block package_block b)) → l.summary.exports + 72 * i + 72 ≤ l.size
  export-there h =
      omega (arith, p.export_count_lem, div-add-mod' (l.summary.bundles - l.summary.exports) 72, p.order.bundles, p.order.imported, p.order.high)

  pub export_is : i < length (exports_of (run_block package_block b))
      → get_or (exports_of (run_block package_block b)) i no_export ≡ export_at (take l.size b) (l.summary.exports + 72 * i)
  export_is h = rw p.exports (cells_at (export_at (take l.size b)) 72 l.summary.exports (export_count l) i no_export (rw p.export_count_lem at h))

  pub number-there : i < l.imported.count → l.imported.«end» + 4 * i + 4 ≤ l.size
  number-there h = omega (arith, p.ends)

  pub number_is : i < l.imported.count → get_or (numbers_of (run_block package_block b)) i 0 ≡ le_at 4 b (l.imported.«end» + 4 * i)
  number_is h =
      rw p.numbers (cells_at (le_at 4 (take l.size b)) 4 l.imported.«end» l.imported.count i 0 h
      ∙ (le_at-part 4 0 l.size b (l.imported.«end» + 4 * i) (number-there h) ∙ ap (le_at 4 b) (omega arith)))

-- either list of names is held
pub list-held : {b : List ℕ} {l : Layout} → Parts b l → Bytes b → (list : NameList) → Held (take l.size b) (names_in l list)
list-held p y Own = p.names-held y
list-held p y Imported = p.imported-held y
