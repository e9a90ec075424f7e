-- Where the parts of an accepted package are, by position: what is read of it again without asking anything. Assumes nothing.
use Rattle.std.specs.Prelude.{◌≡◌, refl, List, [], Bool, true, false, ℕ, ◌+◌, ◌*◌, ◌-◌, ◌%◌, ◌≤◌, leb, ltb, eqb, length, take, Ok}
use Rattle.std.proofs.Common.{sym, ◌∙◌, ap, arith, leb-true, eqb-true, length-take-le}
use Rattle.std.proofs.Math.Decide.{dec_le}
use Rattle.base.specs.Choose.{pick}
use Rattle.base.specs.Number.{le_at}
use Rattle.base.specs.Reading.{gives, Got, bad, got, run_block, walk, rows}
use Rattle.base.specs.ReadingLaws.{walk_bind, chain_by, pick-by, ask-by, bad-got, out}
use Rattle.base.specs.ReadingGives.{refused-gives}
use Rattle.base.specs.ReadingRows.{cells}
use Rattle.batch.specs.Batch.{u32, Batch, batch, some_names, body, strings, head_at}
use Rattle.batch.specs.BatchLaws.{strings-got, batch-is, some_is, body-hashes, body-heads, body-room, body_is}
use Rattle.zen.specs.Zen.{Read, Tables, Imports, summary, summary_at, ordered, bulk, tables, named, imports, content, header, lead, package_block}
use Rattle.zen.specs.Answers.{Order, answer}
use Rattle.zen.specs.AnswersLaws.{accepted-got}
use Rattle.zen.proofs.SummaryLaws.{order_of, summary-got}
use Rattle.zen.specs.TableLaws.{bulk-got, tables-is, exports_in}
use Rattle.zen.proofs.BlockLaws.{block-is, block-low, block-bad, lead-got}
use Rattle.zen.specs.declared.summary.Summary.{Summary}
use Rattle.zen.specs.declared.zen.Layout.{Layout}
pub use Rattle.zen.specs.Layouts.{BatchAt, Laid, LayoutAt, header_of, layout_at, names_at, no_parts, parts_of}

body-place : (s : List ℕ) (at n room : ℕ) (b : Batch) (e : ℕ) → walk (body n room) s at ≡ got b e
    → (b.place ≡ record { count = n; headers = at + 8 * n; strings = at + 8 * n + 2 * n; «end» = at + 8 * n + 2 * n + room }) × (at + 8 * n + 2 * n + room ≤ length s)
body-place s at n room b e q = go (dec_le (at + 8 * n) (length s)) (dec_le (at + 8 * n + 2 * n) (length s)) (dec_le (at + 8 * n + 2 * n + room) (length s))
  where
    go : Dec (at + 8 * n ≤ length s) → Dec (at + 8 * n + 2 * n ≤ length s) → Dec (at + 8 * n + 2 * n + room ≤ length s)
        → (b.place ≡ record { count = n; headers = at + 8 * n; strings = at + 8 * n + 2 * n; «end» = at + 8 * n + 2 * n + room }) × (at + 8 * n + 2 * n + room ≤ length s)
    go (no l) y z = bad-got (sym (body-hashes s at n room (omega arith)) ∙ q)
    go (yes l) (no m) z = bad-got (sym (body-heads s at n room l (omega arith)) ∙ q)
    go (yes l) (yes m) (no h) = bad-got (sym (body-room s at n room l m (omega arith)) ∙ q)
    go (yes l) (yes m) (yes h) =
        chain_by (walk (strings (cells (head_at s) 2 (at + 8 * n) n) room) s (at + 8 * n + 2 * n)) _ (sym (body_is s at n room l m h) ∙ q) λ ts k u v.
        let g = strings-got s n (at + 8 * n) room (at + 8 * n + 2 * n) ts k u in
        let c : Batch = record { place = record { count = n; headers = at + 8 * n; strings = at + 8 * n + 2 * n; «end» = k }; texts = ts } in
        let w : c ≡ b = cc in
        (rw (← w, g.ends), h)

-- what a batch's reading says of them
pub batch-place : (s : List ℕ) (at : ℕ) (b : Batch) (e : ℕ) → walk batch s at ≡ got b e → (b.place ≡ names_at s at) × BatchAt s at
unfolding names_at
batch-place s at b e q =
    pick-by (leb (at + 4) (length s)) _ 3 (sym (batch-is s at) ∙ q) λ l r. go (leb-true (at + 4) (length s) l) (eqb (le_at 4 s at) 0) refl r
  where
    go : at + 4 ≤ length s → (t : Bool) → eqb (le_at 4 s at) 0 ≡ t → pick t (got (record { place = no_parts at; texts = [] }) (at + 4)) (walk (some_names (le_at 4 s at)) s (at + 4)) ≡ got b e
        → (b.place ≡ names_at s at) × BatchAt s at
    go l true t r =
        let c : Batch = record { place = no_parts at; texts = [] } in
        let w : c ≡ b = cc in
        (rw (← w, t), record { count = l; room = λ z. absurd (z (eqb-true (le_at 4 s at) 0 t)); ends = rw t l })
    go l false t r =
        pick-by (leb (at + 4 + 4) (length s)) _ 3 (sym (some_is s (at + 4) (le_at 4 s at)) ∙ r) λ k r.
        pick-by (leb (at + 4 + 4 + 8) (length s)) _ 3 r λ m r.
        pick-by (eqb (le_at 8 s (at + 4 + 4)) 0xC1640000) _ 4 r λ v r.
        let p = body-place s (at + 4 + 4 + 8) (le_at 4 s at) (le_at 4 s (at + 4)) b e r in
        let f : at + 4 + 4 + 8 ≡ at + 16 = omega arith in
        (rw (t, ← f) p.0, record { count = l; room = λ z. omega (arith, leb-true (at + 4 + 4 + 8) (length s) m); ends = rw (t, ← f) p.1 })

-- the imported names start with their batch
imports-batch : (s : List ℕ) (at index count : ℕ) (v : Imports) (k : ℕ) → walk (imports index count) s at ≡ got v k → (e : ℕ) × (walk batch s at ≡ got v.batch e)
unfolding imports
imports-batch s at index count v k q =
    chain_by (walk batch s at) _ (sym (walk_bind batch _ s at) ∙ q) λ ns e u w.
    chain_by (walk (rows ns.place.count u32) s e) _ (sym (walk_bind (rows ns.place.count u32) _ s e) ∙ w) λ ks j x y.
    ask-by (eqb (length s - j) 0) 22 _ s j y λ a r.
    ask-by (ltb index count) 10 _ s j r λ b r.
    let d : Imports = record { batch = ns; numbers = ks } in
    let z : d ≡ v = cc in
    (e, rw (← z) u)

-- the tables end where the imported names start
tables_end : (s : List ℕ) (m : Summary) (n : ℕ) (o : Order m (length s)) (t : Tables) (k : ℕ) → walk (tables m n) s m.hashes ≡ got t k → k ≡ m.imported
tables_end s m n o t k q =
    pick-by (eqb ((m.imports - m.hashes) % 8) 0) _ 20 (sym (tables-is s m n o) ∙ q) λ a r.
    pick-by (eqb ((m.exports - m.imports) % 8) 0) _ 20 r λ b r.
    pick-by (eqb ((m.bundles - m.exports) % 72) 0) _ 21 r λ c r.
    pick-by (named n (exports_in s m)) _ 10 r λ d r. cc

content-layout : (s : List ℕ) (o : Order (summary_at s) (length s)) (r : Read) (n : ℕ) → walk (content (length s) (summary_at s)) s 52 ≡ got r n → (r.layout ≡ layout_at s) × BatchAt s 52 × BatchAt s (summary_at s).imported
unfolding content layout_at
content-layout s o r n q =
    let m = summary_at s in
    chain_by (walk batch s 52) _ (sym (walk_bind batch _ s 52) ∙ q) λ ns e u v.
    chain_by (walk (bulk m.hashes) s e) _ (sym (walk_bind (bulk m.hashes) _ s e) ∙ v) λ x k f g.
    chain_by (walk (tables m ns.place.count) s k) _ (sym (walk_bind (tables m ns.place.count) _ s k) ∙ g) λ t j h i.
    chain_by (walk (imports m.index ns.place.count) s j) _ (sym (walk_bind (imports m.index ns.place.count) _ s j) ∙ i) λ is y z w.
    let a = batch-place s 52 ns e u in
    let d = tables_end s m ns.place.count o t j (rw (bulk-got s e m.hashes f) at h) in
    let b = imports-batch s m.imported m.index ns.place.count is y (rw d at z) in
    let p = batch-place s m.imported is.batch b.0 b.1 in
    let c : Read = record { layout = record { size = length s; summary = m; names = ns.place; imported = is.batch.place }; names = ns.texts; hashes = t.hashes; exports = t.exports; imported = is.batch.texts; numbers = is.numbers } in
    let l : c ≡ r = cc in
    (rw (← l, a.0, p.0), a.1, p.1)

header-layout : (s : List ℕ) (r : Read) (n : ℕ) → walk (header (length s)) s 8 ≡ got r n → (r.layout ≡ layout_at s) × LayoutAt s
unfolding header
header-layout s r n q =
    chain_by (walk summary s 8) _ (sym (walk_bind summary _ s 8) ∙ q) λ m k e v.
    ask-by (ordered m (length s)) 17 _ s k v λ o w.
    let g = summary-got s e in
    let c = content-layout s (order_of (summary_at s) (length s) (rw g.0 at o)) r n (rw (g.0, g.1) at w) in
    (c.0, record { summary = g.2; names = c.1; imported = c.2 })

laid : (b : List ℕ) (r : Read) → run_block package_block b ≡ gives r → Laid b r.layout
laid b r q = go (walk lead b 0) refl
  where
    go : (g : Got ℕ) → walk lead b 0 ≡ g → Laid b r.layout
    go (bad x) e = refused-gives (sym (block-bad b e) ∙ q)
    go (got size at) e = sized (dec_le 8 size)
      where
        f : (at ≡ 8) × (size ≤ length b) × (size ≡ le_at 4 b 4)
        f = lead-got b size at e

        e8 : walk lead b 0 ≡ got size 8
        e8 = e ∙ ap (got size) f.0

        sized : Dec (8 ≤ size) → Laid b r.layout
        sized (no h) = refused-gives (sym (block-low b e8 (omega arith)) ∙ q)
        sized (yes h) = two (walk (header size) (take size b) 8) refl
          where
            w : length (take size b) ≡ size
            w = length-take-le size b f.1

            is : run_block package_block b ≡ out (walk (header size) (take size b) 8)
            is = block-is b e8 h f.1

            two : (g : Got Read) → walk (header size) (take size b) 8 ≡ g → Laid b r.layout
            two (bad x) u = refused-gives (sym (is ∙ ap out u) ∙ q)
            two (got v n) u =
                let y : gives v ≡ gives r = sym (is ∙ ap out u) ∙ q in
                let z : v ≡ r = cc in
                let c = header-layout (take size b) v n (rw w u) in
                record { here = omega (arith, f.1); within = omega (arith, f.1, f.2); is = rw (← f.2, ← z) c.0; parts = rw (← f.2) c.1 }

-- an accepted block is laid out as its fields say
pub accepted-laid : (b : List ℕ) (l : Layout) → answer (run_block package_block b) ≡ Ok l → Laid b l
accepted-laid b l q =
    let (r, y, z) = accepted-got (run_block package_block b) q in
    rw z at (laid b r y)
