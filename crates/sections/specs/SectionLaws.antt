-- Laws of what is written: what is written of all is what is written of each, one behind another. Assumes nothing.
use Rattle.std.specs.Prelude.{◌≡◌, refl, List, [], ◌∷◌, ◌++◌, ℕ, suc, ◌+◌, ◌-◌, ◌*◌, ◌≤◌, ◌<◌, length, take, drop, get_or}
use Rattle.std.proofs.Common.{sym, ◌∙◌, ap, subst, append_assoc, add-zero, arith, length-append, length-drop}
use Rattle.std.proofs.Math.Seq.{take-length}
use Rattle.base.specs.Find.{flat}
use Rattle.base.specs.LoopLaws.{flat-take}
use Rattle.base.specs.Number.{be_bytes}
use Rattle.base.specs.NumberLaws.{length-be_bytes}
use Rattle.base.specs.OutputLaws.{wrote_none, wrote-length, wrote-rest, wrote_as, next-room}
use Rattle.scriptblock.specs.Script.{Objects}
use Rattle.meaning.specs.Reference.{Package, Ref}
use Rattle.meaning.specs.Report.{section, report_of}
use Rattle.meaning.specs.Scan.{Class, candidates, table}
use Rattle.resolve.specs.Rows.{limits_of, row_at, led_at}
use Rattle.resolve.specs.declared.rows.Led.{Led}
use Rattle.pool.specs.Pool.{TextIn}
use Rattle.pool.specs.PoolLaws.{led-behind}
use Rattle.sections.specs.RefsLaws.{flat-split, rows-part}
use Rattle.sections.specs.Sections.{How, each_row, all_rows, head_of, section_of, sections_of, front_of, ResolvedFrom, Room, Filled}
use Rattle.sections.specs.Written.{Target}
use Rattle.sections.specs.declared.section.Section.{Section}

-- ---- a row

-- where a resolved row leads
pub row_target : {c s : List ℕ} {n : ℕ} {w : List ℕ} {objects r : ℕ} {x : Ref} {h : How} → ResolvedFrom c s n w objects r (x ∷ []) h
    → Target c s h.objects n h.classes h.lookups objects w x (led_at (drop (56 * n) w) (row_at (drop (56 * n) w) r))
row_target {c} {s} {n} {w} {objects} {r} {x} {h} t =
    let a = rw (add-zero r) at (t.targets 0 (omega arith)) in
    let b = rw (add-zero r) at (t.texts 0 (omega arith)) in
    let e = led-behind (56 * n) r w (omega (arith, t.there, t.tables.room, length-drop (56 * n) w)) in
    record {
      tables = t.tables;
      class = a.class;
      object = rw (a.outer, a.start, a.size, a.number);
      text = subst (λ (l : Led). TextIn c s n (length h.classes) objects 0 (length w) w l) (sym e) b;
    }

-- ---- one item behind another

pub filled_none : (out : List ℕ) → Filled [] [] out out (record { size = 0; rows = 0 })
filled_none out = record { wrote = wrote_none out; rows = refl }

-- the buffer keeps its length, and what was written lies in it
pub filled-inside : {refs : List Ref} {bytes old new : List ℕ} {z : Section} → Filled refs bytes old new z → (z.size ≤ length new) × (length new ≡ length old)
filled-inside t = (omega (arith, t.wrote.fits, wrote-length t.wrote), wrote-length t.wrote)

module _ {A : Type 0} (f : A → List Ref) (g : A → List ℕ) (l : List A) (i : ℕ) (d : A) (inside : i < length l) where
  part-fits : (n : ℕ) → length (flat g l) ≤ n → length (flat g (take i l) ++ g (get_or l i d)) ≤ n
  part-fits n h =
      let x = flat g (take i l) in
      let y = g (get_or l i d) in
      let z = flat g (drop (suc i) l) in
      omega (arith, ap length (flat-split g l i d inside), length-append x (y ++ z), length-append y z, length-append x y)

  module _ {c s : List ℕ} {n : ℕ} {w : List ℕ} {objects r : ℕ} {out o : List ℕ} {h : How} {z : Section} (a : Room c s n w objects r (flat f l) (flat g l) out h)
      (b : Filled (flat f (take i l)) (flat g (take i l)) out o z) where
    -- item i has its rows, and room behind the items before it
    pub item_room : Room c s n w objects (r + z.rows) (f (get_or l i d)) (g (get_or l i d)) (take (length o - z.size) (drop z.size o)) h
    item_room = record {
      resolved = rw b.rows (rows-part (flat f (take i l)) (f (get_or l i d)) (flat f (drop (suc i) l)) (rw (flat-split f l i d inside) at a.resolved));
      room = next-room out (flat g (take i l)) (g (get_or l i d)) o z.size b.wrote (part-fits (length out) a.room);
    }

    -- once it is written there is one item more
    pub item-filled : {q : List ℕ} {v : Section} → Filled (f (get_or l i d)) (g (get_or l i d)) (take (length o - z.size) (drop z.size o)) q v
        → Filled (flat f (take (i + 1) l)) (flat g (take (i + 1) l)) out (take z.size o ++ (q ++ drop (length o - z.size) (drop z.size o)))
        (record { size = z.size + v.size; rows = z.rows + v.rows })
    item-filled {q} {v} y = record {
      wrote = wrote_as (wrote-rest b.wrote y.wrote) (sym (flat-take g l i d inside));
      rows = omega (arith, b.rows, y.rows, ap length (flat-take f l i d inside), length-append (flat f (take i l)) (f (get_or l i d)));
    }

    -- how many bytes and rows there are then: not more than the buffers have room for
    pub item-sums : {q : List ℕ} {v : Section} → Filled (f (get_or l i d)) (g (get_or l i d)) (take (length o - z.size) (drop z.size o)) q v
        → (z.size + v.size ≤ length out) × (z.rows + v.rows ≤ length w)
    item-sums y = ((item-filled y).wrote.fits, omega (arith, y.rows, item_room.resolved.there, length-drop (56 * n) w))

-- all items
pub filled-all : {A : Type 0} (f : A → List Ref) (g : A → List ℕ) (l : List A) (i : ℕ) {out o : List ℕ} {z : Section} → i ≡ length l
    → Filled (flat f (take i l)) (flat g (take i l)) out o z → Filled (flat f l) (flat g l) out o z
filled-all f g l i e t = rw (e, take-length l) at t

-- ---- a section and the report by their parts

pub section-is : (objects : ℕ) (h : How) (p : Package) → section_of objects h p ≡ head_of p ++ all_rows objects h p
unfolding section
section-is objects h p = append_assoc (head_of p) (be_bytes 4 (length (candidates p.read))) (each_row objects h p)

pub report-is : (lookups objects : ℕ) (o : Objects) (xs : List Class) (ps : List Package) → xs ≡ table objects o ps
    → report_of (limits_of lookups objects) o ps
    ≡ front_of (5 + length (sections_of objects (record { objects = o; classes = xs; lookups = lookups }) ps)) (length ps)
    ++ sections_of objects (record { objects = o; classes = xs; lookups = lookups }) ps
unfolding report_of
report-is lookups objects o xs ps e =
    let h : How = record { objects = o; classes = xs; lookups = lookups } in
    let z = sections_of objects h ps in
    let l : length (1 ∷ (be_bytes 4 (length ps) ++ z)) ≡ 5 + length z = omega (arith, length-append (be_bytes 4 (length ps)) z, length-be_bytes 4 (length ps)) in
    rw (← e, l) (sym (append_assoc (be_bytes 4 (5 + length z) ++ (1 ∷ [])) (be_bytes 4 (length ps)) z ∙ append_assoc (be_bytes 4 (5 + length z)) (1 ∷ []) (be_bytes 4 (length ps) ++ z)))
