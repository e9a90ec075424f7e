-- `section::put_rows` meets its contract: the rows are written first, then their count in front of them. Assumes nothing.
use mathlib.Core.Path.{◌≡◌, sym, ◌∙◌, ap}
use mathlib.Core.List.{List, ◌++◌}
use Prim.Native.Nat.{ℕ, ◌+◌, ◌-◌, ◌≤◌}
use native.Mathlib.Omega.{arith}
use lib.ListN.{length, take, drop, length-append, length-drop}
use lib.Seq.{length-take-le}
use Rattle.base.specs.Number.{be_bytes}
use Rattle.base.specs.NumberLaws.{length-be_bytes}
use Rattle.base.specs.Output.{Wrote}
use Rattle.base.specs.OutputLaws.{wrote-front, wrote_count, wrote_as}
use Rattle.meaning.specs.Scan.{candidates}
use Rattle.packages.specs.Package.{read_in, package_in}
use Rattle.packages.specs.PackageLaws.{export_count_lem}
use Rattle.resolve.specs.Lent.{lent-part}
use Rattle.sections.specs.RefsLaws.{refs-each, refs-count, candidates-few}
use Rattle.sections.specs.Sections.{How, behind_of, each_row, EachRoom, EachFilled, RowsRoom, RowsFilled}
use Rattle.sections.specs.declared.section.Section.{Section}
use Rattle.sections.proofs.section.put_rows.Goals.{After-put_be32-k}
use Rattle.sections.proofs.section.put_rows.Goals as goal

module _ (objects id : ℕ) (b : List ℕ) {c s : List ℕ} {n : ℕ} {w : List ℕ} {first : ℕ} {out : List ℕ} {h : How} (a : RowsRoom c s n w objects first id b out h) where
  abbrev count : ℕ
  count = length (candidates (read_in b))

  size : 4 + length (each_row objects h (package_in id b)) ≤ length out
  size = omega (arith, a.room, length-append (be_bytes 4 count) (each_row objects h (package_in id b)), length-be_bytes 4 count)

  each : EachRoom c s n w objects first id b (take (length out - 4) (drop 4 out)) h
  each = record { resolved = rw (refs-each (package_in id b)) at a.resolved; room = rw (lent-part 4 out, length-drop 4 out) (omega (arith, size)) }

  module _ {q : List ℕ} {z : Section} (y : EachFilled objects id b h (take (length out - 4) (drop 4 out)) q z) where
    counted : z.rows ≡ count
    counted = y.rows ∙ (ap length (sym (refs-each (package_in id b))) ∙ refs-count (package_in id b))

    filled : {o : List ℕ} {k : ℕ} → Wrote (take 4 out ++ (q ++ drop (length out - 4) (drop 4 out))) (be_bytes 4 z.rows) o k
        → RowsFilled objects id b h out o (behind_of k z)
    filled {o} {k} x =
        let e : k ≡ 4 = x.size ∙ length-be_bytes 4 z.rows in
        let f = wrote-front {s = out} y.wrote (omega (arith, size)) (wrote_count x e) in
        record { wrote = wrote_count (wrote_as f (rw counted)) (omega arith); rows = counted ∙ sym (refs-count (package_in id b)) }

done : (c : After-put_be32-k) → (id : ℕ) (h : How) → RowsRoom c.args.src.now.packages.corpus.now c.args.src.now.script.now c.args.src.now.objects c.args.src.now.work.now c.args.src.now.limit c.args.first id c.args.p.now.block.bytes.now c.args.out.now h
    → RowsFilled c.args.src.now.limit id c.args.p.now.block.bytes.now h c.args.out.now c.put_be32-k.new.out
    (behind_of c.put_be32-k.result c.put_each-z.result)
done c id h a =
    filled c.args.src.now.limit id c.args.p.now.block.bytes.now a (c.put_each-z.ensures id h (each c.args.src.now.limit id c.args.p.now.block.bytes.now a)) c.put_be32-k.ensures

pub slice_bounds-put_each-count : goal.slice_bounds-put_each-count
slice_bounds-put_each-count c = let (id, h, a) = c.requires.by_index in omega (arith, size c.args.src.now.limit id c.args.p.now.block.bytes.now a)

pub slice_bounds-put_each-start : goal.slice_bounds-put_each-start
slice_bounds-put_each-start c = let (id, h, a) = c.requires.by_index in omega (arith, size c.args.src.now.limit id c.args.p.now.block.bytes.now a)

pub put_each-z-requires : goal.put_each-z-requires
put_each-z-requires c =
    let (id, h, a) = c.requires.by_index in
    record { by_index = (id, h, each c.args.src.now.limit id c.args.p.now.block.bytes.now a); rows_marked = c.requires.rows_marked }

pub overflow_cast-z : goal.overflow_cast-z
overflow_cast-z c =
    let a = c.requires.by_index.2 in
    let y = c.put_each-z.ensures c.requires.by_index.0 c.requires.by_index.1 (each c.args.src.now.limit c.requires.by_index.0 c.args.p.now.block.bytes.now a) in
    omega (arith, counted c.args.src.now.limit c.requires.by_index.0 c.args.p.now.block.bytes.now a y, candidates-few (read_in c.args.p.now.block.bytes.now), export_count_lem c.args.p.now.block.accepted, c.requires.few)

pub put_be32-k-requires : goal.put_be32-k-requires
put_be32-k-requires c =
    let out = c.args.out.now in
    let (id, h, a) = c.requires.by_index in
    rw (length-append (take 4 out), length-take-le 4 out (omega (arith, size c.args.src.now.limit id c.args.p.now.block.bytes.now a))) (omega arith)

pub behind-requires : goal.behind-requires
behind-requires c =
    let (id, h, a) = c.requires.by_index in
    omega (arith, (done (goal.at.behind-requires c).After-put_be32-k id h a).wrote.fits)

pub returns : goal.returns
returns c = λ id h a. rw c.behind.ensures (done (goal.at.returns c).After-put_be32-k id h a)
