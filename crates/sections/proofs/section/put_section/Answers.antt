-- `section::put_section` meets its contract: the rows are written behind the head. Assumes nothing.
use mathlib.Core.Path.{◌≡◌, sym, ◌∙◌, ap}
use mathlib.Core.List.{List, ◌++◌}
use Prim.Native.Nat.{ℕ, ◌-◌, ◌≤◌}
use native.Mathlib.Omega.{arith}
use lib.ListN.{length, take, drop}
use Rattle.base.specs.Number.{be_at}
use Rattle.base.specs.NumberLaws.{Bytes}
use Rattle.base.specs.Output.{Wrote}
use Rattle.base.specs.OutputLaws.{wrote-rest, wrote_as, next-room, front_fits}
use Rattle.meaning.specs.Reference.{Package}
use Rattle.packages.specs.Package.{package_in, PackageIn}
use Rattle.packages.specs.Walk.{block_at, Site}
use Rattle.packages.specs.declared.package.Parts.{Parts}
use Rattle.resolve.specs.Marks.{first_step}
use Rattle.sections.specs.MarkedLaws.{Small, step_small, step-first}
use Rattle.sections.specs.SectionLaws.{section-is}
use Rattle.sections.specs.Sections.{How, behind_of, head_of, all_rows, section_of, refs_of, RowsMarked, Room, Filled, SectionRoom, SectionFilled}
use Rattle.sections.specs.declared.section.Section.{Section}
use Rattle.sections.proofs.section.put_section.Goals.{After-id_at, After-of-b, After-put_rows-z}
use Rattle.sections.proofs.section.put_section.Goals as goal

-- the rows behind the head, of any package
module _ (objects : ℕ) (p : Package) {c s : List ℕ} {n : ℕ} {w : List ℕ} {first : ℕ} {out : List ℕ} {h : How}
    (a : Room c s n w objects first (refs_of p) (section_of objects h p) out h) where
  whole : length (head_of p ++ all_rows objects h p) ≤ length out
  whole = rw (section-is objects h p) at a.room

  head-fits : length (head_of p) ≤ length out
  head-fits = front_fits (head_of p) (all_rows objects h p) (length out) whole

  module _ {o : List ℕ} {k : ℕ} (v : Wrote out (head_of p) o k) where
    rows-room : Room c s n w objects first (refs_of p) (all_rows objects h p) (take (length o - k) (drop k o)) h
    rows-room = record { resolved = a.resolved; room = next-room out (head_of p) (all_rows objects h p) o k v whole }

    filled : {q : List ℕ} {z : Section} → Filled (refs_of p) (all_rows objects h p) (take (length o - k) (drop k o)) q z
        → Filled (refs_of p) (section_of objects h p) out (take k o ++ (q ++ drop (length o - k) (drop k o))) (behind_of k z)
    filled y = record { wrote = wrote_as (wrote-rest v y.wrote) (sym (section-is objects h p)); rows = y.rows }

-- p are the parts of the package at a place, whose block d is
record Here (c : List ℕ) (at : ℕ) (d : List ℕ) (p : Parts) : Type 0 where
  pub block : d ≡ block_at c at
  pub read : PackageIn d p
  pub bytes : Bytes d
  pub small : Small at p

marked-here : (c : List ℕ) (at : ℕ) {n : ℕ} {w d : List ℕ} {step first all : ℕ} → d ≡ block_at c at → step ≡ first_step c at
    → RowsMarked n w (block_at c at) (first_step c at) first all → RowsMarked n w d step first all
marked-here c at e f t = rw (e, f) t

-- what is said of the package at a place is said of it
module _ (c : List ℕ) (objects at id : ℕ) (d : List ℕ) (e : d ≡ block_at c at) (f : id ≡ be_at 8 c at) (h : How) where
  room-here : {s : List ℕ} {n : ℕ} {w : List ℕ} {first : ℕ} {out : List ℕ} → SectionRoom c s n w objects first at out h
      → Room c s n w objects first (refs_of (package_in id d)) (section_of objects h (package_in id d)) out h
  room-here a = rw (e, f) a

  filled-here : {out o : List ℕ} {z : Section} → Filled (refs_of (package_in id d)) (section_of objects h (package_in id d)) out o z
      → SectionFilled c objects at h out o z
  filled-here y = rw (e, f) at y

here : (c : After-of-b) → let u = c.args in
    Here u.src.now.packages.corpus.now u.at c.of-b.result.bytes.now c.of-b.result.parts
here c =
    let t = c.requires.site.0 in
    let b = c.of-b.result in
    let e = ap (λ x. x.now) c.of-b.ensures ∙ c.block_at.ensures in
    let site : Site c.args.src.now.packages.corpus.now c.args.at b.bytes.now = record { starts = t.starts; stops = t.stops; small = t.small; is = e } in
    record { block = e; read = b.accepted; bytes = b.fits; small = step_small site b.accepted }

-- the section's room as the head's and the rows'
room : (c : After-id_at)
    → let u = c.args in
    (h : How) → SectionRoom u.src.now.packages.corpus.now u.src.now.script.now u.src.now.objects u.src.now.work.now u.src.now.limit u.first u.at u.out.now h
    → Room u.src.now.packages.corpus.now u.src.now.script.now u.src.now.objects u.src.now.work.now u.src.now.limit u.first (refs_of (package_in c.id_at.result c.of-b.result.bytes.now))
    (section_of u.src.now.limit h (package_in c.id_at.result c.of-b.result.bytes.now)) u.out.now h
room c h a =
    let u = c.args in
    room-here u.src.now.packages.corpus.now u.src.now.limit u.at c.id_at.result c.of-b.result.bytes.now (ap (λ x. x.now) c.of-b.ensures ∙ c.block_at.ensures) c.id_at.ensures h a

done : (c : After-put_rows-z)
    → let u = c.args in
    (h : How) → SectionRoom u.src.now.packages.corpus.now u.src.now.script.now u.src.now.objects u.src.now.work.now u.src.now.limit u.first u.at u.out.now h
    → SectionFilled u.src.now.packages.corpus.now u.src.now.limit u.at h u.out.now
    (take c.put_head-k.result c.put_head-k.new.out ++ (c.put_rows-z.new.out ++ drop (length c.put_head-k.new.out - c.put_head-k.result) (drop c.put_head-k.result c.put_head-k.new.out)))
    (behind_of c.put_head-k.result c.put_rows-z.result)
done c h a =
    let u = c.args in
    let d = package_in c.id_at.result c.of-b.result.bytes.now in
    let r = room-here u.src.now.packages.corpus.now u.src.now.limit u.at c.id_at.result c.of-b.result.bytes.now (ap (λ x. x.now) c.of-b.ensures ∙ c.block_at.ensures) c.id_at.ensures h a in
    filled-here u.src.now.packages.corpus.now u.src.now.limit u.at c.id_at.result c.of-b.result.bytes.now (ap (λ x. x.now) c.of-b.ensures ∙ c.block_at.ensures) c.id_at.ensures h
    (filled u.src.now.limit d r (rw c.noted-p.ensures at c.put_head-k.ensures) ((rw c.noted-p.ensures at c.put_rows-z.ensures) c.id_at.result h (rows-room u.src.now.limit d r (rw c.noted-p.ensures at c.put_head-k.ensures))))

pub of-b-requires : goal.of-b-requires
of-b-requires c = rw c.block_at.ensures c.requires.site.1

pub put_head-k-requires : goal.put_head-k-requires
put_head-k-requires c = rw c.noted-p.ensures (
  (here (goal.at.put_head-k-requires c).After-of-b).small.count,
  head-fits c.args.src.now.limit (package_in c.id_at.result c.of-b.result.bytes.now) (room (goal.at.put_head-k-requires c).After-id_at c.requires.section_room.0 c.requires.section_room.1),
)

pub step_of-step-requires : goal.step_of-step-requires
step_of-step-requires c = (here (goal.at.step_of-step-requires c).After-of-b).small.start

pub put_rows-z-requires : goal.put_rows-z-requires
put_rows-z-requires c =
    let k = here (goal.at.put_rows-z-requires c).After-of-b in
    let e = c.step_of-step.ensures in
    let (h, a) = c.requires.section_room in
    rw c.noted-p.ensures (record {
      few = k.small.count;
      by_index = (c.id_at.result, h, rows-room c.args.src.now.limit (package_in c.id_at.result c.of-b.result.bytes.now) (room (goal.at.put_rows-z-requires c).After-id_at h a) (rw c.noted-p.ensures at c.put_head-k.ensures));
      rows_marked = (
        marked-here c.args.src.now.packages.corpus.now c.args.at k.block (e ∙ step-first c.args.src.now.packages.corpus.now c.args.at k.block k.read) c.requires.rows_marked,
        omega (arith, e, k.small.step),
      );
    })

pub behind-requires : goal.behind-requires
behind-requires c =
    omega (arith, (done (goal.at.behind-requires c).After-put_rows-z c.requires.section_room.0 c.requires.section_room.1).wrote.fits)

pub returns : goal.returns
returns c = record { is = λ h a. rw c.behind.ensures (done (goal.at.returns c).After-put_rows-z h a) }
