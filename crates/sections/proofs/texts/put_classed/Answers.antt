-- `texts::put_classed` meets its contract: the texts as the row keeps them, or the class's text before the native class's.
-- Assumes nothing.
use mathlib.Core.Path.{◌≡◌, sym, ap}
use mathlib.Core.Bool.{true}
use mathlib.Core.List.{List, ◌++◌}
use mathlib.Core.Option.{Option}
use Prim.Native.Nat.{ℕ, suc, ◌+◌, ◌≤◌}
use native.Mathlib.Omega.{arith}
use lib.ListN.{length, length-append}
use Rattle.table.specs.WordLaws.{mid-length}
use Rattle.text.specs.Name.{text_bytes}
use Rattle.base.specs.Output.{Wrote}
use Rattle.base.specs.OutputLaws.{wrote_as, wrote-length, wrote-rest, next-room, front_fits}
use Rattle.scriptblock.specs.Script.{Objects}
use Rattle.meaning.specs.Reference.{Ref}
use Rattle.meaning.specs.Report.{or_unknown}
use Rattle.meaning.specs.Scan.{Class}
use Rattle.resolve.specs.Classes.{class_no}
use Rattle.resolve.specs.Rows.{limits_of}
use Rattle.sections.specs.Written.{is_some, Put, Target, class_of, native_text, both_texts, BothPut, ClassRoom}
use Rattle.sections.specs.WrittenLaws.{behind, again, kept-inside, kept-fits, kept_own, kept_both, native-none, unknown-room, class_in, class-some}
use Rattle.resolve.specs.declared.rows.Led.{Led}
use Rattle.sections.specs.declared.texts.Told.{Told}
use Rattle.sections.proofs.texts.put_classed.Goals.{After-put_bytes-first}
use Rattle.sections.proofs.texts.put_classed.Goals as goal

-- there is room for both texts
module _ {c b : List ℕ} {o : Objects} {n : ℕ} {xs : List Class} {lookups objects : ℕ} {w : List ℕ} {r : Ref} {l : Led} (t : Target c b o n xs lookups objects w r l)
    (out : List ℕ) (room : length (both_texts (limits_of lookups objects) xs o r) ≤ length out) where
  abbrev text₁ : List ℕ
  text₁ = text_bytes (or_unknown (class_of (limits_of lookups objects) xs o r))

  abbrev text₂ : List ℕ
  text₂ = text_bytes (or_unknown (native_text (limits_of lookups objects) xs o r))

  native-fits : length text₂ ≤ length out
  native-fits = omega (arith, length-append text₁ text₂, room)

  -- the first is that of a class of the table
  module _ {i : ℕ} (z : l.class ≡ suc i) where
    abbrev text : List ℕ
    text = text_bytes (class_no xs i).path

    text-is : text₁ ++ text₂ ≡ text ++ text₂
    text-is = ap (λ (x : Option (List ℕ)). text_bytes (or_unknown x) ++ text₂) (class-some t z)

    both-fit : length (text ++ text₂) ≤ length out
    both-fit = omega (arith, ap length text-is, room)

    class-room : ClassRoom c n i w out
    class-room = record { front = t.tables.room; classes = xs; holds = t.tables.classes; inside = class_in t z; room = front_fits text text₂ (length out) both-fit }

    module _ {o₁ : List ℕ} {k : ℕ} (w₁ : Wrote out text o₁ k) where
      class_end_lem : k ≤ length o₁
      class_end_lem = omega (arith, wrote-length w₁, w₁.fits)

      native-next : length text₂ ≤ length (behind k o₁)
      native-next = next-room out text text₂ o₁ k w₁ both-fit

      module _ {o₂ : List ℕ} {t₂ : Told} (put : Put (native_text (limits_of lookups objects) xs o r) (behind k o₁) o₂ t₂) where
        both-put : BothPut (limits_of lookups objects) xs o r out (again k o₁ o₂) (record { size = k + t₂.size; class = true; native = t₂.known })
        both-put = record {
          wrote = wrote_as (wrote-rest w₁ put.wrote) (sym text-is);
          class = ap is_some (sym (class-some t z));
          native = put.known;
        }

one-more : {k i : ℕ} → k ≡ i + 1 → k ≡ suc i
one-more h = omega arith

pub kept_text-requires : goal.kept_text-requires
kept_text-requires c = kept-inside c.requires.0.target

pub put_class-first-requires : goal.put_class-first-requires
put_class-first-requires c =
    class-room c.requires.0.target c.args.out.now c.requires.0.room (one-more c.requires.1)

pub slice_bounds-compose_native-count : goal.slice_bounds-compose_native-count
slice_bounds-compose_native-count c =
    let r = c.requires.0 in
    let left = one-more c.requires.1 in
    class_end_lem r.target c.args.out.now r.room left (c.put_class-first.ensures r.classes r.target.tables.classes (class_in r.target left))

pub slice_bounds-compose_native-start : goal.slice_bounds-compose_native-start
slice_bounds-compose_native-start c =
    let r = c.requires.0 in
    let left = one-more c.requires.1 in
    class_end_lem r.target c.args.out.now r.room left (c.put_class-first.ensures r.classes r.target.tables.classes (class_in r.target left))

pub compose_native-t-requires : goal.compose_native-t-requires
compose_native-t-requires c =
    let r = c.requires.0 in
    let left = one-more c.requires.1 in
    record {
      corpus = c.args.src.now.packages.corpus.now;
      read = r.read;
      classes = r.classes;
      lookups = r.lookups;
      ref = r.ref;
      target = r.target;
      room = native-next r.target c.args.out.now r.room left (c.put_class-first.ensures r.classes r.target.tables.classes (class_in r.target left));
    }

pub overflow_add-result : goal.overflow_add-result
overflow_add-result c =
    let r = c.requires.0 in
    let left = one-more c.requires.1 in
    let v = c.put_class-first.ensures r.classes r.target.tables.classes (class_in r.target left) in
    let put = c.compose_native-t.ensures c.args.src.now.packages.corpus.now r.read r.classes r.lookups r.ref r.target (native-next r.target c.args.out.now r.room left v) in
    omega (arith, (both-put r.target c.args.out.now r.room left v put).wrote.fits)

pub returns-in_default : goal.returns-in_default
returns-in_default c = λ o xs lookups r t room.
    let left = one-more c.requires.1 in
    let v = c.put_class-first.ensures xs t.tables.classes (class_in t left) in
    both-put t c.args.out.now room left v (c.compose_native-t.ensures c.args.src.now.packages.corpus.now o xs lookups r t (native-next t c.args.out.now room left v))

pub put_bytes-first-requires : goal.put_bytes-first-requires
put_bytes-first-requires c =
    let r = c.requires.0 in
    let l = c.args.l in
    let (ne, e) = c.in-Some.ensures in
    omega (
      arith,
      ap length e,
      mid-length l.text l.size c.args.src.now.work.now (kept-inside r.target ne),
      kept-fits r.target ne (one-more c.requires.1) (length c.args.out.now) r.room,
    )

-- the class's text was written alone
alone : (c : After-put_bytes-first) → c.args.l.object.outer ≡ 0 → (o : Objects) (xs : List Class) (lookups : ℕ) (r : Ref)
    → Target c.args.src.now.packages.corpus.now c.args.src.now.script.now o c.args.src.now.objects xs lookups c.args.src.now.limit c.args.src.now.work.now r c.args.l
    → Wrote c.args.out.now (text_bytes (class_no xs c.args.i).path) c.put_bytes-first.new.out c.put_bytes-first.result
alone c z o xs lookups r t =
    let (ne, e) = c.in-Some.ensures in
    kept_own t ne (one-more c.requires.1) z e c.put_bytes-first.ensures

pub slice_bounds-put_unknown-count : goal.slice_bounds-put_unknown-count
slice_bounds-put_unknown-count c =
    let r = c.requires.0 in
    let a = alone (goal.at.slice_bounds-put_unknown-count c).After-put_bytes-first (c.is_missing.ensures.0 c.if-is_missing.true) r.read r.classes r.lookups r.ref r.target in
    class_end_lem r.target c.args.out.now r.room (one-more c.requires.1) a

pub slice_bounds-put_unknown-start : goal.slice_bounds-put_unknown-start
slice_bounds-put_unknown-start c =
    let r = c.requires.0 in
    let a = alone (goal.at.slice_bounds-put_unknown-start c).After-put_bytes-first (c.is_missing.ensures.0 c.if-is_missing.true) r.read r.classes r.lookups r.ref r.target in
    class_end_lem r.target c.args.out.now r.room (one-more c.requires.1) a

pub put_unknown-t-requires : goal.put_unknown-t-requires
put_unknown-t-requires c =
    let r = c.requires.0 in
    let z = c.is_missing.ensures.0 c.if-is_missing.true in
    let a = alone (goal.at.put_unknown-t-requires c).After-put_bytes-first z r.read r.classes r.lookups r.ref r.target in
    unknown-room (native-none r.target z) (native-next r.target c.args.out.now r.room (one-more c.requires.1) a)

pub returns-then-is_missing : goal.returns-then-is_missing
returns-then-is_missing c = λ o xs lookups r t room.
    let z = c.is_missing.ensures.0 c.if-is_missing.true in
    let a = alone (goal.at.returns-then-is_missing c).After-put_bytes-first z o xs lookups r t in
    both-put t c.args.out.now room (one-more c.requires.1) a (rw (native-none t z) c.put_unknown-t.ensures)

pub returns : goal.returns
returns c = λ o xs lookups r t room.
    let (ne, e) = c.in-Some.ensures in
    kept_both t ne (one-more c.requires.1) (c.is_missing.ensures.1 c.if-is_missing.false) e c.put_bytes-first.ensures
