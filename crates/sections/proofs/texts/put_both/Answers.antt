-- `texts::put_both` meets its contract: the native class's text twice where there is no class of the table, else the class's text before it.
-- Assumes nothing.
use mathlib.Core.Path.{◌≡◌, sym, ◌∙◌, ap}
use mathlib.Core.List.{List, ◌++◌}
use mathlib.Core.Option.{Option}
use Prim.Native.Nat.{ℕ, ◌+◌, ◌-◌, ◌≤◌}
use native.Mathlib.Omega.{arith}
use lib.ListN.{length, length-append}
use Rattle.text.specs.Name.{text_bytes}
use Rattle.base.specs.Output.{Wrote}
use Rattle.base.specs.OutputLaws.{wrote_as, wrote-length}
use Rattle.scriptblock.specs.Script.{Objects}
use Rattle.meaning.specs.Reference.{Ref}
use Rattle.meaning.specs.Report.{or_unknown}
use Rattle.meaning.specs.Scan.{Class}
use Rattle.resolve.specs.Rows.{limits_of}
use Rattle.sections.specs.Written.{is_some, Put, Target, class_of, native_text, both_texts, BothPut}
use Rattle.sections.specs.WrittenLaws.{kept-inside, kept-size, kept-is, class_same}
use Rattle.resolve.specs.declared.rows.Led.{Led}
use Rattle.sections.specs.declared.texts.Told.{Told}
use Rattle.sections.proofs.texts.put_both.Goals as goal

-- there is room for both texts
module _ {c b : List ℕ} {o : Objects} {n : ℕ} {xs : List Class} {lookups objects : ℕ} {w : List ℕ} {r : Ref} {l : Led} (t : Target c b o n xs lookups objects w r l)
    (out : List ℕ) (room : length (both_texts (limits_of lookups objects) xs o r) ≤ length out) where
  abbrev text₁ : List ℕ
  text₁ = text_bytes (or_unknown (class_of (limits_of lookups objects) xs o r))

  abbrev text₂ : List ℕ
  text₂ = text_bytes (or_unknown (native_text (limits_of lookups objects) xs o r))

  native-fits : length text₂ ≤ length out
  native-fits = omega (arith, length-append text₁ text₂, room)

  -- they are the same
  module _ (z : l.class ≡ 0) {o₁ : List ℕ} {t₁ : Told} (put : Put (native_text (limits_of lookups objects) xs o r) out o₁ t₁) where
    text_same : text₁ ≡ text₂
    text_same = ap (λ (x : Option (List ℕ)). text_bytes (or_unknown x)) (class_same t z)

    twice-fits : t₁.size + t₁.size ≤ length o₁
    twice-fits = omega (arith, wrote-length put.wrote, put.wrote.size, ap length text_same, length-append text₁ text₂, room)

    twice-put : {o₂ : List ℕ} {k : ℕ} → Wrote out (text₂ ++ text₂) o₂ k
        → BothPut (limits_of lookups objects) xs o r out o₂ (record { size = k; class = t₁.known; native = t₁.known })
    twice-put v = record {
      wrote = wrote_as v (ap (λ (x : List ℕ). x ++ text₂) (sym text_same));
      class = put.known ∙ ap is_some (sym (class_same t z));
      native = put.known;
    }

-- what the subtraction says of the class's number
no-class : {k : ℕ} → (1 ≤ k → ⊥) → k ≡ 0
no-class h = omega arith

one-more : {k i : ℕ} → (1 ≤ k) × (i ≡ k - 1) → k ≡ i + 1
one-more h = omega arith

pub put_native-t-requires : goal.put_native-t-requires
put_native-t-requires c =
    let r = c.requires in (
      record {
        corpus = c.args.src.now.packages.corpus.now;
        read = r.read;
        classes = r.classes;
        lookups = r.lookups;
        ref = r.ref;
        target = r.target;
        room = native-fits r.target c.args.out.now r.room;
      },
      no-class c.in-None.ensures,
    )

pub put_second-requires : goal.put_second-requires
put_second-requires c =
    let r = c.requires in
    let f = native-fits r.target c.args.out.now r.room in
    let put = c.put_native-t.ensures c.args.src.now.packages.corpus.now r.read r.classes r.lookups r.ref r.target f in (
      twice-fits r.target c.args.out.now r.room (no-class c.in-None.ensures) put,
      λ ne. (kept-inside r.target ne, kept-size r.target ne (no-class c.in-None.ensures) ∙ sym put.wrote.size),
    )

pub returns-in-None : goal.returns-in-None
returns-in-None c = λ o xs lookups r t room.
    let put = c.put_native-t.ensures c.args.src.now.packages.corpus.now o xs lookups r t (native-fits t c.args.out.now room) in
    twice-put t c.args.out.now room (no-class c.in-None.ensures) put (c.put_second.ensures _ _ put.wrote (λ ne. kept-is t ne (no-class c.in-None.ensures)))

pub put_classed-requires : goal.put_classed-requires
put_classed-requires c = (c.requires, one-more c.in-Some.ensures)

pub returns-in-Some : goal.returns-in-Some
returns-in-Some c = c.put_classed.ensures
