-- Two accepted calls on one corpus that differ in limits and buffers (document 02, Q-5: "Where two calls on a corpus differ only in limits, neither
-- limit of the second is smaller, and both accept, a class or native class known in the first is known with the same text in the second"). Both
-- reports are made of the rows of the same exports of the same packages. That the second accepts is what its look-up needs: within more objects
-- there may be more classes, and question 24 says that none of them has the key of another.
use Rattle.std.specs.Prelude.{◌≡◌, false, ℕ}
use Rattle.std.proofs.Common.{sym, ◌∙◌}
use Rattle.std.proofs.Math.Path.{ap}
use mathlib.Core.List.{List, []}
use Rattle.base.specs.Reading.{gives}
use Rattle.scriptblock.specs.Script.{Objects}
use Rattle.scriptblock.specs.ScriptGood.{Good}
use Rattle.scriptblock.proofs.ScriptGood.{script-good}
use Rattle.zen.specs.declared.tables.Export.{Export}
use Rattle.meaning.specs.Reference.{Package}
use Rattle.meaning.specs.Scan.{table}
use Rattle.meaning.specs.Resolve.{Limits}
use Rattle.meaning.specs.Report.{class_ref, row_of, report_of}
use Rattle.meaning.specs.Call.{accepted, answer}
use Rattle.meaning.specs.Table.{repeats}
use Rattle.meaning.specs.Accepted.{packages_in, Accepted}
use Rattle.meaning.proofs.Accepted.{from-answer}
use Rattle.meaning.proofs.OwnChain.{once-each}
use Rattle.meaning.proofs.LimitsTable.{table_stays}
use Rattle.meaning.specs.LimitsChain.{NoSmaller}
use Rattle.meaning.proofs.LimitsChain.{resolve_stays, native_stays}
pub use Rattle.meaning.specs.Monotone.{Monotone, Stays, row_within}

module _ (m₁ m₂ : Limits) (more : NoSmaller m₁ m₂) (o : Objects) (good : Good o) (ps : List Package)
    (once₂ : repeats [] (table m₂.objects o ps) ≡ false) where
  -- row by row, where no key stands twice within the second limit
  pub row_stays : (p : Package) (e : Export) → Stays (row_within m₁ o ps p e) (row_within m₂ o ps p e)
  unfolding row_of
  row_stays p e =
      let t₁ = table m₁.objects o ps in
      let t₂ = table m₂.objects o ps in
      let held = table_stays o good more.objects ps in
      let one₂ = once-each [] t₂ once₂ in
      record {
        class = λ t h.
            let same = resolve_stays t₁ t₂ held one₂ m₁ m₂ more o good (class_ref p e) t h in
            (ap (λ x. x.class) same ∙ h, ap (λ x. x.kind) same);
        native = native_stays t₁ t₂ held one₂ m₁ m₂ more o good (class_ref p e);
      }

module _ (m₁ m₂ : Limits) (more : NoSmaller m₁ m₂) (s : List ℕ) (work₁ room₁ work₂ room₂ : ℕ) where
  -- THE THEOREM, whatever the lengths of the buffers
  pub monotone : (report₁ report₂ : List ℕ) → answer m₁ s work₁ room₁ ≡ accepted report₁ → answer m₂ s work₂ room₂ ≡ accepted report₂
      → Monotone m₁ m₂ s report₁ report₂
  monotone report₁ report₂ h₁ h₂ =
      let (c, f, a₁) = from-answer m₁ s work₁ room₁ report₁ h₁ in
      let (c₂, f₂, b) = from-answer m₂ s work₂ room₂ report₂ h₂ in
      let one-corpus : c₂ ≡ c = let g : gives c₂ ≡ gives c = sym f₂ ∙ f in cc in
      let a₂ : Accepted m₂ c work₂ room₂ report₂ = rw one-corpus at b in
      let o = a₁.opens.objects in
      let one_block : a₂.opens.objects ≡ o = let g : gives a₂.opens.objects ≡ gives o = sym a₂.opens.script-is ∙ a₁.opens.script-is in cc in
      record {
        corpus = c;
        framed_is = f;
        objects = o;
        script-is = a₁.opens.script-is;
        good = a₁.opens.good;
        report₁_is = a₁.is;
        report₂_is = a₂.is ∙ ap (λ x. report_of m₂ x (packages_in c)) one_block;
        rows_stay = row_stays m₁ m₂ more o (script-good c.script o a₁.opens.script-is) (packages_in c) (rw one_block at a₂.opens.once);
      }
