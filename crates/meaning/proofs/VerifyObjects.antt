-- What a script object counts for in `verify` (document 02, Q-2), by its outer chain in document 01's words: it is resolved exactly where such a
-- chain of few enough objects ends in a null index, and matches exactly where the hash of that chain's path is its global index in the low 62
-- bits.
use Rattle.std.specs.Prelude.{◌≡◌, refl, ◌↔◌, Bool, true, false, cond, not, List, ℕ}
use Rattle.std.proofs.Math.Path.{sym, ap}
use Rattle.std.proofs.Math.Option.{Option, none, some}
use Rattle.std.proofs.Common.{arith, eq-eqb, ne_eqb, eqb-true}
use Rattle.std.proofs.lemmas.Bool.{eqb-false}
use Rattle.base.specs.Index.{value}
use Rattle.base.specs.Never.{never}
use Rattle.scriptblock.specs.Script.{Objects}
use Rattle.scriptblock.specs.ScriptGood.{Good}
use Rattle.scriptblock.specs.declared.script.Entry.{Entry}
use Rattle.meaning.specs.Path.{Path, path_of}
use Rattle.meaning.specs.Chain.{chain_path}
use Rattle.meaning.proofs.Native.{path_sound, path_complete}
use Rattle.meaning.specs.Verify.{path_hash, agrees, is_resolved, is_match, is_mismatch, scored}
pub use Rattle.meaning.specs.VerifyObjects.{HasPath}

module _ (limit : ℕ) (o : Objects) (good : Good o) (e : Entry) where
  path-has : (p : Path) → path_of limit o e.global ≡ some p → HasPath limit o e p.text
  unfolding chain_path
  path-has p h = let (es, chain, few, is) = path_sound o limit e.global p h in (es, chain, few, ap (λ (p : Path). p.text) is)

  has-path : (text : List ℕ) → HasPath limit o e text → (p : Path) × (path_of limit o e.global ≡ some p) × (p.text ≡ text)
  unfolding chain_path
  has-path text (es, chain, few, is) = (chain_path o es, path_complete o good limit chain few, sym is)

  -- an object that no unknown path lets pass, and a known one exactly where its text has P
  module _ (test : ℕ → Option Path → Bool) (P : List ℕ → Type 0) (fails : test e.global none ≡ false)
      (passes : (p : Path) → (test e.global (some p) ≡ true) ↔ P p.text) where
    forth : (x : Option Path) → path_of limit o e.global ≡ x → (b : Bool) → test e.global x ≡ b → ◌≡◌ {A = ℕ} (cond b 1 0) 1
        → (text : List ℕ) × HasPath limit o e text × P text
    forth x h false t one = absurd (omega arith)
    forth none h true t one = never (cc)
    forth (some p) h true t one = (p.text, path-has p h, (passes p).0 t)

    back : (text : List ℕ) × HasPath limit o e text × P text → scored test limit o e ≡ 1
    back (text, has, good) = let (p, h, is) = has-path text has in rw (h, (passes p).1 (rw is good))

    counts : (scored test limit o e ≡ 1) ↔ ((text : List ℕ) × HasPath limit o e text × P text)
    counts = (λ h. forth (path_of limit o e.global) refl (test e.global (path_of limit o e.global)) refl h, back)

  -- "paths resolved"
  pub resolved_where : (scored is_resolved limit o e ≡ 1) ↔ ((text : List ℕ) × HasPath limit o e text)
  resolved_where =
      let (f, g) = counts is_resolved (λ t. Unit {0}) refl (λ p. ((λ h. tt), λ u. refl)) in
      (λ h. let (text, has, u) = f h in (text, has), λ (text, has). g (text, has, tt))

  -- "hash matches"
  pub match_where : (scored is_match limit o e ≡ 1) ↔ ((text : List ℕ) × HasPath limit o e text × (value (path_hash text) ≡ value e.global))
  match_where =
      counts is_match (λ t. value (path_hash t) ≡ value e.global) refl
      (λ p. (eqb-true (value (path_hash p.text)) (value e.global), eq-eqb (value (path_hash p.text)) (value e.global)))

  -- "mismatches"
  pub mismatch_where : (scored is_mismatch limit o e ≡ 1) ↔ ((text : List ℕ) × HasPath limit o e text × (value (path_hash text) ≡ value e.global → ⊥))
  mismatch_where =
      counts is_mismatch (λ t. value (path_hash t) ≡ value e.global → ⊥) refl
      (λ p. (
        λ h. eqb-false (value (path_hash p.text)) (value e.global) (unnot (agrees e.global p.text) h),
        λ n. rw (ne_eqb (value (path_hash p.text)) (value e.global) n),
      ))
    where
      unnot : (b : Bool) → not b ≡ true → b ≡ false
      unnot true h = sym h
      unnot false h = refl
