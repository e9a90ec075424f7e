-- What the proofs of the walk's functions share: a test turned round, what an answer is, a package's end. Assumes nothing.
use Rattle.std.specs.Prelude.{Result, Ok, Err}
use Rattle.std.specs.Result.{IsErrAnd}
use Rattle.std.proofs.lemmas.Result.{err_from_is_err_and}
use mathlib.Core.Path.{◌≡◌, refl, sym, ◌∙◌}
use mathlib.Core.Bool.{Bool, true, false, not}
use mathlib.Core.List.{List}
use Prim.Native.Nat.{ℕ, ◌+◌}
use native.Mathlib.Omega.{arith}
use lib.ListN.{length}
use Rattle.base.specs.Never.{never}
use Rattle.base.specs.declared.refusal.Refused.{Refused}
use Rattle.packages.specs.Framing.{next_at}
use Rattle.packages.specs.Walk.{Site}
use Rattle.packages.specs.WalkLaws.{site-length}
use Rattle.walk.specs.declared.walk.Census.{Census}

pub not-true : (x : Bool) → not x ≡ true → x ≡ false
not-true true h = never (cc)
not-true false h = refl

pub not-false : (x : Bool) → not x ≡ false → x ≡ true
not-false true h = refl
not-false false h = never (cc)

-- a census is no refusal
pub not-refused : {A : Type 0} {t : Census} {r : Refused} → ◌≡◌ {A = Result Census Refused} (Ok t) (Err r) → A
not-refused e = never (cc)

pub not-all : {A : Type 0} {t : Census} {r : Refused} → ◌≡◌ {A = Result Census Refused} (Err r) (Ok t) → A
not-all e = never (cc)

pub ok_same : {A E : Type 0} {x y : A} → ◌≡◌ {A = Result A E} (Ok x) (Ok y) → x ≡ y
ok_same e = cc

pub err_same : {A E : Type 0} {x y : E} → ◌≡◌ {A = Result A E} (Err x) (Err y) → x ≡ y
err_same e = cc

-- what `?` hands on is the refusal that it met
pub handed : {A E : Type 0} {x : Result A E} {e r : E} → IsErrAnd x (λ (y : E). y ≡ e) → x ≡ Err r → r ≡ e
handed {x = x} h z = let p = err_from_is_err_and x h in err_same (sym z ∙ p.1) ∙ p.2

-- where the package at a site ends
pub site_end : {s : List ℕ} {at : ℕ} {b : List ℕ} → Site s at b → next_at s at ≡ at + 12 + length b
unfolding next_at
site_end k = omega (arith, site-length k)
