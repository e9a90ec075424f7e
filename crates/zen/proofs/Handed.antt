-- What `?` hands on, and what it goes on with. Assumes nothing.
use Rattle.std.specs.Prelude.{◌≡◌, refl, ℕ, Option, Some, None, Result, Ok, Err}
use Rattle.std.specs.Option.{ok_or}
use Rattle.std.specs.Result.{IsErrAnd}
use Rattle.std.proofs.lemmas.Result.{err_from_is_err_and}
use Rattle.base.specs.Never.{never}
use Rattle.base.specs.Refusal.{number, numbered}
use Rattle.base.specs.declared.refusal.Refusal.{Refusal}

-- the refusal that it met
pub handed : {A : Type 0} (r : Result A Refusal) (e : Refusal) {x : Result A ℕ} → IsErrAnd r (λ y. y ≡ e) → Err (number e) ≡ x → numbered r ≡ x
handed r e h q = let p = err_from_is_err_and r h in rw (p.1, p.2) q

-- behind `ok_or`, what there was
pub there_was : {A : Type 0} (o : Option A) (e : Refusal) {n : A} → Ok n ≡ ok_or o e → o ≡ Some n
there_was (Some m) e {n} q = let z : m ≡ n = cc in rw z
there_was None e q = never (cc)

pub none_was : {A : Type 0} (o : Option A) (e : Refusal) {f : Refusal} → Err f ≡ ok_or o e → (o ≡ None) × (f ≡ e)
none_was (Some m) e q = never (cc)
none_was None e q = (refl, cc)
