-- Lists: an element by its number, the first that passes a test, those that pass, and what each brings. Assumes nothing.
use Rattle.std.specs.Prelude.{Bool, true, false, List, [], ◌∷◌, ◌++◌, ℕ, zero, suc, ◌+◌}
use Rattle.std.proofs.Math.Option.{Option, none, some}

module _ {A : Type 0} where
  -- element i, if it exists
  abbrev pub get : List A → ℕ → Option A
  get [] i = none
  get (x ∷ l) zero = some x
  get (x ∷ l) (suc i) = get l i

  abbrev pub or_else : Bool → A → Option A → Option A
  or_else true x o = some x
  or_else false x o = o

  abbrev pub find : (A → Bool) → List A → Option A
  find f [] = none
  find f (x ∷ l) = or_else (f x) x (find f l)

  -- those that pass a test, in order
  abbrev pub kept : Bool → A → List A → List A
  kept true x l = x ∷ l
  kept false x l = l

  abbrev pub filter : (A → Bool) → List A → List A
  filter f [] = []
  filter f (x ∷ l) = kept (f x) x (filter f l)

module _ {A B : Type 0} where
  abbrev pub option : B → (A → B) → Option A → B
  option d f none = d
  option d f (some a) = f a

  -- f of each element, one behind another
  abbrev pub flat : (A → List B) → List A → List B
  flat f [] = []
  flat f (x ∷ l) = f x ++ flat f l

module _ {A : Type 0} where
  abbrev pub sum : (A → ℕ) → List A → ℕ
  sum f [] = 0
  sum f (x ∷ l) = f x + sum f l
