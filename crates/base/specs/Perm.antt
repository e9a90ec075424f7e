-- A list in another order (document 01: "Reordering moves whole packages"), two lists element by element, and what does not change. Assumes
-- nothing.
use Rattle.std.specs.Prelude.{◌≡◌, refl, ℕ, suc, length}
use Rattle.std.proofs.Common.{sym, ◌∙◌, ap, ap₂, arith}
use mathlib.Core.List.{List, [], ◌∷◌, ◌++◌, map, Memᴰ}
use Rattle.base.specs.Find.{flat, sum}

-- the second list is the first in another order
pub data Perm {A : Type 0} : List A → List A → Type 0 where
  same : {l : List A} → Perm l l
  keep : {a : A} {l m : List A} → Perm l m → Perm (a ∷ l) (a ∷ m)
  swap : {a b : A} {l : List A} → Perm (a ∷ b ∷ l) (b ∷ a ∷ l)
  then : {l m n : List A} → Perm l m → Perm m n → Perm l n

-- two lists, element by element: as long as each other, and each pair is related
abbrev pub Each : {A B : Type 0} → (A → B → Type 0) → List A → List B → Type 0
Each f [] [] = Unit {0}
Each f [] (b ∷ m) = ⊥
Each f (a ∷ l) [] = ⊥
Each f (a ∷ l) (b ∷ m) = f a b × Each f l m

-- every element has a property
abbrev pub All : {A : Type 0} → (A → Type 0) → List A → Type 0
All f [] = Unit {0}
All f (a ∷ l) = f a × All f l

module _ {A : Type 0} where
  pub perm_length : {l m : List A} → Perm l m → length l ≡ length m
  perm_length same = refl
  perm_length (keep d) = ap suc (perm_length d)
  perm_length swap = refl
  perm_length (then d e) = perm_length d ∙ perm_length e

  pub perm_sum : (f : A → ℕ) {l m : List A} → Perm l m → sum f l ≡ sum f m
  perm_sum f same = refl
  perm_sum f (keep d) = rw (perm_sum f d)
  perm_sum f swap = omega arith
  perm_sum f (then d e) = perm_sum f d ∙ perm_sum f e

  pub perm_all : (f : A → Type 0) {l m : List A} → Perm l m → All f l → All f m
  perm_all f same h = h
  perm_all f (keep d) h = (h.0, perm_all f d h.1)
  perm_all f swap h = (h.1.0, (h.0, h.1.1))
  perm_all f (then d e) h = perm_all f e (perm_all f d h)

  append_perm : (l : List A) {m n : List A} → Perm m n → Perm (l ++ m) (l ++ n)
  append_perm [] d = d
  append_perm (a ∷ l) d = keep (append_perm l d)

  middle : (a : A) (l m : List A) → Perm (a ∷ (l ++ m)) (l ++ (a ∷ m))
  middle a [] m = same
  middle a (b ∷ l) m = then swap (keep (middle a l m))

  exchange : (l m n : List A) → Perm (l ++ (m ++ n)) (m ++ (l ++ n))
  exchange [] m n = same
  exchange (a ∷ l) m n = then (keep (exchange l m n)) (middle a m (l ++ n))

-- what each element brings, in the new order
pub perm_flat : {A B : Type 0} (f : A → List B) {l m : List A} → Perm l m → Perm (flat f l) (flat f m)
perm_flat f same = same
perm_flat f (keep {a} d) = append_perm (f a) (perm_flat f d)
perm_flat f (swap {a} {b} {l}) = exchange (f a) (f b) (flat f l)
perm_flat f (then d e) = then (perm_flat f d) (perm_flat f e)

-- ---- element by element

module _ {A B : Type 0} (R : A → B → Type 0) where
  pub each_weaken : (S : A → B → Type 0) → ((a : A) (b : B) → R a b → S a b) → (l : List A) (m : List B) → Each R l m → Each S l m
  each_weaken S f [] [] e = tt
  each_weaken S f [] (b ∷ m) e = absurd e
  each_weaken S f (a ∷ l) [] e = absurd e
  each_weaken S f (a ∷ l) (b ∷ m) e = (f a b e.0, each_weaken S f l m e.1)

  pub each_all : (P : A → Type 0) (Q : B → Type 0) → ((a : A) (b : B) → R a b → P a → Q b) → (l : List A) (m : List B) → Each R l m → All P l → All Q m
  each_all P Q f [] [] e h = tt
  each_all P Q f [] (b ∷ m) e h = absurd e
  each_all P Q f (a ∷ l) [] e h = absurd e
  each_all P Q f (a ∷ l) (b ∷ m) e h = (f a b e.0 h.0, each_all P Q f l m e.1 h.1)

  -- what both bring is the same, where each pair brings the same
  pub each_map : {C : Type 0} (f : A → C) (g : B → C) → ((a : A) (b : B) → R a b → g b ≡ f a) → (l : List A) (m : List B) → Each R l m → map g m ≡ map f l
  each_map f g alike [] [] e = refl
  each_map f g alike [] (b ∷ m) e = absurd e
  each_map f g alike (a ∷ l) [] e = absurd e
  each_map f g alike (a ∷ l) (b ∷ m) e = ap₂ (λ x y. x ∷ y) (alike a b e.0) (each_map f g alike l m e.1)

  pub each-sum : (f : A → ℕ) (g : B → ℕ) → ((a : A) (b : B) → R a b → g b ≡ f a) → (l : List A) (m : List B) → Each R l m → sum g m ≡ sum f l
  each-sum f g alike [] [] e = refl
  each-sum f g alike [] (b ∷ m) e = absurd e
  each-sum f g alike (a ∷ l) [] e = absurd e
  each-sum f g alike (a ∷ l) (b ∷ m) e = rw (alike a b e.0, each-sum f g alike l m e.1)

-- only what f gives counts
module _ {A B C : Type 0} where
  pub flat_map : (f : A → List C) (g : B → List C) (l : List A) (k : List B) → map f l ≡ map g k → flat f l ≡ flat g k
  flat_map f g l k e = flat-is f l ∙ (ap (flat (λ x. x)) e ∙ sym (flat-is g k))
    where
      flat-is : {D : Type 0} (f : D → List C) (l : List D) → flat f l ≡ flat (λ x. x) (map f l)
      flat-is f [] = refl
      flat-is f (x ∷ l) = ap (λ r. f x ++ r) (flat-is f l)

-- a member has what all have
pub all-member : {A : Type 0} (P : A → Type 0) (l : List A) → All P l → {a : A} → Memᴰ a l → P a
all-member {A = A} P [] h {a = a} m = elim m [ ]
all-member P (x ∷ l) h (Memᴰ.head q) = rw q h.0
all-member P (x ∷ l) h (Memᴰ.tail m) = all-member P l h.1 m
