-- The kinds of candidates and of class references by their numbers in a report (document 01: "kind 1", "kind 2"; "class kinds 0 to 7: script found,
-- script unresolved, import found, import unresolved, export found, export unresolved, null, bad"). Assumes nothing.
use Rattle.std.specs.Prelude.{◌≡◌, refl, cond, eqb, Bool, true, false, ℕ, zero, suc, ◌≤◌, Option, Some, None}
use Rattle.std.proofs.Common.{sym, ◌∙◌, ap, arith}
use borrow.Author.Tests.{eqb-true}
use Rattle.packages.specs.declared.package.ClassKind.{ClassKind}
use Rattle.packages.specs.declared.package.ClassKind.TheVariants.{Script, Import, Export, Null, Bad}
use Rattle.packages.specs.declared.rows.Candidate.{Candidate}
use Rattle.packages.specs.declared.rows.Candidate.TheVariants.{Variable, Subobject}

-- a candidate's kind, or 0 where it is none
abbrev pub candidate_number : Option Candidate → ℕ
candidate_number None = 0
candidate_number (Some Variable) = 1
candidate_number (Some Subobject) = 2

-- the kind with a number, none for any other
abbrev pub candidate_of : ℕ → Option Candidate
candidate_of n = cond (eqb n 1) (Some Variable) (cond (eqb n 2) (Some Subobject) None)

-- a class kind, where it is found
abbrev pub class_code : ClassKind → ℕ
class_code Script = 0
class_code Import = 2
class_code Export = 4
class_code Null = 6
class_code Bad = 7

-- kind 1: the name without its suffix is the instance
abbrev pub is_variable : Option Candidate → Bool
is_variable None = false
is_variable (Some Variable) = true
is_variable (Some Subobject) = false

-- the same by the number
pub variable-is : (k : Option Candidate) → is_variable k ≡ eqb (candidate_number k) 1
variable-is None = refl
variable-is (Some Variable) = refl
variable-is (Some Subobject) = refl

-- a kind is that of its number
pub number-of : (n : ℕ) → n ≤ 2 → candidate_number (candidate_of n) ≡ n
number-of zero l = refl
number-of (suc zero) l = refl
number-of (suc (suc zero)) l = refl
number-of (suc (suc (suc n))) l = absurd (omega (arith, l))

-- number 1, and no other, is that of kind 1
pub variable-number : (n : ℕ) → is_variable (candidate_of n) ≡ eqb n 1
variable-number n = go (eqb n 1) (eqb n 2)
  where
    go : (s t : Bool) → is_variable (cond s (Some Variable) (cond t (Some Subobject) None)) ≡ s
    go true t = refl
    go false true = refl
    go false false = refl

pub one-number : (n : ℕ) → candidate_of n ≡ Some Variable → n ≡ 1
one-number n e = eqb-true n 1 (sym (variable-number n) ∙ ap is_variable e)

pub number-one : (n : ℕ) → n ≡ 1 → candidate_of n ≡ Some Variable
number-one n e = rw e
