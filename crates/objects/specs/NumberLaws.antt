-- Laws of objects by number: a path over links is the path that document 01 defines. Assumes nothing.
use Rattle.std.specs.Prelude.{◌≡◌, refl, Bool, true, false, cond, ℕ, zero, suc, ◌+◌, ◌≤◌, ◌<◌, eqb, length, get_or}
use Rattle.std.proofs.Common.{sym, ◌∙◌, ap, arith, add-one, eqb-true, ne_eqb}
use mathlib.Core.List.{List, [], ◌∷◌, Memᴰ}
use Rattle.std.proofs.Math.Option.{none}
use Rattle.std.proofs.lemmas.Bool.{eqb-false}
use Rattle.base.specs.Find.{find}
use Rattle.base.specs.Index.{kind}
use Rattle.scriptblock.specs.Script.{Objects, object_name}
use Rattle.scriptblock.specs.ScriptAnswers.{no_entry}
use Rattle.scriptblock.specs.ScriptGood.{Good}
use Rattle.scriptblock.specs.declared.script.Entry.{Entry}
use Rattle.meaning.specs.Path.{added, beyond, path_of}
use Rattle.meaning.proofs.Native.{object-member}
use Rattle.objects.specs.Numbers.{entry_no, raised, number_of, link_of, path_by, path_no}

-- ---- the number of a global index

raised-le : (n m : ℕ) → n ≤ m → raised n ≤ m + 1
raised-le zero m h = omega arith
raised-le (suc n) m h = omega arith

pub number-le : (es : List Entry) (g : ℕ) → number_of es g ≤ length es
unfolding number_of
number-le [] g = omega arith
number-le (e ∷ es) g = go (eqb e.global g) (raised-le (number_of es g) (length es) (number-le es g))
  where
    go : (t : Bool) → raised (number_of es g) ≤ length es + 1 → cond t 1 (raised (number_of es g)) ≤ suc (length es)
    go true h = omega arith
    go false h = omega arith

-- where it is the number of an entry, that entry has the index
pub number_at : (es : List Entry) (g i : ℕ) → number_of es g ≡ suc i → (get_or es i no_entry).global ≡ g
unfolding number_of
number_at [] g i q = absurd (omega arith)
number_at (e ∷ es) g i q = go (eqb e.global g) refl (number_of es g) (number_at es g) q
  where
    go : (t : Bool) → eqb e.global g ≡ t → (n : ℕ) → ((j : ℕ) → n ≡ suc j → (get_or es j no_entry).global ≡ g) → cond t 1 (raised n) ≡ suc i → (get_or (e ∷ es) i no_entry).global ≡ g
    go true f n ih q = let z : i ≡ 0 = omega arith in rw z (eqb-true e.global g f)
    go false f zero ih q = absurd (omega arith)
    go false f (suc n) ih q = let z : i ≡ suc n = omega arith in rw z (ih n refl)

-- where it is 0, no entry has
pub number_miss : (es : List Entry) (g : ℕ) → number_of es g ≡ 0 → (i : ℕ) → i < length es → (get_or es i no_entry).global ≡ g → ⊥
unfolding number_of
number_miss [] g q i h e = absurd (omega arith)
number_miss (x ∷ es) g q i h e = go (eqb x.global g) refl (number_of es g) (number_miss es g) q i h e
  where
    go : (t : Bool) → eqb x.global g ≡ t → (n : ℕ) → (n ≡ 0 → (i : ℕ) → i < length es → (get_or es i no_entry).global ≡ g → ⊥) → cond t 1 (raised n) ≡ 0
        → (i : ℕ) → i < suc (length es) → (get_or (x ∷ es) i no_entry).global ≡ g → ⊥
    go true f n ih q i h e = omega arith
    go false f (suc n) ih q i h e = omega arith
    go false f zero ih q zero h e = eqb-false x.global g f e
    go false f zero ih q (suc i) h e = ih refl i (omega arith) e

-- so it is r, where r is 0 and no entry has the index, or r is the number of the only entry that has
pub number-zero : (es : List Entry) (g : ℕ) → ((i : ℕ) → i < length es → (get_or es i no_entry).global ≡ g → ⊥) → number_of es g ≡ 0
number-zero es g f = go (number_of es g) refl (number-le es g)
  where
    go : (n : ℕ) → number_of es g ≡ n → n ≤ length es → n ≡ 0
    go zero q h = refl
    go (suc i) q h = absurd (f i (omega arith) (number_at es g i q))

pub number-only : (es : List Entry) (g i : ℕ) → i < length es → (get_or es i no_entry).global ≡ g
    → ((j : ℕ) → j < length es → (get_or es j no_entry).global ≡ g → j ≡ i) → number_of es g ≡ i + 1
number-only es g i h e only = go (number_of es g) refl (number-le es g)
  where
    go : (n : ℕ) → number_of es g ≡ n → n ≤ length es → n ≡ i + 1
    go zero q l = absurd (number_miss es g q i h e)
    go (suc j) q l = omega (arith, only j (omega arith) (number_at es g j q))

-- ---- links

pub link-null : (o : Objects) (outer : ℕ) → kind outer ≡ 3 → link_of o outer ≡ 1
unfolding link_of
link-null o outer k = rw k

pub link-raised : (o : Objects) (outer : ℕ) → (kind outer ≡ 3 → ⊥) → link_of o outer ≡ raised (number_of o.entries outer)
unfolding link_of
link-raised o outer k = rw (ne_eqb (kind outer) 3 k)

-- from what was found: r, or one more where it isn't 0
pub link-found : (o : Objects) (outer : ℕ) {r : ℕ} → (kind outer ≡ 3 → ⊥) → r ≡ number_of o.entries outer → raised r ≡ link_of o outer
link-found o outer k q = sym (link-raised o outer k ∙ rw (← q))

pub raised-some : (r : ℕ) → (r ≡ 0 → ⊥) → r + 1 ≡ raised r
raised-some zero n = absurd (n refl)
raised-some (suc r) n = omega arith

-- a link leads to an object of the block
pub link-le : (o : Objects) (outer : ℕ) → link_of o outer ≤ length o.entries + 1
unfolding link_of
link-le o outer = go (eqb (kind outer) 3) (raised-le (number_of o.entries outer) (length o.entries) (number-le o.entries outer))
  where
    go : (t : Bool) → raised (number_of o.entries outer) ≤ length o.entries + 1 → cond t 1 (raised (number_of o.entries outer)) ≤ length o.entries + 1
    go true h = omega arith
    go false h = h

-- ---- paths

-- an entry by its number is one of them
pub member : (es : List Entry) (i : ℕ) → i < length es → Memᴰ (get_or es i no_entry) es
member [] i h = absurd (omega arith)
member (e ∷ es) zero h = Memᴰ.head refl
member (e ∷ es) (suc i) h = Memᴰ.tail (member es i (omega arith))

-- no entry with the index: none is found
missing : (es : List Entry) (g : ℕ) → ((i : ℕ) → i < length es → (get_or es i no_entry).global ≡ g → ⊥) → find (λ e. eqb e.global g) es ≡ none
missing [] g f = refl
missing (e ∷ es) g f = rw (ne_eqb e.global g (f 0 (omega arith))) (missing es g (λ i h. f (suc i) (omega arith)))

-- a missing object has no path
pub path-missing : (limit : ℕ) (o : Objects) (g : ℕ) → number_of o.entries g ≡ 0 → path_of limit o g ≡ none
unfolding path_of
path-missing zero o g q = refl
path-missing (suc n) o g q = rw (missing o.entries g (number_miss o.entries g q))

-- THE LAW: the path over links is the path of the object's global index
pub path_no_lem : (limit : ℕ) (o : Objects) → Good o → (i : ℕ) → i < length o.entries → path_no limit o i ≡ path_of limit o (entry_no o i).global
unfolding path_no path_of link_of
path_no_lem zero o good i h = refl
path_no_lem (suc n) o good i h =
    let e = entry_no o i in
    rw (object-member o good e (member o.entries i h)) (ap (added (object_name o e)) (go (eqb (kind e.outer) 3) (number_of o.entries e.outer) refl (path_no_lem n o good)))
  where
    outer : ℕ
    outer = (entry_no o i).outer

    go : (t : Bool) (k : ℕ) → number_of o.entries outer ≡ k → ((j : ℕ) → j < length o.entries → path_no n o j ≡ path_of n o (entry_no o j).global)
        → path_by (path_no n o) (cond t 1 (raised k)) ≡ beyond t (path_of n o outer)
    go true k q ih = refl
    go false zero q ih = sym (path-missing n o outer q)
    go false (suc j) q ih = ih j (omega (arith, number-le o.entries outer)) ∙ rw (number_at o.entries outer j q)

pub path-found : (limit : ℕ) (o : Objects) → Good o → (g i : ℕ) → number_of o.entries g ≡ i + 1 → path_of limit o g ≡ path_no limit o i
path-found limit o good g i q =
    let e : (get_or o.entries i no_entry).global ≡ g = number_at o.entries g i (q ∙ add-one i) in
    sym (path_no_lem limit o good i (omega (arith, number-le o.entries g)) ∙ rw e)
