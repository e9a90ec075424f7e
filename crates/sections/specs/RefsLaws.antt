-- Laws of what the rows' class indices mean, row by row and package by package: a part of the rows is resolved where all are. Assumes
-- nothing.
use Rattle.std.specs.Prelude.{◌≡◌, refl, List, [], ◌∷◌, ◌++◌, map, ℕ, suc, ◌+◌, ◌≤◌, ◌<◌, length, take, drop, get_or}
use Rattle.std.proofs.Common.{◌∙◌, ap, zero-add, arith, length-append, get_or-append-add}
use Rattle.std.proofs.lemmas.List.{length-map}
use Rattle.std.proofs.Math.ListN.{get_or-append}
use Rattle.std.proofs.Math.Seq.{split_at}
use Rattle.base.specs.Find.{flat}
use Rattle.base.specs.LoopLaws.{flat_append, filter-fewer}
use Rattle.zen.specs.Zen.{Read}
use Rattle.meaning.specs.Reference.{Package, Ref, null}
use Rattle.meaning.specs.Report.{class_ref}
use Rattle.meaning.specs.Scan.{is_candidate, candidates}
use Rattle.pool.specs.Pool.{Pooled}
use Rattle.sections.specs.Sections.{How, each_ref, refs_of, ResolvedFrom}

-- ---- a package's

map-flat : {A B : Type 0} (f : A → B) (l : List A) → map f l ≡ flat (λ a. f a ∷ []) l
map-flat f [] = refl
map-flat f (x ∷ l) = ap (λ r. f x ∷ r) (map-flat f l)

-- one by one
pub refs-each : (p : Package) → refs_of p ≡ each_ref p
refs-each p = map-flat (class_ref p) (candidates p.read)

-- how many: as many as candidates, and not more than exports
pub refs-count : (p : Package) → length (refs_of p) ≡ length (candidates p.read)
refs-count p = length-map (candidates p.read) (λ e. class_ref p e)

pub candidates-few : (r : Read) → length (candidates r) ≤ length r.exports
unfolding candidates
candidates-few r = filter-fewer (is_candidate r) r.exports

-- ---- one element of a list that is made flat

module _ {A B : Type 0} (f : A → List B) (l : List A) (i : ℕ) (d : A) (h : i < length l) where
  pub flat-split : flat f l ≡ flat f (take i l) ++ (f (get_or l i d) ++ flat f (drop (suc i) l))
  flat-split = ap (flat f) (split_at l i d h) ∙ flat_append f (take i l) (get_or l i d ∷ drop (suc i) l)

-- ---- resolved rows

-- all of a corpus's
pub rows_all : {c s : List ℕ} {n : ℕ} {w : List ℕ} {objects : ℕ} {refs : List Ref} {h : How} → Pooled c s h.objects n h.classes h.lookups objects refs w
    → ResolvedFrom c s n w objects 0 refs h
rows_all t = record {
  tables = t.resolved.tables;
  there = rw zero-add t.resolved.targets.room;
  targets = λ k l. rw (zero-add k) (t.resolved.targets.targets k l);
  texts = λ k l. rw (zero-add k) (t.texts.texts k l);
}

-- a part of them
pub rows-part : {c s : List ℕ} {n : ℕ} {w : List ℕ} {objects r : ℕ} {h : How} (x y z : List Ref) → ResolvedFrom c s n w objects r (x ++ (y ++ z)) h
    → ResolvedFrom c s n w objects (r + length x) y h
rows-part {c} {s} {n} {w} {objects} {r} {h} x y z t = record {
  tables = t.tables;
  there = omega (arith, t.there, length-append x (y ++ z), length-append y z);
  targets = λ k l.
      let e : get_or (x ++ (y ++ z)) (length x + k) null ≡ get_or y k null = get_or-append-add x (y ++ z) k null ∙ get_or-append y z null k l in
      let a : r + (length x + k) ≡ r + length x + k = omega arith in
      rw (e, a) at (t.targets (length x + k) (omega (arith, length-append x (y ++ z), length-append y z)));
  texts = λ k l.
      let a : r + (length x + k) ≡ r + length x + k = omega arith in
      rw a at (t.texts (length x + k) (omega (arith, length-append x (y ++ z), length-append y z)));
}
