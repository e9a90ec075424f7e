-- Laws of the path that is written by recursion: what the columns of an object say of its path, and the path of its outer. Assumes nothing.
use Rattle.std.specs.Prelude.{◌≡◌, List, ◌++◌, ℕ, suc, ◌+◌, ◌-◌, ◌*◌, ◌≤◌, ◌<◌, length, take, drop, Option, None}
use Rattle.std.proofs.Common.{sym, ◌∙◌, ap, subst, arith}
use Rattle.std.proofs.Math.Option.{none, some}
use Rattle.base.specs.NumberLaws.{Bytes}
use Rattle.base.specs.Output.{Wrote}
use Rattle.text.specs.Utf8.{utf8}
use Rattle.batch.specs.Places.{place_at}
use Rattle.batch.specs.Holds.{text_at, name_at, Holds}
use Rattle.batch.specs.declared.places.Place.{Place}
use Rattle.scriptblock.specs.Script.{Objects, object_name}
use Rattle.meaning.specs.Path.{separator, added, start}
use Rattle.objects.specs.Numbers.{entry_no, link_of, path_no}
use Rattle.objects.specs.Work.{ObjectsIn, Linked, object_no, place_of, Stands}
use Rattle.objects.specs.WorkLaws.{name_no}
use Rattle.objects.specs.PathLaws.{path-lost, path-top, path-up, inside-count, link-inside, place-holds, place_no_lem, number_no_lem, outer_no}
use Rattle.objects.specs.Told.{known, path_bytes, Written}
use Rattle.objects.specs.ToldLaws.{path-deep, bytes-grow, written-lost, known_is, written-wrote, written-room, written-more}
use Rattle.objects.specs.declared.object.Object.{Object}
use Rattle.objects.specs.declared.path.Path.{Path as Told}

-- the rendered name, by the columns
abbrev pub name_of : List ℕ → Object → List ℕ
name_of b u = name_at b (place_of u) u.number

-- the outer of the object u is one of the objects, and the columns v are its own; so many objects may come
pub record OuterRead (w : List ℕ) (u v : Object) (limit : ℕ) : Type 0 where
  pub some : limit ≡ 0 → ⊥
  pub there : u.outer ≡ 0 → ⊥
  pub more : u.outer ≡ 1 → ⊥
  pub is : (c : List ℕ) (p : Objects) → ObjectsIn c p w → v ≡ object_no c p (u.outer - 2)

-- so it is where the outer leads to object i, whose columns were read
pub outer-read : (u : Object) {w : List ℕ} {v : Object} {limit i : ℕ} → (limit ≡ 0 → ⊥) → suc (suc i) ≡ u.outer
    → ((c : List ℕ) (p : Objects) → ObjectsIn c p w → v ≡ object_no c p i) → OuterRead w u v limit
outer-read u {w} {v} {limit} {i} more e is =
    let k : u.outer - 2 ≡ i = omega arith in
    record { some = more; there = λ z. omega arith; more = λ z. omega arith; is = rw k is }

-- that outer is the outermost object, and the buffer has room for the path of u
pub record TwoRoom (b : List ℕ) (u v : Object) (limit : ℕ) (out : List ℕ) : Type 0 where
  pub objects : Objects
  pub work : List ℕ
  pub number : ℕ
  pub stands : Stands b objects work number u
  pub read : OuterRead work u v limit
  pub top : v.outer ≡ 1
  pub room : length (path_bytes (path_no limit objects number)) ≤ length out

module _ {b : List ℕ} {o : Objects} {w : List ℕ} {i : ℕ} {u : Object} (st : Stands b o w i u) where
  outer-is : u.outer ≡ link_of o (entry_no o i).outer
  outer-is = ap (λ (v : Object). v.outer) st.is ∙ outer_no b o i

  place_is : place_of u ≡ place_at b o.layout.names (entry_no o i).index
  place_is = ap place_of st.is ∙ place_no_lem b o i

  name-is : object_name o (entry_no o i) ≡ name_of b u
  name-is =
      name_no st.holds.all i st.inside
      ∙ sym (ap (λ (p : Place). name_at b p u.number) place_is
      ∙ ap (λ (n : ℕ). name_at b (place_at b o.layout.names (entry_no o i).index) n) (ap (λ (v : Object). v.number) st.is ∙ number_no_lem b o i))

  -- its name's place holds a text
  pub stands-holds : Bytes b → Holds b (place_of u) (text_at b (place_of u))
  stands-holds bs = subst (λ (p : Place). Holds b p (text_at b p)) (sym place_is) (place-holds st.holds i st.inside bs)

  pub stands-linked : Linked w
  stands-linked = record { block = b; objects = o; holds = st.holds }

  module _ (limit : ℕ) (ne : limit ≡ 0 → ⊥) where
    pub stands-lost : u.outer ≡ 0 → path_no limit o i ≡ none
    stands-lost z = path-lost limit o i (omega arith) outer-is z

    pub stands-top : u.outer ≡ 1 → path_no limit o i ≡ added (name_of b u) (some start)
    stands-top z = path-top limit o i (omega arith) outer-is z ∙ rw name-is

  pub outer-inside : (u.outer ≡ 0 → ⊥) → (u.outer ≡ 1 → ⊥) → 56 * (u.outer - 2) < length w
  outer-inside n m = link-inside st.holds (entry_no o i).outer outer-is (omega arith)

  -- the buffer s has room for its path
  module _ {v : Object} {limit : ℕ} (a : OuterRead w u v limit) (s : List ℕ) (room : length (path_bytes (path_no limit o i)) ≤ length s) where
    up : path_no limit o i ≡ added (name_of b u) (path_no (limit - 1) o (u.outer - 2))
    up = path-up limit o i (omega (arith, a.some)) outer-is (omega (arith, a.there, a.more)) ∙ rw name-is

    both : length (path_bytes (added (name_of b u) (path_no (limit - 1) o (u.outer - 2)))) ≤ length s
    both = rw up at room

    pub up-stands : Stands b o w (u.outer - 2) v
    up-stands = record { holds = st.holds; inside = inside-count st.holds (u.outer - 2) (outer-inside a.there a.more); is = a.is b o st.holds }

    pub up_room : length (path_bytes (path_no (limit - 1) o (u.outer - 2))) ≤ length s
    up_room = omega (arith, both, bytes-grow (name_of b u) (path_no (limit - 1) o (u.outer - 2)))

    -- its outer's path was written
    module _ {p : List ℕ} {r : Option Told}
        (above : (q : Objects) (j : ℕ) → Stands b q w j v → length (path_bytes (path_no (limit - 1) q j)) ≤ length s → Written (path_no (limit - 1) q j) s p r) where
      there : Written (path_no (limit - 1) o (u.outer - 2)) s p r
      there = above o (u.outer - 2) up-stands up_room

      pub up-lost : r ≡ None → Written (path_no limit o i) s p None
      up-lost z = written-lost (name_of b u) there z up

      module _ (at depth : ℕ) (is : r ≡ known at depth) where
        pub up-wrote : Wrote s (path_bytes (path_no (limit - 1) o (u.outer - 2))) p at
        up-wrote = written-wrote at depth (name_of b u) there is both

        -- it has an object, and fewer than the limit
        pub up-deep : (0 < depth) × (depth < limit)
        up-deep =
            let (q, e, l, d) = known_is at depth (name_of b u) there is both in
            let z = path-deep o (limit - 1) (u.outer - 2) q e in
            (omega (arith, z.0), omega (arith, z.1, a.some))

        pub up_next : length (utf8 (separator depth ++ name_of b u)) ≤ length (take (length p - at) (drop at p))
        up_next = written-room at depth (name_of b u) there is both

        pub up_more : {q : List ℕ} {m : ℕ} → Wrote (take (length p - at) (drop at p)) (utf8 (separator depth ++ name_of b u)) q m
            → Written (path_no limit o i) s (take at p ++ (q ++ drop (length p - at) (drop at p))) (known (at + m) (depth + 1))
        up_more v = written-more at depth (name_of b u) there is both up v
