-- Laws of a chain made object by object, from the innermost on: what it holds, and that it tells the path. Assumes nothing.
use Rattle.std.specs.Prelude.{◌≡◌, length, set, take, drop, Some}
use Rattle.std.proofs.Math.Path.{refl, ap}
use Rattle.std.proofs.Common.{sym, ◌∙◌, subst, length-take-le}
use mathlib.Core.List.{List, [], ◌∷◌, ◌++◌, append_assoc, append-nil, map, map-append}
use Rattle.std.proofs.Math.Logic.{by_cases}
use Rattle.std.proofs.Math.Option.{Option as Maybe, none, some}
use Prim.Native.Nat.{ℕ, zero, suc, ◌+◌, ◌-◌, ◌*◌, ◌≤◌, ◌<◌}
use Rattle.std.proofs.Math.Decide.{dec_lt}
use native.Mathlib.Omega.{arith}
use Rattle.std.proofs.Math.ListN.{length-set}
use Rattle.std.proofs.Math.Seq.{get_or-set_same, get_or-set_other, get_or-take}
use Rattle.city.specs.City.{city_hash64}
use Rattle.base.specs.FindLaws.{none-some}
use Rattle.base.specs.NumberLaws.{Bytes}
use Rattle.text.specs.Utf16.{encode16, unit_bytes}
use Rattle.batch.specs.Holds.{text_at, name_at, Holds}
use Rattle.batch.specs.Places.{place_at}
use Rattle.batch.specs.declared.places.Place.{Place}
use Rattle.scriptblock.specs.Script.{Objects, object_name}
use Rattle.meaning.specs.Path.{Path, added, start}
use Rattle.meaning.specs.PathUnits.{path_units, slash_after}
use Rattle.meaning.proofs.PathUnits.{hash-units, units-more}
use Rattle.meaning.specs.Verify.{slash}
use Rattle.objects.specs.Numbers.{entry_no, link_of, path_no}
use Rattle.objects.specs.PathLaws.{path_end, path-lost, path-top, path-up, inside-count, place-holds, place_no_lem, number_no_lem}
use Rattle.objects.specs.ToldLaws.{path-deep}
use Rattle.objects.specs.Work.{ObjectsIn, object_no, place_of}
use Rattle.objects.specs.WorkLaws.{name_no}
use Rattle.objects.specs.declared.object.Object.{Object}
use Rattle.hashes.specs.Chain.{no_name, place_no, number_no, piece, pieces, chain_units, Named, Says, Tells}
use Rattle.hashes.specs.Hashed.{hashed_as}
use Rattle.hashes.specs.SlashLaws.{name-slashed}
use Rattle.hashes.specs.PieceLaws.{pieces-next, pieces-take, pieces_none}
use Rattle.batch.specs.declared.places.Name.{Name}

-- ---- objects

module _ (c : List Name) (k : ℕ) (u : Name) where
  -- object k is stored
  pub set_place : k < length c → place_no (set c k u) k ≡ u.place
  set_place h = ap (λ (x : Name). x.place) (get_or-set_same c k u no_name h)

  set_number : k < length c → number_no (set c k u) k ≡ u.number
  set_number h = ap (λ (x : Name). x.number) (get_or-set_same c k u no_name h)

  -- the objects before it
  pub before-place : (j : ℕ) → j < k → place_no (set c k u) j ≡ place_no c j
  before-place j h = ap (λ (x : Name). x.place) (get_or-set_other c k j u no_name (λ e. omega arith))

  before-number : (j : ℕ) → j < k → number_no (set c k u) j ≡ number_no c j
  before-number j h = ap (λ (x : Name). x.number) (get_or-set_other c k j u no_name (λ e. omega arith))

  pub before-pieces : (b : List ℕ) (d : ℕ) → d ≤ k → pieces b (set c k u) d ≡ pieces b c d
  unfolding pieces
  before-pieces b zero h = refl
  before-pieces b (suc d) h = rw (before-place d (omega arith), before-number d (omega arith), before-pieces b d (omega arith))

-- ---- a path's units with a `/` before each name

abbrev led : Path → List ℕ
led p = slash_after p.depth ++ path_units p.text

-- behind which t stands
abbrev pub led_of : List ℕ → Maybe Path → Maybe (List ℕ)
led_of t none = none
led_of t (some p) = some (led p ++ t)

led-start : led start ≡ []
unfolding encode16
led-start = refl

piece-slashed : (b : List ℕ) (p : Place) (number : ℕ) → map slash (piece b p number) ≡ 0x2F ∷ path_units (name_at b p number)
unfolding piece
piece-slashed b p number = ap (λ (l : List ℕ). 0x2F ∷ l) (name-slashed (text_at b p) number)

-- one name more
led-first : (t name : List ℕ) → led_of t (added name (some start)) ≡ some ((0x2F ∷ path_units name) ++ t)
unfolding encode16
led-first t name = refl

slash_after_lem : (d : ℕ) → 0 < d → slash_after d ≡ 0x2F ∷ []
slash_after_lem zero h = absurd (omega arith)
slash_after_lem (suc d) h = refl

led-deep : (p : Path) → 0 < p.depth → led p ≡ 0x2F ∷ path_units p.text
led-deep p h = ap (λ (l : List ℕ). l ++ path_units p.text) (slash_after_lem p.depth h)

joined : (x y t : List ℕ) → (0x2F ∷ (x ++ (0x2F ∷ []) ++ y)) ++ t ≡ (0x2F ∷ x) ++ (0x2F ∷ (y ++ t))
joined x y t = ap (λ (l : List ℕ). 0x2F ∷ l) (simp append_assoc)

led-more : (t name : List ℕ) (x : Maybe Path) → ((p : Path) → x ≡ some p → 0 < p.depth) → led_of t (added name x) ≡ led_of ((0x2F ∷ path_units name) ++ t) x
led-more t name none deep = refl
led-more t name (some p) deep =
    ap (λ (l : List ℕ). some ((slash_after (p.depth + 1) ++ l) ++ t)) (units-more p name)
    ∙ rw (slash_after_lem (p.depth + 1) (omega arith), slash_after_lem p.depth (deep p refl)) (ap some (joined (path_units p.text) (path_units name) t))

-- ---- an object at hand: the place of its name, and the name there

pub record Own (b : List ℕ) (o : Objects) (at : ℕ) (u : Name) : Type 0 where
  pub holds : Holds b u.place (text_at b u.place)
  pub name : object_name o (entry_no o at) ≡ name_at b u.place u.number

-- the columns that the work buffer has of it
pub own-work : {b : List ℕ} {o : Objects} {w : List ℕ} (t : ObjectsIn b o w) → Bytes b → (i : ℕ) → 56 * i < length w → {u : Object} → u ≡ object_no b o i
    → {p : Place} → p ≡ place_of u → Own b o i (record { place = p; number = u.number })
own-work {b} {o} t y i h {u} e {p} q =
    let z : p ≡ place_at b o.layout.names (entry_no o i).index = q ∙ ap place_of e ∙ place_no_lem b o i in
    let n : u.number ≡ (entry_no o i).number = ap (λ (u : Object). u.number) e ∙ number_no_lem b o i in
    record { holds = rw z (place-holds t i (inside-count t i h) y); name = name_no t.all i (inside-count t i h) ∙ rw (z, n) }

-- ---- a chain on the way: `depth` objects stand in c, and at is the next

pub record Reached (b : List ℕ) (o : Objects) (limit i : ℕ) (c : List Name) (depth at : ℕ) : Type 0 where
  pub holds : (k : ℕ) → k < depth → Holds b (place_no c k) (text_at b (place_no c k))
  pub path : led_of [] (path_no limit o i) ≡ led_of (map slash (pieces b c depth)) (path_no (limit - depth) o at)

pub reached_none : (b : List ℕ) (o : Objects) (limit i : ℕ) (c : List Name) → Reached b o limit i c 0 i
reached_none b o limit i c =
    let z : limit - 0 ≡ limit = omega arith in
    record { holds = λ k h. absurd (omega arith); path = rw (pieces_none b c, z) }

unknown : (x : Maybe Path) → led_of [] x ≡ none → x ≡ none
unknown none e = refl
unknown (some p) e = none-some (sym e)

-- the first n objects of an array as a chain of their own
module _ (b : List ℕ) (c : List Name) (n : ℕ) (l : n ≤ length c) where
  first-count : length (take n c) ≡ n
  first-count = length-take-le n c l

  first_holds : ((k : ℕ) → k < n → Holds b (place_no c k) (text_at b (place_no c k)))
      → (k : ℕ) → k < length (take n c) → Holds b (place_no (take n c) k) (text_at b (place_no (take n c) k))
  first_holds h k m =
      let z : place_no (take n c) k ≡ place_no c k = ap (λ (u : Name). u.place) (get_or-take n c k no_name (omega (arith, first-count))) in
      rw z (h k (omega (arith, first-count)))

  first_units : chain_units b (take n c) ≡ drop 1 (map slash (pieces b c n))
  unfolding chain_units
  first_units = rw (first-count, pieces-take b c n n (omega arith))

module _ {b : List ℕ} {o : Objects} {limit i : ℕ} {c : List Name} {depth at : ℕ} (r : Reached b o limit i c depth at) where
  -- no more objects may follow
  pub reached_end : limit ≤ depth → path_no limit o i ≡ none
  reached_end h = unknown (path_no limit o i) (r.path ∙ rw (path_end (limit - depth) o at (omega arith)))

  -- the object at hand is stored
  module _ (less : depth < limit) (l : length c ≡ limit) {u : Name} (w : Own b o at u) where
    abbrev c' : List Name
    c' = set c depth u

    size : length c' ≡ limit
    size = simp length-set l

    place : place_no c' depth ≡ u.place
    place = set_place c depth u (omega arith)

    holds_more : (k : ℕ) → k < depth + 1 → Holds b (place_no c' k) (text_at b (place_no c' k))
    holds_more k h =
        by_cases (dec_lt k depth)
        (λ (g : k < depth). subst (λ (q : Place). Holds b q (text_at b q)) (sym (before-place c depth u k g)) (r.holds k g))
        (λ (g : ¬ (k < depth)). let e : k ≡ depth = omega arith in subst (λ (q : Place). Holds b q (text_at b q)) (sym (ap (place_no c') e ∙ place)) w.holds)

    units_more' : map slash (pieces b c' (depth + 1)) ≡ (0x2F ∷ path_units (object_name o (entry_no o at))) ++ map slash (pieces b c depth)
    units_more' =
        let e : piece b (place_no c' depth) (number_no c' depth) ≡ piece b u.place u.number =
        ap (λ (q : Place). piece b q (number_no c' depth)) place ∙ ap (piece b u.place) (set_number c depth u (omega arith)) in
        ap (map slash) (pieces-next b c' depth) ∙ map-append slash (piece b (place_no c' depth) (number_no c' depth)) (pieces b c' depth)
        ∙ rw (e, before-pieces c depth u b depth (omega arith), piece-slashed b u.place u.number, ← w.name)

    -- k is where its outer leads
    abbrev goes : ℕ → Type 0
    goes k = k ≡ link_of o (entry_no o at).outer

    -- its outer is not there
    pub reached_lost : goes 0 → path_no limit o i ≡ none
    reached_lost q = unknown (path_no limit o i) (r.path ∙ rw (path-lost (limit - depth) o at (omega arith) q refl))

    -- it has none
    pub reached_top : goes 1 → Tells b (take (depth + 1) c') limit (path_no limit o i)
    reached_top q =
        let n : length (take (depth + 1) c') ≡ depth + 1 = first-count b c' (depth + 1) (omega (arith, size)) in
        record {
          some = omega arith;
          few = omega arith;
          holds = first_holds b c' (depth + 1) (omega (arith, size)) holds_more;
          says = go (path_no limit o i) (path-deep o limit i)
              (r.path ∙ rw (path-top (limit - depth) o at (omega arith) q refl, units_more')
              (led-first (map slash (pieces b c depth)) (object_name o (entry_no o at))));
        }
      where
        go : (x : Maybe Path) → ((p : Path) → x ≡ some p → (0 < p.depth) × (p.depth ≤ limit)) → led_of [] x ≡ some (map slash (pieces b c' (depth + 1)))
            → Says b (take (depth + 1) c') x
        go none deep e = none-some e
        go (some p) deep e =
            let f : led p ++ [] ≡ map slash (pieces b c' (depth + 1)) = cc in
            let s : chain_units b (take (depth + 1) c') ≡ drop 1 (map slash (pieces b c' (depth + 1))) = first_units b c' (depth + 1) (omega (arith, size)) in
            s ∙ ap (drop 1) (sym f ∙ append-nil (led p) ∙ led-deep p (deep p refl).0)

    -- it is object k
    pub reached_up : {k : ℕ} → goes (suc (suc k)) → Reached b o limit i c' (depth + 1) k
    reached_up {k} q =
        let z : limit - depth - 1 ≡ limit - (depth + 1) = omega arith in
        let n : suc (suc k) - 2 ≡ k = omega arith in
        record {
          holds = holds_more;
          path =
              r.path
              ∙ (rw (path-up (limit - depth) o at (omega arith) q (omega arith), n, z, units_more')
              (led-more (map slash (pieces b c depth)) (object_name o (entry_no o at)) (path_no (limit - (depth + 1)) o k)
              (λ p e. (path-deep o (limit - (depth + 1)) k p e).0)));
        }

-- ---- what a chain tells, answered

-- there is an object, and each has the place of a name
pub tells-some : {b : List ℕ} {c : List Name} {limit : ℕ} {x : Maybe Path} → Tells b c limit x → limit ≤ 65 → Named b c × (0 < length c)
tells-some t l = (record { few = omega (arith, t.few); holds = t.holds }, t.some)

pub tells-known : {b : List ℕ} {c : List Name} {limit h : ℕ} (x : Maybe Path) → Tells b c limit x → h ≡ city_hash64 (unit_bytes (chain_units b c))
    → Some h ≡ hashed_as x
tells-known none t e = absurd t.says
tells-known (some p) t e = ap Some (e ∙ rw t.says (sym (hash-units p.text)))
