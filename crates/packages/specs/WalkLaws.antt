-- Laws for walking over the packages of a framed corpus: that they lie inside, and what reading them one by one comes to. Assumes nothing.
use Rattle.std.specs.Prelude.{◌≡◌, length, take, drop, Ok}
use Rattle.std.proofs.Math.Path.{refl, sym, ap}
use Rattle.std.proofs.Common.{◌∙◌, add-one, length-take-le}
use mathlib.Core.List.{List, [], ◌∷◌, ◌++◌}
use Prim.Native.Nat.{ℕ, zero, suc, ◌+◌, ◌*◌, ◌-◌, ◌^◌, ◌≤◌, ◌<◌}
use Rattle.std.proofs.Math.Decide.{ℕ_discrete}
use native.Mathlib.Omega.{arith}
use Rattle.std.proofs.Math.ListN.{get_or, length-append, length-drop, get_or-append}
use Rattle.std.proofs.Math.Seq.{get_or_at}
use Rattle.base.specs.Number.{be_at}
use Rattle.base.specs.NumberLaws.{Bytes, bytes-part, be_at-lt}
use Rattle.base.specs.Reading.{refused, gives, run_block}
use Rattle.zen.specs.Answers.{answer}
use Rattle.zen.specs.AnswersLaws.{accepted-got}
use Rattle.zen.specs.Zen.{Read, package_block}
use Rattle.zen.specs.declared.zen.Layout.{Layout}
use Rattle.meaning.specs.Call.{refused_in, accepted, read_from}
use Rattle.meaning.specs.Frame.{framed}
use Rattle.meaning.specs.Reference.{Package}
use Rattle.packages.specs.Framing.{part_at, next_at, parts_at, packages_end, framed_as}
use Rattle.packages.specs.FramingLaws.{framed_at, packages-first}
use Rattle.packages.specs.Package.{read_in, parts_of, parts_at as layoutParts, PackageIn}
use Rattle.packages.specs.PackageLaws.{read_in_lem, accepted-by, package_in_lem}
use Rattle.packages.specs.Walk.{block_at, package_at, Site, place_of, packages_at, Sites, AllRead}
use Rattle.packages.specs.declared.frame.Frame.{Frame}

-- ---- places and packages by number

module _ (s : List ℕ) where
  -- the first of them, and those behind it
  place-first : (at i : ℕ) → place_of s at (suc i) ≡ place_of s (next_at s at) i
  unfolding place_of
  place-first at zero = refl
  place-first at (suc i) = ap (next_at s) (place-first at i)

  packages_cons : (at n : ℕ) → packages_at s at (suc n) ≡ package_at s at ∷ packages_at s (next_at s at) n
  unfolding packages_at place_of
  packages_cons at zero = refl
  packages_cons at (suc n) = rw (packages_cons at n, place-first at n)

module _ (s : List ℕ) (at : ℕ) where
  pub place_none : place_of s at 0 ≡ at
  unfolding place_of
  place_none = refl

  pub place-next : (i : ℕ) → place_of s at (i + 1) ≡ next_at s (place_of s at i)
  unfolding place_of
  place-next i = rw (add-one i)

  -- each package takes 12 bytes at least
  pub place-high : (i : ℕ) → at + 12 * i ≤ place_of s at i
  unfolding place_of next_at
  place-high zero = omega arith
  place-high (suc i) = omega (arith, place-high i)

  pub packages-none : packages_at s at 0 ≡ []
  unfolding packages_at
  packages-none = refl

  pub packages-next : (i : ℕ) → packages_at s at (i + 1) ≡ packages_at s at i ++ (package_at s (place_of s at i) ∷ [])
  unfolding packages_at
  packages-next i = rw (add-one i)

  pub packages-length : (n : ℕ) → length (packages_at s at n) ≡ n
  unfolding packages_at
  packages-length zero = refl
  packages-length (suc n) = omega (arith, packages-length n, length-append (packages_at s at n) (package_at s (place_of s at n) ∷ []))

  pub package_no_lem : (n i : ℕ) (d : Package) → i < n → get_or (packages_at s at n) i d ≡ package_at s (place_of s at i)
  unfolding packages_at
  package_no_lem zero i d h = absurd (omega arith)
  package_no_lem (suc n) i d h = go (ℕ_discrete i n) (package_no_lem n i d)
    where
      go : Dec (i ≡ n) → (i < n → get_or (packages_at s at n) i d ≡ package_at s (place_of s at i))
          → get_or (packages_at s at n ++ (package_at s (place_of s at n) ∷ [])) i d ≡ package_at s (place_of s at i)
      go (yes e) ih = get_or_at (packages_at s at n) (package_at s (place_of s at n)) [] d i (packages-length n ∙ sym e) ∙ rw e
      go (no e) ih =
          get_or-append (packages_at s at n) (package_at s (place_of s at n) ∷ []) d i (omega (arith, packages-length n)) ∙ ih (omega arith)

-- ---- all lie inside

-- what a site says of its package
module _ {s : List ℕ} {at : ℕ} {b : List ℕ} (k : Site s at b) where
  pub site-length : length b ≡ be_at 4 s (at + 8)
  unfolding next_at
  site-length = rw k.is (length-take-le (be_at 4 s (at + 8)) (drop (at + 12) s) (simp length-drop (omega (arith, k.stops))))

  pub site-small : (length b < 2 ^ 32) × (at < 2 ^ 32) × (Bytes s → Bytes b) × (Bytes s → be_at 8 s at < 2 ^ 64)
  unfolding next_at
  site-small = (
    omega (arith, site-length, k.stops, k.small),
    omega (arith, k.starts, k.small),
    λ y. rw k.is (bytes-part (be_at 4 s (at + 8)) (at + 12) s y),
    λ y. be_at-lt 8 s at y,
  )

sites-from : (s : List ℕ) → length s < 2 ^ 32 + 4 → (i at n : ℕ) → i < n → 0 < packages_end s at n → Site s (place_of s at i) (block_at s (place_of s at i))
unfolding place_of
sites-from s l zero at n h g = let (a, b, c, d) = packages-first s at n (omega arith) g in record { starts = a; stops = b; small = l; is = refl }
sites-from s l (suc i) at n h g =
    let (a, b, c, d) = packages-first s at n (omega arith) g in
    rw (place-first s at i) (sites-from s l i (next_at s at) (n - 1) (omega arith) (rw c g))

places_end : (s : List ℕ) (n at : ℕ) → 0 < packages_end s at n → place_of s at n ≡ packages_end s at n
unfolding place_of packages_end
places_end s zero at g = refl
places_end s (suc n) at g =
    let (a, b, c, d) = packages-first s at (suc n) (omega arith) g in
    let e : suc n - 1 ≡ n = omega arith in
    let q : packages_end s (next_at s at) n ≡ packages_end s at (suc n) = rw e at c in
    place-first s at n ∙ (places_end s n (next_at s at) (rw q g) ∙ q)

-- the script block of a framed corpus, and how many packages there can be
pub record ScriptSite (s : List ℕ) (f : Frame) : Type 0 where
  pub low : 9 ≤ f.«end»
  pub high : f.«end» + 4 ≤ length s
  pub size : length (take (f.«end» - 9) (drop 9 s)) ≡ f.«end» - 9
  pub small : length (take (f.«end» - 9) (drop 9 s)) < 2 ^ 32
  pub bytes : Bytes (take (f.«end» - 9) (drop 9 s))
  pub few : f.«end» + 4 + 12 * f.count ≤ length s

module _ (s : List ℕ) {f : Frame} (e : framed_as (framed s) ≡ Ok f) where
  -- where the packages end
  pub places_whole : place_of s (f.«end» + 4) f.count ≡ length s
  places_whole = let (c, k) = framed_at s e in places_end s f.count (f.«end» + 4) (omega (arith, k.whole, k.high)) ∙ k.whole

  module _ (y : Bytes s) where
    pub framed-small : length s < 2 ^ 32 + 4
    framed-small = let (c, k) = framed_at s e in omega (arith, k.said, be_at-lt 4 s 0 y)

    pub sites : Sites s (f.«end» + 4) f.count
    sites =
        let (c, k) = framed_at s e in
        record { site = λ i h. sites-from s framed-small i (f.«end» + 4) f.count h (omega (arith, k.whole, k.high)) }

    -- the script block lies inside too
    pub script-site : ScriptSite s f
    script-site =
        let (c, k) = framed_at s e in
        let n : length (take (f.«end» - 9) (drop 9 s)) ≡ f.«end» - 9 = length-take-le (f.«end» - 9) (drop 9 s) (simp length-drop (omega (arith, k.high))) in
        record {
          low = k.low;
          high = k.high;
          size = n;
          small = omega (arith, k.high, framed-small);
          bytes = bytes-part (f.«end» - 9) 9 s y;
          few = omega (arith, places_whole, place-high s (f.«end» + 4) f.count);
        }

    -- and so does each place, that of the end too
    pub place_in : (i : ℕ) → i ≤ f.count → place_of s (f.«end» + 4) i ≤ length s
    place_in i h = go (ℕ_discrete i f.count)
      where
        go : Dec (i ≡ f.count) → place_of s (f.«end» + 4) i ≤ length s
        go (yes q) = rw q (omega (arith, places_whole))
        go (no q) = omega (arith, (sites.site i (omega arith)).starts)

-- ---- reading them one by one

module _ {s : List ℕ} {at : ℕ} where
  pub all_none : AllRead s at 0
  all_none = record { read = λ i h. absurd (omega arith) }

  pub all-less : {n : ℕ} (m : ℕ) → m ≤ n → AllRead s at n → AllRead s at m
  all-less m l a = record { read = λ i h. a.read i (omega arith) }

  -- the next one is accepted too: by what was read of it, and by the check's answer
  pub all_more : {n : ℕ} → AllRead s at n → (r : Read) → run_block package_block (block_at s (place_of s at n)) ≡ gives r → AllRead s at (n + 1)
  all_more {n} a r q = record { read = λ i h. go i h (ℕ_discrete i n) }
    where
      last : run_block package_block (block_at s (place_of s at n)) ≡ gives (read_in (block_at s (place_of s at n)))
      last = q ∙ ap gives (sym (read_in_lem (block_at s (place_of s at n)) r q))

      go : (i : ℕ) → i < n + 1 → Dec (i ≡ n) → run_block package_block (block_at s (place_of s at i)) ≡ gives (read_in (block_at s (place_of s at i)))
      go i h (yes e) = rw e last
      go i h (no e) = a.read i (omega arith)

  pub all-accepted : {n : ℕ} → AllRead s at n → (l : Layout) → answer (run_block package_block (block_at s (place_of s at n))) ≡ Ok l → AllRead s at (n + 1)
  all-accepted {n} a l q = let (r, z, w) = accepted-got (run_block package_block (block_at s (place_of s at n))) q in all_more a r z

  -- an accepted package as a site: what the functions of this crate ask of it
  module _ {n : ℕ} (a : AllRead s at n) (i : ℕ) (h : i < n) where
    pub site_package : PackageIn (block_at s (place_of s at i)) (parts_of (read_in (block_at s (place_of s at i))))
    site_package = record { is = a.read i h; parts = refl }

    -- what `layout_of` asks
    pub site-layout : (l : Layout) × (answer (run_block package_block (block_at s (place_of s at i))) ≡ Ok l)
    site-layout =
        let b = block_at s (place_of s at i) in
        ((read_in b).layout, accepted-by b (read_in b) (a.read i h))

-- what `parts_of(layout_of(b))` gives
pub layout_package : (b : List ℕ) (l : Layout) → answer (run_block package_block b) ≡ Ok l → PackageIn b (layoutParts l)
layout_package b l q = package_in_lem b l (layoutParts l) q refl

module _ (s : List ℕ) where
  -- the first of them, and those behind it
  first_read : (at n : ℕ) → AllRead s at (suc n) → run_block package_block (block_at s at) ≡ gives (read_in (block_at s at))
  unfolding place_of
  first_read at n a = a.read 0 (omega arith)

  rest_read : (at n : ℕ) → AllRead s at (suc n) → AllRead s (next_at s at) n
  rest_read at n a = record { read = λ i h. rw (place-first s at i) at (a.read (suc i) (omega arith)) }

  reads : (n j at : ℕ) → AllRead s at n → read_from j (parts_at s at n) ≡ accepted (packages_at s at n)
  unfolding parts_at part_at packages_at
  reads zero j at a = refl
  reads (suc n) j at a = rw (first_read at n a, reads n (j + 1) (next_at s at) (rest_read at n a), packages_cons s at n)

  stops : (i n j at q : ℕ) → i < n → AllRead s at i → run_block package_block (block_at s (place_of s at i)) ≡ refused q
      → read_from j (parts_at s at n) ≡ refused_in q (j + i)
  unfolding parts_at part_at place_of
  stops i zero j at q h a e = absurd (omega arith)
  stops zero (suc n) j at q h a e = rw e (ap (refused_in q) (omega arith))
  stops (suc i) (suc n) j at q h a e =
      rw (first_read at i a, stops i n (j + 1) (next_at s at) q (omega arith) (rest_read at i a) (rw (place-first s at i) at e))
      (ap (refused_in q) (omega arith))

-- all accepted: what the call reads. The first that is refused: what it answers
pub read_some : (j : ℕ) (s : List ℕ) (at n : ℕ) → AllRead s at n → read_from j (parts_at s at n) ≡ accepted (packages_at s at n)
read_some j s at n a = reads s n j at a

pub read-refused : (j : ℕ) (s : List ℕ) (at n i q : ℕ) → i < n → AllRead s at i → run_block package_block (block_at s (place_of s at i)) ≡ refused q
    → read_from j (parts_at s at n) ≡ refused_in q (j + i)
read-refused j s at n i q h a e = stops s i n j at q h a e
