-- `walk::scan_packages` meets its contract. The loop's invariant: the first i packages are accepted, and the state and the marks are theirs. Assumes nothing.
use mathlib.Core.Path.{◌≡◌, refl, sym, ◌∙◌, ap, ap₂, subst}
use mathlib.Core.List.{List, ◌++◌}
use Prim.Native.Nat.{ℕ, ◌+◌, ◌*◌, ◌-◌, ◌^◌, ◌≤◌, ◌<◌}
use native.Mathlib.Omega.{arith}
use lib.ListN.{length, take, drop, length-drop}
use lib.Seq.{length-take-le}
use Rattle.base.specs.Number.{be_at}
use Rattle.base.specs.NumberLaws.{Bytes}
use Rattle.base.specs.Reading.{gives, refused, run_block}
use Rattle.scriptblock.specs.Script.{Objects}
use Rattle.zen.specs.Zen.{package_block}
use Rattle.meaning.specs.Call.{read_from, refused_in}
use Rattle.meaning.specs.Reference.{Package}
use Rattle.objects.specs.Work.{ObjectsIn}
use Rattle.packages.specs.Framing.{next_at, parts_at}
use Rattle.packages.specs.Package.{read_in, package_in}
use Rattle.packages.specs.Walk.{block_at, package_at, Site, place_of, Sites, AllRead}
use Rattle.packages.specs.WalkLaws.{place_none, place-next, all_none, all_more, read-refused}
use Rattle.table.specs.Table.{cleared}
use Rattle.table.specs.Words.{put}
use Rattle.walk.specs.Found.{Found, with_package, found_in, Linked, State}
use Rattle.resolve.specs.Lent.{lent-part, lent-front}
use Rattle.resolve.specs.Marks.{marks_of, marks_at, marks_in}
use Rattle.walk.specs.MarkedLaws.{marked-none, marks-next}
use Rattle.walk.specs.StateLaws.{found-next, state-none}
use Rattle.walk.specs.Steps.{opened_as, visit_at, Visited, SomeState, Marked, Small}
use Rattle.walk.specs.declared.walk.Census.{Census}
use Rattle.walk.specs.declared.walk.Visit.{Visit}
use Rattle.walk.proofs.Scans.{site_end}
use Rattle.walk.proofs.walk.scan_packages.Given as goal

-- i packages of the corpus s from a place on are passed, and the walk is at `here`; b: the script block, with n objects in front of w₀
pub record Passed (s : List ℕ) (at : ℕ) (b : List ℕ) (n limit : ℕ) (w₀ : List ℕ) (i here : ℕ) (t : Census) (w : List ℕ) : Type 0 where
  pub here-is : here ≡ place_of s at i
  pub low : at ≤ here
  pub high : here - at ≤ length s
  pub read : AllRead s at i
  pub small : Small (here - at) t
  pub size : length w ≡ length w₀
  pub objects : Objects
  pub linked : ObjectsIn b objects (take (56 * n) w₀)
  pub state : (o : Objects) → ObjectsIn b o (take (56 * n) w₀) → State s b o n (found_in limit o s at i) t w
  pub marks : Marked n (marks_in s at i) t w

module _ (s : List ℕ) (at : ℕ) (b : List ℕ) (n limit : ℕ) where
  -- at the start: the script objects are linked, and there is a table with no class
  module _ (w : List ℕ) (l : Linked b n w) where
    low-room : 56 * n ≤ length w
    low-room = omega (arith, l.room)

    pub table-room : 4 * (2 * n) ≤ length (take (length w - 56 * n) (drop (56 * n) w))
    table-room = rw (lent-part (56 * n) w, length-drop (56 * n) w) (omega (arith, l.room))

    module _ (ys : List ℕ) where
      abbrev pub w₀ : List ℕ
      w₀ = put (56 * n) (length w - 56 * n) w ys

      -- the same in front
      pub front : {o : Objects} → ObjectsIn b o (take (56 * n) w) → ObjectsIn b o (take (56 * n) w₀)
      front k = rw (lent-front (56 * n) w ys low-room) k

      pub begun : Bytes b → length b < 2 ^ 32 → ys ≡ cleared (2 * n) (take (length w - 56 * n) (drop (56 * n) w))
          → {t : Census} → t ≡ opened_as 0 0 9 → Passed s at b n limit w₀ 0 at t w₀
      begun y small e q =
          rw q (let same = lent-front (56 * n) w ys low-room in
          record {
            here-is = sym (place_none s at);
            low = omega arith;
            high = omega arith;
            read = all_none;
            small = record { classes = omega arith; rows = omega arith; size = omega arith };
            size = refl;
            objects = l.objects;
            linked = front l.holds;
            state = λ o k. state-none limit s at w y small (omega (arith, (rw same at k).all.entered.size, length-take-le (56 * n) w low-room)) l.room (rw same at k) (rw (lent-part (56 * n) w) at e);
            marks = marked-none n s at w₀;
          })

  -- at the next package
  module _ {w₀ : List ℕ} {i here : ℕ} {t : Census} {w : List ℕ} (k : Passed s at b n limit w₀ i here t w) {count : ℕ} (z : Sites s at count) (h : i < count) where
    pub site : Site s here (block_at s here)
    site = rw k.here-is (z.site i h)

    module _ {d : List ℕ} (is : d ≡ block_at s here) where
      own : Site s here d
      own = record { starts = site.starts; stops = site.stops; small = site.small; is = is }

      pub stopped : {v : Visit} → v ≡ visit_at s here i → {q j : ℕ} → j ≡ v.block → run_block package_block d ≡ refused q → read_from 2 (parts_at s at count) ≡ refused_in q j
      stopped v {q} {j} e r =
          let x : 2 + i ≡ j = omega (arith, ap (λ (x : Visit). x.block) v) in
          read-refused 2 s at count i q h k.read (ap (λ (y : List ℕ). run_block package_block y) (sym (is ∙ ap (block_at s) k.here-is)) ∙ r) ∙ ap (refused_in q) x

      module _ {v : Visit} (e : v ≡ visit_at s here i) where
        visited : Visited s v d
        visited = rw e (record { site = own; id = refl })

        pub asked : SomeState b n v d t w × ((x : ℕ) × Small x t × (x + 12 + length d < 2 ^ 32 + 4))
        asked = (
          record { corpus = s; objects = k.objects; found = found_in limit k.objects s at i; visited = visited; holds = k.state k.objects k.linked },
          (here - at, k.small, omega (arith, site_end own, own.stops, own.small)),
        )

        package_is : package_in v.id d ≡ package_at s (place_of s at i)
        package_is = rw e (ap₂ package_in (ap (be_at 8 s) k.here-is) (is ∙ ap (block_at s) k.here-is))

        marks-are : marks_of v.at d ≡ marks_at s (place_of s at i)
        marks-are = ap₂ marks_of (ap (λ (x : Visit). x.at) e ∙ k.here-is) (is ∙ ap (block_at s) k.here-is)

        module _ {t' : Census} {w' : List ℕ} (read : run_block package_block d ≡ gives (read_in d))
            (state : (c : List ℕ) (o : Objects) (f : Found) → Visited c v d → State c b o n f t w → State c b o n (with_package limit o v.block (package_in v.id d) f) t' w')
            (small : (x : ℕ) → Small x t → Small (x + 12 + length d) t') (size : length w' ≡ length w)
            (marks : (l : List ℕ) → Marked n l t w → Marked n (l ++ marks_of v.at d) t' w') where
          pub next : {here' : ℕ} → here' ≡ next_at s here → Passed s at b n limit w₀ (i + 1) here' t' w'
          next {here'} q =
              let x : here - at + 12 + length d ≡ here' - at = omega (arith, site_end own, k.low) in
              let r : run_block package_block (block_at s (place_of s at i)) ≡ gives (read_in d) = rw (← k.here-is, ← is) read in
              record {
                here-is = q ∙ (ap (next_at s) k.here-is ∙ sym (place-next s at i));
                low = omega (arith, site_end own, k.low);
                high = omega (arith, own.stops);
                read = all_more k.read (read_in d) r;
                small = rw x at (small (here - at) k.small);
                size = size ∙ k.size;
                objects = k.objects;
                linked = k.linked;
                state = λ o l. rw (found-next limit o s at i)
                    (subst (λ (p : Package). State s b o n (with_package limit o (i + 2) p (found_in limit o s at i)) t' w') package_is
                    (subst (λ (j : ℕ). State s b o n (with_package limit o j (package_in v.id d) (found_in limit o s at i)) t' w') (ap (λ (x : Visit). x.block) e)
                    (state s o (found_in limit o s at i) visited (k.state o l))));
                marks = rw (marks-next s at i) (subst (λ (x : List ℕ). Marked n (marks_in s at i ++ x) t' w') marks-are (marks (marks_in s at i) k.marks));
              }

abbrev pub invariant-loop-i : goal.invariant-loop-i
invariant-loop-i l =
    Passed l.p.corpus.now l.p.at l.s.block.now l.s.count l.s.limit l.initial.w l.i l.place l.t l.w
