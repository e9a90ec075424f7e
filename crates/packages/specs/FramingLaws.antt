-- Laws of the framing by position. Assumes nothing.
use Rattle.std.specs.Prelude.{◌≡◌, Bool, ◌&&◌, List, ◌∷◌, eqb, take, drop, get_or, Ok, Err}
use Rattle.std.proofs.Math.Path.{refl, sym, ap}
use Rattle.std.proofs.Common.{◌∙◌}
use Rattle.std.proofs.Math.Bool.{true, false, cond}
use Prim.Native.Nat.{ℕ, zero, suc, ◌+◌, ◌-◌, ◌≤◌, ◌<◌}
use native.Mathlib.Omega.{arith}
use Rattle.std.proofs.Math.Decide.{dec_le, ℕ_discrete}
use borrow.Author.Tests.{le-leb, lt-leb, leb-true, eqb-true, eq-eqb, ne_eqb}
use Rattle.std.proofs.Math.Dec.{leb}
use Rattle.std.proofs.Math.ListN.{length, length-drop}
use Rattle.std.proofs.Math.Seq.{length-take-le}
use Rattle.base.specs.Choose.{pick}
use Rattle.base.specs.House.{be_number}
use Rattle.base.specs.Never.{never}
use Rattle.base.specs.Number.{be_at}
use Rattle.base.specs.NumberLaws.{be_at-one}
use Rattle.base.specs.Reading.{Out, refused, gives, Got, bad, got, walk, ◌>>=◌, rows}
use Rattle.base.specs.ReadingLaws.{out, chain, walk_bind, run-walk, pick_cong, pick-by, ask-is}
use Rattle.base.specs.ReadingRows.{map_got, map-pick, rows-zero, rows-suc}
use Rattle.meaning.specs.Frame.{Corpus, corpus_version, part, packages, frame, frame_answer, framed}
use Rattle.meaning.specs.BytesLaws.{ended, sized, begun, frame_is}
use Rattle.packages.specs.Framing.{part_at, next_at, parts_at, inside, package_end, packages_end, frame_of, framed_as, parts_answer}
use Rattle.packages.specs.declared.frame.Frame.{Frame}

both : (a b : Bool) → a && b ≡ true → (a ≡ true) × (b ≡ true)
both true b e = (refl, e)
both false b e = never (cc)

-- ---- a package

module _ (s : List ℕ) (at : ℕ) where
  pub inside-yes : at + 12 ≤ length s → next_at s at ≤ length s → inside s at ≡ true
  unfolding inside
  inside-yes h g = rw (le-leb (at + 12) (length s) h, le-leb (next_at s at) (length s) g)

  pub inside-short : length s < at + 12 → inside s at ≡ false
  unfolding inside
  inside-short h = rw (lt-leb (at + 12) (length s) h)

  pub inside-long : at + 12 ≤ length s → length s < next_at s at → inside s at ≡ false
  unfolding inside
  inside-long h g = rw (le-leb (at + 12) (length s) h, lt-leb (next_at s at) (length s) g)

  -- what the code's tests say
  pub end_short : length s - at < 12 → at ≤ length s → 0 ≡ package_end s at
  unfolding package_end
  end_short h l = rw (inside-short (omega arith))

  pub end_long : (size : ℕ) → size ≡ be_at 4 s (at + 8) → at ≤ length s → 12 ≤ length s - at → length s - at - 12 < size → 0 ≡ package_end s at
  unfolding package_end next_at
  end_long size e l h g = rw (inside-long (omega arith) (omega arith))

  pub end_there : (size : ℕ) → size ≡ be_at 4 s (at + 8) → at ≤ length s → 12 ≤ length s - at → size ≤ length s - at - 12 → at + 12 + size ≡ package_end s at
  unfolding package_end next_at
  end_there size e l h g = rw (inside-yes (omega arith) (omega arith)) (omega arith)

  pub inside-by : inside s at ≡ true → (at + 12 ≤ length s) × (next_at s at ≤ length s)
  unfolding inside
  inside-by e = let (a, b) = both (leb (at + 12) (length s)) (leb (next_at s at) (length s)) e in (leb-true _ _ a, leb-true _ _ b)

  -- the reading of a package, by position
  part-is : walk part s at ≡ pick (inside s at) (got (part_at s at) (next_at s at)) (bad 3)
  unfolding part part_at inside next_at be_at
  part-is = go (dec_le (at + 12) (length s)) (dec_le (at + 12 + be_at 4 s (at + 8)) (length s))
    where
      e12 : at + 8 + 4 ≡ at + 12
      e12 = omega arith

      go : Dec (at + 12 ≤ length s) → Dec (at + 12 + be_at 4 s (at + 8) ≤ length s)
          → walk part s at ≡ pick (leb (at + 12) (length s) && leb (at + 12 + be_at 4 s (at + 8)) (length s)) (got (part_at s at) (next_at s at)) (bad 3)
      go (yes h) (yes g) =
          rw (e12, le-leb (at + 8) (length s) (omega arith), le-leb (at + 12) (length s) h, le-leb (at + 12 + be_at 4 s (at + 8)) (length s) g)
      go (yes h) (no g) =
          rw (e12, le-leb (at + 8) (length s) (omega arith), le-leb (at + 12) (length s) h, lt-leb (at + 12 + be_at 4 s (at + 8)) (length s) (omega arith))
      go (no h) x = late (dec_le (at + 8) (length s))
        where
          late : Dec (at + 8 ≤ length s) → walk part s at
              ≡ pick (leb (at + 12) (length s) && leb (at + 12 + be_at 4 s (at + 8)) (length s)) (got (part_at s at) (next_at s at)) (bad 3)
          late (yes k) = rw (e12, le-leb (at + 8) (length s) k, lt-leb (at + 12) (length s) (omega arith))
          late (no k) = rw (e12, lt-leb (at + 8) (length s) (omega arith), lt-leb (at + 12) (length s) (omega arith))

-- ---- packages

module _ (s : List ℕ) where
  next-later : (at : ℕ) → 0 < next_at s at
  unfolding next_at
  next-later at = omega arith

  pub end_zero : (at : ℕ) → packages_end s at 0 ≡ at
  unfolding packages_end
  end_zero at = refl

  -- one package more, or one that doesn't lie inside
  pub end_more : (at n : ℕ) → 0 < n → 0 < package_end s at → packages_end s at n ≡ packages_end s (package_end s at) (n - 1)
  unfolding packages_end package_end
  end_more at zero h g = absurd (omega arith)
  end_more at (suc n) h g = let e : suc n - 1 ≡ n = omega arith in rw e (go (inside s at) g)
    where
      go : (b : Bool) → 0 < cond b (next_at s at) 0 → cond b (packages_end s (next_at s at) n) 0 ≡ packages_end s (cond b (next_at s at) 0) n
      go true g = refl
      go false g = absurd (omega arith)

  pub end_broken : (at n : ℕ) → 0 < n → package_end s at ≡ 0 → packages_end s at n ≡ 0
  unfolding packages_end package_end
  end_broken at zero h e = absurd (omega arith)
  end_broken at (suc n) h e = go (inside s at) e
    where
      go : (b : Bool) → cond b (next_at s at) 0 ≡ 0 → cond b (packages_end s (next_at s at) n) 0 ≡ 0
      go true e = absurd (omega (arith, next-later at))
      go false e = refl

  -- a package that lies inside ends inside
  pub end_in : (at : ℕ) → package_end s at ≤ length s
  unfolding package_end
  end_in at = go (inside s at) refl
    where
      go : (b : Bool) → inside s at ≡ b → cond b (next_at s at) 0 ≤ length s
      go true e = (inside-by s at e).1
      go false e = omega arith

  -- and so do packages
  pub end_bound : (n at : ℕ) → at ≤ length s → packages_end s at n ≤ length s
  unfolding packages_end
  end_bound zero at h = h
  end_bound (suc n) at h = go (inside s at) refl (end_bound n (next_at s at))
    where
      go : (b : Bool) → inside s at ≡ b → (next_at s at ≤ length s → packages_end s (next_at s at) n ≤ length s)
          → cond b (packages_end s (next_at s at) n) 0 ≤ length s
      go true e ih = ih (inside-by s at e).1
      go false e ih = omega arith

  -- the reading of packages, by position
  packages-are : (n at : ℕ) → 0 < at
      → walk (rows n part) s at ≡ pick (leb 1 (packages_end s at n)) (got (parts_at s at n) (packages_end s at n)) (bad 3)
  unfolding packages_end parts_at
  packages-are zero at h = rows-zero part s at ∙ rw (le-leb 1 at h)
  packages-are (suc n) at h = rows-suc part n s at ∙ rw (part-is s at) (go (inside s at) (packages-are n (next_at s at) (next-later at)))
    where
      go : (b : Bool)
          → walk (rows n part) s (next_at s at)
          ≡ pick (leb 1 (packages_end s (next_at s at) n)) (got (parts_at s (next_at s at) n) (packages_end s (next_at s at) n)) (bad 3)
          → chain (pick b (got (part_at s at) (next_at s at)) (bad 3)) (λ x m. map_got (λ xs. x ∷ xs) (walk (rows n part) s m))
          ≡ pick (leb 1 (cond b (packages_end s (next_at s at) n) 0))
          (got (part_at s at ∷ parts_at s (next_at s at) n) (cond b (packages_end s (next_at s at) n) 0)) (bad 3)
      go true ih = rw ih (map-pick (λ xs. part_at s at ∷ xs) (leb 1 (packages_end s (next_at s at) n)) (got (parts_at s (next_at s at) n) (packages_end s (next_at s at) n)) 3)
      go false ih = refl

  pub parts-length : (n at : ℕ) → length (parts_at s at n) ≡ n
  unfolding parts_at
  parts-length zero at = refl
  parts-length (suc n) at = ap suc (parts-length n (next_at s at))

-- ---- behind the version

module _ (s : List ℕ) where
  -- the script block and the packages, by position: from the block's size and its end
  abbrev size : ℕ
  size = be_at 4 s 5

  abbrev script : List ℕ
  script = take size (drop 9 s)

  abbrev count : ℕ
  count = be_at 4 s (9 + size)

  abbrev last : ℕ
  last = packages_end s (9 + size + 4) count

  rest-is : walk (be_number 4 >>= sized) s 5
      ≡ pick (leb 9 (length s))
      (pick (leb (9 + size) (length s))
      (pick (leb (9 + size + 4) (length s))
      (pick (leb 1 last)
      (pick (eqb (length s - last) 0) (got (record { script = script; parts = parts_at s (9 + size + 4) count }) last) (bad 1))
      (bad 3))
      (bad 3))
      (bad 3))
      (bad 3)
  unfolding packages be_at
  rest-is =
      pick_cong (leb 9 (length s)) (bad 3) λ a.
      pick_cong (leb (9 + size) (length s)) (bad 3) λ b.
      pick_cong (leb (9 + size + 4) (length s)) (bad 3) λ c.
      walk_bind (rows count part) (ended script) s (9 + size + 4)
      ∙ (rw (packages-are s count (9 + size + 4) (omega arith)) (last_one (leb 1 last)))
    where
      last_one : (t : Bool) → chain (pick t (got (parts_at s (9 + size + 4) count) last) (bad 3)) (λ ps m. walk (ended script ps) s m)
          ≡ pick t (pick (eqb (length s - last) 0) (got (record { script = script; parts = parts_at s (9 + size + 4) count }) last) (bad 1)) (bad 3)
      last_one true = ask-is (eqb (length s - last) 0) 1 _ s last
      last_one false = refl

  -- what the code's tests say
  pub parts-short : length s < 9 → Err 1 ≡ parts_answer s
  unfolding parts_answer framed_as
  parts-short h = rw (rest-is, lt-leb 9 (length s) h)

  pub parts-script : 9 ≤ length s → length s < 9 + size → Err 1 ≡ parts_answer s
  unfolding parts_answer framed_as
  parts-script h g = rw (rest-is, le-leb 9 (length s) h, lt-leb (9 + size) (length s) g)

  pub parts-count : 9 ≤ length s → 9 + size ≤ length s → length s < 9 + size + 4 → Err 1 ≡ parts_answer s
  unfolding parts_answer framed_as
  parts-count h g k = rw (rest-is, le-leb 9 (length s) h, le-leb (9 + size) (length s) g, lt-leb (9 + size + 4) (length s) k)

  module _ (h : 9 + size + 4 ≤ length s) where
    parts_are : parts_answer s
        ≡ framed_as (frame_answer (out (pick (leb 1 last)
        (pick (eqb (length s - last) 0) (got (record { script = script; parts = parts_at s (9 + size + 4) count }) last) (bad 1)) (bad 3))))
    unfolding parts_answer
    parts_are =
        rw (rest-is, le-leb 9 (length s) (omega arith), le-leb (9 + size) (length s) (omega arith), le-leb (9 + size + 4) (length s) h)

    pub parts_whole : last ≡ length s → Ok (record { «end» = 9 + size; count = count }) ≡ parts_answer s
    unfolding framed_as frame_of
    parts_whole e =
        let n : length script ≡ size = length-take-le size (drop 9 s) (simp length-drop (omega arith)) in
        sym (parts_are ∙ rw (le-leb 1 last (omega arith), eq-eqb (length s - last) 0 (omega arith), n, parts-length s count (9 + size + 4)))

    pub parts-broken : ¬ (last ≡ length s) → Err 1 ≡ parts_answer s
    unfolding framed_as
    parts-broken ne = sym (parts_are ∙ go (ℕ_discrete last 0))
      where
        go : Dec (last ≡ 0)
            → framed_as (frame_answer (out (pick (leb 1 last)
            (pick (eqb (length s - last) 0) (got (record { script = script; parts = parts_at s (9 + size + 4) count }) last) (bad 1)) (bad 3)))) ≡ Err 1
        go (yes z) = rw (lt-leb 1 last (omega arith))
        go (no z) =
            let b : last ≤ length s = end_bound s count (9 + size + 4) h in
            let nz : ¬ (length s - last ≡ 0) = λ q. ne (omega arith) in
            rw (le-leb 1 last (omega arith), ne_eqb (length s - last) 0 nz)

-- ---- the whole

module _ (s : List ℕ) where
  abbrev answer : Got Corpus → Out Corpus
  answer g = frame_answer (out g)

  -- the questions before the parts, in order
  abbrev asked : Got Corpus
  asked =
      pick (leb 4 (length s))
      (pick (eqb (be_at 4 s 0) (length s - 4) && leb 1 (be_at 4 s 0))
      (pick (leb 5 (length s)) (pick (eqb (be_at 1 s 4) corpus_version) (walk (be_number 4 >>= sized) s 5) (bad 2)) (bad 3))
      (bad 1))
      (bad 3)

  begun-is : walk (be_number 4 >>= begun) s 0 ≡ asked
  unfolding be_at
  begun-is =
      pick_cong (leb 4 (length s)) (bad 3) λ a.
      ask-is (eqb (be_at 4 s 0) (length s - 4) && leb 1 (be_at 4 s 0)) 1 _ s 4
      ∙ pick_cong (eqb (be_at 4 s 0) (length s - 4) && leb 1 (be_at 4 s 0)) (bad 1) λ b.
      pick_cong (leb 5 (length s)) (bad 3) λ c. ask-is (eqb (be_at 1 s 4) corpus_version) 2 _ s 5

  begin_is : framed s ≡ answer asked
  unfolding framed
  begin_is = ap frame_answer (run-walk frame s 0 (omega arith)) ∙ rw (frame_is, begun-is)

  none : (n : ℕ) → eqb n 0 && leb 1 n ≡ false
  none zero = refl
  none (suc n) = rw (ne_eqb (suc n) 0 (λ e. omega arith))

  pub frame-short : length s < 5 → Err 1 ≡ framed_as (framed s)
  unfolding framed_as
  frame-short h = sym (ap framed_as begin_is ∙ go (ℕ_discrete (length s) 4))
    where
      go : Dec (length s ≡ 4) → framed_as (answer asked) ≡ Err 1
      go (yes e) = let z : length s - 4 ≡ 0 = omega arith in rw (le-leb 4 (length s) (omega arith), z, none (be_at 4 s 0))
      go (no e) = rw (lt-leb 4 (length s) (omega arith))

  pub frame-wrong : 5 ≤ length s → ¬ (length s - 4 ≡ be_at 4 s 0) → Err 1 ≡ framed_as (framed s)
  unfolding framed_as
  frame-wrong h ne = sym (ap framed_as begin_is ∙ rw (le-leb 4 (length s) (omega arith), ne_eqb (be_at 4 s 0) (length s - 4) (λ e. ne (sym e))))

  module _ (h : 5 ≤ length s) (e : length s - 4 ≡ be_at 4 s 0) where
    version-is : framed s ≡ answer (pick (eqb (be_at 1 s 4) corpus_version) (walk (be_number 4 >>= sized) s 5) (bad 2))
    version-is =
        begin_is
        ∙ rw (le-leb 4 (length s) (omega arith), eq-eqb (be_at 4 s 0) (length s - 4) (sym e), le-leb 1 (be_at 4 s 0) (omega arith), le-leb 5 (length s) h)

    pub frame-version : ¬ (get_or s 4 0 ≡ 1) → Err 2 ≡ framed_as (framed s)
    unfolding framed_as
    frame-version ne = sym (ap framed_as version-is ∙ rw (be_at-one s 4, ne_eqb (get_or s 4 0) corpus_version ne))

    pub frame-rest : get_or s 4 0 ≡ 1 → parts_answer s ≡ framed_as (framed s)
    unfolding parts_answer
    frame-rest v = sym (ap framed_as version-is ∙ rw (be_at-one s 4, eq-eqb (get_or s 4 0) corpus_version v))

-- ---- for whoever walks over the packages

-- the corpus s frames as c: where its script block ends and how many packages stand behind it
pub record FramedAt (s : List ℕ) (f : Frame) (c : Corpus) : Type 0 where
  pub frames : framed s ≡ gives c
  pub said : length s ≡ be_at 4 s 0 + 4
  pub low : 9 ≤ f.«end»
  pub high : f.«end» + 4 ≤ length s
  pub script-is : c.script ≡ take (f.«end» - 9) (drop 9 s)
  pub parts_are : c.parts ≡ parts_at s (f.«end» + 4) f.count
  pub whole : packages_end s (f.«end» + 4) f.count ≡ length s

module _ (s : List ℕ) where
  got_of : (g : Got Corpus) {c : Corpus} → frame_answer (out g) ≡ gives c → (m : ℕ) × (g ≡ got c m)
  got_of (bad r) e = never (cc)
  got_of (got a m) e = (m, cc)

  -- what an accepted framing has read
  record Read (c : Corpus) : Type 0 where
    pub said : length s ≡ be_at 4 s 0 + 4
    pub room : 9 + be_at 4 s 5 + 4 ≤ length s
    pub last-is : packages_end s (9 + be_at 4 s 5 + 4) (be_at 4 s (9 + be_at 4 s 5)) ≡ length s
    pub c-is : c ≡ record { script = take (be_at 4 s 5) (drop 9 s); parts = parts_at s (9 + be_at 4 s 5 + 4) (be_at 4 s (9 + be_at 4 s 5)) }

  read_by : (c : Corpus) → framed s ≡ gives c → Read c
  read_by c e =
      let (m, q) = got_of (asked s) (sym (begin_is s) ∙ e) in
      pick-by (leb 4 (length s)) _ 3 q λ a q₁.
      pick-by (eqb (be_at 4 s 0) (length s - 4) && leb 1 (be_at 4 s 0)) _ 1 q₁ λ b q₂.
      pick-by (leb 5 (length s)) _ 3 q₂ λ d q₃.
      pick-by (eqb (be_at 1 s 4) corpus_version) _ 2 q₃ λ v q₄.
      pick-by (leb 9 (length s)) _ 3 (sym (rest-is s) ∙ q₄) λ f q₅.
      pick-by (leb (9 + size s) (length s)) _ 3 q₅ λ g q₆.
      pick-by (leb (9 + size s + 4) (length s)) _ 3 q₆ λ h q₇.
      pick-by (leb 1 (last s)) _ 3 q₇ λ k q₈.
      pick-by (eqb (length s - last s) 0) _ 1 q₈ λ z q₉.
      let room : 9 + size s + 4 ≤ length s = leb-true _ _ h in
      record {
        said = omega (arith, eqb-true (be_at 4 s 0) (length s - 4) (both _ _ b).0, leb-true 4 (length s) a);
        room = room;
        last-is = omega (arith, end_bound s (count s) (9 + size s + 4) room, eqb-true (length s - last s) 0 z);
        c-is = cc;
      }

  -- THE WAY OUT of the code's answer
  pub framed_at : {f : Frame} → framed_as (framed s) ≡ Ok f → (c : Corpus) × FramedAt s f c
  unfolding framed_as frame_of
  framed_at {f} e = go (framed s) refl e
    where
      go : (o : Out Corpus) → framed s ≡ o → framed_as o ≡ Ok f → (c : Corpus) × FramedAt s f c
      go (refused q) p e = never (cc)
      go (gives c) p e =
          let r = read_by c p in
          let n : length (take (be_at 4 s 5) (drop 9 s)) ≡ be_at 4 s 5 = length-take-le (be_at 4 s 5) (drop 9 s) (simp length-drop (omega (arith, r.room))) in
          let end_is : f.«end» ≡ 9 + be_at 4 s 5 =
          sym (ap (λ (x : Frame). x.«end») (let w : frame_of c ≡ f = cc in w)) ∙ rw (r.c-is, n) in
          let count-is : f.count ≡ be_at 4 s (9 + be_at 4 s 5) =
          sym (ap (λ (x : Frame). x.count) (let w : frame_of c ≡ f = cc in w)) ∙ rw r.c-is (parts-length s (be_at 4 s (9 + be_at 4 s 5)) (9 + be_at 4 s 5 + 4)) in
          let less : 9 + be_at 4 s 5 - 9 ≡ be_at 4 s 5 = omega arith in (
            c,
            record {
              frames = p;
              said = r.said;
              low = omega arith;
              high = omega (arith, r.room);
              script-is = ap (λ (x : Corpus). x.script) r.c-is ∙ rw (end_is, less);
              parts_are = ap (λ (x : Corpus). x.parts) r.c-is ∙ rw (end_is, count-is);
              whole = rw (end_is, count-is) r.last-is;
            },
          )

  -- the first of n packages from a place on, and those behind it
  pub packages-first : (at n : ℕ) → 0 < n → 0 < packages_end s at n
      → (at + 12 ≤ length s) × (next_at s at ≤ length s) × (packages_end s (next_at s at) (n - 1) ≡ packages_end s at n)
      × (parts_at s at n ≡ part_at s at ∷ parts_at s (next_at s at) (n - 1))
  unfolding packages_end parts_at
  packages-first at zero h g = absurd (omega arith)
  packages-first at (suc n) h g = let e : suc n - 1 ≡ n = omega arith in rw e (go (inside s at) refl g)
    where
      go : (b : Bool) → inside s at ≡ b → 0 < cond b (packages_end s (next_at s at) n) 0
          → (at + 12 ≤ length s) × (next_at s at ≤ length s) × (packages_end s (next_at s at) n ≡ cond b (packages_end s (next_at s at) n) 0)
          × (part_at s at ∷ parts_at s (next_at s at) n ≡ part_at s at ∷ parts_at s (next_at s at) n)
      go true e g = ((inside-by s at e).0, (inside-by s at e).1, refl, refl)
      go false e g = absurd (omega arith)
