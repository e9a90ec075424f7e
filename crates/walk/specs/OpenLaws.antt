-- What a corpus holds, or what it is refused for before any buffer is weighed (document 01, questions 1 to 24), from what the steps that open it
-- find. Assumes nothing.
use Rattle.std.specs.Prelude.{◌≡◌, Bool, true, false, cond, List, [], ℕ, ◌+◌, ◌*◌, ◌-◌, ◌^◌, ◌≤◌, ◌<◌, eqb, ltb, length, take, drop, Result, Ok, Err}
use Rattle.std.proofs.Math.Path.{refl}
use Rattle.std.proofs.Common.{sym, ◌∙◌, ap, arith}
use Rattle.base.specs.Never.{never}
use Rattle.base.specs.NumberLaws.{Bytes}
use Rattle.base.specs.Reading.{Out, refused, gives, run}
use Rattle.scriptblock.specs.Script.{Objects, script}
use Rattle.scriptblock.proofs.ScriptAccepted.{rejected-objects}
use Rattle.scriptblock.specs.ScriptAnswers.{opened as openedScript, fault_at, answer_by, script_answer}
use Rattle.scriptblock.proofs.ScriptLaws.{script-is}
use Rattle.scriptblock.specs.declared.script.Layout.{Layout}
use Rattle.meaning.specs.Call.{refused_in, accepted, read_from, first_repeat, none_twice, holding, opened_in, opened}
use Rattle.meaning.specs.Frame.{Corpus, framed}
use Rattle.meaning.specs.Reference.{Package}
use Rattle.meaning.specs.Resolve.{Limits}
use Rattle.packages.specs.Framing.{parts_at, framed_as}
use Rattle.packages.specs.FramingLaws.{framed_at}
use Rattle.packages.specs.Walk.{packages_at, Sites}
use Rattle.packages.specs.WalkLaws.{sites, script-site, framed-small, read_some}
use Rattle.packages.specs.declared.frame.Frame.{Frame}
use Rattle.scan.specs.RepeatLaws.{twice-none, twice-some}
use Rattle.scan.specs.Repeats.{repeat_block}
use Rattle.walk.specs.FoundLaws.{found-placed}
use Rattle.walk.specs.OpenSteps.{Begun, Packages, found_by, first_in}

-- ---- where the parts are

pub begun : {c : List ℕ} {f : Frame} {r : (Result Frame ℕ)} → Bytes c → r ≡ framed_as (framed c) → r ≡ Ok f → Begun c f (take (f.«end» - 9) (drop 9 c))
begun y e w = record { bytes = y; frames = sym e ∙ w; block = refl }

module _ {c : List ℕ} {f : Frame} {s : List ℕ} (b : Begun c f s) where
  -- the script block lies inside, and so do the packages
  pub begun-inside : (9 ≤ f.«end») × (f.«end» ≤ length c)
  begun-inside = let k = script-site c b.frames b.bytes in (k.low, omega (arith, k.high))

  pub begun-sites : Sites c (f.«end» + 4) f.count
  begun-sites = sites c b.frames b.bytes

  -- how many packages there can be, and how long all is
  pub begun-few : (f.count + 2 ≤ 2 ^ 32) × (f.«end» + 4 < 2 ^ 32 + 4) × (length c < 2 ^ 32 + 4)
  begun-few =
      let k = script-site c b.frames b.bytes in
      let n = framed-small c b.frames b.bytes in
      (omega (arith, k.few, k.low), omega (arith, k.high), n)

  pub begun-bytes : Bytes s
  begun-bytes = rw b.block (script-site c b.frames b.bytes).bytes

  pub begun-small : length s < 2 ^ 32
  begun-small = rw b.block (script-site c b.frames b.bytes).small

-- an accepted block has the layout that it was opened with
pub same_layout : (s : List ℕ) {l k : Layout} → openedScript s ≡ Ok l → script_answer (run script 0 s) ≡ Ok k → k ≡ l
unfolding answer_by
same_layout s {l} {k} q e = go (eqb (fault_at s l) 0) (ltb (l.entries + 32 * l.count) (length s)) (sym (script-is s ∙ ap (answer_by s) q) ∙ e)
  where
    go : (a b : Bool) → cond a (cond b (Err 13) (Ok l)) (Err (fault_at s l)) ≡ Ok k → k ≡ l
    go true true e = never (cc)
    go true false e = cc
    go false b e = never (cc)

-- ---- question by question

module _ (m : Limits) (c : List ℕ) where
  -- 1 and 2
  pub opened-broken : {q : ℕ} → framed_as (framed c) ≡ Err q → opened m c ≡ refused_in q 0
  unfolding framed_as opened
  opened-broken {q} e = go (framed c) refl e
    where
      go : (x : Out Corpus) → framed c ≡ x → framed_as x ≡ Err q → opened m c ≡ refused_in q 0
      go (refused r) p e = let z : r ≡ q = cc in rw (p, z)
      go (gives k) p e = never (cc)

  module _ {f : Frame} {s : List ℕ} (b : Begun c f s) where
    abbrev packages : List Package
    packages = packages_at c (f.«end» + 4) f.count

    -- the framed corpus
    begun-is : (k : Corpus) × (framed c ≡ gives k) × (k.script ≡ s) × (k.parts ≡ parts_at c (f.«end» + 4) f.count)
    begun-is = let (k, z) = framed_at c b.frames in (k, z.frames, z.script-is ∙ sym b.block, z.parts_are)

    -- the script block
    pub opened-script : {q : ℕ} → script_answer (run script 0 s) ≡ Err q → opened m c ≡ refused_in q 1
    unfolding opened opened_in
    opened-script e = let (k, x, y, z) = begun-is in rw (x, y, rejected-objects (run script 0 s) e)

    module _ {o : Objects} (r : run script 0 s ≡ gives o) where
      -- a package's block
      pub opened_package : {q j : ℕ} → read_from 2 (parts_at c (f.«end» + 4) f.count) ≡ refused_in q j → opened m c ≡ refused_in q j
      unfolding opened opened_in
      opened_package e = let (k, x, y, z) = begun-is in rw (x, y, z, r, e)

      module _ (a : Packages c f) where
        -- 24, by the classes of the packages
        again : {q j : ℕ} → none_twice (first_in m.objects o c f) ≡ refused_in q j → opened m c ≡ refused_in q j
        unfolding opened opened_in
        again p = let (k, x, y, z) = begun-is in rw (x, y, z, r, read_some 2 c (f.«end» + 4) f.count a, p)

        once : none_twice (first_in m.objects o c f) ≡ accepted tt → opened m c ≡ accepted (holding m o packages)
        unfolding opened opened_in
        once p = let (k, x, y, z) = begun-is in rw (x, y, z, r, read_some 2 c (f.«end» + 4) f.count a, p)

        -- .. by what the walk over them found
        placed-is : first_repeat [] (found_by m.objects o c f).placed ≡ first_in m.objects o c f
        placed-is = ap (first_repeat []) (found-placed m.objects o c (f.«end» + 4) f.count)

        pub opened-twice : {q j : ℕ} → none_twice (first_repeat [] (found_by m.objects o c f).placed) ≡ refused_in q j → opened m c ≡ refused_in q j
        opened-twice e = again (rw placed-is at e)

        pub opened-is : none_twice (first_repeat [] (found_by m.objects o c f).placed) ≡ accepted tt → opened m c ≡ accepted (holding m o packages)
        opened-is e = once (rw placed-is at e)

        -- .. by the block of the first that repeats a key, or 0
        pub opened_by-block : {j : ℕ} → j ≡ repeat_block (first_in m.objects o c f) → (j ≡ 0 → ⊥) → opened m c ≡ refused_in 24 j
        opened_by-block {j} e h =
            let p : 0 < repeat_block (first_in m.objects o c f) = omega arith in
            again (twice-some m.objects o packages p ∙ ap (refused_in 24) (sym e))

        pub opened-no_block : {j : ℕ} → j ≡ repeat_block (first_in m.objects o c f) → j ≡ 0 → opened m c ≡ accepted (holding m o packages)
        opened-no_block e e₀ = once (twice-none m.objects o packages (sym e ∙ e₀))
