-- What it is that a corpus is accepted (document 01: "a corpus that fails none is accepted, and these corpora are the domain"): every question
-- answered yes, as facts, in their order. `from-answer` is the way in, `to-answer` the way out.
use Rattle.std.specs.Prelude.{◌≡◌, refl, Bool, true, false, ◌&&◌, ℕ, ◌+◌, length}
use mathlib.Core.List.{List, [], ◌∷◌}
use Rattle.std.proofs.Math.Dec.{leb}
use Rattle.base.specs.Find.{flat}
use Rattle.base.specs.House.{longest_output}
use Rattle.base.specs.Never.{never}
use Rattle.base.specs.Perm.{All}
use Rattle.base.specs.Reading.{Out, refused, gives, run, run_block}
use Rattle.scriptblock.specs.Script.{script}
use Rattle.zen.specs.Zen.{package_block}
use Rattle.meaning.specs.Frame.{Part, Corpus, framed}
use Rattle.meaning.specs.Reference.{Package}
use Rattle.meaning.specs.Resolve.{Limits}
use Rattle.meaning.specs.Report.{report_of}
use Rattle.meaning.specs.Call.{Answer, refused_in, accepted, ◌>>=◌, ◌>>◌, need, in_block, read_from, placed_from, first_repeat, none_twice}
use Rattle.meaning.specs.Call.{Opened, holding, opened_in, opened, work_bytes, weighed, answer}
use Rattle.meaning.proofs.Table.{distinct-once, once-distinct}
pub use Rattle.meaning.specs.Accepted.{Accepted, Good, Opens, package_of, packages_in, read_of}

-- ---- the binds of an accepted answer, one by one

module _ {A B : Type 0} where
  pub bind_accepted : (n : Answer A) (k : A → Answer B) (b : B) → (n >>= k) ≡ accepted b → (a : A) × (n ≡ accepted a) × (k a ≡ accepted b)
  bind_accepted (refused_in q j) k b h = never (cc)
  bind_accepted (accepted a) k b h = (a, refl, h)

module _ {B : Type 0} where
  pub need-accepted : (t : Bool) (q j : ℕ) (n : Answer B) (b : B) → (need t q j >> n) ≡ accepted b → (t ≡ true) × (n ≡ accepted b)
  need-accepted true q j n b h = (refl, h)
  need-accepted false q j n b h = never (cc)

pub in_accepted : {A : Type 0} (j : ℕ) (o : Out A) (a : A) → in_block j o ≡ accepted a → o ≡ gives a
in_accepted j (refused q) a h = never (cc)
in_accepted j (gives x) a h = cc

-- ---- the packages are read exactly where each is good

pub read-good : (j : ℕ) (l : List Part) (ps : List Package) → read_from j l ≡ accepted ps → All Good l × (ps ≡ flat read_of l)
unfolding read_of
read-good j [] ps h = (tt, cc)
read-good j (p ∷ l) ps h =
    let (r, hr, h₁) = bind_accepted (in_block j (run_block package_block p.block)) _ ps h in
    let (rs, hs, h₂) = bind_accepted (read_from (j + 1) l) _ ps h₁ in
    let g = in_accepted j (run_block package_block p.block) r hr in
    let (gs, e) = read-good (j + 1) l rs hs in
    (((r, g), gs), rw (g, ← e) (cc))

pub good-read : (j : ℕ) (l : List Part) → All Good l → read_from j l ≡ accepted (flat read_of l)
unfolding read_of
good-read j [] h = refl
good-read j (p ∷ l) h = rw (h.0.1, good-read (j + 1) l h.1)

pub good_length : (l : List Part) → All Good l → length (flat read_of l) ≡ length l
unfolding read_of
good_length [] h = refl
good_length (p ∷ l) h = rw (h.0.1, good_length l h.1)

module _ (m : Limits) (c : Corpus) where
  pub from-opened : (d : Opened) → opened_in m c ≡ accepted d → (a : Opens m c) × (d ≡ holding m a.objects (packages_in c))
  unfolding opened_in
  from-opened d h =
      let (o, ho, h₁) = bind_accepted (in_block 1 (run script 0 c.script)) _ d h in
      let (ps, hp, h₂) = bind_accepted (read_from 2 c.parts) _ d h₁ in
      let (u, hu, h₃) = bind_accepted (none_twice (first_repeat [] (placed_from m.objects o 2 ps))) _ d h₂ in
      let (g, e) = read-good 2 c.parts ps hp in (
        record {
          objects = o;
          script-is = in_accepted 1 (run script 0 c.script) o ho;
          good = g;
          once = rw (← e) (distinct-once m.objects o 2 ps hu);
        },
        rw (← e) (cc),
      )

  pub to-opened : (a : Opens m c) → opened_in m c ≡ accepted (holding m a.objects (packages_in c))
  unfolding opened_in
  to-opened a =
      rw (a.script-is, good-read 2 c.parts a.good, once-distinct m.objects a.objects 2 (packages_in c) a.once)

-- the bytes of a corpus that is opened are framed, and their blocks pass
module _ (m : Limits) (s : List ℕ) where
  pub from-corpus : (d : Opened) → opened m s ≡ accepted d
      → (c : Corpus) × (framed s ≡ gives c) × (a : Opens m c) × (d ≡ holding m a.objects (packages_in c))
  unfolding opened
  from-corpus d h =
      let (c, hc, h₁) = bind_accepted (in_block 0 (framed s)) _ d h in
      let (a, e) = from-opened m c d h₁ in
      (c, in_accepted 0 (framed s) c hc, a, e)

  pub to-corpus : (c : Corpus) → framed s ≡ gives c → (a : Opens m c) → opened m s ≡ accepted (holding m a.objects (packages_in c))
  unfolding opened
  to-corpus c f a = rw (f, to-opened m c a)

module _ (m : Limits) (s : List ℕ) (work room : ℕ) where
  pub from-answer : (report : List ℕ) → answer m s work room ≡ accepted report → (c : Corpus) × (framed s ≡ gives c) × Accepted m c work room report
  unfolding answer weighed holding
  from-answer report h =
      let (d, hd, h₁) = bind_accepted (opened m s) _ report h in
      let (c, f, a, e) = from-corpus m s d hd in
      let h₃ = rw e at h₁ in
      let (w, h₄) = need-accepted (leb (work_bytes (holding m a.objects (packages_in c))) work) 25 0 _ report h₃ in
      let r = report_of m a.objects (packages_in c) in
      let (t, h₅) = need-accepted (leb (length r) longest_output && leb (length r) room) 26 0 _ report h₄ in
      let is : report ≡ r = cc in
      (c, f, record { opens = a; works = w; fits = rw is t; is = is })

  pub to-answer : (c : Corpus) (report : List ℕ) → framed s ≡ gives c → Accepted m c work room report → answer m s work room ≡ accepted report
  unfolding answer weighed holding
  to-answer c report f a = rw (to-corpus m s c f a.opens, a.works, ← a.is, a.fits)
