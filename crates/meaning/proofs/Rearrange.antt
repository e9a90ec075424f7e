-- Every order and every rewriting of a corpus in the domain can be given: the relation of demand 3 leaves none out, and demand 3 holds of it.
use Rattle.std.specs.Prelude.{◌≡◌, refl}
use mathlib.Core.List.{List, [], ◌∷◌}
use Prim.Native.Nat.{ℕ, ◌+◌}
use Rattle.base.specs.NumberLaws.{Bytes}
use Rattle.base.specs.Perm.{Perm, All, Each, perm_all}
use Rattle.base.specs.Reading.{gives, run}
use Rattle.base.specs.ReadingMarks.{marks, marks-length, marks_block}
use Rattle.base.specs.ReadingRewrite.{rewrite-agrees, block-length}
use Rattle.scriptblock.specs.Script.{Objects, script}
use Rattle.zen.specs.Zen.{package_block}
use Rattle.zen.proofs.PassedOver.{script_marks_lem, package_marks_lem}
use Rattle.meaning.specs.Frame.{Part, Corpus}
use Rattle.meaning.specs.Resolve.{Limits}
use Rattle.meaning.specs.Call.{accepted, answer}
use Rattle.meaning.specs.Bytes.{corpus_bytes}
use Rattle.meaning.specs.BytesLaws.{Framed, bytes-frame}
use Rattle.meaning.specs.Accepted.{Good, Accepted}
use Rattle.meaning.proofs.Accepted.{from-answer}
use Rattle.meaning.specs.Rearranged.{ScriptRewritten, PartRewritten, Rearranged}
use Rattle.meaning.proofs.Demand.{Unchanged, demand_3}
pub use Rattle.meaning.specs.Rearrange.{corpus_with, part_with, parts_with, script_with}

script_with_lem : (block values : List ℕ) (o : Objects) → run script 0 block ≡ gives o → ScriptRewritten block (script_with block values)
unfolding script_with
script_with_lem block values o e =
    record { says = o; reads = e; agrees = rw (← script_marks_lem block e) (rewrite-agrees (marks script 0 block) block values (marks-length script 0 block)) }

part_with_lem : (p : Part) (values : List ℕ) → Good p → PartRewritten p (part_with p values)
unfolding part_with
part_with_lem p values (r, e) =
    record {
      same_id = refl;
      says = r;
      reads = e;
      agrees = rw (← package_marks_lem p.block e) (rewrite-agrees (marks_block package_block p.block) p.block values (block-length package_block p.block));
    }

parts_with_lem : (i : ℕ) (values : ℕ → List ℕ) (ps : List Part) → All Good ps → Each PartRewritten ps (parts_with i values ps)
parts_with_lem i values [] h = tt
parts_with_lem i values (p ∷ ps) h = (part_with_lem p (values i) h.0, parts_with_lem (i + 1) values ps h.1)

module _ (m : Limits) (s : List ℕ) (work room : ℕ) (report : List ℕ) where
  rearranged : (c : Corpus) → Accepted m c work room report → Framed s c → (order : List Part) → Perm c.parts order → (values : List ℕ) (each : ℕ → List ℕ)
      → Rearranged s (corpus_bytes (corpus_with c.script order values each))
  rearranged c a g order d values each =
      record {
        old = c;
        was = g.is;
        ids = g.ids;
        new = corpus_with c.script order values each;
        is = refl;
        how = record {
          order = order;
          moved = d;
          script_rewritten = script_with_lem c.script values a.opens.objects a.opens.script-is;
          parts_rewritten = parts_with_lem 0 each order (perm_all Good d a.opens.good);
        };
      }

  -- what demand 3 says of s, the bytes of c, with its packages in this order and these values in what is passed over
  pub record Whatever (c : Corpus) (order : List Part) (values : List ℕ) (each : ℕ → List ℕ) : Type 0 where
    pub given : Rearranged s (corpus_bytes (corpus_with c.script order values each))
    pub old-is : given.old ≡ c
    pub order_is : given.how.order ≡ order
    pub new_is : given.new ≡ corpus_with c.script order values each
    pub unchanged : Unchanged m s (corpus_bytes (corpus_with c.script order values each)) given work room report

  -- "Take any corpus in document 01's domain, put its packages in whatever order, and give the bytes and bits that document 01 lists as
  -- passed over whatever values"
  pub any_corpus : Bytes s → answer m s work room ≡ accepted report
      → (c : Corpus) × Framed s c × ((order : List Part) → Perm c.parts order → (values : List ℕ) (each : ℕ → List ℕ) → Whatever c order values each)
  unfolding rearranged
  any_corpus b h =
      let (c, f, a) = from-answer m s work room report h in
      let g : Framed s c = bytes-frame s c b f in
      (c, g, whatever c a g)
    where
      whatever : (c : Corpus) → Accepted m c work room report → Framed s c → (order : List Part) → Perm c.parts order → (values : List ℕ) (each : ℕ → List ℕ)
          → Whatever c order values each
      whatever c a g order d values each =
          let w : Rearranged s (corpus_bytes (corpus_with c.script order values each)) = rearranged c a g order d values each in
          record {
            given = w;
            old-is = refl;
            order_is = refl;
            new_is = refl;
            unchanged = demand_3 m s (corpus_bytes (corpus_with c.script order values each)) work room report h w;
          }
