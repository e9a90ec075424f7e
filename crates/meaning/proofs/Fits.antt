-- What fits its field: the packages of a framed corpus are fewer, and its blocks shorter, than four bytes count, and an accepted report is at
-- most as long as four bytes and their own four say.
use Rattle.std.specs.Prelude.{◌≡◌, refl, Bool, true, false, ◌&&◌, ℕ, ◌+◌, ◌^◌, ◌≤◌, ◌<◌, leb, length}
use Rattle.std.proofs.Common.{sym, ◌∙◌, ap, arith, leb-true, length-append}
use mathlib.Core.List.{List, ◌++◌, Memᴰ}
use Rattle.base.specs.Find.{flat}
use Rattle.base.specs.FindLaws.{flat-member}
use Rattle.base.specs.House.{longest_output}
use Rattle.base.specs.Never.{never}
use Rattle.base.specs.NumberLaws.{Bytes}
use Rattle.base.specs.Reading.{gives}
use Rattle.meaning.specs.Frame.{Part, Corpus, framed}
use Rattle.meaning.specs.Resolve.{Limits}
use Rattle.meaning.specs.Call.{accepted, answer}
use Rattle.meaning.specs.Bytes.{part_bytes, corpus_rest}
use Rattle.meaning.specs.BytesLaws.{length_part, length_rest, as_many, Framed, bytes-frame, frame-fits}
use Rattle.meaning.specs.Accepted.{Accepted}
use Rattle.meaning.proofs.Accepted.{from-answer}

-- a part is as long as the whole at most
pub part-short : (whole front part back : List ℕ) → whole ≡ front ++ part ++ back → length part ≤ length whole
part-short whole front part back e = omega (arith, ap length e, length-append (front ++ part) back, length-append front part)

module _ (s : List ℕ) (b : Bytes s) (c : Corpus) (f : framed s ≡ gives c) where
  rest-fits : length (corpus_rest c) < 2 ^ 32
  rest-fits = let g : Framed s c = bytes-frame s c b f in frame-fits c {d = c} (ap framed (sym g.is) ∙ f)

  -- with room for the two blocks before them
  pub few-packages : 2 + length c.parts ≤ 2 ^ 32
  few-packages = omega (arith, rest-fits, length_rest c, as_many c.parts)

  pub short-block : (p : Part) → Memᴰ p c.parts → length p.block < 2 ^ 32
  short-block p m =
      let (front, back, is) = flat-member part_bytes m in
      omega (arith, rest-fits, length_rest c, length_part p, part-short (flat part_bytes c.parts) front (part_bytes p) back is)

-- question 26
pub accepted-short : (m : Limits) (c : Corpus) (work room : ℕ) (report : List ℕ) → Accepted m c work room report
    → (length report ≤ longest_output) × (length report ≤ room)
accepted-short m c work room report a = go (leb (length report) longest_output) (leb (length report) room) refl refl a.fits
  where
    go : (t u : Bool) → leb (length report) longest_output ≡ t → leb (length report) room ≡ u → t && u ≡ true
        → (length report ≤ longest_output) × (length report ≤ room)
    go true true l h e = (leb-true (length report) longest_output l, leb-true (length report) room h)
    go true false l h e = never (cc)
    go false u l h e = never (cc)

pub report-short : (m : Limits) (s : List ℕ) (work room : ℕ) (report : List ℕ) → answer m s work room ≡ accepted report
    → (length report ≤ longest_output) × (length report ≤ room)
report-short m s work room report e = let (c, f, a) = from-answer m s work room report e in accepted-short m c work room report a
