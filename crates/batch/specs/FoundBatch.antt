-- A batch that was found: what its reading gives, and where its names are.
use Rattle.std.specs.Prelude.{◌≡◌, refl, List, [], Bool, true, false, ℕ, ◌+◌, ◌*◌, ◌-◌, ◌≤◌, ◌<◌, leb, eqb, Ok}
use Rattle.std.proofs.Common.{sym, ◌∙◌, ap, arith, leb-true}
use Rattle.std.proofs.Math.Path.{subst}
use Rattle.std.proofs.Math.Decide.{dec_le}
use Rattle.std.proofs.Math.ListN.{length}
use Rattle.base.specs.Never.{never}
use Rattle.base.specs.Choose.{pick}
use Rattle.text.specs.Utf16.{is_well}
use Rattle.base.specs.Reading.{Got, bad, got, walk}
use Rattle.base.specs.ReadingLaws.{chain_by, pick-by, bad-got, walk-within}
use Rattle.base.specs.ReadingRows.{cells}
use Rattle.base.specs.Number.{le_at}
use Rattle.base.specs.NumberLaws.{Bytes, le_at-lt}
use Rattle.text.specs.Name.{decoded}
use Rattle.batch.specs.Batch.{Batch, batch, some_names, body, strings, head_at}
use Rattle.batch.specs.BatchAnswers.{batched}
use Rattle.batch.specs.BatchLaws.{strings-got, none_at, batch-is, some_is, body-hashes, body-heads, body-room, body_is, place_of_lem}
use Rattle.batch.specs.Places.{name_start, texts_at, place_at, part_at, Held}
use Rattle.batch.specs.declared.names.Names.{Names}

-- a batch that was found: its texts are those at its names' places
pub record FoundAt (s : List ℕ) (at : ℕ) (n : Names) : Type 0 where
  pub texts : List (List ℕ)
  pub is : walk batch s at ≡ got (record { place = n; texts = texts }) n.«end»
  pub same : texts ≡ texts_at s n.headers n.strings n.count
  pub order : n.strings ≤ n.«end»
  pub inside : n.«end» ≤ length s
  pub few : 10 * n.count ≤ length s
  pub heads : n.headers + 2 * n.count ≤ length s
  pub starts : name_start s n.headers n.strings n.count ≡ n.«end»
  pub span : Bytes s → n.«end» - n.strings < 4294967296
  pub well : (i : ℕ) → i < n.count → is_well (decoded (place_at s n i).wide (part_at s (place_at s n i))) ≡ true

-- what was read, where the reading stands inside the bytes
module _ (s : List ℕ) (at : ℕ) (b : Batch) (e : ℕ) (inside : e ≤ length s) (w : walk batch s at ≡ got b e) where
  -- past the version
  body-found : (from n room : ℕ) → (Bytes s → room < 4294967296) → walk (body n room) s from ≡ got b e → FoundAt s at b.place
  unfolding place_at
  body-found from n room f q = go (dec_le (from + 8 * n) (length s)) (dec_le (from + 8 * n + 2 * n) (length s)) (dec_le (from + 8 * n + 2 * n + room) (length s))
    where
      go : Dec (from + 8 * n ≤ length s) → Dec (from + 8 * n + 2 * n ≤ length s) → Dec (from + 8 * n + 2 * n + room ≤ length s) → FoundAt s at b.place
      go (no l) y z = bad-got (sym (body-hashes s from n room (omega arith)) ∙ q)
      go (yes l) (no m) z = bad-got (sym (body-heads s from n room l (omega arith)) ∙ q)
      go (yes l) (yes m) (no h) = bad-got (sym (body-room s from n room l m (omega arith)) ∙ q)
      go (yes l) (yes m) (yes h) =
          chain_by (walk (strings (cells (head_at s) 2 (from + 8 * n) n) room) s (from + 8 * n + 2 * n)) _ (sym (body_is s from n room l m h) ∙ q) λ ts k u v.
          let g = strings-got s n (from + 8 * n) room (from + 8 * n + 2 * n) ts k u in
          let y : k ≡ e = cc in
          let c : Batch = record { place = place_of_lem s from n room k; texts = ts } in
          let z : c ≡ b = cc in
          let x : FoundAt s at c.place = record {
            texts = ts;
            is = w ∙ rw (← z, ← y);
            same = g.texts;
            order = omega (arith, g.ends);
            inside = omega arith;
            few = omega arith;
            heads = omega arith;
            starts = omega (arith, g.spans, g.ends);
            span = λ bs. let r = f bs in omega (arith, g.ends);
            well = g.well;
          } in
          subst (FoundAt s at) (ap (λ b. b.place) z) x

  none_found : at + 4 ≤ length s → got (none_at (at + 4)) (at + 4) ≡ got b e → FoundAt s at b.place
  unfolding name_start texts_at
  none_found l r =
      let z : none_at (at + 4) ≡ b = cc in
      let y : at + 4 ≡ e = cc in
      let x : FoundAt s at (none_at (at + 4)).place = record {
        texts = [];
        is = w ∙ rw (← z, ← y);
        same = refl;
        order = omega arith;
        inside = l;
        few = omega arith;
        heads = omega arith;
        starts = refl;
        span = λ bs. omega arith;
        well = λ i h. absurd (omega arith);
      } in
      subst (FoundAt s at) (ap (λ b. b.place) z) x

  found : FoundAt s at b.place
  found = pick-by (leb (at + 4) (length s)) _ 3 (sym (batch-is s at) ∙ w) λ l r. go (leb-true (at + 4) (length s) l) (eqb (le_at 4 s at) 0) r
    where
      go : at + 4 ≤ length s → (t : Bool) → pick t (got (none_at (at + 4)) (at + 4)) (walk (some_names (le_at 4 s at)) s (at + 4)) ≡ got b e
          → FoundAt s at b.place
      go l true r = none_found l r
      go l false r =
          pick-by (leb (at + 4 + 4) (length s)) _ 3 (sym (some_is s (at + 4) (le_at 4 s at)) ∙ r) λ l r.
          pick-by (leb (at + 4 + 4 + 8) (length s)) _ 3 r λ m r.
          pick-by (eqb (le_at 8 s (at + 4 + 4)) 0xC1640000) _ 4 r λ v r.
          body-found (at + 4 + 4 + 8) (le_at 4 s at) (le_at 4 s (at + 4)) (le_at-lt 4 s (at + 4)) r

-- a batch that was read was found, and its reading ends with it
pub found_by_lem : (s : List ℕ) (at : ℕ) (b : Batch) (e : ℕ) → at ≤ length s → walk batch s at ≡ got b e → FoundAt s at b.place
found_by_lem s at b e l w = found s at b e (walk-within batch s at l w) w

pub found_end : {s : List ℕ} {at : ℕ} (b : Batch) {e : ℕ} → walk batch s at ≡ got b e → (f : FoundAt s at b.place)
    → (e ≡ b.place.«end») × (b.texts ≡ f.texts)
found_end {s} {at} b {e} w f =
    let z : got b e ≡ got (record { place = b.place; texts = f.texts }) b.place.«end» = sym w ∙ f.is in
    let y : b ≡ record { place = b.place; texts = f.texts } = cc in
    (cc, ap (λ b. b.texts) y)

-- the same from the code's answer
pub found_at : (s : List ℕ) (at : ℕ) (n : Names) → at ≤ length s → batched (walk batch s at) ≡ Ok n → FoundAt s at n
unfolding batched
found_at s at n l q = go (walk batch s at) refl q
  where
    go : (g : Got Batch) → walk batch s at ≡ g → batched g ≡ Ok n → FoundAt s at n
    go (bad r) e q = never (cc)
    go (got b k) e q = let z : b.place ≡ n = cc in rw z at (found_by_lem s at b k l e)

-- what was found is held: its names are reached by number
pub found-held : (s : List ℕ) (at : ℕ) (n : Names) → Bytes s → FoundAt s at n → Held s n
found-held s at n b f = record { heads = f.heads; inside = omega (arith, f.starts); ends = f.inside; span = f.span b; well = f.well }
