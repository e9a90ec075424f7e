-- What the place of a name holds. Assumes nothing.
use Rattle.std.specs.Prelude.{◌≡◌, List, [], ◌++◌, Bool, false, ℕ, ◌+◌, ◌*◌, ◌-◌, ◌≤◌, ◌<◌, drop, get_or}
use Rattle.std.proofs.Math.Path.{sym}
use Rattle.std.proofs.Common.{ap, le_trans, mul-le-mul_left, arith, length-append, length-take, length-drop, length-take-le, take-take}
use Rattle.std.proofs.Math.Bool.{true}
use Rattle.std.proofs.Math.ListN.{length, take}
use Rattle.text.specs.Affix.{ends_with, all_ascii}
use Rattle.text.specs.AffixLaws.{unit_size, base-rest, ends-true}
use Rattle.base.specs.NumberLaws.{Bytes, bytes-part, drop-take}
use Rattle.text.specs.Utf16.{well, is_well, Scalars}
use Rattle.text.specs.Name.{decoded, base, suffix}
use Rattle.text.specs.NameLength.{name-length}
use Rattle.text.specs.Units.{units_of}
use Rattle.text.specs.UnitsLaws.{base-length, base-units, units_of-narrow, units_of-length}
use Rattle.text.specs.Utf8.{utf8}
use Rattle.batch.specs.Places.{texts_at, place_at, part_at, Held}
use Rattle.batch.specs.PlacesLaws.{place-text, place-size, place-units, place_inside, place-well, place-scalars}
use Rattle.batch.specs.declared.names.Names.{Names}
use Rattle.batch.specs.declared.places.Place.{Place}

-- the text at a place, and the name that it makes with an instance number
abbrev pub text_at : List ℕ → Place → List ℕ
text_at b p = base p.wide (part_at b p)

abbrev pub name_at : List ℕ → Place → ℕ → List ℕ
name_at b p number = text_at b p ++ suffix number

-- place p of block b holds the text t
pub record Holds (b : List ℕ) (p : Place) (t : List ℕ) : Type 0 where
  pub inside : p.start + p.size ≤ length b
  pub text : text_at b p ≡ t
  pub well : is_well (decoded p.wide (part_at b p)) ≡ true
  pub small : p.size < 65536
  pub units : length (units_of p.wide (part_at b p)) < 32768
  pub scalars : Scalars t

-- the place of name i of a batch
pub holds-name : (b : List ℕ) (n : Names) → Bytes b → Held b n → (i : ℕ) → i < n.count
    → Holds b (place_at b n i) (get_or (texts_at b n.headers n.strings n.count) i [])
holds-name b n y d i l = record {
  inside = omega (arith, (place_inside b n i l d).1, d.ends);
  text = place-text b n i l;
  well = place-well b n i l d;
  small = place-size b n i l y;
  units = place-units b n i l y;
  scalars = place-scalars b n i l d y;
}

-- what a place holds in the first n bytes it holds in all
holds-all : (n : ℕ) (b : List ℕ) (p : Place) (t : List ℕ) → n ≤ length b → Holds (take n b) p t → Holds b p t
holds-all n b p t h d =
    let w : length (take n b) ≡ n = length-take-le n b h in
    let l : p.size ≤ n - p.start = omega (arith, d.inside) in
    let e : part_at (take n b) p ≡ part_at b p = rw (drop-take p.start n b, take-take p.size (n - p.start) (drop p.start b) l) in
    record { inside = omega (arith, d.inside); text = rw e at d.text; well = rw e at d.well; small = d.small; units = rw e at d.units; scalars = d.scalars }

-- the same of a batch that was read in the first bytes of a block
pub holds-take : (b : List ℕ) (size : ℕ) (n : Names) → size ≤ length b → Bytes b → Held (take size b) n → (i : ℕ) → i < n.count
    → Holds b (place_at (take size b) n i) (get_or (texts_at (take size b) n.headers n.strings n.count) i [])
holds-take b size n h y d i l = holds-all size b _ _ h (holds-name (take size b) n (bytes-part size 0 b y) d i l)

module _ {b : List ℕ} {p : Place} {t : List ℕ} (d : Holds b p t) where
  -- the text is the one at the place: what a function over a place asks
  pub holds-own : Holds b p (text_at b p)
  holds-own = rw d.text d

  -- a text is short, and so is a name, in UTF-8 too
  pub holds-few : length t < 32768
  holds-few = rw (← d.text) (omega (arith, base-length p.wide (part_at b p), d.units))

  pub holds-short : (number : ℕ) → length (utf8 (t ++ suffix number)) ≤ 131089
  holds-short number = omega (arith, name-length t number, holds-few)

-- ---- a place without an ending

-- without its last n units
unfoldable pub place_without : Place → ℕ → Place
place_without p n = record { start = p.start; size = p.size - unit_size p.wide * n; wide = p.wide }

part_length : {b : List ℕ} {p : Place} {t : List ℕ} → Holds b p t → length (part_at b p) ≡ p.size
part_length {b} {p} d = length-take-le p.size (drop p.start b) (simp length-drop (omega (arith, d.inside)))

units-count : (wide : Bool) (part : List ℕ) → unit_size wide * length (units_of wide part) ≤ length part
units-count false part = rw (units_of-narrow part) (omega arith)
units-count true part = rw (units_of-length part) (omega arith)

units-fewer : (wide : Bool) (k : ℕ) (part : List ℕ) → length (units_of wide (take k part)) ≤ length (units_of wide part)
units-fewer false k part = rw (units_of-narrow part, units_of-narrow (take k part)) (simp length-take (omega arith))
units-fewer true k part = rw (units_of-length part, units_of-length (take k part)) (simp length-take (omega arith))

ends-long : (t e : List ℕ) → ends_with t e ≡ true → length e ≤ length t
ends-long t e h = omega (arith, simp length-append at (ap length (ends-true t e h)))

module _ {b : List ℕ} {p : Place} {t : List ℕ} (d : Holds b p t) (e : List ℕ) (h : ends_with t e ≡ true) where
  -- the ending is there
  pub ending-fits : unit_size p.wide * length e ≤ p.size
  ending-fits =
      let f : length e ≤ length (units_of p.wide (part_at b p)) = le_trans (ends-long t e h) (rw (← d.text) (base-length p.wide (part_at b p))) in
      le_trans (mul-le-mul_left (unit_size p.wide) f) (le_trans (units-count p.wide (part_at b p)) (omega (arith, part_length d)))

  -- what is left holds the text without it
  pub holds-rest : Bytes b → all_ascii e ≡ true → Holds b (place_without p (length e)) (take (length t - length e) t)
  unfolding place_without
  holds-rest y a =
      let k = unit_size p.wide * length e in
      let c : take (p.size - k) (drop p.start b) ≡ take (p.size - k) (part_at b p) = sym (take-take (p.size - k) p.size (drop p.start b) (omega arith)) in
      let r : decoded p.wide (take (p.size - k) (part_at b p)) ≡ well (take (length t - length e) t) =
      rw (part_length d, d.text) at (base-rest p.wide (part_at b p) e (bytes-part p.size p.start b y) d.well a (rw d.text h)) in
      let w : is_well (decoded p.wide (take (p.size - k) (part_at b p))) ≡ true = rw r in
      record {
        inside = omega (arith, d.inside);
        text = rw (c, r);
        well = rw c w;
        small = omega (arith, d.small);
        units = rw c (omega (arith, units-fewer p.wide (p.size - k) (part_at b p), d.units));
        scalars = rw r at (base-units p.wide (take (p.size - k) (part_at b p)) (rw c at (bytes-part (p.size - k) p.start b y)) w).1;
      }
