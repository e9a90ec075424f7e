-- Laws of candidates and their rows. Assumes nothing.
use Rattle.std.specs.Prelude.{◌≡◌, Bool, cond, ◌&&◌, List, [], ◌∷◌, ◌++◌, ℕ, zero, suc, ◌+◌, ◌*◌, ◌-◌, ◌≤◌, ◌<◌, ltb, take, drop, Option as Maybe, Some, None}
use Rattle.std.proofs.Math.Path.{refl}
use Rattle.std.proofs.Common.{sym, ◌∙◌, ap, arith, length-append, length-take, length-drop, length-take-le, take-take}
use Rattle.std.proofs.Math.Bool.{true, false}
use Rattle.std.proofs.Math.Option.{none, some}
use borrow.Author.Tests.{ltb-true, ltb-false}
use Rattle.std.proofs.Math.Dec.{eqb}
use Rattle.std.proofs.Math.ListN.{length}
use Rattle.text.specs.Affix.{starts_with, ends_with, all_ascii}
use Rattle.text.specs.AffixLaws.{unit_size, ends-true, base-rest}
use Rattle.base.specs.Find.{option}
use Rattle.base.specs.Index.{kind}
use Rattle.text.specs.Name.{decoded, base, suffix, text_bytes}
use Rattle.base.specs.Never.{never}
use Rattle.base.specs.NumberLaws.{Bytes, bytes-part}
use Rattle.text.specs.Units.{units_of}
use Rattle.text.specs.UnitsLaws.{base-length, units_of-narrow, units_of-length}
use Rattle.text.specs.Utf8.{utf8}
use Rattle.text.specs.Utf8Laws.{utf8_append, utf8-ascii}
use Rattle.text.specs.Utf16.{well, scalars, is_well, Scalars}
use Rattle.batch.specs.Holds.{Holds, text_at, holds-own}
use Rattle.batch.specs.Places.{place_at, part_at}
use Rattle.batch.specs.declared.places.Place.{Place}
use Rattle.zen.specs.Zen.{Read, no_export, base_of, export_name}
use Rattle.zen.specs.declared.tables.Export.{Export}
use Rattle.meaning.specs.Scan.{outer_of, outer_name, candidate_kind, instance_name, gen_variable, default_start}
use Rattle.packages.specs.Kinds.{candidate_number, is_variable, variable-is}
use Rattle.packages.specs.Package.{read_in, PackageIn}
use Rattle.packages.specs.PackageLaws.{export_count_lem, export-named, name-holds}
use Rattle.packages.specs.MeaningLaws.{get-there, get_none}
use Rattle.packages.specs.Row.{export_no, is_local, row_with, row_in, base_at, whole_at, instance_base, instance_at, shorter, instance_place, names_at, RowHolds}
use Rattle.packages.specs.declared.package.Parts.{Parts}
use Rattle.batch.specs.declared.places.Name.{Name}
use Rattle.packages.specs.declared.rows.Candidate.{Candidate}
use Rattle.packages.specs.declared.rows.Candidate.TheVariants.{Variable, Subobject}
use Rattle.packages.specs.declared.rows.Row.{Row}

-- ---- the outer

module _ {b : List ℕ} {p : Parts} (a : PackageIn b p) (e : Export) where
  outer-by : (s t : Bool) → eqb (kind e.outer) 0 ≡ s → ltb e.outer p.count ≡ t → s && t ≡ true
      → (e.outer < p.count) × (outer_of (read_in b) e ≡ some (export_no b e.outer))
  unfolding outer_of
  outer-by true true k l h =
      let g = ltb-true e.outer p.count l in
      (g, rw (k, get-there (read_in b).exports no_export e.outer (rw (← export_count_lem a) g)))
  outer-by true false k l h = never (cc)
  outer-by false t k l h = never (cc)

  pub outer-some : is_local p e.outer ≡ true → (e.outer < p.count) × (outer_of (read_in b) e ≡ some (export_no b e.outer))
  outer-some h = outer-by (eqb (kind e.outer) 0) (ltb e.outer p.count) refl refl h

  outer-not : (s t : Bool) → eqb (kind e.outer) 0 ≡ s → ltb e.outer p.count ≡ t → s && t ≡ false → outer_of (read_in b) e ≡ none
  unfolding outer_of
  outer-not true true k l h = never (cc)
  outer-not true false k l h = rw (k, get_none (read_in b).exports e.outer (rw (← export_count_lem a) (ltb-false e.outer p.count l)))
  outer-not false t k l h = rw k

  pub outer-none : is_local p e.outer ≡ false → outer_of (read_in b) e ≡ none
  outer-none h = outer-not (eqb (kind e.outer) 0) (ltb e.outer p.count) refl refl h

-- ---- a name without its suffix

scalars-take : (n : ℕ) (t : List ℕ) → Scalars t → Scalars (take n t)
scalars-take zero t s = tt
scalars-take (suc n) [] s = tt
scalars-take (suc n) (c ∷ t) s = (s.0, scalars-take n t s.1)

units-take : (w : Bool) (k : ℕ) (part : List ℕ) → length (units_of w (take k part)) ≤ length (units_of w part)
units-take false k part = rw (units_of-narrow (take k part), units_of-narrow part) (simp length-take (omega arith))
units-take true k part =
    let h : length (take k part) ≤ length part = simp length-take (omega arith) in
    rw (units_of-length (take k part), units_of-length part) (omega arith)

suffix-room : (w : Bool) (part : List ℕ) → 13 ≤ length (base w part) → unit_size w * 13 ≤ length part
suffix-room false part h = omega (arith, base-length false part, ap length (units_of-narrow part))
suffix-room true part h = omega (arith, base-length true part, units_of-length part)

module _ (b : List ℕ) (own : Place) (d : Holds b own (text_at b own)) (h : ends_with (text_at b own) gen_variable ≡ true) where
  part_length : length (part_at b own) ≡ own.size
  part_length = length-take-le own.size (drop own.start b) (simp length-drop (omega (arith, d.inside)))

  text-long : 13 ≤ length (text_at b own)
  text-long =
      let t = text_at b own in
      let e : length t ≡ length (take (length t - length gen_variable) t ++ gen_variable) = ap length (ends-true t gen_variable h) in
      omega (arith, e, length-append (take (length t - length gen_variable) t) gen_variable)

  pub shorter-room : unit_size own.wide * 13 ≤ own.size
  shorter-room = rw part_length at (suffix-room own.wide (part_at b own) text-long)

  shorter-part : part_at b (shorter own) ≡ take (length (part_at b own) - unit_size own.wide * 13) (part_at b own)
  shorter-part = rw part_length (sym (take-take (own.size - unit_size own.wide * 13) own.size (drop own.start b) (omega arith)))

  shorter-text : Bytes b → decoded own.wide (part_at b (shorter own)) ≡ well (take (length (text_at b own) - length gen_variable) (text_at b own))
  shorter-text y =
      ap (decoded own.wide) shorter-part
      ∙ base-rest own.wide (part_at b own) gen_variable (bytes-part own.size own.start b y) d.well refl h

  pub shorter-holds : Bytes b → Holds b (shorter own) (take (length (text_at b own) - length gen_variable) (text_at b own))
  shorter-holds y =
      let e = shorter-text y in
      record {
        inside = omega (arith, d.inside);
        text = ap scalars e;
        well = ap is_well e;
        small = omega (arith, d.small);
        units = rw shorter-part (omega (arith, d.units, units-take own.wide (length (part_at b own) - unit_size own.wide * 13) (part_at b own)));
        scalars = scalars-take (length (text_at b own) - length gen_variable) (text_at b own) d.scalars;
      }

-- ---- a row's places

candidate-ends : (r : Read) (e : Export) → candidate_kind r e ≡ 1 → ends_with (base_of r e) gen_variable ≡ true
unfolding candidate_kind
candidate-ends r e h = go (ends_with (base_of r e) gen_variable) (option false (λ (u : Export). starts_with (base_of r u) default_start) (outer_of r e)) h
  where
    go : (s t : Bool) → ◌≡◌ {A = ℕ} (cond s 1 (cond t 2 0)) 1 → s ≡ true
    go true t h = refl
    go false true h = absurd (omega arith)
    go false false h = absurd (omega arith)

module _ {b : List ℕ} {p : Parts} (a : PackageIn b p) (y : Bytes b) (i : ℕ) (h : i < p.count) where
  abbrev e : Export
  e = export_no b i

  own-holds : Holds b (place_at b p.names e.index) (base_of (read_in b) e)
  own-holds = name-holds a y e.index (export-named a i h)

  -- in a package a row of any kind holds its names, where one of kind 1 has its ending
  pub kind-holds : (k : Maybe Candidate) → (k ≡ Some Variable → ends_with (base_of (read_in b) e) gen_variable ≡ true) → RowHolds b (row_in b p k i)
  unfolding row_in
  kind-holds k has = go (is_local p e.outer) refl
    where
      ends : k ≡ Some Variable → ends_with (text_at b (place_at b p.names e.index)) gen_variable ≡ true
      ends z = rw own-holds.text (has z)

      above : {n m : Name} → Holds b n.place (base_at b n) → ◌≡◌ {A = Maybe Name} (Some n) (Some m) → Holds b m.place (base_at b m)
      above {n} {m} d q = let z : n ≡ m = cc in rw z at d

      no_outer : {m : Name} → ◌≡◌ {A = Maybe Name} None (Some m) → Holds b m.place (base_at b m)
      no_outer q = never (cc)

      go : (l : Bool) → is_local p e.outer ≡ l → RowHolds b (row_with b p k e (outer_of (read_in b) e))
      go true q =
          let (g, u) = outer-some a e q in
          rw u (record { own = holds-own own-holds; outer = λ n z. above (holds-own (name-holds a y (export_no b e.outer).index (export-named a e.outer g))) z; ends = ends })
      go false q = rw (outer-none a e q) (record { own = holds-own own-holds; outer = λ n z. no_outer z; ends = ends })

  -- so does a candidate's, and that of an export which is no candidate
  pub row-holds : (k : Maybe Candidate) → candidate_number k ≡ candidate_kind (read_in b) e → RowHolds b (row_in b p k i)
  row-holds k c = kind-holds k (λ z. candidate-ends (read_in b) e (sym c ∙ ap candidate_number z))

  pub class-holds : RowHolds b (row_in b p None i)
  class-holds = kind-holds None (λ z. never (cc))

  -- and they are those of the row that document 01 has
  pub row-names : (k : Maybe Candidate) → candidate_number k ≡ candidate_kind (read_in b) e → names_at b (row_in b p k i)
      ≡ (text_bytes (instance_name (read_in b) e) ++ text_bytes (export_name (read_in b) e)) ++ text_bytes (outer_name (read_in b) e)
  unfolding names_at row_in instance_name
  row-names k c = go (is_local p e.outer) refl
    where
      is_kind : is_variable k ≡ eqb (candidate_kind (read_in b) e) 1
      is_kind = variable-is k ∙ ap (λ (n : ℕ). eqb n 1) c

      r : Read
      r = read_in b

      instance-is : (t : Bool) (f : List ℕ) → f ≡ base_of r e
          → cond t (take (length f - length gen_variable) f) f ++ suffix e.number
          ≡ cond t (take (length (base_of r e) - length gen_variable) (base_of r e) ++ suffix e.number) (export_name r e)
      instance-is true f q = rw q
      instance-is false f q = rw q

      first : text_bytes (cond (is_variable k) (take (length (text_at b (place_at b p.names e.index)) - length gen_variable) (text_at b (place_at b p.names e.index))) (text_at b (place_at b p.names e.index)) ++ suffix e.number)
          ++ text_bytes (text_at b (place_at b p.names e.index) ++ suffix e.number)
          ≡ text_bytes (cond (eqb (candidate_kind r e) 1) (take (length (base_of r e) - length gen_variable) (base_of r e) ++ suffix e.number) (export_name r e))
          ++ text_bytes (export_name r e)
      first = rw (is_kind, instance-is (eqb (candidate_kind r e) 1) (text_at b (place_at b p.names e.index)) own-holds.text, own-holds.text)

      go : (l : Bool) → is_local p e.outer ≡ l → names_at b (row_with b p k e (outer_of r e))
          ≡ (text_bytes (instance_name r e) ++ text_bytes (export_name r e)) ++ text_bytes (outer_name r e)
      go true q =
          let (g, u) = outer-some a e q in
          let t = (name-holds a y (export_no b e.outer).index (export-named a e.outer g)).text in
          rw (u, t, first)
      go false q = rw (outer-none a e q, first)

-- ---- how long the names are

cut-size : (t f g s : List ℕ) → t ≡ f ++ g → all_ascii g ≡ true → length (utf8 (f ++ s)) + length g ≡ length (utf8 (t ++ s))
cut-size t f g s e a =
    rw (e, utf8_append (f ++ g) s, utf8_append f g, utf8_append f s, utf8-ascii g a, length-append (utf8 f ++ g) (utf8 s), length-append (utf8 f) g, length-append (utf8 f) (utf8 s))
    (omega arith)

-- whether a candidate is of kind 1
pub variable-some : (k : Maybe Candidate) → is_variable k ≡ true → k ≡ Some Variable
variable-some None q = never (cc)
variable-some (Some Variable) q = refl
variable-some (Some Subobject) q = never (cc)

variable-other : (k : Maybe Candidate) → (k ≡ Some Variable → ⊥) → is_variable k ≡ false
variable-other None n = refl
variable-other (Some Variable) n = absurd (n refl)
variable-other (Some Subobject) n = refl

module _ {b : List ℕ} {w : Row} (d : RowHolds b w) where
  -- kind 1: the suffix's 13 bytes less
  pub instance-size : w.kind ≡ Some Variable → length (utf8 (instance_at b w)) + 13 ≡ length (utf8 (whole_at b w.own))
  instance-size k =
      let t = base_at b w.own in
      rw (ap is_variable k)
      (cut-size t (take (length t - length gen_variable) t) gen_variable (suffix w.own.number) (ends-true t gen_variable (d.ends k)) refl)

  pub instance-whole : (w.kind ≡ Some Variable → ⊥) → instance_at b w ≡ whole_at b w.own
  instance-whole k = rw (variable-other w.kind k)

  pub instance-room : w.kind ≡ Some Variable → unit_size w.own.place.wide * 13 ≤ w.own.place.size
  instance-room k = shorter-room b w.own.place d.own (d.ends k)

  -- the instance's place holds its base
  pub instance-holds : Bytes b → Holds b (instance_place w) (instance_base b w)
  unfolding instance_place
  instance-holds y = go (is_variable w.kind) refl
    where
      go : (t : Bool) → is_variable w.kind ≡ t
          → Holds b (cond t (shorter w.own.place) w.own.place) (cond t (take (length (base_at b w.own) - length gen_variable) (base_at b w.own)) (base_at b w.own))
      go true e = shorter-holds b w.own.place d.own (d.ends (variable-some w.kind e)) y
      go false e = d.own
