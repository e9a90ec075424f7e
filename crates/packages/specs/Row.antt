-- A candidate as code has it: its kind, where its name and its outer's are, its class index (document 01: "texts instance, export rendered,
-- outer rendered (empty without one)"). Assumes nothing.
use Rattle.std.specs.Prelude.{◌≡◌, Bool, true, cond, ◌&&◌, List, [], ◌++◌, ℕ, ◌+◌, ◌*◌, ◌-◌, ltb, eqb, length, take, get_or, Option as Maybe, Some, None}
use Rattle.std.proofs.Math.Option.{Option, none, some}
use Rattle.text.specs.Affix.{ends_with}
use Rattle.text.specs.AffixLaws.{unit_size}
use Rattle.base.specs.Index.{kind}
use Rattle.text.specs.Name.{suffix, text_bytes}
use Rattle.text.specs.Utf8.{utf8}
use Rattle.batch.specs.Holds.{Holds, text_at, name_at}
use Rattle.batch.specs.Places.{place_at}
use Rattle.batch.specs.declared.places.Place.{Place}
use Rattle.zen.specs.Zen.{no_export}
use Rattle.zen.specs.declared.tables.Export.{Export}
use Rattle.meaning.specs.Scan.{outer_of, gen_variable}
use Rattle.packages.specs.Kinds.{is_variable}
use Rattle.packages.specs.Package.{read_in}
use Rattle.batch.specs.declared.places.Name.{Name}
use Rattle.packages.specs.declared.package.Parts.{Parts}
use Rattle.packages.specs.declared.rows.Candidate.{Candidate}
use Rattle.packages.specs.declared.rows.Candidate.TheVariants.{Variable}
use Rattle.packages.specs.declared.rows.Row.{Row}

-- export i of a block
abbrev pub export_no : List ℕ → ℕ → Export
export_no b i = get_or (read_in b).exports i no_export

-- "the export an outer of kind 0 points at, if it exists"
abbrev pub is_local : Parts → ℕ → Bool
is_local p x = eqb (kind x) 0 && ltb x p.count

-- where an export's name is, and its number
abbrev pub name_in : List ℕ → Parts → Export → Name
name_in b p e = record { place = place_at b p.names e.index; number = e.number }

-- where the package's own name is, and its number
abbrev pub home_in : List ℕ → Parts → Name
home_in b p = record { place = place_at b p.names (read_in b).layout.summary.index; number = (read_in b).layout.summary.number }

-- export e as a candidate of kind k
abbrev pub outer_in : List ℕ → Parts → Option Export → Maybe Name
outer_in b p none = None
outer_in b p (some u) = Some (name_in b p u)

abbrev pub row_with : List ℕ → Parts → Maybe Candidate → Export → Option Export → Row
row_with b p k e u = record { kind = k; own = name_in b p e; outer = outer_in b p u; class = e.class }

unfoldable pub row_in : List ℕ → Parts → Maybe Candidate → ℕ → Row
row_in b p k i = row_with b p k (export_no b i) (outer_of (read_in b) (export_no b i))

-- the text at a name's place, and the name
abbrev pub base_at : List ℕ → Name → List ℕ
base_at b n = text_at b n.place

abbrev pub whole_at : List ℕ → Name → List ℕ
whole_at b n = name_at b n.place n.number

-- the instance: "kind 1: instance is the rest, with the number's suffix if the number isn't 0"; its base, and where that is
abbrev pub instance_base : List ℕ → Row → List ℕ
instance_base b w = cond (is_variable w.kind) (take (length (base_at b w.own) - length gen_variable) (base_at b w.own)) (base_at b w.own)

abbrev pub instance_at : List ℕ → Row → List ℕ
instance_at b w = instance_base b w ++ suffix w.own.number

abbrev pub shorter : Place → Place
shorter p = record { start = p.start; size = p.size - unit_size p.wide * 13; wide = p.wide }

unfoldable pub instance_place : Row → Place
instance_place w = cond (is_variable w.kind) (shorter w.own.place) w.own.place

-- the outer's name, or nothing
abbrev pub outer_text : List ℕ → Maybe Name → List ℕ
outer_text b None = []
outer_text b (Some u) = whole_at b u

abbrev pub outer_at : List ℕ → Row → List ℕ
outer_at b w = outer_text b w.outer

-- where the outer's name starts, or without one the row's own
abbrev pub start_or : ℕ → Maybe Name → ℕ
start_or n None = n
start_or n (Some u) = u.place.start

abbrev pub outer_start : Row → ℕ
outer_start w = start_or w.own.place.start w.outer

-- the three texts, and how many bytes they take without their lengths
unfoldable pub names_at : List ℕ → Row → List ℕ
names_at b w = (text_bytes (instance_at b w) ++ text_bytes (whole_at b w.own)) ++ text_bytes (outer_at b w)

unfoldable pub names_size : List ℕ → Row → ℕ
names_size b w = length (utf8 (instance_at b w)) + length (utf8 (whole_at b w.own)) + length (utf8 (outer_at b w))

-- the places of a row hold texts, and a candidate of kind 1 ends in its suffix
pub record RowHolds (b : List ℕ) (w : Row) : Type 0 where
  pub own : Holds b w.own.place (base_at b w.own)
  pub outer : (u : Name) → w.outer ≡ Some u → Holds b u.place (base_at b u)
  pub ends : w.kind ≡ Some Variable → ends_with (base_at b w.own) gen_variable ≡ true
