-- For demand 2: the packages of an accepted corpus are what its blocks read as, in corpus order; the key
-- that a reference means; and that each package's section stands in the report.
use Rattle.std.specs.Prelude.{◌≡◌, refl, ℕ, length}
use Rattle.std.proofs.Common.{◌∙◌}
use mathlib.Core.List.{List, [], ◌∷◌, ◌++◌, append_assoc, Memᴰ}
use Rattle.std.proofs.Math.Option.{some}
use Rattle.base.specs.Find.{get, flat}
use Rattle.base.specs.FindLaws.{flat-member}
use Rattle.base.specs.House.{length_first}
use Rattle.ids.specs.Id.{id_of}
use Rattle.base.specs.Index.{kind, import_name, import_hash}
use Rattle.base.specs.Number.{be_bytes}
use Rattle.base.specs.Perm.{All, Each}
use Rattle.base.specs.Reading.{gives, run_block}
use Rattle.zen.specs.Zen.{package_block, imported_name}
use Rattle.zen.specs.declared.tables.Export.{Export}
use Rattle.meaning.specs.Frame.{Part}
use Rattle.meaning.specs.Key.{public}
use Rattle.meaning.specs.Reference.{Package, ref_in, meant}
use Rattle.meaning.specs.Report.{report_version}
use Rattle.meaning.specs.Accepted.{Good, read_of}
use Rattle.meaning.specs.Rows.{Inside}

-- a package with its id, as its block is read
abbrev pub ReadAs : Part → Package → Type 0
ReadAs p q = (q.id ≡ p.id) × (run_block package_block p.block ≡ gives q.read)

-- so are those of an accepted corpus
pub all_read : (l : List Part) → All Good l → Each ReadAs l (flat read_of l)
unfolding read_of
all_read [] g = tt
all_read (p ∷ l) g = rw g.0.1 ((refl, g.0.1), all_read l g.1)

-- "It means key (id of imported name p, hash h)"
pub import-key : (p : Package) (x : ℕ) {name : List ℕ} {hash : ℕ} → kind x ≡ 2 → get p.read.imported (import_name x) ≡ some name
    → get p.read.hashes (import_hash x) ≡ some hash → meant (ref_in p x) ≡ some (public (id_of (imported_name p.read (import_name x))) hash)
unfolding ref_in
import-key p x k n h = rw (k, n, h)

-- "Kind 0 means the same package's export, numbered from 0: key (own id, its hash)"
pub export-key : (p : Package) (x : ℕ) {e : Export} → kind x ≡ 0 → get p.read.exports x ≡ some e → meant (ref_in p x) ≡ some (public p.id e.hash)
unfolding ref_in
export-key p x k e = rw (k, e)

-- the section of each package stands in the report
pub every-section : (f : Package → List ℕ) (ps : List Package) (report : List ℕ) → report ≡ length_first (report_version ∷ (be_bytes 4 (length ps) ++ flat f ps))
    → {p : Package} → Memᴰ p ps → Inside (λ bytes. bytes ≡ f p) report
every-section f ps report e {p} m =
    let (front, back, is) = flat-member f m in
    let n = length (report_version ∷ (be_bytes 4 (length ps) ++ flat f ps)) in
    (be_bytes 4 n ++ (report_version ∷ (be_bytes 4 (length ps) ++ front)), f p, back, e ∙ rw is (simp append_assoc), refl)
