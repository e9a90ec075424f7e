-- The header that is written is 0 wherever document 01 passes over what stands there: part by part, as zen/Listed.antt lists the parts.
use Rattle.std.specs.Prelude.{◌≡◌, refl, List, [], ◌∷◌, ◌++◌, ℕ, zero, suc, ◌+◌, ◌*◌, ◌-◌, ◌/◌, ◌%◌, ◌^◌, ◌<◌, length, get_or, replicate}
use Rattle.std.proofs.Common.{◌∙◌, ap, append_assoc, append-nil, arith, ne_eqb}
use Rattle.std.proofs.lemmas.List.{length-map}
use Rattle.base.specs.Find.{flat}
use Rattle.base.specs.FindLaws.{length-each}
use Rattle.base.specs.Number.{le_bytes}
use Rattle.base.specs.NumberLaws.{length-le_bytes}
use Rattle.base.specs.Never.{never}
use Rattle.base.specs.Perm.{All}
use Rattle.base.specs.ReadingMarks.{Mark, whole, low, none}
use Rattle.base.specs.ReadingTrail.{copies}
use Rattle.written.specs.BatchBytes.{le4, le8, string_bytes, head_bytes, some_bytes, batch_bytes}
use Rattle.written.specs.HeaderBytes.{ImportedName, Description, imported_texts, export_bytes, imported_bytes, hashes_start, exports_start, imported_start, header_size}
use Rattle.written.specs.HeaderBytes.{offsets_of, summary_bytes, content_bytes, header_with, header_of}
use Rattle.zen.specs.Listed.{name_marks, batch_marks, summary_marks, export_marks, table_marks, header_marks, package_marks}
use Rattle.zen.specs.declared.tables.Export.{Export}
use Rattle.description.specs.Zeroed.{Zero, Zeroed, ends, next}
use Rattle.description.specs.BatchFront.{names_for, batch_size, length-head}
use Rattle.description.specs.HeaderFront.{ExportFits}
use Rattle.description.specs.HeaderBack.{Good, starts, read_for, number_bytes, length-header, names-few}

-- ---- parts and what they make together

pub zeroed_append : {ms ns : List Mark} {s t : List ℕ} → Zeroed ms s → Zeroed ns t → Zeroed (ms ++ ns) (s ++ t)
zeroed_append ends z = z
zeroed_append (next h y) z = next h (zeroed_append y z)

-- by position: a byte that doesn't count is 0
pub zeroed_at : {ms : List Mark} {s : List ℕ} → Zeroed ms s → (i : ℕ) → get_or ms i whole ≡ none → get_or s i 0 ≡ 0
zeroed_at ends i e = refl
zeroed_at (next {m} {x} h z) zero e = first m h e
  where
    first : (m : Mark) → Zero m x → m ≡ none → x ≡ 0
    first whole h e = never (cc)
    first (low k) h e = never (cc)
    first none h e = h
zeroed_at (next h z) (suc i) e = zeroed_at z i e

-- there is a mark for each byte
pub zeroed_length : {ms : List Mark} {s : List ℕ} → Zeroed ms s → length ms ≡ length s
zeroed_length ends = refl
zeroed_length (next h z) = ap suc (zeroed_length z)

wholes : (s : List ℕ) → Zeroed (replicate (length s) whole) s
wholes [] = ends
wholes (x ∷ s) = next tt (wholes s)

zeroed_whole : (n : ℕ) (s : List ℕ) → length s ≡ n → Zeroed (replicate n whole) s
zeroed_whole n s e = rw (← e) (wholes s)

zeroed_none : (n : ℕ) → Zeroed (replicate n none) (replicate n 0)
zeroed_none zero = ends
zeroed_none (suc n) = next refl (zeroed_none n)

zeroed_each : {X : Type 0} (Ok : X → Type 0) (ms : List Mark) (f : X → List ℕ) → ((x : X) → Ok x → Zeroed ms (f x)) → (xs : List X) → All Ok xs
    → Zeroed (copies (length xs) ms) (flat f xs)
zeroed_each Ok ms f one [] ok = ends
zeroed_each Ok ms f one (x ∷ xs) ok = zeroed_append (one x ok.0) (zeroed_each Ok ms f one xs ok.1)

-- ---- the parts of a header

eight-zeros : le8 0 ≡ replicate 8 0
unfolding le_bytes
eight-zeros = refl

none_8 : Zeroed (replicate 8 none) (le8 0)
none_8 = rw eight-zeros (zeroed_none 8)

-- a mapped name
zeroed_name : (index number : ℕ) → index < 2 ^ 30 → Zeroed name_marks (le4 index ++ le4 number)
unfolding name_marks le_bytes
zeroed_name index number h =
    let top : index / 256 / 256 / 256 % 256 < 2 ^ 6 = omega arith in
    next tt (next tt (next tt (next {m = low 6} top (next tt (next tt (next tt (next tt ends)))))))

-- an export
export-parts : (e : Export) → export_bytes e
    ≡ (le8 0 ++ le8 0)
    ++ ((le4 e.index ++ le4 e.number) ++ ((le8 e.outer ++ (le8 e.class ++ le8 e.parent)) ++ (le8 0 ++ (le8 e.hash ++ (le8 0 ++ [])))))
unfolding export_bytes
export-parts e = simp (append_assoc, append-nil)

three : (x y z : ℕ) → length (le8 x ++ (le8 y ++ le8 z)) ≡ 24
unfolding le_bytes
three x y z = refl

zeroed_export : (e : Export) → ExportFits e → Zeroed export_marks (export_bytes e)
unfolding export_marks
zeroed_export e f =
    rw (export-parts e)
    (zeroed_append (zeroed_append none_8 none_8)
    (zeroed_append (zeroed_name e.index e.number f.index)
    (zeroed_append (zeroed_whole 24 (le8 e.outer ++ (le8 e.class ++ le8 e.parent)) (three e.outer e.class e.parent))
    (zeroed_append none_8 (zeroed_append (zeroed_whole 8 (le8 e.hash) (length-le_bytes 8 e.hash)) (zeroed_append none_8 ends))))))

-- a batch
some-parts : (ts : List (List ℕ)) → some_bytes ts
    ≡ (le4 (length ts) ++ (le4 (length (flat string_bytes ts)) ++ le8 0xC1640000))
    ++ (replicate (8 * length ts) 0 ++ (flat head_bytes ts ++ (flat string_bytes ts ++ [])))
unfolding some_bytes
some-parts ts = simp (append_assoc, append-nil)

sixteen : (x y z : ℕ) → length (le4 x ++ (le4 y ++ le8 z)) ≡ 16
unfolding le_bytes
sixteen x y z = refl

zeroed_batch : (at : ℕ) (ts : List (List ℕ)) → Zeroed (batch_marks (names_for at ts)) (batch_bytes ts)
unfolding batch_marks batch_bytes
zeroed_batch at [] = zeroed_whole 4 (le4 0) (length-le_bytes 4 0)
zeroed_batch at (t ∷ ts) =
    let l = t ∷ ts in
    let n = length l in
    let s = flat string_bytes l in
    let room : at + 16 + 8 * n + 2 * n + length s - (at + 16 + 8 * n + 2 * n) ≡ length s = omega arith in
    rw (ne_eqb n 0 (λ e. omega arith), room, some-parts l)
    (zeroed_append (zeroed_whole 16 (le4 n ++ (le4 (length s) ++ le8 0xC1640000)) (sixteen n (length s) 0xC1640000))
    (zeroed_append (zeroed_none (8 * n))
    (zeroed_append (zeroed_whole (2 * n) (flat head_bytes l) (length-each head_bytes 2 length-head l)) (zeroed_append (wholes s) ends))))

-- the summary
summary-parts : (d : Description) → summary_bytes (header_size d) (offsets_of d) d
    ≡ (le4 0 ++ le4 (header_size d)) ++ ((le4 d.name ++ le4 d.number) ++ ((le4 0 ++ le4 0) ++ (flat le4 (offsets_of d) ++ [])))
unfolding summary_bytes
summary-parts d = simp (append_assoc, append-nil)

eight : (x y : ℕ) → length (le4 x ++ le4 y) ≡ 8
unfolding le_bytes
eight x y = refl

four-zeros : le4 0 ++ le4 0 ≡ replicate 8 0
unfolding le_bytes
four-zeros = refl

length_offsets : (d : Description) → length (flat le4 (offsets_of d)) ≡ 28
unfolding offsets_of le_bytes
length_offsets d = refl

zeroed_summary : (d : Description) → d.name < 2 ^ 30 → Zeroed summary_marks (summary_bytes (header_size d) (offsets_of d) d)
unfolding summary_marks
zeroed_summary d h =
    rw (summary-parts d, four-zeros)
    (zeroed_append (zeroed_whole 8 (le4 0 ++ le4 (header_size d)) (eight 0 (header_size d)))
    (zeroed_append (zeroed_name d.name d.number h)
    (zeroed_append (zeroed_none 8) (zeroed_append (zeroed_whole 28 (flat le4 (offsets_of d)) (length_offsets d)) ends))))

-- the tables
names_end : (at : ℕ) (ts : List (List ℕ)) → (names_for at ts).«end» ≡ at + batch_size ts
names_end at [] = refl
names_end at (t ∷ ts) = omega arith

zeroed_tables : (d : Description) → All ExportFits d.exports
    → Zeroed (table_marks (read_for d).layout) (le8 0 ++ (flat le8 d.hashes ++ (flat export_bytes d.exports ++ [])))
unfolding table_marks
zeroed_tables d f =
    let s = starts d in
    let bulk : hashes_start d - ((names_for 52 d.texts).«end» + 8) ≡ 0 = omega (arith, names_end 52 d.texts, s.hashes) in
    let hashes : exports_start d - hashes_start d ≡ 8 * length d.hashes = omega (arith, s.exports) in
    let imports : exports_start d - exports_start d ≡ 0 = omega arith in
    let exports : (imported_start d - exports_start d) / 72 ≡ length d.exports = omega (arith, s.imported) in
    let bundles : imported_start d - imported_start d ≡ 0 = omega arith in
    rw (bulk, hashes, imports, exports, bundles)
    (zeroed_append (zeroed_whole 8 (le8 0) (length-le_bytes 8 0))
    (zeroed_append (zeroed_whole (8 * length d.hashes) (flat le8 d.hashes) (length-each le8 8 (length-le_bytes 8) d.hashes))
    (zeroed_append (zeroed_each ExportFits export_marks export_bytes zeroed_export d.exports f) ends)))

-- ---- the whole

header-parts : (d : Description) → header_of d
    ≡ summary_bytes (header_size d) (offsets_of d) d
    ++ (batch_bytes d.texts ++ ((le8 0 ++ (flat le8 d.hashes ++ (flat export_bytes d.exports ++ [])))
    ++ (batch_bytes (imported_texts d.imported) ++ (flat number_bytes d.imported ++ []))))
unfolding header_of header_with content_bytes imported_bytes
header-parts d = simp (append_assoc, append-nil)

imported_count_lem : (d : Description) → (names_for (imported_start d) (imported_texts d.imported)).count ≡ length d.imported
imported_count_lem d = go (imported_texts d.imported) ∙ length-map d.imported (λ (i : ImportedName). i.text)
  where
    go : (ts : List (List ℕ)) → (names_for (imported_start d) ts).count ≡ length ts
    go [] = refl
    go (t ∷ ts) = refl

-- THE LAW: the marks are those of what is read of it
pub header_zeroed : (d : Description) → Good d → Zeroed (package_marks (read_for d).layout (length (header_of d))) (header_of d)
unfolding package_marks header_marks
header_zeroed d g =
    let none-behind : length (header_of d) - header_size d ≡ 0 = omega (arith, length-header d) in
    let numbers : length (flat number_bytes d.imported) ≡ 4 * length d.imported =
    length-each number_bytes 4 (λ (i : ImportedName). length-le_bytes 4 i.number) d.imported in
    rw (none-behind, imported_count_lem d, header-parts d, append-nil)
    (zeroed_append (zeroed_summary d (omega (arith, g.name, (names-few d g).0)))
    (zeroed_append (zeroed_batch 52 d.texts)
    (zeroed_append (zeroed_tables d g.exports)
    (zeroed_append (zeroed_batch (imported_start d) (imported_texts d.imported))
    (zeroed_append (zeroed_whole (4 * length d.imported) (flat number_bytes d.imported) numbers) ends)))))
