-- Laws of slashing: it commutes with lowering, and bytes are slashed unit by unit. Assumes nothing.
use Rattle.std.specs.Prelude.{◌≡◌, refl, Bool, true, ◌⊎◌, List, [], ◌∷◌, ◌++◌, map, ℕ, zero, suc, ◌+◌, ◌/◌, ◌%◌, ◌≤◌, ◌<◌, ltb, length, get_or, set, take, drop}
use Rattle.std.proofs.Common.{sym, ◌∙◌, ap, inl, inr, append_assoc, add-one, arith, eq-eqb, ne_eqb, ltb-true, length-append, take-append-drop, drop-cons, take_at, drop_at, length-take-le}
use Rattle.std.proofs.Math.Logic.{by_cases}
use Rattle.std.proofs.lemmas.List.{map-append, length-map}
use Rattle.std.proofs.Math.Decide.{ℕ_discrete}
use Rattle.std.proofs.lemmas.List.Edits.{sets-eq}
use Rattle.lower.specs.Table.{pairs}
use Rattle.lower.specs.Lower.{second_of, lower, lowered}
use Rattle.lower.proofs.LowerLaws.{lower-is}
use Rattle.lower.proofs.AsciiLaws.{ascii-below}
use Rattle.rules.specs.LatinLaws.{lower_ascii_lem}
use Rattle.lower.specs.SearchLaws.{every, second-every}
use Rattle.text.specs.UnitBytesLaws.{unit_bytes-length}
use Rattle.text.specs.Name.{suffix}
use Rattle.base.specs.Output.{over, Wrote}
use Rattle.ids.specs.LoweredUnits.{name_units}
use Rattle.text.specs.Utf16.{encode16, unit_bytes}
use Rattle.meaning.specs.PathUnits.{path_units}
use Rattle.meaning.proofs.PathUnits.{units-name, slashed-units, suffix-slashed}
use Rattle.meaning.specs.Verify.{slash, slashed}
use Rattle.hashes.specs.Slash.{slash_low, slash_bytes}

-- ---- lowering

-- no second of the table is `.` or `:`: all are above
above : ℕ → ℕ → Bool
above a b = ltb 0x3A b

seconds_above : every above pairs ≡ true
unfolding pairs every above
seconds_above = refl

lower-plain : (c : ℕ) → c < 65 → lower c ≡ c
lower-plain c h = lower_ascii_lem c (omega arith) ∙ ascii-below c h

other : (c : ℕ) → (c ≡ 0x2E → ⊥) → (c ≡ 0x3A → ⊥) → slash c ≡ c
other c dot colon = rw (ne_eqb c 0x2E dot, ne_eqb c 0x3A colon)

slash-lower : (c : ℕ) → slash (lower c) ≡ lower (slash c)
unfolding above
slash-lower c =
    by_cases (ℕ_discrete c 0x2E)
    (λ (d : c ≡ 0x2E). rw (d, lower-plain 0x2E (omega arith), lower-plain 0x2F (omega arith)))
    (λ (d : ¬ (c ≡ 0x2E)). by_cases (ℕ_discrete c 0x3A)
    (λ (e : c ≡ 0x3A). rw (e, lower-plain 0x3A (omega arith), lower-plain 0x2F (omega arith)))
    (λ (e : ¬ (c ≡ 0x3A)). rw (other c d e) (go d e (second-every above pairs seconds_above c))))
  where
    go : (c ≡ 0x2E → ⊥) → (c ≡ 0x3A → ⊥) → (second_of c pairs ≡ c) ⊎ (above c (second_of c pairs) ≡ true) → slash (lower c) ≡ lower c
    go d e (inl q) = rw (lower-is c ∙ q) (other c d e)
    go d e (inr q) = let l : 0x3A < lower c = rw (lower-is c) (ltb-true 0x3A (second_of c pairs) q) in other (lower c) (λ z. omega arith) (λ z. omega arith)

slash-lowered : (t : List ℕ) → slashed (lowered t) ≡ lowered (slashed t)
slash-lowered [] = refl
slash-lowered (c ∷ t) = rw (slash-lower c, slash-lowered t)

-- the units of a rendered name in a path are the lowered name's, slashed
pub name-slashed : (base : List ℕ) (number : ℕ) → map slash (name_units base (suffix number)) ≡ path_units (base ++ suffix number)
unfolding name_units
name-slashed base number =
    map-append slash (encode16 (lowered base)) (suffix number)
    ∙ rw (suffix-slashed number, ← slashed-units (lowered base), slash-lowered base) (sym (units-name base number))

-- ---- bytes

slash-byte : (u : ℕ) → slash_low (u % 256) (u / 256) ≡ slash u % 256
slash-byte u =
    by_cases (ℕ_discrete u 0x2E)
    (λ (d : u ≡ 0x2E). rw d)
    (λ (d : ¬ (u ≡ 0x2E)). by_cases (ℕ_discrete u 0x3A)
    (λ (e : u ≡ 0x3A). rw e)
    (λ (e : ¬ (u ≡ 0x3A)). rw (other u d e) (by_cases (ℕ_discrete (u / 256) 0)
    (λ (z : u / 256 ≡ 0). rw (eq-eqb (u / 256) 0 z, ne_eqb (u % 256) 0x2E (λ q. d (omega arith)), ne_eqb (u % 256) 0x3A (λ q. e (omega arith))))
    (λ (z : ¬ (u / 256 ≡ 0)). rw (ne_eqb (u / 256) 0 z)))))

slash-high : (u : ℕ) → slash u / 256 ≡ u / 256
slash-high u =
    by_cases (ℕ_discrete u 0x2E)
    (λ (d : u ≡ 0x2E). rw d)
    (λ (d : ¬ (u ≡ 0x2E)). by_cases (ℕ_discrete u 0x3A)
    (λ (e : u ≡ 0x3A). rw e)
    (λ (e : ¬ (u ≡ 0x3A)). rw (other u d e)))

-- units that were written, slashed where they stand
pub bytes-slashed : (us rest : List ℕ) → slash_bytes (length us) (unit_bytes us ++ rest) ≡ unit_bytes (map slash us) ++ rest
unfolding slash_bytes
bytes-slashed [] rest = refl
bytes-slashed (u ∷ us) rest = rw (slash-byte u, slash-high u, bytes-slashed us rest)

-- one unit more, of those from a place on
pub slash-step : (o : List ℕ) (at m : ℕ) {v : ℕ} → at + 2 ≤ length o → v ≡ slash_low (get_or o at 0) (get_or o (at + 1) 0)
    → take (at + 2) (set o at v) ++ slash_bytes m (drop (at + 2) (set o at v)) ≡ take at o ++ slash_bytes (suc m) (drop at o)
unfolding slash_bytes
slash-step o at m {v} h e =
    let high : ℕ = get_or o (at + 1) 0 in
    let p : List ℕ = take at o ++ (v ∷ high ∷ []) in
    let l : length p ≡ at + 2 = length-append (take at o) (v ∷ high ∷ []) ∙ ap (λ (n : ℕ). n + 2) (length-take-le at o (omega arith)) in
    let one : at + 1 ≡ suc at = add-one at in
    let two : suc (suc at) ≡ at + 2 = omega arith in
    let behind : drop (suc at) o ≡ high ∷ drop (at + 2) o = drop-cons o (suc at) 0 (omega arith) ∙ rw (two, ← one) in
    let stored : set o at v ≡ p ++ drop (at + 2) o =
    sets-eq (v ∷ []) o at (omega arith) ∙ ap (λ (r : List ℕ). (take at o ++ (v ∷ [])) ++ r) (ap (λ (i : ℕ). drop i o) one ∙ behind)
    ∙ (append_assoc (take at o) (v ∷ []) (high ∷ drop (at + 2) o) ∙ sym (append_assoc (take at o) (v ∷ high ∷ []) (drop (at + 2) o))) in
    let there : drop at o ≡ get_or o at 0 ∷ high ∷ drop (at + 2) o = drop-cons o at 0 (omega arith) ∙ ap (λ (r : List ℕ). get_or o at 0 ∷ r) behind in
    rw (stored, take_at p (drop (at + 2) o) (at + 2) l, drop_at p (drop (at + 2) o) (at + 2) l, there, ← e)
    (append_assoc (take at o) (v ∷ high ∷ []) (slash_bytes m (drop (at + 2) o)))

pub slash_end : (o : List ℕ) (at left : ℕ) → left ≤ 0 → take at o ++ slash_bytes left (drop at o) ≡ o
unfolding slash_bytes
slash_end o at zero h = take-append-drop at o
slash_end o at (suc left) h = absurd (omega arith)

pub slash-length : (n : ℕ) (s : List ℕ) → length (slash_bytes n s) ≡ length s
unfolding slash_bytes
slash-length zero s = refl
slash-length (suc n) [] = refl
slash-length (suc n) (low ∷ []) = refl
slash-length (suc n) (low ∷ high ∷ s) = rw (slash-length n s)

-- units that were written and then slashed
pub slashed-wrote : {s o o' : List ℕ} {r n : ℕ} (us : List ℕ) → Wrote s (unit_bytes us) o r → length us ≡ n → o' ≡ slash_bytes n o
    → Wrote s (unit_bytes (map slash us)) o' r
unfolding over
slashed-wrote {s} {o} {o'} {r} {n} us w l e =
    let k : length (unit_bytes (map slash us)) ≡ length (unit_bytes us) = rw (unit_bytes-length (map slash us), unit_bytes-length us, length-map us slash) in
    record {
      size = w.size ∙ sym k;
      fits = w.fits;
      is = e ∙ rw (w.is, ← l, k) (bytes-slashed us (drop (length (unit_bytes us)) s));
    }
