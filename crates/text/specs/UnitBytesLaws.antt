-- Laws of the bytes of units, in parts. Assumes nothing.
use Rattle.std.specs.Prelude.{◌≡◌, refl, List, [], ◌∷◌, ◌++◌, ℕ, zero, suc, ◌+◌, ◌*◌, ◌/◌, ◌%◌, ◌≤◌, length, take, drop, set}
use Rattle.std.proofs.Common.{append_assoc, arith}
use Rattle.base.specs.Output.{Wrote}
use Rattle.base.specs.OutputLaws.{wrote_as, wrote-byte, wrote_count}
use Rattle.text.specs.Utf16.{unit_bytes}

pub twice : (n : ℕ) → 2 * suc n ≡ suc (suc (2 * n))
twice n = omega arith

pub unit_bytes-length : (us : List ℕ) → length (unit_bytes us) ≡ 2 * length us
unit_bytes-length [] = refl
unit_bytes-length (u ∷ us) = rw (unit_bytes-length us, twice)

pub unit_bytes_append : (us vs : List ℕ) → unit_bytes (us ++ vs) ≡ unit_bytes us ++ unit_bytes vs
unit_bytes_append [] vs = refl
unit_bytes_append (u ∷ us) vs = rw (unit_bytes_append us vs)

pub unit_bytes-take : (n : ℕ) (us : List ℕ) → unit_bytes (take n us) ≡ take (2 * n) (unit_bytes us)
unit_bytes-take zero us = refl
unit_bytes-take (suc n) [] = rw twice
unit_bytes-take (suc n) (u ∷ us) = rw (twice, unit_bytes-take n us)

pub unit_bytes-drop : (n : ℕ) (us : List ℕ) → unit_bytes (drop n us) ≡ drop (2 * n) (unit_bytes us)
unit_bytes-drop zero us = refl
unit_bytes-drop (suc n) [] = rw twice
unit_bytes-drop (suc n) (u ∷ us) = rw (twice, unit_bytes-drop n us)

-- one unit more behind what was written, from any byte on, and from unit i on
pub wrote-behind : {s x o : List ℕ} {at : ℕ} (u : ℕ) → Wrote s x o at → at + 2 ≤ length s
    → Wrote s (x ++ u % 256 ∷ u / 256 ∷ []) (set (set o at (u % 256)) (at + 1) (u / 256)) (at + 2)
wrote-behind {x = x} u w h =
    wrote_count (wrote_as (wrote-byte (wrote-byte w (omega arith) (u % 256)) (omega arith) (u / 256)) (append_assoc x (u % 256 ∷ []) (u / 256 ∷ []))) (omega arith)

pub wrote-one : {s x o p : List ℕ} (i u : ℕ) → Wrote s x o (2 * i) → 2 * i + 2 ≤ length s → p ≡ set (set o (2 * i) (u % 256)) (2 * i + 1) (u / 256)
    → Wrote s (x ++ u % 256 ∷ u / 256 ∷ []) p (2 * (i + 1))
wrote-one i u w h e = rw e (wrote_count (wrote-behind u w h) (omega arith))
