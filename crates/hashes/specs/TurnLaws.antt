-- Laws of the hash's turns over parts of a text. Assumes nothing.
use Rattle.std.specs.Prelude.{◌≡◌, refl, List, ◌++◌, ℕ, zero, suc, ◌+◌, ◌-◌, ◌*◌, ◌/◌, ◌≤◌, ◌<◌, min, length, take, drop}
use Rattle.std.proofs.Common.{sym, ◌∙◌, ap, suc-add, zero-add, arith, drop-drop, take-take, take_at, drop_at, length-append}
use Rattle.std.proofs.Math.Logic.{by_cases}
use Rattle.std.proofs.Math.Decide.{dec_lt}
use Rattle.city.specs.City.{turn, turns, start, finish, city_hash64}
use Rattle.city.specs.CityLaws.{turn-front, turns-step, turns_end, long-is}
use Rattle.text.specs.UnitBytesLaws.{unit_bytes-length, unit_bytes-take, unit_bytes-drop}
use Rattle.base.specs.Number.{le_at}
use Rattle.base.specs.NumberLaws.{drop-take, le_at-part}
use Rattle.text.specs.Utf16.{unit_bytes}
use Rattle.city.specs.declared.city.State.{State}

-- k turns read 64 k bytes
pub turns-front : (k m : ℕ) (s : List ℕ) (t : State) → 64 * k ≤ m → turns k (take m s) t ≡ turns k s t
unfolding turns
turns-front zero m s t h = refl
turns-front (suc k) m s t h =
    let e : turn (take m s) t ≡ turn s t = sym (turn-front (take m s) t) ∙ rw (take-take 64 m s (omega arith)) (turn-front s t) in
    rw (e, drop-take 64 m s) (turns-front k (m - 64) (drop 64 s) (turn s t) (omega arith))

-- m turns, and then k
pub turns-add : (m k : ℕ) (s : List ℕ) (t : State) → turns (m + k) s t ≡ turns k (drop (64 * m) s) (turns m s t)
unfolding turns
turns-add zero k s t = rw (zero-add k)
turns-add (suc m) k s t =
    let e : 64 + 64 * m ≡ 64 * suc m = omega arith in
    rw (suc-add m k, turns-add m k (drop 64 s) (turn s t), drop-drop (64 * m) 64 s, e)

-- as a loop over units has it: some of the turns that are left
pub turns-some : (left count from : ℕ) (s : List ℕ) (t : State) → count ≤ left
    → turns (left - count) (drop (2 * (from + 32 * count)) s) (turns count (drop (2 * from) s) t) ≡ turns left (drop (2 * from) s) t
turns-some left count from s t h =
    let a : count + (left - count) ≡ left = omega arith in
    let d : 2 * (from + 32 * count) ≡ 2 * from + 64 * count = omega arith in
    sym (ap (λ (n : ℕ). turns n (drop (2 * from) s) t) (sym a) ∙ turns-add count (left - count) (drop (2 * from) s) t
    ∙ rw (drop-drop (64 * count) (2 * from) s, d))

-- the turn over the first 64 bytes, and the rest
pub turns_chunk : (x s : List ℕ) (t : State) → length x ≡ 64 → turns (length (x ++ s) / 64) (x ++ s) t ≡ turns (length s / 64) s (turn x t)
turns_chunk x s t h =
    let e : length (x ++ s) / 64 ≡ suc (length s / 64) = rw (length-append x s) (omega arith) in
    rw (e, turns-step (length s / 64) (x ++ s) t, take_at x s 64 h, drop_at x s 64 h)

-- up to 16 of those left, as a loop in steps of 16 has it
pub turns-step16 : (all i count : ℕ) (s : List ℕ) (t : State) → count ≡ min (all - i) 16
    → turns (all - (i + 16)) (drop (64 * (i + 16)) s) (turns count (drop (2 * (32 * i)) s) t) ≡ turns (all - i) (drop (64 * i) s) t
turns-step16 all i count s t e =
    let m : 2 * (32 * i) ≡ 64 * i = omega arith in
    let h = turns-some (all - i) count (32 * i) s t (omega arith) in
    by_cases (dec_lt (all - i) 16)
    (λ (g : all - i < 16).
    let a : all - i - count ≡ 0 = omega arith in
    let b : all - (i + 16) ≡ 0 = omega arith in
    let x : turns 0 (drop (2 * (32 * i + 32 * count)) s) (turns count (drop (2 * (32 * i)) s) t) ≡ turns (all - i) (drop (2 * (32 * i)) s) t = rw a at h in
    rw b (turns_end 0 _ _ (omega arith) ∙ (sym (turns_end 0 _ _ (omega arith)) ∙ (x ∙ rw m))))
    (λ (g : ¬ (all - i < 16)).
    let c : count ≡ 16 = omega arith in
    let a : all - i - count ≡ all - (i + 16) = omega arith in
    let d : 2 * (32 * i + 32 * count) ≡ 64 * (i + 16) = omega arith in
    rw (← a, ← d) (h ∙ rw m))

-- the turns over a window that was filled with units
pub turns-window : (count from : ℕ) (us : List ℕ) (t : State)
    → turns count (unit_bytes (take (32 * count) (drop from us))) t ≡ turns count (drop (2 * from) (unit_bytes us)) t
turns-window count from us t =
    rw (unit_bytes-take (32 * count) (drop from us), unit_bytes-drop from us)
    (turns-front count (2 * (32 * count)) (drop (2 * from) (unit_bytes us)) t (omega arith))

-- the first word stands in the bytes of the first four units, the last 64 bytes are those of the last 32
pub word_bytes : (us : List ℕ) → le_at 8 (unit_bytes (take 4 us)) 0 ≡ le_at 8 (unit_bytes us) 0
word_bytes us = ap (λ (s : List ℕ). le_at 8 s 0) (unit_bytes-take 4 us) ∙ le_at-part 8 0 8 (unit_bytes us) 0 (omega arith)

pub last-bytes : (us : List ℕ) (n : ℕ) → 32 ≤ n → unit_bytes (take 32 (drop (n - 32) us)) ≡ take 64 (drop (2 * n - 64) (unit_bytes us))
last-bytes us n h =
    let d : 2 * (n - 32) ≡ 2 * n - 64 = omega arith in
    unit_bytes-take 32 (drop (n - 32) us) ∙ ap (take 64) (unit_bytes-drop (n - 32) us ∙ ap (λ (k : ℕ). drop k (unit_bytes us)) d)

-- the hash of more than 32 units
pub hash-long : (us : List ℕ) (n : ℕ) → n ≡ length us → 32 < n
    → city_hash64 (unit_bytes us)
    ≡ finish (turns ((2 * n - 1) / 64) (unit_bytes us) (start (2 * n) (take 64 (drop (2 * n - 64) (unit_bytes us))) (le_at 8 (unit_bytes us) 0)))
hash-long us n e h =
    let l : length (unit_bytes us) ≡ 2 * n = unit_bytes-length us ∙ ap (λ (k : ℕ). 2 * k) (sym e) in
    rw (← l) (long-is (unit_bytes us) (omega arith))
