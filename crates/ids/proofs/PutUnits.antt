-- Lemmas for putting n units into a buffer: one after the other, and over what was tried there. Assumes nothing.
use mathlib.Core.Path.{◌≡◌, sym}
use mathlib.Core.List.{List, ◌++◌}
use Prim.Native.Nat.{ℕ, ◌+◌, ◌-◌, ◌*◌, ◌/◌, ◌%◌, ◌≤◌, ◌<◌}
use native.Mathlib.Omega.{arith}
use lib.ListN.{length, set, get_or, take, drop, take-append-drop}
use lib.Seq.{length-take-le}
use Rattle.base.specs.Output.{over, Wrote}
use Rattle.base.specs.OutputLaws.{wrote_as, wrote_count, wrote-length}
use Rattle.text.specs.PlainLaws.{wrote-over}
use Rattle.text.specs.Utf16.{unit_bytes}
use Rattle.ids.proofs.NameUnits.{window-two, wrote-unit, wrote-two}

-- ---- n units of us from a place on, one after the other

-- one more behind i of them
pub put_next : {s o : List ℕ} (us : List ℕ) (from i : ℕ) {v : ℕ} → Wrote s (unit_bytes (take i (drop from us))) o (2 * i) → from + i < length us
    → 2 * (i + 1) ≤ length s → v ≡ get_or us (from + i) 0
    → Wrote s (unit_bytes (take (i + 1) (drop from us))) (set (set o (2 * i) (v % 256)) (2 * i + 1) (v / 256)) (2 * (i + 1))
put_next us from i w h l e = wrote_count (wrote-unit us from i e w h (omega arith)) (omega arith)

-- ---- writing over what was tried

-- the first bytes of a buffer, as they were
pub wrote-same : {s : List ℕ} {k : ℕ} → k ≤ length s → Wrote s (take k s) s k
unfolding over
wrote-same {s} {k} h =
    let e : length (take k s) ≡ k = length-take-le k s h in
    record { size = sym e; fits = h; is = rw e (sym (take-append-drop k s)) }

-- no more than the first j bytes are others, also where k of them were written again
pub wrote-within : {s x q b o : List ℕ} {j k : ℕ} → Wrote s x q j → Wrote q b o k → k ≤ j → Wrote s (take j o) o j
wrote-within {s} {x} {q} {b} {o} {j} {k} v w h =
    let g : j ≤ length o = omega (arith, v.fits, wrote-length v, wrote-length w) in
    let l : length (take j o) ≡ j = length-take-le j o g in
    wrote-over v (wrote-over w (wrote-same g) (omega (arith, w.size))) (omega (arith, v.size))

-- k of n units stand in front, and the rest was written behind them
pub wrote-behind : {s x o p : List ℕ} (us : List ℕ) (from n k : ℕ) → k ≤ n → Wrote s x o (2 * n) → take (2 * k) o ≡ unit_bytes (take k (drop from us))
    → Wrote (take (length o - 2 * k) (drop (2 * k) o)) (unit_bytes (take (n - k) (drop (from + k) us))) p (2 * (n - k))
    → Wrote s (unit_bytes (take n (drop from us))) (take (2 * k) o ++ (p ++ drop (length o - 2 * k) (drop (2 * k) o))) (2 * n)
wrote-behind {o = o} us from n k h v e w =
    let g : 2 * k ≤ length o = omega (arith, v.fits, wrote-length v) in
    let z =
    wrote-two (take k (drop from us)) (take (n - k) (drop (from + k) us)) (take n (drop from us)) (wrote_as (wrote-same g) e) w (window-two us from n k h) in
    wrote_count (wrote-over v z (omega (arith, v.size, z.size))) (omega arith)
