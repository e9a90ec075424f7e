-- Fields put together with `|` and `<<`, and the test of a top bit, as sums and orders. Assumes nothing.
use mathlib.Core.Path.{◌≡◌, sym, ◌∙◌}
use mathlib.Core.Logic.{⊎_elim}
use Prim.Native.Nat.{ℕ, ◌+◌, ◌*◌, ◌/◌, ◌%◌, ◌^◌, ◌≤◌, ◌<◌}
use native.Mathlib.Nat.{add_comm}
use native.Mathlib.Omega.{arith}
use lib.Dec.{eqb, leb, lit≤}
use lib.Pow.{shl_exact}
use lib.Bits.{bit_or, or_shifted}
use borrow.Author.Tests.{eq-eqb, ne_eqb, le-leb, lt-leb}
use Rattle.base.specs.Choose.{lt_or_le}

-- `hi << k | lo` at w bits, of a hi of j bits and a lo of k
pub or_cat : (j k w hi lo : ℕ) → hi < 2 ^ j → lo < 2 ^ k → j + k ≤ w → bit_or ((hi * 2 ^ k) % 2 ^ w) lo ≡ lo + hi * 2 ^ k
or_cat j k w hi lo hh hl l = rw (shl_exact j k w hh l, or_shifted hi k lo hl, add_comm lo (hi * 2 ^ k))

third : (b2 b3 : ℕ) → b3 * 2 ^ 24 + b2 * 2 ^ 16 ≡ (b3 * 256 + b2) * 2 ^ 16
third b2 b3 = omega arith

second : (b1 h : ℕ) → h * 2 ^ 16 + b1 * 2 ^ 8 ≡ (h * 256 + b1) * 2 ^ 8
second b1 h = omega arith

below_24 : (b : ℕ) → b < 2 ^ 8 → b * 2 ^ 16 < 2 ^ 24
below_24 b h = omega arith

below_16 : (b : ℕ) → b < 2 ^ 8 → b * 2 ^ 8 < 2 ^ 16
below_16 b h = omega arith

sums : (b0 b1 b2 b3 : ℕ) → ((b3 * 256 + b2) * 256 + b1) * 2 ^ 8 + b0 ≡ b0 + b1 * 256 + b2 * 256 ^ 2 + b3 * 256 ^ 3
sums b0 b1 b2 b3 = omega arith

-- `b3 << 24 | b2 << 16 | b1 << 8 | b0`
pub or_4 : (b0 b1 b2 b3 : ℕ) → b0 < 2 ^ 8 → b1 < 2 ^ 8 → b2 < 2 ^ 8 → b3 < 2 ^ 8
    → bit_or (bit_or (bit_or ((b3 * 2 ^ 24) % 2 ^ 32) ((b2 * 2 ^ 16) % 2 ^ 32)) ((b1 * 2 ^ 8) % 2 ^ 32)) b0 ≡ b0 + b1 * 256 + b2 * 256 ^ 2 + b3 * 256 ^ 3
or_4 b0 b1 b2 b3 h0 h1 h2 h3 =
    rw (
      shl_exact 8 24 32 h3 (lit≤ tt),
      shl_exact 8 16 32 h2 (lit≤ tt),
      shl_exact 8 8 32 h1 (lit≤ tt),
      or_shifted b3 24 (b2 * 2 ^ 16) (below_24 b2 h2),
      third b2 b3,
      or_shifted (b3 * 256 + b2) 16 (b1 * 2 ^ 8) (below_16 b1 h1),
      second b1 (b3 * 256 + b2),
      or_shifted ((b3 * 256 + b2) * 256 + b1) 8 b0 h0,
    )
    (sums b0 b1 b2 b3)

below_top : (q : ℕ) → q < 2 ^ 8 → q * 2 ^ 32 < 2 ^ 63
below_top q h = omega arith

over-block : (q : ℕ) → 2 ^ 63 + q * 2 ^ 32 ≡ (2 ^ 31 + q) * 2 ^ 32
over-block q = omega arith

-- `1 << 63 | q << 32 | b`
pub or_refusal : (q b : ℕ) → q < 2 ^ 8 → b < 2 ^ 32 → bit_or (bit_or (2 ^ 63) ((q * 2 ^ 32) % 2 ^ 64)) b ≡ 2 ^ 63 + q * 2 ^ 32 + b
or_refusal q b hq hb = rw (shl_exact 8 32 64 hq (lit≤ tt), or_shifted 1 63 (q * 2 ^ 32) (below_top q hq), over-block q, or_shifted (2 ^ 31 + q) 32 b hb)

-- `n >> 63 == 1`
pub top_bit : (n : ℕ) → n < 2 ^ 64 → eqb (n / 2 ^ 63) 1 ≡ leb (2 ^ 63) n
top_bit n h =
    ⊎_elim (λ (l : n < 2 ^ 63). ne_eqb (n / 2 ^ 63) 1 (λ e. omega arith) ∙ sym (lt-leb (2 ^ 63) n l))
    (λ (l : 2 ^ 63 ≤ n). eq-eqb (n / 2 ^ 63) 1 (omega arith) ∙ sym (le-leb (2 ^ 63) n l))
    (lt_or_le n (2 ^ 63))
