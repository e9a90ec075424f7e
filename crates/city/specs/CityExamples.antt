-- Values of CityHash64 v1.1 as city.cc gives them, computed from the definition: one for each way that a length goes, and the edges of each; words at
-- theirs. Assumes nothing.
use Rattle.std.specs.Prelude.{◌≡◌, ℕ, zero, suc, ◌+◌, List, [], ◌∷◌, map, refl}
use Rattle.base.specs.Number.{le_at}
use Rattle.city.specs.Word.{addw, mulw, rotr, swap}
use Rattle.city.specs.City.{k2, shift_mix, hash_len16_mul, hash_len16, mul_of, hash_bytes, hash_halves, hash_two, len1to3, len4to7, len8to16, len0to16, mix4, hash_four, len17to32, swap_mul, mix_u, mix_v, mix_y, mix_last, mix8, len33to64, weak32, weak_at, next_x, next_y, next_z, next_v, next_w, turn, turns, start, finish, longer, city_hash64}

-- document 01: "Id of the empty name: k2"
empty : city_hash64 [] ≡ k2
unfolding city_hash64 len0to16
empty = refl

one : city_hash64 (228 ∷ []) ≡ 0x5411_50e8_7f41_5e96
unfolding city_hash64 len0to16 len1to3 hash_bytes mulw shift_mix
one = refl

five : city_hash64 (100 ∷ 252 ∷ 242 ∷ 143 ∷ 5 ∷ []) ≡ 0x831f_448b_dc56_00b3
unfolding city_hash64 len0to16 len4to7 hash_halves le_at mul_of addw mulw shift_mix hash_len16_mul
five = refl

-- n bytes that count from b
abbrev counting : ℕ → ℕ → List ℕ
counting zero b = []
counting (suc n) b = b ∷ counting n (b + 1)

twelve : city_hash64 (counting 12 0) ≡ 0x9fd5_df33_aefc_3d7d
unfolding city_hash64 len0to16 len8to16 hash_two le_at mul_of addw mulw rotr shift_mix hash_len16_mul
twelve = refl

two_dozen : city_hash64 (counting 24 0) ≡ 0x3f3b_313d_cbd1_6ec7
unfolding city_hash64 len17to32 hash_four mix4 le_at mul_of addw mulw rotr shift_mix hash_len16_mul
two_dozen = refl

four_dozen : city_hash64 (counting 48 0) ≡ 0xc709_9eac_443f_4625
unfolding city_hash64 len33to64 mix8 mix_u mix_v mix_y mix_last swap_mul le_at mul_of addw mulw rotr swap shift_mix
four_dozen = refl

-- two turns
long : city_hash64 (counting 129 0) ≡ 0x46be_8f23_6f91_8770
unfolding city_hash64 longer start turns turn finish next_x next_y next_z next_v next_w weak_at weak32 le_at addw mulw rotr shift_mix hash_len16 hash_len16_mul
long = refl

-- the first and the last length of each way that CityHash64 goes
abbrev ways : List (ℕ × ℕ)
ways =
    (3, 0x94a1_3d22_e9eb_a49a) ∷
    (4, 0x82bf_fd89_8958_e540) ∷
    (7, 0xa2e0_bff2_0db0_a6a1) ∷
    (8, 0xad5a_13e1_e8e9_3b98) ∷
    (16, 0x0efd_25a0_a341_56d4) ∷
    (17, 0xbbb6_a6f8_f20d_1f1c) ∷
    (32, 0x1a9d_8199_972c_df49) ∷
    (33, 0x46e1_378c_bc22_daba) ∷
    (64, 0xe99a_b80f_5ec7_dca5) ∷
    (65, 0xac58_9c99_0483_dd2e) ∷
    (128, 0x10b1_5363_0af1_f395) ∷
    []

at-edges : map (λ w. city_hash64 (counting w.0 0)) ways ≡ map (λ w. w.1) ways
unfolding city_hash64 len0to16 len1to3 len4to7 len8to16 hash_bytes hash_halves hash_two hash_four mix4 len17to32 mix8 mix_u mix_v mix_y mix_last swap_mul len33to64
    longer start turns turn finish next_x next_y next_z next_v next_w weak_at weak32 le_at mul_of addw mulw rotr swap shift_mix hash_len16 hash_len16_mul
at-edges = refl

-- ---- words of 64 bits

pub record Words : Type 0 where
  -- "arithmetic wraps at 64 bits"
  pub sum_wraps : addw 0xFFFFFFFFFFFFFFFF 3 ≡ 2
  pub sum_fits : addw 0xFFFFFFFFFFFFFFFC 3 ≡ 0xFFFFFFFFFFFFFFFF
  pub product_wraps : mulw 0x8000000000000003 3 ≡ 0x8000000000000009
  pub product_fits : mulw 0x5555555555555555 3 ≡ 0xFFFFFFFFFFFFFFFF
  pub turned : rotr 8 0x0123456789ABCDEF ≡ 0xEF0123456789ABCD
  pub swapped : swap 8 0x0123456789ABCDEF ≡ 0xEFCDAB8967452301

pub words : Words
unfolding addw mulw rotr swap
words = record { sum_wraps = refl; sum_fits = refl; product_wraps = refl; product_fits = refl; turned = refl; swapped = refl }
