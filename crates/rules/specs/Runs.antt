-- The rules, each by one computed test over its characters or over the table: a law is named by where its characters begin. Assumes nothing.
use Rattle.std.specs.Prelude.{◌≡◌, refl, false, ℕ, ◌≤◌, ◌<◌}
use Rattle.lower.specs.Table.{pairs}
use Rattle.lower.specs.Lower.{lower}
use Rattle.lower.specs.SearchLaws.{every}
use Rattle.rules.specs.Quick.{askers, asks, quick}
use Rattle.rules.specs.QuickLaws.{ask, add, odd, even, sharp, Run, agree, agree_at, outside, lower-gap, away, asks-away, quick-away, quick-gap}

-- characters that stay
abbrev pub Stay : ℕ → ℕ → Type 0
Stay a b = (c : ℕ) → a ≤ c → c < b → quick c ≡ c

abbrev pub Kept : ℕ → ℕ → Type 0
Kept a b = (c : ℕ) → a ≤ c → c < b → lower c ≡ c

-- for surrogates the table is not asked
pub surrogates : (c : ℕ) → 0xD800 ≤ c → c < 0xE000 → asks c ≡ false
unfolding away askers
surrogates = asks-away 0xD800 0xE000 refl

-- Latin, which has rules of its own
pub latin : Run quick lower 0 0x180
unfolding away askers
latin = quick-away 0 0x180 refl

-- Latin Extended-B
pub at_180 : Run quick ask 0x180 0x1A0
unfolding agree quick
at_180 = agree_at quick ask 0x180 32 refl

pub at_1_a0 : Run quick odd 0x1A0 0x1A6
unfolding agree quick
at_1_a0 = agree_at quick odd 0x1A0 6 refl

pub at_1_a6 : Run quick ask 0x1A6 0x1AF
unfolding agree quick
at_1_a6 = agree_at quick ask 0x1A6 9 refl

pub at_1_af : Run quick even 0x1AF 0x1B1
unfolding agree quick
at_1_af = agree_at quick even 0x1AF 2 refl

pub at_1_b1 : Run quick ask 0x1B1 0x1CD
unfolding agree quick
at_1_b1 = agree_at quick ask 0x1B1 28 refl

pub at_1_cd : Run quick even 0x1CD 0x1DD
unfolding agree quick
at_1_cd = agree_at quick even 0x1CD 16 refl

pub at_1_dd : Run quick odd 0x1DD 0x1F0
unfolding agree quick
at_1_dd = agree_at quick odd 0x1DD 19 refl

pub at_1_f0 : Run quick ask 0x1F0 0x1F8
unfolding agree quick
at_1_f0 = agree_at quick ask 0x1F0 8 refl

pub at_1_f8 : Run quick odd 0x1F8 0x220
unfolding agree quick
at_1_f8 = agree_at quick odd 0x1F8 40 refl

pub at_220 : Run quick ask 0x220 0x222
unfolding agree quick
at_220 = agree_at quick ask 0x220 2 refl

pub at_222 : Run quick odd 0x222 0x234
unfolding agree quick
at_222 = agree_at quick odd 0x222 18 refl

pub at_234 : Stay 0x234 0x23A
unfolding every outside pairs away askers
at_234 = quick-gap 0x234 0x23A refl refl

pub at_23_a : Run quick ask 0x23A 0x246
unfolding agree quick
at_23_a = agree_at quick ask 0x23A 12 refl

pub at_246 : Run quick odd 0x246 0x250
unfolding agree quick
at_246 = agree_at quick odd 0x246 10 refl

-- Greek before Alpha
pub at_370 : Run quick ask 0x370 0x386
unfolding agree quick
at_370 = agree_at quick ask 0x370 22 refl

pub at_386 : Run quick (add 38) 0x386 0x387
unfolding agree quick
at_386 = agree_at quick (add 38) 0x386 1 refl

pub at_387 : Stay 0x387 0x388
unfolding every outside pairs away askers
at_387 = quick-gap 0x387 0x388 refl refl

pub at_388 : Run quick (add 37) 0x388 0x38B
unfolding agree quick
at_388 = agree_at quick (add 37) 0x388 3 refl

pub at_38_b : Stay 0x38B 0x38C
unfolding every outside pairs away askers
at_38_b = quick-gap 0x38B 0x38C refl refl

pub at_38_c : Run quick (add 64) 0x38C 0x38D
unfolding agree quick
at_38_c = agree_at quick (add 64) 0x38C 1 refl

pub at_38_d : Stay 0x38D 0x38E
unfolding every outside pairs away askers
at_38_d = quick-gap 0x38D 0x38E refl refl

pub at_38_e : Run quick (add 63) 0x38E 0x390
unfolding agree quick
at_38_e = agree_at quick (add 63) 0x38E 2 refl

pub at_390 : Stay 0x390 0x391
unfolding every outside pairs away askers
at_390 = quick-gap 0x390 0x391 refl refl

-- Greek from Alpha on
pub at_391 : Run quick (add 32) 0x391 0x3A2
unfolding agree quick
at_391 = agree_at quick (add 32) 0x391 17 refl

pub at_3_a2 : Stay 0x3A2 0x3A3
unfolding every outside pairs away askers
at_3_a2 = quick-gap 0x3A2 0x3A3 refl refl

pub at_3_a3 : Run quick (add 32) 0x3A3 0x3AC
unfolding agree quick
at_3_a3 = agree_at quick (add 32) 0x3A3 9 refl

pub at_3_ac : Stay 0x3AC 0x3CF
unfolding every outside pairs away askers
at_3_ac = quick-gap 0x3AC 0x3CF refl refl

pub at_3_cf : Run quick ask 0x3CF 0x3D8
unfolding agree quick
at_3_cf = agree_at quick ask 0x3CF 9 refl

pub at_3_d8 : Run quick odd 0x3D8 0x3F0
unfolding agree quick
at_3_d8 = agree_at quick odd 0x3D8 24 refl

pub at_3_f0 : Run quick ask 0x3F0 0x400
unfolding agree quick
at_3_f0 = agree_at quick ask 0x3F0 16 refl

-- Cyrillic and Armenian
pub at_400 : Run quick (add 80) 0x400 0x410
unfolding agree quick
at_400 = agree_at quick (add 80) 0x400 16 refl

pub at_410 : Run quick (add 32) 0x410 0x430
unfolding agree quick
at_410 = agree_at quick (add 32) 0x410 32 refl

pub at_430 : Stay 0x430 0x460
unfolding every outside pairs away askers
at_430 = quick-gap 0x430 0x460 refl refl

pub at_460 : Run quick odd 0x460 0x482
unfolding agree quick
at_460 = agree_at quick odd 0x460 34 refl

pub at_482 : Stay 0x482 0x48A
unfolding every outside pairs away askers
at_482 = quick-gap 0x482 0x48A refl refl

pub at_48_a : Run quick odd 0x48A 0x4C0
unfolding agree quick
at_48_a = agree_at quick odd 0x48A 54 refl

pub at_4_c0 : Run quick (add 15) 0x4C0 0x4C1
unfolding agree quick
at_4_c0 = agree_at quick (add 15) 0x4C0 1 refl

pub at_4_c1 : Run quick even 0x4C1 0x4CF
unfolding agree quick
at_4_c1 = agree_at quick even 0x4C1 14 refl

pub at_4_cf : Run quick odd 0x4CF 0x530
unfolding agree quick
at_4_cf = agree_at quick odd 0x4CF 97 refl

pub at_530 : Stay 0x530 0x531
unfolding every outside pairs away askers
at_530 = quick-gap 0x530 0x531 refl refl

pub at_531 : Run quick (add 48) 0x531 0x557
unfolding agree quick
at_531 = agree_at quick (add 48) 0x531 38 refl

pub at_557 : Stay 0x557 0x590
unfolding every outside pairs away askers
at_557 = quick-gap 0x557 0x590 refl refl

-- From Georgian to the phonetic extensions
pub at_10_a0 : Run quick ask 0x10A0 0x10CE
unfolding agree quick
at_10_a0 = agree_at quick ask 0x10A0 46 refl

pub at_10_ce : Stay 0x10CE 0x13A0
unfolding every outside pairs away askers
at_10_ce = quick-gap 0x10CE 0x13A0 refl refl

pub at_13_a0 : Run quick ask 0x13A0 0x13F6
unfolding agree quick
at_13_a0 = agree_at quick ask 0x13A0 86 refl

pub at_13_f6 : Stay 0x13F6 0x1C89
unfolding every outside pairs away askers
at_13_f6 = quick-gap 0x13F6 0x1C89 refl refl

pub at_1_c89 : Run quick ask 0x1C89 0x1CC0
unfolding agree quick
at_1_c89 = agree_at quick ask 0x1C89 55 refl

pub at_1_cc0 : Stay 0x1CC0 0x1E00
unfolding every outside pairs away askers
at_1_cc0 = quick-gap 0x1CC0 0x1E00 refl refl

-- Latin Extended Additional
pub at_1_e00 : Run quick odd 0x1E00 0x1E96
unfolding agree quick
at_1_e00 = agree_at quick odd 0x1E00 150 refl

pub at_1_e96 : Stay 0x1E96 0x1E9E
unfolding every outside pairs away askers
at_1_e96 = quick-gap 0x1E96 0x1E9E refl refl

pub at_1_e9_e : Run quick sharp 0x1E9E 0x1E9F
unfolding agree quick
at_1_e9_e = agree_at quick sharp 0x1E9E 1 refl

pub at_1_e9_f : Stay 0x1E9F 0x1EA0
unfolding every outside pairs away askers
at_1_e9_f = quick-gap 0x1E9F 0x1EA0 refl refl

pub at_1_ea0 : Run quick odd 0x1EA0 0x1F00
unfolding agree quick
at_1_ea0 = agree_at quick odd 0x1EA0 96 refl

-- From Greek Extended to Coptic
pub at_1_f00 : Run quick ask 0x1F00 0x2000
unfolding agree quick
at_1_f00 = agree_at quick ask 0x1F00 256 refl

pub at_2000 : Stay 0x2000 0x2126
unfolding every outside pairs away askers
at_2000 = quick-gap 0x2000 0x2126 refl refl

pub at_2126 : Run quick ask 0x2126 0x2184
unfolding agree quick
at_2126 = agree_at quick ask 0x2126 94 refl

pub at_2184 : Stay 0x2184 0x24B6
unfolding every outside pairs away askers
at_2184 = quick-gap 0x2184 0x24B6 refl refl

pub at_24_b6 : Run quick ask 0x24B6 0x24D0
unfolding agree quick
at_24_b6 = agree_at quick ask 0x24B6 26 refl

pub at_24_d0 : Stay 0x24D0 0x2C00
unfolding every outside pairs away askers
at_24_d0 = quick-gap 0x24D0 0x2C00 refl refl

pub at_2_c00 : Run quick ask 0x2C00 0x2CF3
unfolding agree quick
at_2_c00 = agree_at quick ask 0x2C00 243 refl

-- From Deseret to Vithkuqi
pub at_10400 : Run lower (add 40) 0x10400 0x10428
unfolding agree lower
at_10400 = agree_at lower (add 40) 0x10400 40 refl

pub at_10428 : Kept 0x10428 0x104B0
unfolding every outside pairs
at_10428 = lower-gap 0x10428 0x104B0 refl

pub at_104_b0 : Run lower (add 40) 0x104B0 0x104D4
unfolding agree lower
at_104_b0 = agree_at lower (add 40) 0x104B0 36 refl

pub at_104_d4 : Kept 0x104D4 0x10570
unfolding every outside pairs
at_104_d4 = lower-gap 0x104D4 0x10570 refl

pub at_10570 : Run lower (add 39) 0x10570 0x1057B
unfolding agree lower
at_10570 = agree_at lower (add 39) 0x10570 11 refl

pub at_1057_b : Kept 0x1057B 0x1057C
unfolding every outside pairs
at_1057_b = lower-gap 0x1057B 0x1057C refl

pub at_1057_c : Run lower (add 39) 0x1057C 0x1058B
unfolding agree lower
at_1057_c = agree_at lower (add 39) 0x1057C 15 refl

pub at_1058_b : Kept 0x1058B 0x1058C
unfolding every outside pairs
at_1058_b = lower-gap 0x1058B 0x1058C refl

pub at_1058_c : Run lower (add 39) 0x1058C 0x10593
unfolding agree lower
at_1058_c = agree_at lower (add 39) 0x1058C 7 refl

pub at_10593 : Kept 0x10593 0x10594
unfolding every outside pairs
at_10593 = lower-gap 0x10593 0x10594 refl

pub at_10594 : Run lower (add 39) 0x10594 0x10596
unfolding agree lower
at_10594 = agree_at lower (add 39) 0x10594 2 refl

pub at_10596 : Kept 0x10596 0x10C80
unfolding every outside pairs
at_10596 = lower-gap 0x10596 0x10C80 refl

-- From Old Hungarian to Adlam
pub at_10_c80 : Run lower (add 64) 0x10C80 0x10CB3
unfolding agree lower
at_10_c80 = agree_at lower (add 64) 0x10C80 51 refl

pub at_10_cb3 : Kept 0x10CB3 0x10D50
unfolding every outside pairs
at_10_cb3 = lower-gap 0x10CB3 0x10D50 refl

pub at_10_d50 : Run lower (add 32) 0x10D50 0x10D66
unfolding agree lower
at_10_d50 = agree_at lower (add 32) 0x10D50 22 refl

pub at_10_d66 : Kept 0x10D66 0x118A0
unfolding every outside pairs
at_10_d66 = lower-gap 0x10D66 0x118A0 refl

pub at_118_a0 : Run lower (add 32) 0x118A0 0x118C0
unfolding agree lower
at_118_a0 = agree_at lower (add 32) 0x118A0 32 refl

pub at_118_c0 : Kept 0x118C0 0x16E40
unfolding every outside pairs
at_118_c0 = lower-gap 0x118C0 0x16E40 refl

pub at_16_e40 : Run lower (add 32) 0x16E40 0x16E60
unfolding agree lower
at_16_e40 = agree_at lower (add 32) 0x16E40 32 refl

pub at_16_e60 : Kept 0x16E60 0x16EA0
unfolding every outside pairs
at_16_e60 = lower-gap 0x16E60 0x16EA0 refl

pub at_16_ea0 : Run lower (add 27) 0x16EA0 0x16EB9
unfolding agree lower
at_16_ea0 = agree_at lower (add 27) 0x16EA0 25 refl

pub at_16_eb9 : Kept 0x16EB9 0x1E900
unfolding every outside pairs
at_16_eb9 = lower-gap 0x16EB9 0x1E900 refl

pub at_1_e900 : Run lower (add 34) 0x1E900 0x1E922
unfolding agree lower
at_1_e900 = agree_at lower (add 34) 0x1E900 34 refl

-- What lies between
pub at_250 : Stay 0x250 0x370
unfolding every outside pairs away askers
at_250 = quick-gap 0x250 0x370 refl refl

pub at_590 : Stay 0x590 0x10A0
unfolding every outside pairs away askers
at_590 = quick-gap 0x590 0x10A0 refl refl

pub at_2_cf3 : Stay 0x2CF3 0xA640
unfolding every outside pairs away askers
at_2_cf3 = quick-gap 0x2CF3 0xA640 refl refl

pub at_A640 : Run quick ask 0xA640 0xA7F6
unfolding agree quick
at_A640 = agree_at quick ask 0xA640 438 refl

pub at_A7F6 : Stay 0xA7F6 0xFF21
unfolding every outside pairs away askers
at_A7F6 = quick-gap 0xA7F6 0xFF21 refl refl

pub at_FF21 : Run quick (add 32) 0xFF21 0xFF3B
unfolding agree quick
at_FF21 = agree_at quick (add 32) 0xFF21 26 refl

pub at_FF3B : Stay 0xFF3B 0x10000
unfolding every outside pairs away askers
at_FF3B = quick-gap 0xFF3B 0x10000 refl refl

pub at_10000 : Kept 0x10000 0x10400
unfolding every outside pairs
at_10000 = lower-gap 0x10000 0x10400 refl

pub at_1_e922 : Kept 0x1E922 0x110000
unfolding every outside pairs
at_1_e922 = lower-gap 0x1E922 0x110000 refl
