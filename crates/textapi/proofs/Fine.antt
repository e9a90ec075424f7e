-- `fine` and `fits` by their tests. Assumes nothing.
use mathlib.Core.Path.{◌≡◌, sym}
use mathlib.Core.Bool.{Bool, true, false, and-true, and-false, and-eq-true_iff}
use mathlib.Core.List.{List}
use Prim.Native.Nat.{ℕ, ◌^◌, ◌≤◌, ◌<◌}
use borrow.Author.Tests.{lt-ltb, le-ltb, ltb-true, le-leb, lt-leb}
use lib.Dec.{ltb}
use lib.ListN.{length}
use Rattle.text.specs.Utf16.{is_well}
use Rattle.text.specs.Utf8.{utf8}
use Rattle.text.specs.Name.{decoded, rendered}
use Rattle.textapi.specs.Answers.{fine, fits}

module _ (wide : Bool) (part : List ℕ) where
  pub fine-short : length part < 2 ^ 32 → is_well (decoded wide part) ≡ fine wide part
  unfolding fine
  fine-short h = rw (lt-ltb _ _ h) (sym (and-true (is_well (decoded wide part))))

  pub fine-long : 2 ^ 32 ≤ length part → false ≡ fine wide part
  unfolding fine
  fine-long h = rw (le-ltb _ _ h) (sym (and-false (is_well (decoded wide part))))

  pub fine-parts : fine wide part ≡ true → (is_well (decoded wide part) ≡ true) × (length part < 2 ^ 32)
  unfolding fine
  fine-parts e =
      let p = (and-eq-true_iff (is_well (decoded wide part)) (ltb (length part) (2 ^ 32))).0 e in
      (p.0, ltb-true _ _ p.1)

module _ (room : ℕ) (wide : Bool) (part : List ℕ) (number : ℕ) where
  pub fits_not : fine wide part ≡ false → fits room wide part number ≡ false
  unfolding fits
  fits_not e = rw e

  pub fits-room : fine wide part ≡ true → length (utf8 (rendered wide part number)) ≤ room → fits room wide part number ≡ true
  unfolding fits
  fits-room e h = rw (e, le-leb _ _ h)

  pub fits-short : fine wide part ≡ true → room < length (utf8 (rendered wide part number)) → fits room wide part number ≡ false
  unfolding fits
  fits-short e h = rw (e, lt-leb _ _ h)
