-- How many bytes of UTF-8 a text and a name take at most. Assumes nothing.
use Rattle.std.specs.Prelude.{List, [], ◌∷◌, ◌++◌, ℕ, ◌+◌, ◌*◌, ◌≤◌, length}
use Rattle.std.proofs.Common.{arith, length-append}
use Rattle.text.specs.Name.{suffix}
use Rattle.text.specs.NameLaws.{suffix-ascii, suffix-short}
use Rattle.text.specs.Utf8.{utf8}
use Rattle.text.specs.Utf8Laws.{utf8_one-length, utf8_append, utf8-ascii}

-- four for each scalar value
pub utf8-length : (t : List ℕ) → length (utf8 t) ≤ 4 * length t
utf8-length [] = omega arith
utf8-length (c ∷ t) = simp length-append (omega (arith, utf8_one-length c, utf8-length t))

-- and 21 for an instance number
pub name-length : (t : List ℕ) (number : ℕ) → length (utf8 (t ++ suffix number)) ≤ 4 * length t + 21
name-length t number = rw (utf8_append t (suffix number), utf8-ascii (suffix number) (suffix-ascii number)) (simp length-append (omega (arith, utf8-length t, suffix-short number)))
