-- What `zen_put_name` answers for any block, and what it looks for. Assumes nothing.
use Rattle.std.specs.Prelude.{◌≡◌, Bool, cond, ◌&&◌, List, [], ◌∷◌, ℕ, ◌≤◌, ◌<◌, leb, ltb, length, get_or, Option, Some, None}
use Rattle.text.specs.Name.{base, rendered}
use Rattle.base.specs.Output.{over}
use Rattle.base.specs.Reading.{Out}
use Rattle.text.specs.Utf8.{utf8}
use Rattle.batch.specs.Holds.{Holds}
use Rattle.batch.specs.Places.{part_at}
use Rattle.batch.specs.declared.places.Name.{Name}
use Rattle.batch.specs.declared.places.Place.{Place}
use Rattle.zen.specs.Answers.{names_of, imported_of, imported_name_of}
use Rattle.zen.specs.Zen.{Read}
use Rattle.zenapi.specs.Answers.{package_in, none}

-- texts by `which`: 0 the bases of the names, 1 the imported names, rendered
unfoldable pub text_count : Out Read → ℕ → ℕ
text_count x which = get_or (length (names_of x) ∷ length (imported_of x) ∷ []) which 0

unfoldable pub text_at : Out Read → ℕ → ℕ → List ℕ
text_at x which i = get_or (get_or (names_of x) i [] ∷ imported_name_of x i ∷ []) which []

unfoldable pub fits : ℕ → Out Read → ℕ → ℕ → Bool
fits room x which i = ltb i (text_count x which) && leb (length (utf8 (text_at x which i))) room

-- how many bytes text i takes, and the buffer with it in front
unfoldable pub text_answer : ℕ → Out Read → ℕ → ℕ → ℕ
text_answer room x which i = cond (fits room x which i) (length (utf8 (text_at x which i))) none

unfoldable pub text_after : List ℕ → Out Read → ℕ → ℕ → List ℕ
text_after old x which i = cond (fits (length old) x which i) (over old (utf8 (text_at x which i))) old

-- text i is there: place p holds its base, and its number is n
pub record Found (b : List ℕ) (which i : ℕ) (p : Place) (n : ℕ) : Type 0 where
  pub here : i < text_count (package_in b) which
  pub base : Holds b p (base p.wide (part_at b p))
  pub text : rendered p.wide (part_at b p) n ≡ text_at (package_in b) which i

-- whether text i is there
unfoldable pub Stands : List ℕ → ℕ → ℕ → Option Name → Type 0
Stands b which i None = text_count (package_in b) which ≤ i
Stands b which i (Some t) = Found b which i t.place t.number
