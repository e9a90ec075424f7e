-- The parts of a batch one behind another, then what the check of its names says.
use Rattle.std.specs.Prelude.{Err, Ok}
use mathlib.Core.Path.{◌≡◌, sym}
use mathlib.Core.List.{List}
use Prim.Native.Nat.{ℕ, ◌+◌, ◌*◌, ◌-◌, ◌≤◌, ◌<◌}
use native.Mathlib.Omega.{arith}
use lib.ListN.{length}
use Rattle.std.proofs.lemmas.Result.{err_from_is_err_and}
use Rattle.base.specs.Reading.{Got, got, walk}
use Rattle.base.specs.ReadingLaws.{chain}
use Rattle.base.specs.ReadingRows.{cells}
use Rattle.batch.specs.Batch.{head_at, strings, body}
use Rattle.batch.specs.BatchAnswers.{checked, batched}
use Rattle.batch.specs.BatchAnswersLaws.{checked-passed, checked-failed}
use Rattle.batch.specs.BatchLaws.{strings-got, body-hashes, body-heads, body-room, body_is, place_of_lem}
use Rattle.batch.proofs.names.read_body.Goals as goal

module _ (s : List ℕ) (at n room : ℕ) where
  no_hashes : length s < at + 8 * n → Err 3 ≡ batched (walk (body n room) s at)
  unfolding batched
  no_hashes h = rw (body-hashes s at n room h)

  module _ (l : at + 8 * n ≤ length s) where
    no_heads : length s < at + 8 * n + 2 * n → Err 3 ≡ batched (walk (body n room) s at)
    unfolding batched
    no_heads h = rw (body-heads s at n room l h)

    module _ (m : at + 8 * n + 2 * n ≤ length s) where
      no_room : length s < at + 8 * n + 2 * n + room → Err 3 ≡ batched (walk (body n room) s at)
      unfolding batched
      no_room h = rw (body-room s at n room l m h)

      module _ (h : at + 8 * n + 2 * n + room ≤ length s) where
        abbrev names : Got (List (List ℕ))
        names = walk (strings (cells (head_at s) 2 (at + 8 * n) n) (at + 8 * n + 2 * n + room - (at + 8 * n + 2 * n))) s (at + 8 * n + 2 * n)

        by_names : walk (body n room) s at
            ≡ chain names (λ ts k. got (record { place = place_of_lem s at n room k; texts = ts }) k)
        by_names =
            let z : at + 8 * n + 2 * n + room - (at + 8 * n + 2 * n) ≡ room = omega arith in
            rw z (body_is s at n room l m h)

        failed : (r : ℕ) → Err r ≡ checked names → Err r ≡ batched (walk (body n room) s at)
        unfolding batched
        failed r q = rw (by_names, checked-failed _ (sym q))

        passed : Ok tt ≡ checked names → Ok (place_of_lem s at n room (at + 8 * n + 2 * n + room)) ≡ batched (walk (body n room) s at)
        unfolding batched
        passed q =
            let (ts, k, w) = checked-passed _ (sym q) in
            let i = (strings-got s n (at + 8 * n) _ (at + 8 * n + 2 * n) ts k w).ends in
            let z : k ≡ at + 8 * n + 2 * n + room = omega arith in
            rw (by_names, w, z)

pub returns-then-end-headers : goal.returns-then-end-headers
returns-then-end-headers c = search no_hashes

pub returns-then-end-strings : goal.returns-then-end-strings
returns-then-end-strings c = search no_heads

pub returns-then-end-next : goal.returns-then-end-next
returns-then-end-next c = search no_room

pub returns-in_err-check_names : goal.returns-in_err-check_names
returns-in_err-check_names c =
    let p = err_from_is_err_and c.from_residual.result c.from_residual.ensures.1 in
    let a = c.args in
    rw (p.1, p.2)
    (failed a.s.now a.at a.count a.room c.if-end-headers.false c.if-end-strings.false c.if-end-next.false _ c.in_err-check_names.ensures)

pub returns : goal.returns
returns c =
    let a = c.args in
    passed a.s.now a.at a.count a.room c.if-end-headers.false c.if-end-strings.false c.if-end-next.false
    c.in_ok-check_names.ensures
