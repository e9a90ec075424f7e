-- `texts::compose_native` meets its contract: the path behind the first four bytes, then its length in these, or an unknown text. Assumes nothing.
use Prim.Native.Nat.{◌≤◌}
use native.Mathlib.Omega.{arith}
use lib.ListN.{length}
use mathlib.Core.Path.{refl}
use Rattle.resolve.specs.Rows.{limits_of}
use Rattle.sections.specs.Written.{native_text}
use Rattle.sections.specs.WrittenLaws.{again-length, text-least, unknown-room, native-none, native_roomy, native-lost-room, native-lost, native-found-room, native-found}
use Rattle.sections.proofs.texts.compose_native.Goals.{Start}
use Rattle.sections.proofs.texts.compose_native.Goals as goal

-- there is room for a length
four : (c : Start) → 4 ≤ length c.args.out.now
four c = omega (arith, text-least (native_text (limits_of c.requires.lookups c.args.src.now.limit) c.requires.classes c.requires.read c.requires.ref), c.requires.room)

pub put_unknown-requires : goal.put_unknown-requires
put_unknown-requires c =
    unknown-room (native-none c.requires.target (c.is_missing.ensures.0 c.if-is_missing.true)) c.requires.room

pub returns-then-is_missing : goal.returns-then-is_missing
returns-then-is_missing c = λ q o xs lookups r t room.
    rw (native-none t (c.is_missing.ensures.0 c.if-is_missing.true)) c.put_unknown.ensures

pub slice_bounds-put_path-count : goal.slice_bounds-put_path-count
slice_bounds-put_path-count c = four (goal.at.slice_bounds-put_path-count c).Start

pub slice_bounds-put_path-start : goal.slice_bounds-put_path-start
slice_bounds-put_path-start c = four (goal.at.slice_bounds-put_path-start c).Start

pub put_path-requires : goal.put_path-requires
put_path-requires c =
    rw c.front.ensures (native_roomy c.requires.target (c.is_missing.ensures.1 c.if-is_missing.false) c.args.out.now c.requires.room)

pub put_unknown-requires-in-None : goal.put_unknown-requires-in-None
put_unknown-requires-in-None c =
    native-lost-room c.requires.target (c.is_missing.ensures.1 c.if-is_missing.false) c.args.out.now c.requires.room (rw c.front.ensures at c.in-None.ensures) refl

pub put_length-requires : goal.put_length-requires
put_length-requires c =
    omega (arith, again-length 4 c.args.out.now c.put_path.new.out (four (goal.at.put_length-requires c).Start) c.put_path.auto.out, four (goal.at.put_length-requires c).Start)

pub overflow_add-result : goal.overflow_add-result
overflow_add-result c =
    omega (arith, native-found-room c.requires.target (c.is_missing.ensures.1 c.if-is_missing.false) c.args.out.now c.requires.room (rw c.front.ensures at c.in-Some.ensures) refl)

pub returns-in-None : goal.returns-in-None
returns-in-None c = λ q o xs lookups r t room.
    native-lost t (c.is_missing.ensures.1 c.if-is_missing.false) c.args.out.now room (rw c.front.ensures at c.in-None.ensures) refl c.put_unknown-in-None.ensures

pub returns-in-Some : goal.returns-in-Some
returns-in-Some c = λ q o xs lookups r t room.
    native-found t (c.is_missing.ensures.1 c.if-is_missing.false) c.args.out.now room (rw c.front.ensures at c.in-Some.ensures) refl c.put_length.ensures
