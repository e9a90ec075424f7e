-- `flags::put_flags` meets its contract. The loop's invariant: the flags of the packages passed are written. Assumes nothing.
use mathlib.Core.Path.{◌≡◌, sym, ◌∙◌, ap}
use mathlib.Core.List.{List, [], ◌∷◌, map, map-append}
use Prim.Native.Nat.{ℕ, ◌+◌, ◌<◌}
use native.Mathlib.Omega.{arith}
use borrow.Author.Rules.{rules}
use lib.ListN.{length, set}
use Rattle.base.specs.OutputLaws.{wrote_none, wrote-length, wrote_as, wrote-byte}
use Rattle.meaning.specs.Verify.{package_flag}
use Rattle.packages.specs.Framing.{next_at}
use Rattle.packages.specs.Walk.{package_at, place_of, packages_at}
use Rattle.packages.specs.WalkLaws.{place_none, place-next, packages-none, packages-next}
use Rattle.verify.proofs.flags.put_flags.Invariants.{Sofar}
use Rattle.verify.proofs.flags.put_flags.Goals as goal

none_yet : (c : List ℕ) (from : ℕ) (old : List ℕ) → Sofar c from old 0 from old
none_yet c from old = record {
  place = sym (place_none c from);
  wrote = wrote_as (wrote_none old) (sym (ap (map package_flag) (packages-none c from)));
}

one_more : {c : List ℕ} {from : ℕ} {old : List ℕ} {i at : ℕ} {new : List ℕ} → Sofar c from old i at new → i < length old
    → {flag next : ℕ} → flag ≡ package_flag (package_at c at) → next ≡ next_at c at → Sofar c from old (i + 1) next (set new i flag)
one_more {c} {from} {old} {i} {at} {new} k room {flag} {next} f n = record {
  place = n ∙ rw k.place (sym (place-next c from i));
  wrote = wrote_as (wrote-byte k.wrote room flag)
      (rw (packages-next c from i, f, k.place) (sym (map-append package_flag (packages_at c from i) (package_at c (place_of c from i) ∷ []))));
}

pub loop-i-init : goal.loop-i-init
loop-i-init c = none_yet _ _ _

pub flag_at-requires : goal.flag_at-requires
flag_at-requires c =
    let l = c.loop-i in
    let (r, n) = c.requires in
    rw l.invariant.place (record { site = c.args.p.now.sites.site l.i (search rules); is = r.read l.i (search rules) })

pub bounds-out-i : goal.bounds-out-i
bounds-out-i c = omega (arith, wrote-length c.loop-i.invariant.wrote)

pub next_at-at-requires : goal.next_at-at-requires
next_at-at-requires c =
    let l = c.loop-i in
    let k = c.args.p.now.sites.site l.i (search rules) in
    rw l.invariant.place (k.starts, k.stops)

pub loop-i-preserved : goal.loop-i-preserved
loop-i-preserved c = one_more c.loop-i.invariant (search rules) c.flag_at.ensures c.next_at-at.ensures

pub shape_of-out : goal.shape_of-out
shape_of-out c = wrote-length c.loop-i.invariant.wrote
