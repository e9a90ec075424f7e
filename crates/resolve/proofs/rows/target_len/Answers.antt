-- `rows::target_len` meets its contract. Assumes nothing.
use mathlib.Core.Path.{refl, ap}
use Prim.Native.Nat.{◌<◌}
use native.Mathlib.Omega.{arith}
use lib.ListN.{length}
use Rattle.base.specs.OneMore.{one_more}
use Rattle.resolve.specs.Lent.{lent-part}
use Rattle.resolve.specs.RowsLaws.{class-inside, object-inside}
use Rattle.resolve.specs.ResolvingLaws.{size-lost, size-found}
use Rattle.resolve.proofs.rows.target_len.Goals as goal

pub object_len-native-requires : goal.object_len-native-requires
object_len-native-requires c =
    let p = c.requires in (
      record { corpus = p.corpus; block = p.block; objects = p.objects; classes = p.classes; holds = p.tables },
      omega (arith, p.leads.object-is, object-inside p.tables p.lookups p.ref),
    )

pub class_len-requires : goal.class_len-requires
class_len-requires c =
    let p = c.requires in (
      length p.classes,
      record { corpus = p.corpus; classes = p.classes; count = refl; holds = rw (lent-part) p.tables.classes },
      omega (arith, p.leads.class-is, class-inside p.classes p.ref, ap one_more c.in-Some.is),
    )

pub returns-in-Some : goal.returns-in-Some
returns-in-Some c =
    let a = c.args in
    let e = c.object_len-native.ensures in
    let k = c.class_len.ensures in
    let q = ap one_more c.in-Some.is in (
      λ s b o xs lookups ref t l.
          let h : c.in-Some.i < length xs = omega (arith, l.class-is, class-inside xs ref, q) in
          size-found t l a.m.objects (e.0 s b o xs t) q (k.0 s xs (rw (lent-part) t.classes) h),
      omega (arith, e.1, k.1),
    )

pub returns-in-None : goal.returns-in-None
returns-in-None c =
    let e = c.object_len-native.ensures in
    (λ s b o xs lookups ref t l. size-lost t l c.args.m.objects (e.0 s b o xs t) (ap one_more c.in-None.is), omega (arith, e.1))
