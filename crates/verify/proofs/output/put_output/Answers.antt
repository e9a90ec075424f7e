-- `output::put_output` meets its contract: the flags behind what stands before them. Assumes nothing.
use mathlib.Core.Path.{◌≡◌, sym, ◌∙◌, ap}
use mathlib.Core.List.{List, ◌++◌, map}
use Prim.Native.Nat.{ℕ, ◌+◌, ◌-◌}
use lib.ListN.{length, take, drop, length-map}
use Rattle.base.specs.Output.{Wrote}
use Rattle.base.specs.OutputLaws.{wrote-rest, wrote_as, wrote-room}
use Rattle.meaning.specs.Verify.{Counts, package_flag, output_with}
use Rattle.packages.specs.Walk.{packages_at}
use Rattle.packages.specs.WalkLaws.{packages-length}
use Rattle.verify.specs.Tallies.{front_of}
use Rattle.verify.specs.TallyLaws.{output-parts}
use Rattle.verify.proofs.output.put_output.Goals as goal

module _ (n : Counts) (c : List ℕ) (at count : ℕ) where
  abbrev flags : List ℕ
  flags = map package_flag (packages_at c at count)

  parts : output_with n flags ≡ front_of n count ++ flags
  parts =
      output-parts n flags
      ∙ ap (λ (k : ℕ). front_of n k ++ flags) (length-map (packages_at c at count) package_flag ∙ packages-length c at count)

  done : {s o q : List ℕ} {k : ℕ} → Wrote s (front_of n count) o 25 → Wrote (take (length o - 25) (drop 25 o)) flags q k
      → Wrote s (output_with n flags) (take 25 o ++ (q ++ drop (length o - 25) (drop 25 o))) (25 + k)
  done v w = wrote_as (wrote-rest v w) (sym parts)

pub put_flags-requires : goal.put_flags-requires
put_flags-requires c =
    let (r, n) = c.requires.read in
    (r, wrote-room c.put_front.ensures _ n)

pub returns : goal.returns
returns c =
    done _ _ _ _ c.put_front.ensures c.put_flags.ensures
