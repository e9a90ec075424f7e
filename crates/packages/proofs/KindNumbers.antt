-- What a kind's number says of an index. Assumes nothing.
use Rattle.std.specs.Prelude.{◌≡◌, ℕ}
use Rattle.std.proofs.Common.{◌∙◌}
use Rattle.base.specs.Index.{kind}
use Rattle.base.specs.Kind.{kind_number}
use Rattle.base.proofs.Numbers.{kind-same}
use Rattle.base.specs.declared.index.Kind.{Kind}
use Rattle.base.specs.declared.index.Kind.TheVariants.{Import}

pub not-import : (k : Kind) (x : ℕ) → kind_number k ≡ kind x → (k ≡ Import → ⊥) → kind x ≡ 2 → ⊥
not-import k x e n q = n (kind-same k Import (e ∙ q))
