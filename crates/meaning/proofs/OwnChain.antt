-- The own chain (document 01: "A row's own chain is the longest it has within the lookup limit"): it is a chain, within the limit, and every
-- chain within the limit is a first part of it. So all chains from a reference lead to one script object.
use Rattle.std.specs.Prelude.{◌≡◌, false, T}
use Rattle.std.proofs.Math.Path.{refl}
use Rattle.std.proofs.Common.{sym, ◌∙◌, ap, subst, length-append}
use mathlib.Core.List.{List, [], ◌∷◌, ◌++◌, Memᴰ}
use Rattle.std.proofs.Math.Option.{Option, none, some}
use Prim.Native.Nat.{ℕ, zero, suc, ◌+◌, ◌≤◌}
use native.Mathlib.Omega.{arith}
use Rattle.std.proofs.Math.ListN.{length}
use Rattle.base.specs.Find.{option}
use Rattle.base.specs.FindLaws.{none-some, find-some, find-member}
use Rattle.meaning.specs.Key.{Key, same_key}
use Rattle.meaning.specs.KeyLaws.{same_key→eq, same_key-refl}
use Rattle.meaning.specs.Reference.{Ref, script, import, export, null, bad, meant}
use Rattle.meaning.specs.Scan.{Class}
use Rattle.meaning.specs.Resolve.{look, stepped, own_chain, ending, follow}
use Rattle.meaning.specs.Call.{has_key}
use Rattle.meaning.specs.Table.{repeats}
use Rattle.meaning.proofs.Table.{or_first, or_second, not-true}
use Rattle.meaning.specs.Chain.{Chain, empty, listed}
pub use Rattle.meaning.specs.OwnChain.{OneEach}

-- so it is where no key stands twice: question 24
once_unseen : (seen : List Key) (cs : List Class) → repeats seen cs ≡ false → (c : Class) → Memᴰ c cs → has_key seen c.key ≡ false
once_unseen seen [] h c x'' = elim x'' [ ]
once_unseen seen (x ∷ cs) h c (Memᴰ.head p) = rw p (or_first (has_key seen x.key) (repeats (x.key ∷ seen) cs) h)
once_unseen seen (x ∷ cs) h c (Memᴰ.tail m) =
    let later : repeats (x.key ∷ seen) cs ≡ false = or_second (has_key seen x.key) (repeats (x.key ∷ seen) cs) h in
    or_second (same_key x.key c.key) (has_key seen c.key) (once_unseen (x.key ∷ seen) cs later c m)

once-apart : (seen : List Key) (x d : Class) (cs : List Class) → repeats seen (x ∷ cs) ≡ false → Memᴰ d cs → x.key ≡ d.key → ⊥
once-apart seen x d cs h m e =
    let unseen = once_unseen (x.key ∷ seen) cs (or_second (has_key seen x.key) (repeats (x.key ∷ seen) cs) h) d m in
    not-true (or_first (same_key x.key d.key) (has_key seen d.key) unseen) (subst (λ (k : Key). T (same_key x.key k)) e (same_key-refl x.key))

abbrev key_of : Class → Key
key_of c = c.key

pub once-each : (seen : List Key) (cs : List Class) → repeats seen cs ≡ false → OneEach cs
once-each seen [] h c d x4 _ e = elim x4 [ ]
once-each seen (x ∷ cs) h c d (Memᴰ.head p) (Memᴰ.head q) e = p ∙ sym q
once-each seen (x ∷ cs) h c d (Memᴰ.head p) (Memᴰ.tail n) e = absurd (once-apart seen x d cs h n (sym (ap key_of p) ∙ e))
once-each seen (x ∷ cs) h c d (Memᴰ.tail m) (Memᴰ.head q) e = absurd (once-apart seen x c cs h m (sym (ap key_of q) ∙ sym e))
once-each seen (x ∷ cs) h c d (Memᴰ.tail m) (Memᴰ.tail n) e =
    once-each (x.key ∷ seen) cs (or_second (has_key seen x.key) (repeats (x.key ∷ seen) cs) h) c d m n e

-- a reference leads to a script object where it is its index
ends : (r : Ref) (g : ℕ) → ending r ≡ some g → r ≡ script g
ends (script h) g e = let s : h ≡ g = cc in ap script s
ends (import k name hash) g e = none-some e
ends (export k name) g e = none-some e
ends null g e = none-some e
ends (bad text) g e = none-some e

module _ (t : List Class) where
  -- the class that is looked up from a reference is a member whose key the reference means
  looked : (r : Ref) (c : Class) → option none (look t) (meant r) ≡ some c → Memᴰ c t × (meant r ≡ some c.key)
  looked r c e = go (meant r) refl e
    where
      go : (x : Option Key) → meant r ≡ x → option none (look t) x ≡ some c → Memᴰ c t × (meant r ≡ some c.key)
      go none m e = none-some e
      go (some k) m e =
          let (member, same) = find-some (λ d. same_key d.key k) t c e in
          (member, m ∙ ap some (sym (same_key→eq c.key k same)))

  -- THE OWN CHAIN is a chain ..
  pub own_chain_lem : (n : ℕ) (r : Ref) → Chain t r (own_chain n (look t) r).classes (own_chain n (look t) r).left
  unfolding own_chain
  own_chain_lem zero r = empty
  own_chain_lem (suc n) r = go (option none (look t) (meant r)) refl (own_chain_lem n)
    where
      go : (x : Option Class) → option none (look t) (meant r) ≡ x
          → ((s : Ref) → Chain t s (own_chain n (look t) s).classes (own_chain n (look t) s).left)
          → Chain t r (stepped (own_chain n (look t)) r x).classes (stepped (own_chain n (look t)) r x).left
      go none e ih = empty
      go (some c) e ih = let (member, means) = looked r c e in listed member means (ih c.super)

  -- .. within the limit
  pub own-within : (n : ℕ) (r : Ref) → length (own_chain n (look t) r).classes ≤ n
  unfolding own_chain
  own-within zero r = omega arith
  own-within (suc n) r = go (option none (look t) (meant r)) (own-within n)
    where
      go : (x : Option Class) → ((s : Ref) → length (own_chain n (look t) s).classes ≤ n)
          → length (stepped (own_chain n (look t)) r x).classes ≤ suc n
      go none ih = omega arith
      go (some c) ih = omega (arith, ih c.super)

  module _ (one : OneEach t) where
    pub look-member : (c : Class) → Memᴰ c t → look t c.key ≡ some c
    look-member c m = find-member (λ d. same_key d.key c.key) t c m (same_key-refl c.key) (λ d n h. one d c n m (same_key→eq d.key c.key h))

    -- .. and every chain within the limit is a first part of it
    pub own-longest : (n : ℕ) {r last : Ref} {cs : List Class} → Chain t r cs last → length cs ≤ n
        → (more : List Class) × ((own_chain n (look t) r).classes ≡ cs ++ more)
    unfolding own_chain
    own-longest n {r} empty few = ((own_chain n (look t) r).classes, refl)
    own-longest zero (listed m means ch) few = absurd (omega arith)
    own-longest (suc n) (listed {r} {c} m means ch) few =
        let (more, is) = own-longest n ch (omega arith) in
        (more, rw (means, look-member c m, is))

    -- so none within the limit is longer
    pub none-longer : (n : ℕ) {r last : Ref} {cs : List Class} → Chain t r cs last → length cs ≤ n → length cs ≤ length (own_chain n (look t) r).classes
    none-longer n {r} {cs = cs} ch few =
        let (more, is) = own-longest n ch few in
        rw is (omega (arith, length-append cs more))

    -- and where it leads to a script object, the own chain does
    pub own-ends : (n : ℕ) {r : Ref} {cs : List Class} (g : ℕ) → Chain t r cs (script g) → length cs ≤ n → (own_chain n (look t) r).left ≡ script g
    unfolding own_chain
    own-ends zero g empty few = refl
    own-ends (suc n) g empty few = refl
    own-ends zero g (listed m means ch) few = absurd (omega arith)
    own-ends (suc n) g (listed {r} {c} m means ch) few = rw (means, look-member c m) (own-ends n g ch (omega arith))

    pub follow_complete : (n : ℕ) {r : Ref} {cs : List Class} (g : ℕ) → Chain t r cs (script g) → length cs ≤ n → follow n (look t) r ≡ some g
    follow_complete n g ch few = ap ending (own-ends n g ch few)

    -- all chains from a reference lead to one script object
    pub chain_unique : {r : Ref} {cs ds : List Class} (g h : ℕ) → Chain t r cs (script g) → Chain t r ds (script h) → g ≡ h
    chain_unique {r} {cs} {ds} g h c d =
        let p : follow (length cs + length ds) (look t) r ≡ some g = follow_complete (length cs + length ds) g c (omega arith) in
        let q : follow (length cs + length ds) (look t) r ≡ some h = follow_complete (length cs + length ds) h d (omega arith) in
        cc

  -- a chain of at most n classes from r to the script object g
  abbrev pub Leads : ℕ → Ref → ℕ → Type 0
  Leads n r g = (cs : List Class) × Chain t r cs (script g) × (length cs ≤ n)

  pub follow_sound : (n : ℕ) (r : Ref) (g : ℕ) → follow n (look t) r ≡ some g → Leads n r g
  follow_sound n r g e =
      let last : (own_chain n (look t) r).left ≡ script g = ends (own_chain n (look t) r).left g e in
      ((own_chain n (look t) r).classes, rw last at (own_chain_lem n r), own-within n r)
