-- Keys are equal or not: what all else uses of them. Assumes nothing.
use Rattle.std.specs.Prelude.{◌≡◌, refl, Bool, true, false, ◌&&◌, ℕ, T, eqb}
use Rattle.std.proofs.Common.{ap₂, eqb→eq}
use Rattle.std.proofs.Math.Dec.{eqb_refl}
use Rattle.meaning.specs.Key.{Key, public, same_key}

both : (x y : Bool) → T (x && y) → T x × T y
both true true h = (tt, tt)
both true false h = absurd h
both false y h = absurd h

-- equal
pub same_key→eq : (a b : Key) → T (same_key a b) → a ≡ b
unfolding same_key
same_key→eq (public i h) (public j g) t =
    let (p, q) = both (eqb i j) (eqb h g) t in
    ap₂ public (eqb→eq i j p) (eqb→eq h g q)

-- reflexive
pub same_key-refl : (a : Key) → T (same_key a a)
unfolding same_key
same_key-refl (public i h) = go (eqb i i) (eqb h h) (eqb_refl i) (eqb_refl h)
  where
    go : (x y : Bool) → T x → T y → T (x && y)
    go true y h k = k
    go false y h k = h

-- so the test of two keys, by whether they are equal
pub same_key-true : (a b : Key) → a ≡ b → same_key a b ≡ true
same_key-true a b e = rw e (go (same_key b b) (same_key-refl b))
  where
    go : (x : Bool) → T x → x ≡ true
    go true h = refl
    go false h = absurd h

pub same_key-false : (a b : Key) → (a ≡ b → ⊥) → same_key a b ≡ false
same_key-false a b n = go (same_key a b) (same_key→eq a b)
  where
    go : (x : Bool) → (T x → a ≡ b) → x ≡ false
    go true f = absurd (n (f tt))
    go false f = refl

-- symmetric
pub same_key-sym : (a b : Key) → same_key a b ≡ same_key b a
same_key-sym a b = go (same_key a b) (same_key b a) (λ h. rw (same_key→eq a b h) (same_key-refl b)) (λ h. rw (same_key→eq b a h) (same_key-refl a))
  where
    go : (x y : Bool) → (T x → T y) → (T y → T x) → x ≡ y
    go true true f g = refl
    go true false f g = absurd (f tt)
    go false true f g = absurd (g tt)
    go false false f g = refl

-- of public classes by id and hash, as code compares them
pub same_key-public : (i h j g : ℕ) → same_key (public i h) (public j g) ≡ eqb i j && eqb h g
unfolding same_key
same_key-public i h j g = refl

-- keys that are equal have one hash
pub public-hash : {i h j g : ℕ} → public i h ≡ public j g → h ≡ g
public-hash e = cc
