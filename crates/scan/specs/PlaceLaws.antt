-- Laws of places that scanning uses: the first packages of more. Assumes nothing.
use Rattle.std.specs.Prelude.{◌≡◌, length}
use Rattle.std.proofs.Common.{sym, ◌∙◌, ap, arith, add-zero, add-suc}
use mathlib.Core.List.{List, [], ◌∷◌, ◌++◌, append_assoc, append-nil}
use Prim.Native.Nat.{ℕ, zero, suc, ◌+◌, ◌≤◌, ◌<◌}
use Rattle.meaning.specs.Reference.{Package}
use Rattle.packages.specs.Framing.{next_at}
use Rattle.packages.specs.Walk.{package_at, place_of, packages_at, Sites, AllRead}
use Rattle.packages.specs.WalkLaws.{place-next}
use Rattle.scan.specs.Repeats.{ReadAt}

module _ (s : List ℕ) (at : ℕ) where
  pub packages-more : (n d : ℕ) → (ps : List Package) × (packages_at s at (n + d) ≡ packages_at s at n ++ ps)
  unfolding packages_at
  packages-more n zero = ([], rw (add-zero, append-nil))
  packages-more n (suc d) =
      let (ps, e) = packages-more n d in
      let p = package_at s (place_of s at (n + d)) in
      (ps ++ p ∷ [], rw (add-suc n d, e) (append_assoc (packages_at s at n) ps (p ∷ [])))

  -- from a place to the next
  pub next_here : (i : ℕ) {here next : ℕ} → here ≡ place_of s at i → next ≡ next_at s here → next ≡ place_of s at (i + 1)
  next_here i h e = e ∙ (ap (next_at s) h ∙ sym (place-next s at i))

module _ {s : List ℕ} {at n : ℕ} (a : Sites s at n) where
  pub sites-less : (m : ℕ) → m ≤ n → Sites s at m
  sites-less m h = record { site = λ i l. a.site i (omega arith) }

  -- package i, which is at this place, lies inside, and is accepted
  module _ {i here : ℕ} (h : here ≡ place_of s at i) (l : i < n) where
    pub site-here : (here + 12 ≤ length s) × (next_at s here ≤ length s)
    site-here = rw h ((a.site i l).starts, (a.site i l).stops)

    pub read_here : AllRead s at n → ReadAt s here
    read_here r = rw h (record { site = a.site i l; is = r.read i l })
