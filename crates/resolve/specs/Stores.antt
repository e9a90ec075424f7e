-- Numbers stored in a record one behind another: each is read back, and nothing else is changed. Assumes nothing.
use Rattle.std.specs.Prelude.{◌≡◌, List, [], ◌∷◌, ℕ, zero, suc, ◌+◌, ◌^◌, ◌≤◌, ◌<◌, length, get_or}
use Rattle.std.proofs.Common.{◌∙◌, inl, arith}
use Rattle.base.specs.Number.{le_at}
use Rattle.table.specs.Words.{stored, Kept}
use Rattle.table.specs.WordLaws.{kept_read, kept-none, kept_then, kept_wider, stored-kept, stored-read}

-- a number, in so many bytes, from a byte of the record on
pub record Cell : Type 0 where
  pub width : ℕ
  pub from : ℕ
  pub value : ℕ

abbrev pub no_cell : Cell
no_cell = record { width = 0; from = 0; value = 0 }

-- some stored in the record at r, in order
unfoldable pub stores : List Cell → ℕ → List ℕ → List ℕ
stores [] r w = w
stores (x ∷ l) r w = stores l r (stored x.width w (r + x.from) x.value)

-- one behind another, from byte a of the record up to byte b
abbrev pub Within : ℕ → ℕ → List Cell → Type 0
Within a b [] = a ≤ b
Within a b (x ∷ l) = (a ≤ x.from) × Within (x.from + x.width) b l

within-le : (a b : ℕ) (l : List Cell) → Within a b l → a ≤ b
within-le a b [] h = h
within-le a b (x ∷ l) h = let (g, k) = h in omega (arith, within-le (x.from + x.width) b l k)

-- only these bytes are changed
pub stores-kept : (l : List Cell) (a b r : ℕ) (w : List ℕ) → Within a b l → r + b ≤ length w → Kept (r + a) (r + b) w (stores l r w)
unfolding stores
stores-kept [] a b r w h room = kept-none (r + a) (r + b) w
stores-kept (x ∷ l) a b r w h room =
    let (g, k) = h in
    let u = within-le (x.from + x.width) b l k in
    let one = stored-kept x.width w (r + x.from) x.value (omega arith) in
    let more = stores-kept l (x.from + x.width) b r (stored x.width w (r + x.from) x.value) k (omega (arith, one.size)) in
    kept_then (kept_wider one (r + a) (r + b) (omega arith) (omega arith)) (kept_wider more (r + a) (r + b) (omega arith) (omega arith))

-- each is read back
pub stores-read : (l : List Cell) (a b r : ℕ) (w : List ℕ) → Within a b l → r + b ≤ length w → (i : ℕ) → i < length l
    → (get_or l i no_cell).value < 256 ^ (get_or l i no_cell).width
    → le_at (get_or l i no_cell).width (stores l r w) (r + (get_or l i no_cell).from) ≡ (get_or l i no_cell).value
unfolding stores
stores-read [] a b r w h room i m f = absurd (omega arith)
stores-read (x ∷ l) a b r w h room i m f = go i m f (stores-read l (x.from + x.width) b r (stored x.width w (r + x.from) x.value) h.1)
  where
    u : x.from + x.width ≤ b
    u = within-le (x.from + x.width) b l h.1

    one : Kept (r + x.from) (r + x.from + x.width) w (stored x.width w (r + x.from) x.value)
    one = stored-kept x.width w (r + x.from) x.value (omega (arith, u))

    more : Kept (r + (x.from + x.width)) (r + b) (stored x.width w (r + x.from) x.value) (stores l r (stored x.width w (r + x.from) x.value))
    more = stores-kept l (x.from + x.width) b r (stored x.width w (r + x.from) x.value) h.1 (omega (arith, one.size))

    go : (i : ℕ) → i < length (x ∷ l) → (get_or (x ∷ l) i no_cell).value < 256 ^ (get_or (x ∷ l) i no_cell).width
        → (r + b ≤ length (stored x.width w (r + x.from) x.value) → (i : ℕ) → i < length l → (get_or l i no_cell).value < 256 ^ (get_or l i no_cell).width
        → le_at (get_or l i no_cell).width (stores l r (stored x.width w (r + x.from) x.value)) (r + (get_or l i no_cell).from) ≡ (get_or l i no_cell).value)
        → le_at (get_or (x ∷ l) i no_cell).width (stores l r (stored x.width w (r + x.from) x.value)) (r + (get_or (x ∷ l) i no_cell).from) ≡ (get_or (x ∷ l) i no_cell).value
    go zero m f ih = kept_read more x.width (r + x.from) (inl (omega arith)) ∙ stored-read x.width w (r + x.from) x.value (omega (arith, u)) f
    go (suc i) m f ih = ih (omega (arith, one.size)) i (omega arith) f
