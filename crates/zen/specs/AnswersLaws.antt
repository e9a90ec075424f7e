-- What the code's answers about a package say of the readings that they come from.
use Rattle.std.specs.Prelude.{◌≡◌, refl, ℕ, Ok, Err}
use Rattle.base.specs.Never.{never}
use Rattle.base.specs.Reading.{Out, refused, gives, Got, bad, got}
use Rattle.batch.specs.declared.names.Names.{Names}
use Rattle.zen.specs.Zen.{Imports, Read}
use Rattle.zen.specs.Answers.{led, summed, imported, answer}
use Rattle.zen.specs.declared.summary.Summary.{Summary}
use Rattle.zen.specs.declared.zen.Layout.{Layout}

-- what stands before the header
pub led-header : (g : Got ℕ) {size : ℕ} → led g ≡ Ok size → (n : ℕ) × (g ≡ got size n)
unfolding led
led-header (got a n) {size} q = (n, let z : a ≡ size = cc in rw z)
led-header (bad e) q = never (cc)

pub led-fault : (g : Got ℕ) {e : ℕ} → led g ≡ Err e → g ≡ bad e
unfolding led
led-fault (got a n) q = never (cc)
led-fault (bad e) q = cc

-- a package
pub accepted-got : (x : Out Read) {l : Layout} → answer x ≡ Ok l → (r : Read) × (x ≡ gives r) × (r.layout ≡ l)
unfolding answer
accepted-got (refused e) q = never (cc)
accepted-got (gives r) q = (r, refl, cc)

pub rejected-got : (x : Out Read) {e : ℕ} → answer x ≡ Err e → x ≡ refused e
unfolding answer
rejected-got (refused f) q = cc
rejected-got (gives r) q = never (cc)

-- a summary
pub summed-told : (g : Got Summary) {m : Summary} → summed g ≡ Ok m → (n : ℕ) × (g ≡ got m n)
unfolding summed
summed-told (got a k) {m} q = (k, let z : a ≡ m = cc in rw z)
summed-told (bad r) q = never (cc)

pub summed-missed : (g : Got Summary) {r : ℕ} → summed g ≡ Err r → g ≡ bad r
unfolding summed
summed-missed (got a k) q = never (cc)
summed-missed (bad r) q = cc

-- the imported names
pub imported-found : (g : Got Imports) {n : Names} → imported g ≡ Ok n → (v : Imports) × (k : ℕ) × (g ≡ got v k) × (v.batch.place ≡ n)
unfolding imported
imported-found (got v k) q = (v, k, refl, cc)
imported-found (bad r) q = never (cc)

pub imported-refused : (g : Got Imports) {r : ℕ} → imported g ≡ Err r → g ≡ bad r
unfolding imported
imported-refused (got v k) q = never (cc)
imported-refused (bad r) q = cc
