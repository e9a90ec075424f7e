-- What holds of the entries of a script block that was read (document 01, questions 10 to 12: "name index in batch? 10; kind 1? 11;
-- index new? 12"): so far as a caller goes, an index names one object. Assumes nothing.
use Rattle.std.specs.Prelude.{◌≡◌, refl, Bool, true, false, not, ◌&&◌, ℕ, zero, suc, ◌+◌, ◌-◌, ◌*◌, leb, ltb, eqb, length}
use Rattle.std.proofs.Common.{sym, ◌∙◌, ap, arith, eqb-true, ltb-true}
use mathlib.Core.List.Memᴰ
use mathlib.Core.List.{List, [], ◌∷◌, Memᴰ}
use Rattle.std.proofs.lemmas.Bool.{eqb-false}
use Rattle.std.specs.Int.Signed.{non_neg}
use Rattle.base.specs.Choose.{choose}
use Rattle.base.specs.Signed.{twos}
use Rattle.base.specs.Index.{kind}
use Rattle.base.specs.Number.{le}
use Rattle.text.specs.Utf16.{is_well}
use Rattle.text.specs.Name.{decoded, base}
use Rattle.base.specs.Reading.{gives, run, onto, rows}
use Rattle.base.specs.ReadingGives.{Gives, gives-run, gives-ask, gives_bind, gives_any, gives_weaken, length-onto, rows-length}
use Rattle.batch.specs.Batch.{Batch, batch, no_names, some_names, body, strings, strings_on, head}
use Rattle.batch.specs.declared.names.Head.{Head}
use Rattle.scriptblock.specs.Script.{Objects, entry, fresh, entries, entries_on, opening, script}
use Rattle.scriptblock.specs.declared.script.Entry.{Entry}
pub use Rattle.scriptblock.specs.ScriptGood.{Apart, Entered, Good}

-- so two entries with one global index are one
pub apart_members : (es : List Entry) → Apart es → (d e : Entry) → Memᴰ d es → Memᴰ e es → d.global ≡ e.global → d ≡ e
apart_members [] a d e x4 _ g = elim x4 [ ]
apart_members (x ∷ es) a d e (Memᴰ.head p) (Memᴰ.head q) g = p ∙ sym q
apart_members (x ∷ es) a d e (Memᴰ.head p) (Memᴰ.tail n) g = absurd (a.0 e n (sym g ∙ ap (λ (z : Entry). z.global) p))
apart_members (x ∷ es) a d e (Memᴰ.tail m) (Memᴰ.head q) g = absurd (a.0 d m (g ∙ ap (λ (z : Entry). z.global) q))
apart_members (x ∷ es) a d e (Memᴰ.tail m) (Memᴰ.tail n) g = apart_members es a.1 d e m n g

-- the last first, turned round
onto-apart : (d l : List Entry) → Apart d → Apart l → ((x y : Entry) → Memᴰ x d → Memᴰ y l → x.global ≡ y.global → ⊥) → Apart (onto d l)
onto-apart [] l a b f = b
onto-apart (z ∷ d) l a b f = onto-apart d (z ∷ l) a.1 ((λ y m e. f z y (Memᴰ.head refl) m (sym e)), b) (cross)
  where
    cross : (x y : Entry) → Memᴰ x d → Memᴰ y (z ∷ l) → x.global ≡ y.global → ⊥
    cross x y m (Memᴰ.head p) e = a.0 x m (e ∙ ap (λ (w : Entry). w.global) p)
    cross x y m (Memᴰ.tail n) e = f x y (Memᴰ.tail m) n e

onto-entered : (names : ℕ) (d l : List Entry) → Entered names d → Entered names l → Entered names (onto d l)
onto-entered names [] l a b = b
onto-entered names (z ∷ d) l a b = onto-entered names d (z ∷ l) (λ e m. a e (Memᴰ.tail m)) (grown)
  where
    grown : Entered names (z ∷ l)
    grown e (Memᴰ.head p) = rw p (a z (Memᴰ.head refl))
    grown e (Memᴰ.tail m) = b e m

-- what question 12 says
fresh-apart : (g : ℕ) (es : List Entry) → fresh g es ≡ true → (d : Entry) → Memᴰ d es → d.global ≡ g → ⊥
fresh-apart g [] t d m e = elim m [ ]
fresh-apart g (x ∷ es) t d m e = go (eqb g x.global) refl (fresh-apart g es) t m
  where
    go : (b : Bool) → eqb g x.global ≡ b → (fresh g es ≡ true → (d : Entry) → Memᴰ d es → d.global ≡ g → ⊥) → (not b && fresh g es) ≡ true
        → Memᴰ d (x ∷ es) → ⊥
    go true q ih t m = let z : ◌≡◌ {A = ℕ} 0 1 = cc in omega arith
    go false q ih t (Memᴰ.head p) = eqb-false g x.global q (sym e ∙ ap (λ (w : Entry). w.global) p)
    go false q ih t (Memᴰ.tail m) = ih t d m e

-- entries, after those done
abbrev Read : ℕ → List Entry → Type 0
Read names es = Apart es × Entered names es

grow : (names : ℕ) (done : List Entry) (e : Entry) → Read names done → ltb e.index names ≡ true → eqb (kind e.global) 1 ≡ true
    → fresh e.global done ≡ true → Read names (e ∷ done)
grow names done e r i k f = ((fresh-apart e.global done f, r.0), each)
  where
    each : Entered names (e ∷ done)
    each d (Memᴰ.head p) = rw p (eqb-true (kind e.global) 1 k, ltb-true e.index names i)
    each d (Memᴰ.tail m) = r.1 d m

entries_on_lem : (names n : ℕ) (done : List Entry) → Read names done → Gives (Read names) (entries_on done names n)
entries_on_lem names zero done r =
    (onto-apart done [] r.0 tt (λ x y m n e. Memᴰ.not-nil n), onto-entered names done [] r.1 (λ e m. absurd (Memᴰ.not-nil m)))
entries_on_lem names (suc n) done r =
    gives_bind (λ a. Unit {0}) (Read names) entry _ (gives_any entry) λ e u.
    gives-ask (Read names) (ltb e.index names) 10 _ λ i.
    gives-ask (Read names) (eqb (kind e.global) 1) 11 _ λ k.
    gives-ask (Read names) (fresh e.global done) 12 _ λ f.
    entries_on_lem names n (e ∷ done) (grow names done e r i k f)

-- a batch has as many texts as it counts
abbrev Long : List (List ℕ) → List Head → List (List ℕ) → Type 0
Long done hs ts = length ts ≡ length done + length hs

strings-length : (hs : List Head) (done : List (List ℕ)) (room : ℕ) → Gives (Long done hs) (strings_on done hs room)
strings-length [] done room = gives-ask (Long done []) (eqb room 0) 7 _ λ t. length-onto done []
strings-length (h ∷ hs) done room =
    gives-ask (Long done (h ∷ hs)) (leb h.size room) 5 _ λ l t.
    gives-ask (Long done (h ∷ hs)) (is_well (decoded h.wide t)) 6 _ λ w.
    gives_weaken (Long (base h.wide t ∷ done) hs) (Long done (h ∷ hs)) (strings_on (base h.wide t ∷ done) hs (room - h.size)) (λ ts e. omega arith)
    (strings-length hs (base h.wide t ∷ done) (room - h.size))

abbrev Counted : Batch → Type 0
Counted b = length b.texts ≡ b.place.count

body-counted : (n room : ℕ) → Gives Counted (body n room)
unfolding body strings
body-counted n room = λ h.
    gives_bind (λ hs. length hs ≡ n) Counted (rows n head) _ (rows-length head n) λ hs e p l.
    gives-ask Counted (leb room l) 3 _ λ q.
    gives_bind (Long [] hs) Counted (strings_on [] hs room) _ (strings-length hs [] room) λ ts t «end». omega arith

batch-counted : Gives Counted batch
unfolding batch no_names some_names
batch-counted = λ l. go (eqb (le l) 0) (le l)
  where
    go : (b : Bool) (n : ℕ) → Gives Counted (choose b (λ _. no_names) (λ _. some_names n))
    go true n = λ p. refl
    go false n = λ r v. gives-ask Counted (eqb (le v) 0xC1640000) 4 _ λ t. body-counted n (le r)

opening-counted : Gives (λ o. length o.names ≡ o.layout.names.count) opening
unfolding opening
opening-counted = gives_bind Counted _ batch _ batch-counted λ b c n.
    gives-ask _ (non_neg (twos 32 (le n))) 8 _ λ s l.
    gives-ask _ (leb (32 * le n) l) 9 _ λ t p. c

-- THE LAW: the objects of a script block that was read
pub script-good : (b : List ℕ) (o : Objects) → run script 0 b ≡ gives o → Good o
unfolding script entries
script-good b o e = gives-run Good script whole 0 b e
  where
    whole : Gives Good script
    whole = gives_bind (λ o. length o.names ≡ o.layout.names.count) Good opening _ opening-counted λ o c.
        gives_bind (Read o.layout.names.count) Good (entries_on [] o.layout.names.count o.layout.count) _
        (entries_on_lem o.layout.names.count o.layout.count [] (tt, λ e m. absurd (Memᴰ.not-nil m))) λ es r left.
        gives-ask Good (eqb left 0) 13 _ λ t. record { apart = r.0; entered = rw c r.1 }
