-- A name batch by position.
use Rattle.std.specs.Prelude.{◌≡◌, List, [], ◌∷◌, Bool, ℕ, zero, suc, ◌+◌, ◌*◌, ◌-◌, ◌≤◌, ◌<◌, leb, eqb, length, take, drop, Ok, Err}
use Rattle.std.proofs.Math.Path.{refl, ap}
use Rattle.std.proofs.Common.{sym, ◌∙◌, arith, sub-one, le-leb, eq-eqb, ne_eqb, leb-true, eqb-true}
use Rattle.std.proofs.Math.Bool.{true, false}
use Rattle.std.proofs.lemmas.Bool.{lt-leb}
use Rattle.std.proofs.Math.ListN.{get_or}
use Rattle.std.proofs.Math.Seq.{get_or-take, get_or-drop}
use Rattle.base.specs.Choose.{choose, pick}
use Rattle.text.specs.Utf16.{is_well}
use Rattle.text.specs.Name.{decoded, base}
use Rattle.base.specs.Reading.{Got, bad, got, give, walk, rows, ask, onto, ◌>>◌}
use Rattle.base.specs.ReadingLaws.{chain, walk_bind, pick-by, ask-is, pick_cong}
use Rattle.base.specs.ReadingRows.{cells, map_got, rows-there, rows_short, map-pick, map-by}
use Rattle.base.specs.Number.{le, le_at}
use Rattle.base.specs.NumberLaws.{le_at-is}
use Rattle.batch.specs.Batch.{head, head_at, strings_on, strings, Batch, batch, no_names, some_names, body}
use Rattle.batch.specs.BatchAnswers.{checked}
use Rattle.batch.specs.BatchAnswersLaws.{checked-map, checked-got, checked-bad}
use Rattle.batch.specs.Places.{name_start, texts_at}
use Rattle.batch.specs.declared.names.Head.{Head}
use Rattle.batch.specs.declared.names.Names.{Names}

-- a name's header
module _ (s : List ℕ) (at : ℕ) where
  pub head-there : at + 2 ≤ length s → walk head s at ≡ got (head_at s at) (at + 2)
  unfolding head head_at
  head-there h =
      let a : get_or (take 2 (drop at s)) 0 0 ≡ get_or s at 0 =
      get_or-take 2 (drop at s) 0 0 (omega arith) ∙ (get_or-drop at s 0 0 ∙ ap (λ n. get_or s n 0) (omega arith)) in
      let b : get_or (take 2 (drop at s)) 1 0 ≡ get_or s (at + 1) 0 = get_or-take 2 (drop at s) 1 0 (omega arith) ∙ get_or-drop at s 1 0 in
      rw (le-leb (at + 2) (length s) h, a, b)

  pub head-short : length s < at + 2 → walk head s at ≡ bad 3
  unfolding head
  head-short h = rw (lt-leb (at + 2) (length s) h)

-- the bytes of a name at a place, and its text
abbrev part : Head → List ℕ → ℕ → List ℕ
part h s at = take h.size (drop at s)

abbrev text : Head → List ℕ → ℕ → List ℕ
text h s at = base h.wide (part h s at)

-- one name, and what the names behind it give
abbrev one : Head → ℕ → List ℕ → ℕ → Got (List (List ℕ)) → Got (List (List ℕ))
one h room s at x = pick (leb h.size room) (pick (leb (at + h.size) (length s)) (pick (is_well (decoded h.wide (part h s at))) x (bad 6)) (bad 3)) (bad 5)

first : (h : Head) (hs : List Head) (done : List (List ℕ)) (room : ℕ) (s : List ℕ) (at : ℕ) {x : Got (List (List ℕ))}
    → walk (strings_on (text h s at ∷ done) hs (room - h.size)) s (at + h.size) ≡ x → walk (strings_on done (h ∷ hs) room) s at ≡ one h room s at x
first h hs done room s at e =
    ask-is (leb h.size room) 5 _ s at ∙ pick_cong (leb h.size room) (bad 5) λ a.
    pick_cong (leb (at + h.size) (length s)) (bad 3) λ b.
    ask-is (is_well (decoded h.wide (part h s at))) 6 _ s (at + h.size) ∙ pick_cong (is_well (decoded h.wide (part h s at))) (bad 6) λ c. e

one_map : (g : List (List ℕ) → List (List ℕ)) (h : Head) (room : ℕ) (s : List ℕ) (at : ℕ) (x : Got (List (List ℕ)))
    → map_got g (one h room s at x) ≡ one h room s at (map_got g x)
one_map g h room s at x =
    map-pick g (leb h.size room) _ 5 ∙ rw (map-pick g (leb (at + h.size) (length s)) _ 3, map-pick g (is_well (decoded h.wide (part h s at))) _ 6)

two : (done : List (List ℕ)) (x : List ℕ) (g : Got (List (List ℕ))) → map_got (onto done) (map_got (onto (x ∷ [])) g) ≡ map_got (onto (x ∷ done)) g
two done x (bad r) = refl
two done x (got l k) = refl

none_left : (t : Bool) (done : List (List ℕ)) (s : List ℕ) (at : ℕ)
    → walk (ask t 7 >> give (onto done [])) s at ≡ map_got (onto done) (walk (ask t 7 >> give []) s at)
none_left true done s at = refl
none_left false done s at = refl

strings_on-is : (hs : List Head) (done : List (List ℕ)) (room : ℕ) (s : List ℕ) (at : ℕ)
    → walk (strings_on done hs room) s at ≡ map_got (onto done) (walk (strings_on [] hs room) s at)
strings_on-is [] done room s at = none_left (eqb room 0) done s at
strings_on-is (h ∷ hs) done room s at =
    let x = walk (strings_on [] hs (room - h.size)) s (at + h.size) in
    first h hs done room s at (strings_on-is hs (text h s at ∷ done) (room - h.size) s (at + h.size))
    ∙ sym (ap (map_got (onto done)) (first h hs [] room s at (strings_on-is hs (text h s at ∷ []) (room - h.size) s (at + h.size)))
    ∙ (one_map (onto done) h room s at (map_got (onto (text h s at ∷ [])) x) ∙ ap (one h room s at) (two done (text h s at) x)))

pub strings_cons : (h : Head) (hs : List Head) (room : ℕ) (s : List ℕ) (at : ℕ)
    → walk (strings (h ∷ hs) room) s at ≡ one h room s at (map_got (λ ts. text h s at ∷ ts) (walk (strings hs (room - h.size)) s (at + h.size)))
unfolding strings
strings_cons h hs room s at = first h hs [] room s at (strings_on-is hs (text h s at ∷ []) (room - h.size) s (at + h.size))

pub strings_nil : (room : ℕ) (s : List ℕ) (at : ℕ) → walk (strings [] room) s at ≡ pick (eqb room 0) (got [] at) (bad 7)
unfolding strings
strings_nil room s at = ask-is (eqb room 0) 7 (give []) s at

-- the names from one on, by position
module _ (s : List ℕ) («end» : ℕ) where
  pub names-none : (k h p : ℕ) → k ≤ 0 → p ≡ «end» → checked (walk (strings (cells (head_at s) 2 h k) («end» - p)) s p) ≡ Ok tt
  names-none zero h p l e = checked-got {a = []} {n = p} (strings_nil («end» - p) s p ∙ rw (eq-eqb («end» - p) 0 (omega arith)))
  names-none (suc k) h p l e = absurd (omega arith)

  pub names-left : (k h p : ℕ) → k ≤ 0 → p ≤ «end» → (p ≡ «end» → ⊥) → checked (walk (strings (cells (head_at s) 2 h k) («end» - p)) s p) ≡ Err 7
  names-left zero h p l g e = checked-bad (strings_nil («end» - p) s p ∙ rw (ne_eqb («end» - p) 0 (λ z. e (omega arith))))
  names-left (suc k) h p l g e = absurd (omega arith)

  pub names-out : (k h p : ℕ) → 0 < k → «end» - p < (head_at s h).size → checked (walk (strings (cells (head_at s) 2 h k) («end» - p)) s p) ≡ Err 5
  names-out zero h p l g = absurd (omega arith)
  names-out (suc k) h p l g =
      checked-bad (strings_cons (head_at s h) (cells (head_at s) 2 (h + 2) k) («end» - p) s p ∙ rw (lt-leb (head_at s h).size («end» - p) g))

  -- a name within the strings
  pub names-ill : (k h p : ℕ) → 0 < k → «end» ≤ length s → p ≤ «end» → (head_at s h).size ≤ «end» - p
      → is_well (decoded (head_at s h).wide (part (head_at s h) s p)) ≡ false
      → checked (walk (strings (cells (head_at s) 2 h k) («end» - p)) s p) ≡ Err 6
  names-ill zero h p l b c g w = absurd (omega arith)
  names-ill (suc k) h p l b c g w =
      checked-bad (strings_cons (head_at s h) (cells (head_at s) 2 (h + 2) k) («end» - p) s p
      ∙ rw (le-leb (head_at s h).size («end» - p) g, le-leb (p + (head_at s h).size) (length s) (omega arith), w))

  pub names-pass : (k h p : ℕ) → 0 < k → «end» ≤ length s → p ≤ «end» → (head_at s h).size ≤ «end» - p
      → is_well (decoded (head_at s h).wide (part (head_at s h) s p)) ≡ true
      → checked (walk (strings (cells (head_at s) 2 h k) («end» - p)) s p)
      ≡ checked (walk (strings (cells (head_at s) 2 (h + 2) (k - 1)) («end» - (p + (head_at s h).size))) s (p + (head_at s h).size))
  names-pass zero h p l b c g w = absurd (omega arith)
  names-pass (suc k) h p l b c g w =
      let r : «end» - p - (head_at s h).size ≡ «end» - (p + (head_at s h).size) = omega arith in
      rw (
        strings_cons (head_at s h) (cells (head_at s) 2 (h + 2) k) («end» - p) s p,
        le-leb (head_at s h).size («end» - p) g,
        le-leb (p + (head_at s h).size) (length s) (omega arith),
        w,
        r,
        sub-one,
      )
      (checked-map (walk (strings (cells (head_at s) 2 (h + 2) k) («end» - (p + (head_at s h).size))) s (p + (head_at s h).size)) (λ ts. text (head_at s h) s p ∷ ts))

-- k names with headers from h, read from p on: their texts are those at their places, and they use the room up
pub record Strings (s : List ℕ) (h p k room : ℕ) (ts : List (List ℕ)) (e : ℕ) : Type 0 where
  pub texts : ts ≡ texts_at s h p k
  pub ends : e ≡ p + room
  pub spans : name_start s h p k ≡ p + room
  pub well : (i : ℕ) → i < k → is_well (decoded (head_at s (h + 2 * i)).wide (part (head_at s (h + 2 * i)) s (name_start s h p i))) ≡ true

pub strings-got : (s : List ℕ) (k h room p : ℕ) (ts : List (List ℕ)) (e : ℕ) → walk (strings (cells (head_at s) 2 h k) room) s p ≡ got ts e
    → Strings s h p k room ts e
unfolding name_start texts_at
strings-got s zero h room p ts e q =
    pick-by (eqb room 0) (got [] p) 7 (sym (strings_nil room s p) ∙ q) λ a r.
    let z = eqb-true room 0 a in
    let y : p ≡ e = cc in
    let x : [] ≡ ts = cc in
    record { texts = sym x; ends = omega arith; spans = omega arith; well = λ i l. absurd (omega arith) }
strings-got s (suc k) h room p ts e q =
    pick-by (leb (head_at s h).size room) _ 5 (sym (strings_cons (head_at s h) (cells (head_at s) 2 (h + 2) k) room s p) ∙ q) λ a r.
    pick-by (leb (p + (head_at s h).size) (length s)) _ 3 r λ b r.
    pick-by (is_well (decoded (head_at s h).wide (part (head_at s h) s p))) _ 6 r λ c r.
    map-by (λ ts. text (head_at s h) s p ∷ ts) (walk (strings (cells (head_at s) 2 (h + 2) k) (room - (head_at s h).size)) s (p + (head_at s h).size)) r λ us u v.
    let z = leb-true (head_at s h).size room a in
    let i = strings-got s k (h + 2) (room - (head_at s h).size) (p + (head_at s h).size) us e u in
    record {
      texts = sym v ∙ ap (λ us. text (head_at s h) s p ∷ us) i.texts;
      ends = omega (arith, i.ends);
      spans = omega
          (arith, i.spans);
      well = go c i.well;
    }
  where
    go : is_well (decoded (head_at s h).wide (part (head_at s h) s p)) ≡ true
        → ((j : ℕ) → j < k → is_well
        (decoded (head_at s (h + 2 + 2 * j)).wide (part (head_at s (h + 2 + 2 * j)) s (name_start s (h + 2) (p + (head_at s h).size) j))) ≡ true)
        → (i : ℕ) → i < suc k → is_well (decoded (head_at s (h + 2 * i)).wide (part (head_at s (h + 2 * i)) s (name_start s h p i))) ≡ true
    go w f zero l = let e : h + 2 * 0 ≡ h = omega arith in rw e w
    go w f (suc j) l = let e : h + 2 + 2 * j ≡ h + 2 * suc j = omega arith in rw e at (f j (omega arith))

-- a batch of no names, before the place p
abbrev pub none_at : ℕ → Batch
none_at p = record { place = record { count = 0; headers = p; strings = p; «end» = p }; texts = [] }

-- a batch, by its questions
module _ (s : List ℕ) (at : ℕ) where
  -- by the count n that is read
  abbrev counted : ℕ → Got Batch
  counted n = pick (leb (at + 4) (length s)) (pick (eqb n 0) (got (none_at (at + 4)) (at + 4)) (walk (some_names n) s (at + 4))) (bad 3)

  pub batch-is : walk batch s at ≡ counted (le_at 4 s at)
  unfolding batch no_names
  batch-is = rw (le_at-is 4 s at) (pick_cong (leb (at + 4) (length s)) (bad 3) λ a. go (le (take 4 (drop at s))) (eqb (le (take 4 (drop at s))) 0))
    where
      go : (n : ℕ) (t : Bool) → walk (choose t (λ _. no_names) (λ _. some_names n)) s (at + 4)
          ≡ pick t (got (none_at (at + 4)) (at + 4)) (walk (some_names n) s (at + 4))
      go n true = refl
      go n false = refl

  -- by the length of the strings and the version that are read
  abbrev versioned : ℕ → ℕ → ℕ → Got Batch
  versioned n room v =
      pick (leb (at + 4) (length s)) (pick (leb (at + 4 + 8) (length s)) (pick (eqb v 0xC1640000) (walk (body n room) s (at + 4 + 8)) (bad 4)) (bad 3)) (bad 3)

  pub some_is : (n : ℕ) → walk (some_names n) s at ≡ versioned n (le_at 4 s at) (le_at 8 s (at + 4))
  unfolding some_names
  some_is n =
      rw (le_at-is 4 s at, le_at-is 8 s (at + 4))
      (pick_cong (leb (at + 4) (length s)) (bad 3) λ a.
      pick_cong (leb (at + 4 + 8) (length s)) (bad 3) λ b.
      ask-is (eqb (le (take 8 (drop (at + 4) s))) 0xC1640000) 4 _ s (at + 4 + 8))

  module _ (n room : ℕ) where
    abbrev pub place_of_lem : ℕ → Names
    place_of_lem e = record { count = n; headers = at + 8 * n; strings = at + 8 * n + 2 * n; «end» = e }

    pub body-hashes : length s < at + 8 * n → walk (body n room) s at ≡ bad 3
    unfolding body
    body-hashes h = rw (lt-leb (at + 8 * n) (length s) h)

    module _ (l : at + 8 * n ≤ length s) where
      pub body-heads : length s < at + 8 * n + 2 * n → walk (body n room) s at ≡ bad 3
      unfolding body
      body-heads h =
          rw (le-leb (at + 8 * n) (length s) l, walk_bind (rows n head), rows_short head s (head_at s) 2 (head-there s) (head-short s) n (at + 8 * n) l h)

      module _ (m : at + 8 * n + 2 * n ≤ length s) where
        pub body-room : length s < at + 8 * n + 2 * n + room → walk (body n room) s at ≡ bad 3
        unfolding body
        body-room h =
            rw (le-leb (at + 8 * n) (length s) l, walk_bind (rows n head), rows-there head s (head_at s) 2 (head-there s) n (at + 8 * n) m)
            (ask-is (leb room (length s - (at + 8 * n + 2 * n))) 3 _ s (at + 8 * n + 2 * n) ∙ rw (lt-leb room (length s - (at + 8 * n + 2 * n)) (omega arith)))

        pub body_is : at + 8 * n + 2 * n + room ≤ length s
            → walk (body n room) s at
            ≡ chain (walk (strings (cells (head_at s) 2 (at + 8 * n) n) room) s (at + 8 * n + 2 * n)) (λ ts e. got (record { place = place_of_lem e; texts = ts }) e)
        unfolding body
        body_is h =
            rw (le-leb (at + 8 * n) (length s) l, walk_bind (rows n head), rows-there head s (head_at s) 2 (head-there s) n (at + 8 * n) m)
            (ask-is (leb room (length s - (at + 8 * n + 2 * n))) 3 _ s (at + 8 * n + 2 * n)
            ∙ rw (le-leb room (length s - (at + 8 * n + 2 * n)) (omega arith))
            (walk_bind (strings (cells (head_at s) 2 (at + 8 * n) n) room) _ s (at + 8 * n + 2 * n)))
