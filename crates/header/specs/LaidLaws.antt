-- Bytes written at a place of a buffer; headers and strings of texts, written text by text. Assumes nothing.
use Rattle.std.specs.Prelude.{◌≡◌, refl, true, List, [], ◌∷◌, ◌++◌, ℕ, ◌+◌, ◌*◌, ◌-◌, ◌≤◌, ◌<◌, length, take, drop}
use Rattle.std.proofs.Common.{sym, ◌∙◌, ap, append_assoc, append-nil, arith, length-append, length-drop, take-append-drop, take_at, drop_at, drop-drop, length-take-le}
use Rattle.base.specs.Find.{flat}
use Rattle.base.specs.FindLaws.{length-each}
use Rattle.base.specs.LoopLaws.{flat_append}
use Rattle.base.specs.Output.{over, Wrote}
use Rattle.base.specs.OutputLaws.{wrote_as, wrote-rest, wrote-taken, drop-over}
use Rattle.description.specs.BatchFront.{length-head}
use Rattle.written.specs.BatchBytes.{head_bytes, string_bytes}
use Rattle.header.specs.Places.{text_at, next_text, texts_from}
use Rattle.header.specs.Parts.{texts_fit, laid}
use Rattle.header.specs.PartsLaws.{Fitting, fit-first}
use Rattle.header.specs.TextLoops.{texts-count, texts-none, texts-next}

-- ---- a buffer

-- what stands in it counts as written
wrote-same : (s : List ℕ) (n : ℕ) → n ≤ length s → Wrote s (take n s) s n
unfolding over
wrote-same s n h = record {
  size = sym (length-take-le n s h);
  fits = h;
  is = rw (length-take-le n s h) (sym (take-append-drop n s));
}

-- b was written to the part `&mut out[n..]`, which has come back
laid-rest : (o : List ℕ) {b p : List ℕ} (n : ℕ) {m : ℕ} → n ≤ length o → Wrote (take (length o - n) (drop n o)) b p m
    → take n o ++ (p ++ drop (length o - n) (drop n o)) ≡ laid o n b
unfolding over laid
laid-rest o {b} {p} n {m} h v =
    let w = wrote-rest (wrote-same o n h) v in
    let e : length (take n o ++ b) ≡ n + length b = length-append (take n o) b ∙ ap (λ (k : ℕ). k + length b) (length-take-le n o h) in
    w.is ∙ ap (λ (k : ℕ). take n o ++ b ++ drop k o) e

-- a was copied to the part `out[at..at + k]`
laid-copy : (o a x : List ℕ) (at k : ℕ) → x ≡ a → k ≡ length a → take at o ++ (x ++ drop k (drop at o)) ≡ laid o at a
unfolding laid
laid-copy o a x at k e l = rw (e, l, drop-drop (length a) at o) (sym (append_assoc (take at o) a (drop (at + length a) o)))

-- first b, then a
pub laid_both : (o : List ℕ) {b p : List ℕ} (n : ℕ) {m : ℕ} → n ≤ length o → Wrote (take (length o - n) (drop n o)) b p m → (at k : ℕ) {a x : List ℕ}
    → x ≡ a → k ≡ length a
    → let now = take n o ++ (p ++ drop (length o - n) (drop n o)) in take at now ++ (x ++ drop k (drop at now)) ≡ laid (laid o n b) at a
laid_both o {b} {p} n h v at k {a} {x} e l =
    laid-copy (take n o ++ (p ++ drop (length o - n) (drop n o))) a x at k e l ∙ ap (λ (z : List ℕ). laid z at a) (laid-rest o n h v)

-- behind what was written
wrote-laid : {s a o : List ℕ} {n : ℕ} → Wrote s a o n → (b : List ℕ) → n + length b ≤ length s → Wrote s (a ++ b) (laid o n b) (n + length b)
unfolding over laid
wrote-laid {s} {a} {o} {n} w b h =
    let e : length (a ++ b) ≡ n + length b = length-append a b ∙ ap (λ (k : ℕ). k + length b) (sym w.size) in
    let d : drop n o ≡ drop n s = ap (drop n) w.is ∙ drop-over s a n (sym w.size) in
    record {
      size = sym e;
      fits = h;
      is = rw (wrote-taken w, ← drop-drop (length b) n o, d, drop-drop (length b) n s, e);
    }

-- in the midst of it
wrote_midst : {s o : List ℕ} {n at : ℕ} (p x q v : List ℕ) → Wrote s (p ++ x ++ q) o n → length p ≡ at → length v ≡ length x
    → Wrote s (p ++ v ++ q) (laid o at v) n
unfolding over laid
wrote_midst {s} {o} {n} {at} p x q v w e l =
    let r = drop (length (p ++ x ++ q)) s in
    let g : (y : List ℕ) → p ++ y ++ q ++ r ≡ p ++ (y ++ (q ++ r)) = λ y. simp append_assoc in
    let k : length (p ++ v ++ q) ≡ length (p ++ x ++ q) = simp length-append (omega arith) in
    let f : o ≡ p ++ (x ++ (q ++ r)) = w.is ∙ g x in
    let t : take at o ≡ p = ap (take at) f ∙ take_at p (x ++ (q ++ r)) at e in
    let d : drop at o ≡ x ++ (q ++ r) = ap (drop at) f ∙ drop_at p (x ++ (q ++ r)) at e in
    record {
      size = w.size ∙ sym k;
      fits = w.fits;
      is = rw (t, ← drop-drop (length v) at o, d, drop_at x (q ++ r) (length v) (sym l), k, g v) (append_assoc p v (q ++ r));
    }

-- ---- texts, one by one

-- The buffer old is now o. Of the texts ts all but the rest are written: their headers to its front, their strings up to n; between them is left
-- open what the rest's headers take.
pub record Between (ts : List (List ℕ)) (old o : List ℕ) (rest : List (List ℕ)) (n : ℕ) : Type 0 where
  pub done : List (List ℕ)
  pub gap : List ℕ
  pub wrote : Wrote old (flat head_bytes done ++ gap ++ flat string_bytes done) o n
  pub size : length gap ≡ 2 * length rest
  pub is : done ++ rest ≡ ts

heads-length : (ts : List (List ℕ)) → length (flat head_bytes ts) ≡ 2 * length ts
heads-length ts = length-each head_bytes 2 length-head ts

module _ (ts : List (List ℕ)) (old : List ℕ) (room : length (flat head_bytes ts ++ flat string_bytes ts) ≤ length old) where
  pub heads-room : 2 * length ts ≤ length old
  heads-room = omega (arith, heads-length ts, length-append (flat head_bytes ts) (flat string_bytes ts))

  between_none : Between ts old old ts (2 * length ts)
  between_none = record {
    done = [];
    gap = take (2 * length ts) old;
    wrote = wrote_as (wrote-same old (2 * length ts) heads-room) (sym (append-nil (take (2 * length ts) old)));
    size = length-take-le (2 * length ts) old heads-room;
    is = refl;
  }

  module _ {o : List ℕ} {n : ℕ} {rest : List (List ℕ)} (b : Between ts old o rest n) where
    between-all : rest ≡ [] → Wrote old (flat head_bytes ts ++ flat string_bytes ts) o n
    between-all e = wrote_as b.wrote (rw (none b.gap (b.size ∙ rw e), append-nil (flat head_bytes b.done), all))
      where
        none : (l : List ℕ) → length l ≡ 0 → l ≡ []
        none [] e = refl
        none (x ∷ l) e = absurd (omega arith)

        all : b.done ≡ ts
        all = sym (append-nil b.done) ∙ (rw e at b.is)

    between-count : length b.done + length rest ≡ length ts
    between-count = sym (length-append b.done rest) ∙ ap length b.is

    -- where the next string goes
    place : n ≡ 2 * length ts + length (flat string_bytes b.done)
    place =
        let h = flat head_bytes b.done in
        let s = flat string_bytes b.done in
        omega (
          arith,
          b.wrote.size,
          length-append (h ++ b.gap) s,
          length-append h b.gap,
          heads-length b.done,
          b.size,
          between-count,
        )

    -- one text more
    module _ (t : List ℕ) (others : List (List ℕ)) (e : rest ≡ t ∷ others) where
      strings : flat string_bytes ts ≡ flat string_bytes b.done ++ (string_bytes t ++ flat string_bytes others)
      strings = ap (flat string_bytes) (sym b.is) ∙ rw e (flat_append string_bytes b.done (t ∷ others))

      between-room : n + length (string_bytes t) ≤ length old
      between-room =
          omega (
            arith,
            room,
            place,
            length-append (flat head_bytes ts) (flat string_bytes ts),
            heads-length ts,
            ap length strings,
            length-append (flat string_bytes b.done) (string_bytes t ++ flat string_bytes others),
            length-append (string_bytes t) (flat string_bytes others),
          )

      gap-left : length b.gap ≡ 2 + 2 * length others
      gap-left = omega (arith, b.size, ap length e)

      -- the string behind what was written, the header to the front of what is open
      string_head : (head : ℕ) → head ≡ 2 * length b.done
          → let p = flat head_bytes b.done ++ head_bytes t in
          Wrote old (p ++ (drop 2 b.gap ++ (flat string_bytes b.done ++ string_bytes t))) (laid (laid o n (string_bytes t)) head (head_bytes t))
          (n + length (string_bytes t))
      string_head head h =
          let hs = flat head_bytes b.done in
          let ss = flat string_bytes b.done in
          let f = take 2 b.gap in
          let g = drop 2 b.gap in
          let r : hs ++ (f ++ g) ++ ss ++ string_bytes t ≡ hs ++ f ++ (g ++ (ss ++ string_bytes t)) = simp append_assoc in
          let v : Wrote old (hs ++ (f ++ g) ++ ss) o n = rw (take-append-drop 2 b.gap) b.wrote in
          let w = wrote-laid v (string_bytes t) between-room in
          wrote_midst hs f (g ++ (ss ++ string_bytes t)) (head_bytes t) (wrote_as w r) (heads-length b.done ∙ sym h)
          (length-head t ∙ sym (length-take-le 2 b.gap (omega (arith, gap-left))))

      between_next : (head : ℕ) → head ≡ 2 * length b.done
          → Between ts old (laid (laid o n (string_bytes t)) head (head_bytes t)) others (n + length (string_bytes t))
      between_next head h = record {
        done = b.done ++ t ∷ [];
        gap = drop 2 b.gap;
        wrote = wrote_as (string_head head h) (rw (one_more head_bytes, one_more string_bytes) (simp append_assoc));
        size = rw (length-drop 2 b.gap) (omega (arith, gap-left));
        is = append_assoc b.done (t ∷ []) others ∙ rw (← e) b.is;
      }
        where
          one_more : (f : List ℕ → List ℕ) → flat f (b.done ++ t ∷ []) ≡ flat f b.done ++ f t
          one_more f = flat_append f b.done (t ∷ []) ∙ ap (λ (l : List ℕ). flat f b.done ++ l) (append-nil (f t))

-- ---- so many texts from a place on, of which i are written

module _ (more : ℕ) (s : List ℕ) (from count : ℕ) (old : List ℕ) where
  -- all of them
  abbrev ts : List (List ℕ)
  ts = texts_from more s from count

  -- the next one stands at a place of the description, its string goes to n
  pub record Upto (o : List ℕ) (n at i : ℕ) : Type 0 where
    pub few : i ≤ count
    pub fit : texts_fit more s at (count - i) ≡ true
    pub between : Between ts old o (texts_from more s at (count - i)) n

  module _ (room : length (flat head_bytes ts ++ flat string_bytes ts) ≤ length old) where
    pub upto_none : texts_fit more s from count ≡ true → Upto old (2 * count) from 0
    upto_none f =
        let e : count - 0 ≡ count = omega arith in
        record {
          few = omega arith;
          fit = rw e f;
          between = rw e (rw (texts-count more s count from) at (between_none ts old room));
        }

    module _ {o : List ℕ} {n at i : ℕ} (p : Upto o n at i) where
      pub upto_all : count ≤ i → Wrote old (flat head_bytes ts ++ flat string_bytes ts) o n
      upto_all h = between-all ts old room p.between (texts-none more s (count - i) at (omega arith))

      module _ (h : i < count) where
        pub upto_first : Fitting more s at
        upto_first = (fit-first more s at (count - i) (omega arith) p.fit).0

        -- where its header goes
        front : 2 * i ≡ 2 * length p.between.done
        front =
            omega (
              arith,
              p.few,
              between-count ts old room p.between,
              texts-count more s count from,
              texts-count more s (count - i) at,
            )

        first-is : texts_from more s at (count - i) ≡ text_at s at ∷ texts_from more s (next_text more s at) (count - (i + 1))
        first-is = let e : count - i - 1 ≡ count - (i + 1) = omega arith in rw e at (texts-next more s (count - i) at (omega arith))

        pub upto_room : (2 * i + 2 ≤ n) × (n + length (string_bytes (text_at s at)) ≤ length old)
        upto_room = (
          omega (arith, place ts old room p.between, texts-count more s count from),
          between-room ts old room p.between (text_at s at) (texts_from more s (next_text more s at) (count - (i + 1))) first-is,
        )

        pub upto_next : Upto (laid (laid o n (string_bytes (text_at s at))) (2 * i) (head_bytes (text_at s at))) (n + length (string_bytes (text_at s at)))
            (next_text more s at) (i + 1)
        upto_next =
            let e : count - i - 1 ≡ count - (i + 1) = omega arith in
            record {
              few = omega arith;
              fit = rw e at (fit-first more s at (count - i) (omega arith) p.fit).1;
              between =
                  between_next ts old room p.between (text_at s at) (texts_from more s (next_text more s at) (count - (i + 1))) first-is
                  (2 * i) front;
            }
