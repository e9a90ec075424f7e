-- Loops that write a text character by character: what is written, and what is left. Assumes nothing.
use Rattle.std.specs.Prelude.{◌≡◌, refl, true, List, [], ◌∷◌, ◌++◌, ℕ, ◌+◌, ◌-◌, ◌/◌, ◌%◌, ◌≤◌, ◌<◌, length, take, drop}
use Rattle.std.proofs.Common.{sym, ◌∙◌, append_assoc, append-nil, arith, le-ltb, length-append}
use Rattle.std.proofs.Math.Path.{ap}
use Rattle.base.specs.Output.{Wrote}
use Rattle.base.specs.OutputLaws.{wrote_none, wrote_as, wrote-rest, wrote-room}
use Rattle.text.specs.UnitBytesLaws.{unit_bytes_append}
use Rattle.text.specs.Utf16.{is_well, encode_one, encode16, unit_bytes, utf16le}
use Rattle.decode.specs.TurnLaws.{Turn, from, text_from}
use Rattle.decode.proofs.TurnLaws.{one_unit, text-next, last_turn}
pub use Rattle.decode.specs.WriteLaws.{Partly}

pub partly_none : (s x : List ℕ) → Partly s x s x 0
partly_none s x = record { done = []; wrote = wrote_none s; is = refl }

pub partly_all : {s x o rest : List ℕ} {n : ℕ} → Partly s x o rest n → rest ≡ [] → Wrote s x o n
partly_all p e = wrote_as p.wrote (sym (append-nil p.done) ∙ rw (← e) p.is)

module _ {s x o rest : List ℕ} {n : ℕ} (p : Partly s x o rest n) (b r : List ℕ) (e : rest ≡ b ++ r) where
  next : (p.done ++ b) ++ r ≡ x
  next = append_assoc p.done b r ∙ rw (← e) p.is

  room : length x ≤ length s → n + length b ≤ length s
  room h = omega (arith, p.wrote.size, ap length next, length-append (p.done ++ b) r, length-append p.done b)

  -- b fits the part `&mut out[n..]`, and was written there
  pub partly_room : length x ≤ length s → length b ≤ length (take (length o - n) (drop n o))
  partly_room h = wrote-room p.wrote (length b) (room h)

  pub partly_next : {q : List ℕ} {m : ℕ} → Wrote (take (length o - n) (drop n o)) b q m
      → Partly s x (take n o ++ (q ++ drop (length o - n) (drop n o))) r (n + m)
  partly_next v = record { done = p.done ++ b; wrote = wrote-rest p.wrote v; is = next }

-- the text from a place on, as UTF-16LE
module _ {s : List ℕ} {at c k : ℕ} (t : Turn s at c k) (ok : is_well (from s at) ≡ true) where
  pub utf16le-next : utf16le (text_from s at) ≡ unit_bytes (encode_one c) ++ utf16le (text_from s (at + k))
  unfolding encode16
  utf16le-next = ap utf16le (text-next t ok) ∙ unit_bytes_append (encode_one c) (encode16 (text_from s (at + k)))

  pub utf16le-room : {o x now : List ℕ} {n : ℕ} → Partly o x now (utf16le (text_from s at)) n → length x ≤ length o
      → length (unit_bytes (encode_one c)) ≤ length (take (length now - n) (drop n now))
  utf16le-room p h = partly_room p (unit_bytes (encode_one c)) (utf16le (text_from s (at + k))) utf16le-next h

-- what is left fits what is left of the buffer
pub rest-room : {o x now rest : List ℕ} {n : ℕ} → Partly o x now rest n → length x ≤ length o → length rest ≤ length (take (length now - n) (drop n now))
rest-room {rest = rest} p h = partly_room p rest [] (sym (append-nil rest)) h

pub utf16le-last : (s : List ℕ) (at : ℕ) → length s ≤ at → utf16le (text_from s at) ≡ []
unfolding encode16
utf16le-last s at h = rw (last_turn s at h)

-- the bytes of a scalar value's units
pub units-one : (c : ℕ) → c < 0x10000 → unit_bytes (encode_one c) ≡ c % 256 ∷ c / 256 ∷ []
units-one c h = rw (one_unit c h)

pub units-two : (c : ℕ) → 0x10000 ≤ c
    → unit_bytes (encode_one c)
    ≡ (0xD800 + (c - 0x10000) / 0x400) % 256 ∷ (0xD800 + (c - 0x10000) / 0x400) / 256
    ∷ (0xDC00 + (c - 0x10000) % 0x400) % 256 ∷ (0xDC00 + (c - 0x10000) % 0x400) / 256 ∷ []
unfolding encode_one
units-two c h = rw (le-ltb _ _ h)
