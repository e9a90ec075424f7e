-- `names::put_text` meets its contract: the string through a part of the buffer, then two stores. Assumes nothing.
use mathlib.Core.Path.{◌≡◌, sym, ◌∙◌}
use Prim.Native.Nat.{ℕ, ◌+◌, ◌-◌}
use mathlib.Core.List.{List}
use native.Mathlib.Omega.{arith}
use lib.ListN.{length, take, drop}
use Rattle.base.specs.Number.{be_at}
use Rattle.decode.specs.MeasureLaws.{Said}
use Rattle.decode.proofs.TableLaws.{part-is}
use Rattle.description.specs.BatchFront.{length-head}
use Rattle.written.specs.BatchBytes.{head_bytes}
use Rattle.header.specs.Places.{utf8_at, text_at}
use Rattle.header.specs.Parts.{string_units}
use Rattle.header.specs.WritingLaws.{head-is, string_said}
use Rattle.header.specs.LaidLaws.{laid_both}
use Rattle.header.proofs.names.put_text.Goals.{After-put_string-p}
use Rattle.header.proofs.names.put_text.Goals as goal

-- the text is the first bytes of what follows its length
text-is : (s : List ℕ) (at n : ℕ) → n ≡ be_at 4 s at → take n (take (length s - (at + 4)) (drop (at + 4) s)) ≡ utf8_at s at
text-is s at n e = rw (part-is s (at + 4), e)

-- what the string's size says
told : (c : After-put_string-p) → let p = c.put_string-p.result in Said (utf8_at c.args.s.now c.args.at) (string_units p.size p.latin) p.latin
told c =
    let e = text-is c.args.s.now c.args.at _ c.be32_usize-size.ensures.is in
    string_said (utf8_at c.args.s.now c.args.at) _ _ c.requires.2 (rw e at c.put_string-p.ensures.0.size) (rw e at c.put_string-p.ensures.1)

pub head-requires : goal.head-requires
head-requires c = omega (arith, (told (goal.at.head-requires c).After-put_string-p).units, c.requires.3)

pub returns : goal.returns
returns c =
    let e = text-is c.args.s.now c.args.at _ c.be32_usize-size.ensures.is in
    let w = rw e at c.put_string-p.ensures.0 in
    let t = text_at c.args.s.now c.args.at in
    let is : c.copy_from_slice.new.self ≡ head_bytes t =
    c.copy_from_slice.ensures.after ∙ c.head.ensures ∙ sym (head-is (told (goal.at.returns c).After-put_string-p)) in
    (w.size, laid_both c.args.out.now c.args.n (omega arith) w c.args.head _ is (omega (arith, length-head t)))
