-- `threes::put_pair` meets its contract: the low six bytes of a word. Assumes nothing.
use mathlib.Core.Path.{refl, ap, ◌∙◌}
use borrow.Author.Rules.{rules}
use lib.ListN.{take}
use Rattle.base.specs.OutputLaws.{wrote_front_copy}
use Rattle.text.specs.Utf8Laws.{utf8_3}
use Rattle.text.proofs.ThreesLoop.{word-three, pair-bytes}
use Rattle.text.proofs.threes.put_pair.Goals as goal

pub overflow_mul-word_of : goal.overflow_mul-word_of
overflow_mul-word_of c = let h = word-three c.args.v c.requires.2 c.requires.3 in search rules

pub overflow_add-word_of : goal.overflow_add-word_of
overflow_add-word_of c =
    let h = word-three c.args.v c.requires.2 c.requires.3 in
    let k = word-three c.args.u c.requires.0 c.requires.1 in
    search rules

pub returns : goal.returns
returns c =
    let a = c.args in
    let (lu, hu, lv, hv, room) = c.requires in
    let e = pair-bytes a.u a.v _ lu hu lv hv (rw (c.word_of.ensures, c.word_of-2.ensures) refl) in
    wrote_front_copy a.out.now _ _ 6 (c.copy_from_slice.ensures.after ∙ ap (take 6) c.to_le_bytes-bytes.ensures ∙ e) (rw (utf8_3 lu hu, utf8_3 lv hv) refl) room
