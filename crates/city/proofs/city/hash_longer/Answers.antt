-- `city::hash_longer` computes `longer`. The loop's invariant: the turns over the chunks left give what all turns give. Assumes nothing.
use lib.Seq.{take-length}
use Rattle.std.proofs.Common.{ℕ, List, drop, length-drop, ◌≡◌, ◌<◌, ◌-◌, ◌/◌, length, take, ap, ◌∙◌, arith}
use Rattle.city.specs.City.{turns, finish, longer}
use Rattle.city.specs.CityLaws.{turns_chunk, turns_done}
use Rattle.city.proofs.city.hash_longer.Goals as goal

-- `&s[at..]`
rest : (s : List ℕ) (at : ℕ) → take (length s - at) (drop at s) ≡ drop at s
rest s at = rw (← length-drop at s) (take-length (drop at s))

pub loop-chunk-preserved : goal.loop-chunk-preserved
loop-chunk-preserved c =
    let l = c.loop-chunk in
    let step = c.in-Some.ensures.steps in
    let whole : length c.in-Some.chunk.now ≡ 64 = omega arith in
    (omega arith, cc (turns_chunk c.in-Some.chunk.now c.next.new.self.rest.now l.t whole))

pub returns : goal.returns
unfolding longer
returns c =
    let l = c.loop-chunk in
    let s = c.args.s.now in
    let left = l.chunk-iterator.rest.now in
    let less : length left < 64 = omega (arith, c.in-None.ensures.steps.1.0) in
    let all : c.into_iter-chunk-iterator.result.rest.now ≡ take (length s - 1) s = cc in
    let done = turns_done s c.into_iter-chunk-iterator.result.rest.now left l.t c.first_state-t.result all less l.invariant.1 in
    c.last_mix.ensures ∙ ap finish (done ∙ ap (turns ((length s - 1) / 64) s) (c.first_state-t.ensures ∙ rw (rest s (length s - 64), c.le64.ensures)))
