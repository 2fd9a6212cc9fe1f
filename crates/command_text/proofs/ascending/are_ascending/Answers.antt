use Rattle.std.proofs.Common.{◌≡◌, ◌+◌, arith}
use Rattle.std.proofs.lemmas.Bool.{false≢true}
use Rattle.command_text.proofs.Numbers.{ascending_first, ascending_after, ascending_more, ascending_last, ascending_one}
use Rattle.command_text.proofs.ascending.are_ascending.Goals as goal

pub returns-in_default-number_from : goal.returns-in_default-number_from
returns-in_default-number_from c = (
  λ e. absurd (false≢true e),
  λ has. let next = ascending_first c.loop-first.low _ _ _ c.in-Some.ensures.whole c.in-Some.ensures.first
      (c.loop-first.invariant.down has) in
      absurd (c.in_default-number_from.ensures next.0 next.1 next.2),
)

pub loop-first-preserved : goal.loop-first-preserved
loop-first-preserved c =
    let low = c.loop-first.low in
    let number = c.in-Some-number_from.number in
    let next = c.from-low.result + 1 in
    let is : next ≡ number + 1 = omega arith in
    let read = c.in-Some-number_from.ensures in
    record {
      up = λ has. c.loop-first.invariant.up
          (ascending_more low number next _ _ _ is c.in-Some.ensures.whole read.0 read.1 has);
      down = λ has. ascending_after low number next _ _ _ is c.in-Some.ensures.whole c.in-Some.ensures.first read.0
          read.1 (c.loop-first.invariant.down has);
    }

pub returns : goal.returns
returns c = (
  λ e. c.loop-first.invariant.up (ascending_one c.loop-first.low _ (c.is_from.ensures.0 e)),
  λ has. c.is_from.ensures.1 (ascending_last c.loop-first.low _ c.in_default.ensures.none
      (c.loop-first.invariant.down has)),
)
