use Rattle.std.proofs.Common.{refl}
use Rattle.std.proofs.lemmas.Bool.{false≢true}
use Rattle.command_text.proofs.Numbers.{numbers_first, numbers_after, numbers_more, numbers_last, numbers_one}
use Rattle.command_text.proofs.path.are_numbers.Goals as goal

pub returns-then-not-is_number : goal.returns-then-not-is_number
returns-then-not-is_number c = (
  λ e. absurd (false≢true e),
  λ has. c.if-not-is_number.ensures.1 (numbers_first 1 _ _ _ c.in-Some.ensures.whole c.in-Some.ensures.first
      (c.loop-first.invariant.down has)),
)

pub loop-first-preserved : goal.loop-first-preserved
loop-first-preserved c = record {
  up = λ has. c.loop-first.invariant.up
      (numbers_more 1 _ _ _ c.in-Some.ensures.whole (c.if-not-is_number.ensures.0 refl) has);
  down = λ has. numbers_after 1 _ _ _ c.in-Some.ensures.whole c.in-Some.ensures.first (c.loop-first.invariant.down has);
}

pub returns : goal.returns
returns c = (
  λ e. c.loop-first.invariant.up (numbers_one 1 _ (c.is_number-2.ensures.0 e)),
  λ has. c.is_number-2.ensures.1 (numbers_last 1 _ c.in_default.ensures.none (c.loop-first.invariant.down has)),
)
