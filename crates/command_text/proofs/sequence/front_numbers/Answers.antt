use Rattle.command_text.proofs.FrontNumbers.{front_goes_more, front_goes_last}
use Rattle.command_text.proofs.sequence.front_numbers.Goals as goal

pub returns-then-front-eq32 : goal.returns-then-front-eq32
returns-then-front-eq32 c =
    front_goes_last c.loop-front.numbers _ _ _ _ _ _ c.in-Some.ensures.number c.if-front-eq32.true
    c.in-Some.ensures.found c.in_ok-push.ensures.ok c.loop-front.invariant

pub loop-front-preserved : goal.loop-front-preserved
loop-front-preserved c =
    front_goes_more c.loop-front.numbers _ _ _ _ _ _ c.in-Some.ensures.number c.if-front-ne44.false
    c.in-Some.ensures.found c.in_ok-push.ensures.ok c.loop-front.invariant
