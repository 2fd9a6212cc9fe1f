use Rattle.command_text.proofs.Fronts.{prefix_text_before}
use Rattle.command_text.proofs.front.front_prefix.Goals as goal

pub returns-clause-found : goal.returns-clause-found
returns-clause-found c =
    prefix_text_before _ _ _ c.in_ok-addr.addr c.in_ok-len.len _ c.in_ok-addr.ensures.found c.in_ok-len.ensures.found
    c.in_ok-new.ensures.1
