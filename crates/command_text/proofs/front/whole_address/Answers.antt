use Rattle.std.proofs.Common.{arith}
use Rattle.command_text.proofs.Fronts.{addr_text_whole}
use Rattle.command_text.proofs.front.whole_address.Goals as goal

pub returns-clause-found : goal.returns-clause-found
returns-clause-found c =
    let octets = c.in_ok-first.ensures.octets in
    addr_text_whole _ c.in_ok-first.rest.now c.in_ok-first.first c.in_ok-first.second c.in_ok-first.third
    c.in_ok-fourth.fourth _ octets.0 octets.1 octets.2 (omega arith) (omega arith)
    c.in_ok-first.ensures.found c.in_ok-fourth.ensures
