use Rattle.net_conf.proofs.Carry.{not_among}
use Rattle.net_conf.proofs.kept.concerned.with_addr.Goals as goal

pub returns-in_ok-insert-in-Some-clause-known : goal.returns-in_ok-insert-in-Some-clause-known
returns-in_ok-insert-in-Some-clause-known c r out =
    (not_among c.in-Some.addr c.args.addrs.keys c.insert.new.self.keys c.in_ok-insert-in-Some.ensures.keys r out).1
