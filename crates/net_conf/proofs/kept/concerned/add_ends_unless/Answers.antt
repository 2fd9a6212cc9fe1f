use Rattle.net_conf.proofs.Carry.{not_among}
use Rattle.net_conf.proofs.kept.concerned.add_ends_unless.Goals as goal

pub returns-clause-known : goal.returns-clause-known
returns-clause-known c r out =
    (not_among c.args.ends.low c.args.addrs.now.keys c.insert.new.self.keys c.in_ok-insert.ensures.keys r
    (not_among c.args.ends.high c.insert.new.self.keys c.insert-2.new.self.keys
    c.in_ok-insert-2.ensures.keys r out).1).1
