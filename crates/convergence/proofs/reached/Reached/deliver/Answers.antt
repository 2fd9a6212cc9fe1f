use Rattle.std.proofs.Common.{⊎_elim}
use Rattle.convergence.proofs.Reaching.{refused_same, not_done, not_report}
use Rattle.convergence.proofs.reached.Reached.deliver.Goals as goal

pub returns-in-Refused-clause-same : goal.returns-in-Refused-clause-same
returns-in-Refused-clause-same g c =
    refused_same c.args.self.now c.facts.ensures c.args.from c.args.to c.requires c.take.result c.take.new.self
    c.take.ensures c.in-Refused.field-0 c.in-Refused.is

pub unreachable-requires : goal.unreachable-requires
unreachable-requires g c =
    ⊎_elim
    (λ is. not_done c.args.self.now c.facts.ensures c.args.from c.args.to c.requires c.take.result c.take.new.self
    c.take.ensures is)
    (λ some. not_report c.args.self.now c.facts.ensures c.args.from c.args.to c.requires c.take.result c.take.new.self
    c.take.ensures some.0 some.1) c.in-Done.is
