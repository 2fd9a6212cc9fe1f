use Rattle.reference_machine.proofs.Traces.{trace_law, one_trace_law}
use Rattle.reference_machine.proofs.laws.traces_follow_looks.Goals as goal

pub returns-clause-follows : goal.returns-clause-follows
returns-clause-follows c = trace_law

pub returns-clause-only : goal.returns-clause-only
returns-clause-only c = one_trace_law
