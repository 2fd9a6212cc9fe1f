use Rattle.std.proofs.Common.{drop, subst}
use Rattle.log_replay.specs.Reading.{IsAtStage}
use Rattle.log_replay.proofs.Checking.{header_taken, header_bad}
use Rattle.log_replay.proofs.checker.check_header.Goals as goal

pub returns-in-Some-clause-checked : goal.returns-in-Some-clause-checked
returns-in-Some-clause-checked c = λ s p h.
    let k = c.args.checker.now in
    let due = drop k.at k.due.items in
    header_taken c.in-Some.version k.entries due c.args.line.now s p
    (subst (λ t. IsAtStage t k.entries due s p) c.requires h) c.in-Some.ensures.found

pub returns-in-None-clause-checked : goal.returns-in-None-clause-checked
returns-in-None-clause-checked c = λ s p h.
    let k = c.args.checker.now in
    let due = drop k.at k.due.items in
    header_bad k.entries due c.args.line.now s p (subst (λ t. IsAtStage t k.entries due s p) c.requires h)
    c.in-None.ensures.none
