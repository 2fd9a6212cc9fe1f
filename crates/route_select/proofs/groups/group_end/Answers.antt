use Rattle.std.proofs.Common.{◌≡◌, ◌≤◌, ◌+◌, Some, None, sym, subst, ◌∙◌, arith}
use Rattle.route_select.specs.Groups.{group_rank}
use Rattle.route_select.proofs.EntryLemmas.{one_there}
use Rattle.route_select.proofs.Beside.{ends_at}
use Rattle.route_select.proofs.groups.group_end.Goals as goal
use Rattle.route_select.proofs.groups.group_end.Goals.{in_default-via-in-Some+else-group_rank-rank, in_default-via-in_default}

pub returns-in_default : goal.returns-in_default
returns-in_default c = ends_at c.args.med_always c.args.entries.now c.args.at c.args.candidate.now c.requires.ranked
    c.requires.here (λ n e. elim c.in_default.branch [
      | in_default-via-in-Some+else-group_rank-rank w ↦
          subst (λ z. group_rank c.args.med_always c.args.candidate.now + 1 ≤ group_rank c.args.med_always z)
          (one_there _ w.in-Some.next.now n (sym w.in-Some.ensures) e)
          (let here = c.group_rank-rank.ensures.value in let there = w.group_rank.ensures.value in
          let apart = w.if-group_rank-rank.false in omega arith)
      | in_default-via-in_default w ↦ let none : None ≡ Some n = w.in_default.ensures ∙ e in absurd (cc)
    ])
